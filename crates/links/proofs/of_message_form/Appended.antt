-- What was appended in parts was appended as a whole.
use Rattle.std.proofs.Common.{◌≡◌, ℕ, List, ◌++◌, Result, Ok, Err, ap, ◌∙◌, append_assoc}
use Rattle.std.specs.Prelude.{OnOk}

-- what holds if a call succeeds, and what follows from it
pub on_ok : {A E : Type 0} (r : Result A E) (P Q : Type 0) → (P → Q) → OnOk r P → OnOk r Q
on_ok (Ok x) P Q to h = to h
on_ok (Err e) P Q to h = tt

pub two : (old a b m new : List ℕ) → m ≡ old ++ a → new ≡ m ++ b → new ≡ old ++ (a ++ b)
two old a b m new p q = q ∙ ap (λ (z : List ℕ). z ++ b) p ∙ append_assoc old a b

pub three : (old a b c m n new : List ℕ) → m ≡ old ++ a → n ≡ m ++ b → new ≡ n ++ c → new ≡ old ++ (a ++ (b ++ c))
three old a b c m n new p q r = two old a (b ++ c) m new p (two m b c n new q r)

pub four : (old a b c d m n o new : List ℕ) → m ≡ old ++ a → n ≡ m ++ b → o ≡ n ++ c → new ≡ o ++ d → new ≡ old ++ (a ++ (b ++ (c ++ d)))
four old a b c d m n o new p q r s = two old a (b ++ (c ++ d)) m new p (three m b c d n o new q r s)

pub five : (old a b c d e m n o p new : List ℕ) → m ≡ old ++ a → n ≡ m ++ b → o ≡ n ++ c → p ≡ o ++ d → new ≡ p ++ e →
    new ≡ old ++ (a ++ (b ++ (c ++ (d ++ e))))
five old a b c d e m n o p new q r s t u = two old a (b ++ (c ++ (d ++ e))) m new q (four m b c d e n o p new r s t u)
