-- BytesKept.antt: a reader keeps the first bytes, and an answer is to what was wanted.
use Rattle.std.proofs.Common.{◌≡◌, ℕ, ◌+◌, min, cond, List, ◌++◌, length, take, Result, Ok, Err, sym, ap, ◌∙◌, append_assoc}
use Rattle.std.specs.Prelude.{IfOk, IsOk, is_ok}
use Rattle.std.proofs.lemmas.List.{take_min}
use Rattle.std.proofs.Math.Seq.{take-append-add}

pub fed : {E : Type 0} (r : Result (Unit {0}) E) (old new piece : List ℕ) (room count : ℕ)
    → IsOk r → new ≡ cond (is_ok r) (old ++ take count piece) old → count ≡ min room (length piece)
    → new ≡ take (length old + room) (old ++ piece)
fed (Ok u) old new piece room count ok is counted =
    is ∙ ap (λ (n : ℕ). old ++ take n piece) counted
    ∙ ap (λ (l : List ℕ). old ++ l) (take_min room piece)
    ∙ sym (take-append-add old piece room)
fed (Err e) old new piece room count ok is counted = cc

pub with_wanted : {A E W : Type 0} (r : Result A E) (P : W → Type 0) (Q : A → W → Type 0) (w : W)
    → P w → IfOk r (λ a. Q a w) → IfOk r (λ a. (w : W) × P w × Q a w)
with_wanted (Ok a) P Q w p q = (w, p, q)
with_wanted (Err e) P Q w p q = tt

-- the head of an answer, as it is written and as it is stated
pub head_joined : (a d s r n allow b kind rest : List ℕ)
    → (a ++ (((d ++ s) ++ r) ++ (n ++ (allow ++ (b ++ (kind ++ n)))))) ++ rest
    ≡ ((((((a ++ ((d ++ s) ++ r)) ++ n) ++ allow) ++ b) ++ kind) ++ n) ++ rest
head_joined a d s r n allow b kind rest = simp append_assoc
