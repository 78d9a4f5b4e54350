-- ValuesRead.antt: the subcommand that a parse met has a name and rows, and a number that was read
-- is in its text.
use Rattle.std.proofs.Common.{◌≡◌, ℕ, List, true≢false, Option, Some, None, Result, Ok, Err, OnOk, option_map, is_some, ap, sym, ◌∙◌, refl, subst}
use Rattle.std.proofs.lemmas.Bool.{false≢true}
use Rattle.std.proofs.lemmas.Option.{same_Some}
use Rattle.std.specs.Str.Parse.{ParsesUnsigned, digits_value, without_leading_plus}
use Rattle.clap.specs.Words.{Row, Text, one_of}
use Rattle.clap.specs.Matches.{ReadsOne}
use Rattle.command_line.specs.Jobs.{HasNumber}

-- an option that has both parts is their pair
pub both_parts : {A B : Type 0} (o : Option (A × B)) (a : A) (b : B) → option_map (λ p. p.0) o ≡ Some a
    → option_map (λ p. p.1) o ≡ Some b → o ≡ Some (a, b)
both_parts None a b first second = absurd (false≢true (ap is_some first))
both_parts (Some p) a b first second =
    rw (← same_Some p.0 a first, ← same_Some p.1 b second) refl

-- a number that was read of a text is the one that the text says
pub number_read : {E : Type 0} (gives : Text → Result ℕ E → Type 0) (id : Text) (rows : List Row) (o : Option Text) (r : Option ℕ) (n : ℕ)
    → ((t : Text) (x : Result ℕ E) → gives t x → ParsesUnsigned 32 10 t x) → o ≡ one_of id rows
    → (o ≡ None → r ≡ None) → ((t : Text) → o ≡ Some t → ReadsOne gives t r) → r ≡ Some n → HasNumber id rows n
number_read gives id rows None r n parses one none value is = absurd (true≢false (ap is_some (sym is ∙ none refl)))
number_read gives id rows (Some t) r n parses one none value is = record {
  text = t;
  given = sym one;
  said = parses t (Ok n) (subst (λ x. ReadsOne gives t x) is (value t refl));
}

-- if none was read, the text says none
pub no_number_read : {E : Type 0} (gives : Text → Result ℕ E → Type 0) (id : Text) (rows : List Row) (o : Option Text) (r : Option ℕ) (n : ℕ)
    → ((t : Text) (x : Result ℕ E) → gives t x → ParsesUnsigned 32 10 t x) → o ≡ one_of id rows
    → ((t : Text) → o ≡ Some t → ReadsOne gives t r) → r ≡ None → HasNumber id rows n → ⊥
no_number_read gives id rows o r n parses one value is has =
    let wrong = subst (λ x. ReadsOne gives has.text x) is (value has.text (one ∙ has.given)) in
    parses has.text (Err wrong.0) wrong.1 has.said.0

-- an argument has one number
pub one_number : (id : Text) (rows : List Row) (n m : ℕ) → HasNumber id rows n → HasNumber id rows m → n ≡ m
one_number id rows n m a b =
    let same : a.text ≡ b.text = same_Some a.text b.text (sym a.given ∙ b.given) in
    a.said.1 ∙ ap (λ t. digits_value 10 (without_leading_plus t)) same ∙ sym b.said.1

-- what is not there is no value
pub none_is_none : {A : Type 0} (o : Option A) (a : A) → o ≡ None → o ≡ Some a → ⊥
none_is_none o a none some = true≢false (ap is_some (sym some ∙ none))

-- what holds anyhow holds for a success
pub on_ok : {T E P : Type 0} (r : Result T E) → P → OnOk r P
on_ok (Ok x) p = p
on_ok (Err e) p = tt
