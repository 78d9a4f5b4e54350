-- FieldsRead.antt: what fields write, by what `parse` says about them.
use Rattle.std.proofs.Common.{◌≡◌, ◌≢◌, ◌<◌, ◌^◌, ◌&&◌, ◌==◌, ℕ, Bool, true, false, [], ◌∷◌, length, get_or, nat_lt, Some, None, Ok, Err, ap, refl, sym, ◌∙◌, arith, cond}
use Rattle.std.specs.Str.{all_ascii_digits}
use Rattle.std.specs.Str.Parse.{ParsesUnsigned, digits_value}
use Rattle.std.proofs.lemmas.Bool.{and_parts, eqb-false, eqb-true, lt-ltb, ltb-true}
use Rattle.std.proofs.lemmas.Str.Parse.{IsNumeralModel, numerals_by_value, parse_plain, tells_all_ascii_digits}
use Rattle.script.specs.Fields.{Text, is_decimal, parse_number}

-- digits are numerals
pub own : IsNumeralModel (λ ds. all_ascii_digits ds ≡ true) (digits_value 10)
own = numerals_by_value _ tells_all_ascii_digits

-- a test that passes
passes : (b : Bool) (v : ℕ) → b ≡ true → cond b (Some v) None ≡ Some v
passes b v h = rw h refl

fails : (b : Bool) (v : ℕ) → (b ≡ true → ⊥) → cond b (Some v) None ≡ None
fails true v h = absurd (h refl)
fails false v h = refl

both : (a b c : Bool) → a ≡ true → b ≡ true → c ≡ true → ((a && b) && c) ≡ true
both a b c ha hb hc = rw (ha, hb, hc) refl

plain : (text : Text) (sign : Bool) → sign ≡ (get_or text 0 0 == 43) → sign ≡ false → get_or text 0 0 ≢ 43
plain text sign is unset = eqb-false (get_or text 0 0) 43 (sym is ∙ unset)

-- what `parse` reads if no plus is in front
pub number_read : (text : Text) (sign : Bool) (n : ℕ) → sign ≡ (get_or text 0 0 == 43) → sign ≡ false
    → ParsesUnsigned {E = Unit {0}} 64 10 text (Ok n) → parse_number text ≡ Some n
unfolding parse_number
number_read text sign n is unset parses =
    let (form, value) = parse_plain own {E = Unit {0}} 64 text (Ok n) parses (plain text sign is unset) in
    passes _ _ (both _ _ _ (lt-ltb 0 (length text) form.1) form.0 (lt-ltb (digits_value 10 text) (2 ^ 64) form.2))
    ∙ ap Some (sym value)

-- the parts of the test
number_tests : (text : Text) → (is_decimal text && nat_lt (digits_value 10 text) (2 ^ 64)) ≡ true
    → (all_ascii_digits text ≡ true) × (0 < length text) × (digits_value 10 text < 2 ^ 64)
number_tests text h =
    let (decimal, fits) = and_parts (is_decimal text) (nat_lt (digits_value 10 text) (2 ^ 64)) h in
    let (some, digits) = and_parts (nat_lt 0 (length text)) (all_ascii_digits text) decimal in
    (digits, ltb-true 0 (length text) some, ltb-true (digits_value 10 text) (2 ^ 64) fits)

pub no_number_read : (text : Text) (sign : Bool) → sign ≡ (get_or text 0 0 == 43) → sign ≡ false
    → ParsesUnsigned {E = Unit {0}} 64 10 text (Err tt) → parse_number text ≡ None
unfolding parse_number
no_number_read text sign is unset parses =
    let wrong = parse_plain own {E = Unit {0}} 64 text (Err tt) parses (plain text sign is unset) in
    fails _ _ (λ h. wrong (number_tests text h))

-- a plus is no digit
no_plus : (text : Text) → get_or text 0 0 ≡ 43 → all_ascii_digits text ≡ true → ⊥
no_plus [] plus digits = absurd (omega (arith, plus))
no_plus (c ∷ cs) plus digits = let h : all_ascii_digits (43 ∷ cs) ≡ true = rw plus at digits in cc

pub no_signed_number : (text : Text) (sign : Bool) → sign ≡ (get_or text 0 0 == 43) → sign ≡ true → parse_number text ≡ None
unfolding parse_number
no_signed_number text sign is set =
    fails _ _ (λ h. no_plus text (eqb-true (get_or text 0 0) 43 (sym is ∙ set)) (number_tests text h).0)
