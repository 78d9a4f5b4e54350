-- NumberRead.antt: what digits write, by what `parse` says about them.
use Rattle.std.proofs.Common.{◌≡◌, ◌≢◌, ◌^◌, ◌&&◌, ◌==◌, ℕ, Bool, true, false, length, get_or, Some, None, Ok, ap, refl, sym, ◌∙◌, cond}
use Rattle.std.specs.Str.{all_ascii_digits}
use Rattle.std.specs.Str.Parse.{ParsesUnsigned, digits_value}
use Rattle.std.proofs.lemmas.Bool.{eqb-false, lt-ltb}
use Rattle.std.proofs.lemmas.Str.Parse.{IsNumeralModel, numerals_by_value, parse_plain, tells_all_ascii_digits}
use Rattle.rows.specs.Fields.{Text, number_of}

own : IsNumeralModel (λ ds. all_ascii_digits ds ≡ true) (digits_value 10)
own = numerals_by_value _ tells_all_ascii_digits

-- a test that passes
passes : (b : Bool) (v : ℕ) → b ≡ true → cond b (Some v) None ≡ Some v
passes b v h = rw h refl

all : (a b c : Bool) → a ≡ true → b ≡ true → c ≡ true → ((a && b) && c) ≡ true
all a b c ha hb hc = rw (ha, hb, hc) refl

plain : (text : Text) (sign : Bool) → sign ≡ (get_or text 0 0 == 43) → sign ≡ false → get_or text 0 0 ≢ 43
plain text sign is unset = eqb-false (get_or text 0 0) 43 (sym is ∙ unset)

-- what `parse` reads if no plus is in front
pub number_read : (text : Text) (sign : Bool) (n : ℕ) → sign ≡ (get_or text 0 0 == 43) → sign ≡ false
    → ParsesUnsigned {E = Unit {0}} 64 10 text (Ok n) → number_of text ≡ Some n
unfolding number_of
number_read text sign n is unset parses =
    let (form, value) = parse_plain own {E = Unit {0}} 64 text (Ok n) parses (plain text sign is unset) in
    passes _ _ (all _ _ _ (lt-ltb 0 (length text) form.1) form.0 (lt-ltb (digits_value 10 text) (2 ^ 64) form.2))
    ∙ ap Some (sym value)
