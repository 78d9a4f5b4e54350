-- EscapedTexts.antt: between quotes an escaped text is a JSON string that stands for the text.
use Rattle.std.proofs.Common.{◌≡◌, ◌≢◌, ℕ, ◌+◌, ◌*◌, ◌/◌, ◌%◌, ◌<◌, ◌≤◌, inl, inr, Bool, true, false, cond, ◌==◌, ◌||◌, nat_lt, nat_le, List, [], ◌∷◌, ◌++◌, get_or, Option, Some, None, encode_utf8, encode_utf8_all, refl, sym, ap, ◌∙◌, arith, append_assoc}
use Rattle.std.specs.List.{All, flat_map}
use Rattle.std.specs.Str.{chars}
use Rattle.std.specs.Char.{is_control}
use Rattle.std.specs.Int.{is_in_range}
use Rattle.std.proofs.lemmas.Bool.{lt-ltb, le-ltb, lt-leb, ltb-true, ltb-false, leb-true, leb-false, ne_eqb, eqb-true, eqb-false, and_cases, and_left, and_parts, and_right, or_cases}
use Rattle.std.proofs.lemmas.List.{append-nil}
use Rattle.std.proofs.lemmas.Grind.{flat_map-append}
use Rattle.std.proofs.lemmas.List.Elements.{All-nil, All-cons, All-head, All-tail, All-append, All-from_get_or}
use Rattle.std.proofs.lemmas.Str.{encodes-append, encode_ascii, encodes-chars, inside_one, digit_value-digit_char}
use Rattle.json.specs.Text.{content, plain, code_unit, short_escape, prepend}
use Rattle.notices.specs.Escaping.{escaped_char, hex_digit}
use Rattle.notices.specs.Theorems.{EscapedTextReadsBack, HasNoControl}

-- one more character of a text
pub one_more_char : (cs : List ℕ) (c : ℕ)
    → encode_utf8_all (flat_map escaped_char cs) ++ encode_utf8_all (escaped_char c)
    ≡ encode_utf8_all (flat_map escaped_char (cs ++ c ∷ []))
one_more_char cs c =
    sym (encodes-append (flat_map escaped_char cs) (escaped_char c))
    ∙ ap encode_utf8_all (sym (
    flat_map-append escaped_char cs (c ∷ [])
    ∙ ap (λ (l : List ℕ). flat_map escaped_char cs ++ l) (append-nil (escaped_char c))))

-- ---- bytes that stand for themselves

prepend-nil : (r : Option (List ℕ)) → prepend [] r ≡ r
prepend-nil None = refl
prepend-nil (Some bytes) = refl

prepend-prepend : (a b : List ℕ) (r : Option (List ℕ)) → prepend a (prepend b r) ≡ prepend (a ++ b) r
prepend-prepend a b None = refl
prepend-prepend a b (Some bytes) = ap (λ (l : List ℕ). Some l) (sym (append_assoc a b bytes))

pub record IsPlainByte (b : ℕ) : Type 0 where
  pub visible : 32 ≤ b
  pub quote : b ≢ 34
  pub backslash : b ≢ 92

plain_bytes : (bs tail : List ℕ) → All IsPlainByte bs
    → content plain (bs ++ tail) ≡ prepend bs (content plain tail)
unfolding content
plain_bytes [] tail are = sym (prepend-nil (content plain tail))
plain_bytes (b ∷ bs) tail are =
    let is : IsPlainByte b = All-head IsPlainByte b bs are in
    rw (ne_eqb b 34 is.quote, ne_eqb b 92 is.backslash, le-ltb b 32 is.visible)
    (ap (prepend (b ∷ [])) (plain_bytes bs tail (All-tail IsPlainByte b bs are))
    ∙ prepend-prepend (b ∷ []) bs (content plain tail))

wide_bytes : (c : ℕ) → 128 ≤ c → All IsPlainByte (encode_utf8 c)
wide_bytes c wide =
    All-from_get_or IsPlainByte (encode_utf8 c) 0 (λ k within.
    let b : ℕ = get_or (encode_utf8 c) k 0 in
    let far : 128 ≤ get_or (encode_utf8 c) k 0 = elim (nat_lt (get_or (encode_utf8 c) k 0) 128) as (λ v. nat_lt (get_or (encode_utf8 c) k 0) 128 ≡ v → 128 ≤ get_or (encode_utf8 c) k 0) [
      | true ↦ λ e.
          let same = inside_one c [] (encode_utf8 c) k (sym (append-nil (encode_utf8 c))) within (ltb-true _ _ e) in
          omega (arith, same, ltb-true _ _ e, wide)
      | false ↦ λ e. ltb-false _ _ e
    ] refl in
    record { visible = omega (arith, far); quote = λ e. omega (arith, far, e); backslash = λ e. omega (arith, far, e) })

narrow_bytes : (c : ℕ) → 32 ≤ c → c < 128 → c ≢ 34 → c ≢ 92 → All IsPlainByte (encode_utf8 c)
narrow_bytes c visible narrow quote backslash =
    rw (encode_ascii c narrow)
    (All-cons IsPlainByte c [] (record { visible = visible; quote = quote; backslash = backslash }) (All-nil IsPlainByte))

-- ---- control characters

or_false : (x y : Bool) → (x || y) ≡ false → (x ≡ false) × (y ≡ false)
or_false true y e = cc
or_false false y e = (refl, e)

above_controls : (c : ℕ) → is_control c ≡ false → 32 ≤ c
above_controls c e = elim (and_cases (nat_le 0 c) (nat_le c 31) (or_false (is_in_range 0 31 c) (is_in_range 127 159 c) e).0) as (λ _. 32 ≤ c) [
  | inl none ↦ omega (arith, leb-false 0 c none)
  | inr above ↦ omega (arith, leb-false c 31 above)
]

control_below : (c : ℕ) → is_control c ≡ true → c < 160
control_below c e = elim (or_cases (is_in_range 0 31 c) (is_in_range 127 159 c) e) as (λ _. c < 160) [
  | inl low ↦ omega (arith, leb-true c 31 (and_parts (nat_le 0 c) (nat_le c 31) low).1)
  | inr high ↦ omega (arith, leb-true c 159 (and_parts (nat_le 127 c) (nat_le c 159) high).1)
]

visible : (c : ℕ) → 32 ≤ c → c < 127 → is_control c ≡ false
visible c low high =
    rw (and_right (nat_le 0 c) (nat_le c 31) (lt-leb c 31 (omega arith)), and_left (nat_le 127 c) (nat_le c 159) (lt-leb 127 c (omega arith)))
    refl

hex_range : (d : ℕ) → d < 16 → (32 ≤ hex_digit d) × (hex_digit d < 127)
hex_range d small = elim (nat_lt d 10) as (λ v. (32 ≤ cond v (48 + d) (87 + d)) × (cond v (48 + d) (87 + d) < 127)) [
  | true ↦ (omega arith, omega (arith, small))
  | false ↦ (omega arith, omega (arith, small))
]

-- ---- a character

-- what an escaped character stands for
abbrev Stands : ℕ → List ℕ → Type 0
Stands c spelled = (tail : List ℕ)
    → content plain (encode_utf8_all spelled ++ tail) ≡ prepend (encode_utf8 c) (content plain tail)

quote_stands : Stands 34 (92 ∷ 34 ∷ [])
unfolding content short_escape lib.Utf8.encode
quote_stands tail = refl

backslash_stands : Stands 92 (92 ∷ 92 ∷ [])
unfolding content short_escape lib.Utf8.encode
backslash_stands tail = refl

itself_stands : (c : ℕ) → c ≢ 34 → c ≢ 92 → is_control c ≡ false → Stands c (c ∷ [])
itself_stands c quote backslash visible tail =
    let low : 32 ≤ c = above_controls c visible in
    let are : All IsPlainByte (encode_utf8 c) = elim (nat_lt c 128) as (λ v. nat_lt c 128 ≡ v → All IsPlainByte (encode_utf8 c)) [
      | true ↦ λ e. narrow_bytes c low (ltb-true c 128 e) quote backslash
      | false ↦ λ e. wide_bytes c (ltb-false c 128 e)
    ] refl in
    rw (append-nil (encode_utf8 c)) (plain_bytes (encode_utf8 c) tail are)

hex_digits : (c : ℕ) → c < 160 → code_unit 48 48 (hex_digit (c / 16)) (hex_digit (c % 16)) ≡ Some c
unfolding code_unit
hex_digits c small =
    let high = digit_value-digit_char (c / 16) (omega arith) in
    let low = digit_value-digit_char (c % 16) (omega arith) in
    let whole : 0 * 4096 + 0 * 256 + c / 16 * 16 + c % 16 ≡ c = omega arith in
    rw (high, low, lt-ltb (c / 16) 16 (omega arith), lt-ltb (c % 16) 16 (omega arith)) (ap (λ (n : ℕ). Some n) whole)

control_stands : (c : ℕ) → c < 160
    → Stands c (92 ∷ 117 ∷ 48 ∷ 48 ∷ hex_digit (c / 16) ∷ hex_digit (c % 16) ∷ [])
unfolding content lib.Utf8.encode
control_stands c small tail =
    let high : hex_digit (c / 16) < 128 = omega (arith, (hex_range (c / 16) (omega arith)).1) in
    let low : hex_digit (c % 16) < 128 = omega (arith, (hex_range (c % 16) (omega arith)).1) in
    rw (encode_ascii _ high, encode_ascii _ low, hex_digits c small, lt-leb 0xd800 c (omega arith), lt-leb 0xdc00 c (omega arith)) refl

stands_by : (special control : Bool) (c : ℕ) → (c == 34 || c == 92) ≡ special → is_control c ≡ control
    → Stands c (cond special (92 ∷ c ∷ [])
    (cond control (92 ∷ 117 ∷ 48 ∷ 48 ∷ hex_digit (c / 16) ∷ hex_digit (c % 16) ∷ []) (c ∷ [])))
stands_by true control c e f = elim (or_cases (c == 34) (c == 92) e) as (λ _. Stands c (92 ∷ c ∷ [])) [
  | inl quote ↦ rw (eqb-true c 34 quote) quote_stands
  | inr backslash ↦ rw (eqb-true c 92 backslash) backslash_stands
]
stands_by false true c e f = control_stands c (control_below c f)
stands_by false false c e f =
    let neither = or_false (c == 34) (c == 92) e in
    itself_stands c (eqb-false c 34 neither.0) (eqb-false c 92 neither.1) f

char_stands : (c : ℕ) → Stands c (escaped_char c)
char_stands c = stands_by (c == 34 || c == 92) (is_control c) c refl refl

-- ---- a text

chars_read_back : (cs rest : List ℕ)
    → content plain (encode_utf8_all (flat_map escaped_char cs) ++ 34 ∷ rest) ≡ Some (encode_utf8_all cs)
unfolding content
chars_read_back [] rest = refl
chars_read_back (c ∷ cs) rest =
    let others : List ℕ = encode_utf8_all (flat_map escaped_char cs) in
    ap (λ (l : List ℕ). content plain (l ++ 34 ∷ rest)) (encodes-append (escaped_char c) (flat_map escaped_char cs))
    ∙ ap (content plain) (append_assoc (encode_utf8_all (escaped_char c)) (encode_utf8_all (flat_map escaped_char cs)) (34 ∷ rest))
    ∙ char_stands c (encode_utf8_all (flat_map escaped_char cs) ++ 34 ∷ rest)
    ∙ ap (prepend (encode_utf8 c)) (chars_read_back cs rest)

pub reads_back : EscapedTextReadsBack
reads_back text rest is_text =
    chars_read_back (chars text) rest ∙ ap (λ (l : List ℕ). Some l) (encodes-chars text is_text)

-- ---- no control character

abbrev IsVisible : ℕ → Type 0
IsVisible c = is_control c ≡ false

visible_by : (special control : Bool) (c : ℕ) → (c == 34 || c == 92) ≡ special → is_control c ≡ control
    → All IsVisible (cond special (92 ∷ c ∷ [])
    (cond control (92 ∷ 117 ∷ 48 ∷ 48 ∷ hex_digit (c / 16) ∷ hex_digit (c % 16) ∷ []) (c ∷ [])))
visible_by true control c e f =
    let seen : IsVisible c = elim (or_cases (c == 34) (c == 92) e) as (λ _. IsVisible c) [
      | inl quote ↦ rw (eqb-true c 34 quote) refl
      | inr backslash ↦ rw (eqb-true c 92 backslash) refl
    ] in
    All-cons IsVisible 92 (c ∷ []) refl (All-cons IsVisible c [] seen (All-nil IsVisible))
visible_by false true c e f =
    let below = control_below c f in
    let high = hex_range (c / 16) (omega (arith, below)) in
    let low = hex_range (c % 16) (omega arith) in
    let h : ℕ = hex_digit (c / 16) in
    let l : ℕ = hex_digit (c % 16) in
    All-cons IsVisible 92 (117 ∷ 48 ∷ 48 ∷ h ∷ l ∷ []) refl (All-cons IsVisible 117 (48 ∷ 48 ∷ h ∷ l ∷ []) refl
    (All-cons IsVisible 48 (48 ∷ h ∷ l ∷ []) refl (All-cons IsVisible 48 (h ∷ l ∷ []) refl
    (All-cons IsVisible h (l ∷ []) (visible h high.0 high.1)
    (All-cons IsVisible l [] (visible l low.0 low.1) (All-nil IsVisible))))))
visible_by false false c e f = All-cons IsVisible c [] f (All-nil IsVisible)

chars_visible : (cs : List ℕ) → All IsVisible (flat_map escaped_char cs)
chars_visible [] = All-nil IsVisible
chars_visible (c ∷ cs) =
    All-append IsVisible (escaped_char c) (flat_map escaped_char cs)
    (visible_by (c == 34 || c == 92) (is_control c) c refl refl) (chars_visible cs)

pub has_no_control : HasNoControl
has_no_control text = chars_visible (chars text)
