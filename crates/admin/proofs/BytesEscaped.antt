-- BytesEscaped.antt: between quotes an escaped text is a JSON string that stands for the text.
use Rattle.std.proofs.Common.{◌≡◌, ℕ, ◌+◌, ◌*◌, ◌/◌, ◌%◌, ◌<◌, ◌≤◌, inl, inr, Bool, true, false, cond, ◌==◌, ◌||◌, nat_lt, List, [], ◌∷◌, ◌++◌, Some, refl, ap, ◌∙◌, arith, append_assoc}
use Rattle.std.specs.List.{All}
use Rattle.std.specs.Char.{digit_char}
use Rattle.std.proofs.lemmas.Bool.{eqb-true, lt-ltb, lt-leb, le-ltb, ltb-true, ltb-false, or_cases}
use Rattle.std.proofs.lemmas.List.Elements.{All-nil, All-cons, All-append}
use Rattle.std.proofs.lemmas.Str.{encode_ascii, digit_value-digit_char}
use Rattle.json.specs.Print.{escape, escape_byte}
use Rattle.json.specs.Text.{content, plain, code_unit, short_escape, prepend}
use Rattle.admin.specs.Escaping.{EscapedReadsBack, HasNoControl}

or_false : (x y : Bool) → (x || y) ≡ false → (x ≡ false) × (y ≡ false)
or_false true y e = cc
or_false false y e = (refl, e)

-- what stands in a string for a byte, by what is known of the byte
abbrev letter : Bool → Bool → Bool → Bool → Bool → Bool → ℕ → ℕ
letter special back feed line carriage tab x =
    cond special x (cond back 98 (cond feed 102 (cond line 110 (cond carriage 114 (cond tab 116 0)))))

abbrev spelled : ℕ → Bool → ℕ → List ℕ
spelled letter control x = cond (nat_lt 0 letter) (92 ∷ letter ∷ [])
    (cond control (92 ∷ 117 ∷ 48 ∷ 48 ∷ digit_char (x / 16) ∷ digit_char (x % 16) ∷ []) (x ∷ []))

-- ---- what it stands for

abbrev Stands : ℕ → List ℕ → Type 0
Stands x bytes = (tail : List ℕ) → content plain (bytes ++ tail) ≡ prepend (x ∷ []) (content plain tail)

short_stands : (x e : ℕ) → short_escape e ≡ Some x → (e == 117) ≡ false → Stands x (92 ∷ e ∷ [])
unfolding content
short_stands x e is other tail = rw (other, is) refl

hex_digits : (x : ℕ) → x < 32 → code_unit 48 48 (digit_char (x / 16)) (digit_char (x % 16)) ≡ Some x
unfolding code_unit
hex_digits x small =
    let high = digit_value-digit_char (x / 16) (omega arith) in
    let low = digit_value-digit_char (x % 16) (omega arith) in
    let whole : 0 * 4096 + 0 * 256 + x / 16 * 16 + x % 16 ≡ x = omega arith in
    rw (high, low, lt-ltb (x / 16) 16 (omega arith), lt-ltb (x % 16) 16 (omega arith)) (ap (λ (n : ℕ). Some n) whole)

control_stands : (x : ℕ) → x < 32
    → Stands x (92 ∷ 117 ∷ 48 ∷ 48 ∷ digit_char (x / 16) ∷ digit_char (x % 16) ∷ [])
unfolding content
control_stands x small tail =
    rw (hex_digits x small, lt-leb 0xd800 x (omega arith), lt-leb 0xdc00 x (omega arith), encode_ascii x (omega arith)) refl

itself_stands : (x : ℕ) → 32 ≤ x → (x == 34) ≡ false → (x == 92) ≡ false → Stands x (x ∷ [])
unfolding content
itself_stands x visible quote backslash tail = rw (quote, backslash, le-ltb x 32 visible) refl

stands_by : (special back feed line carriage tab control : Bool) (x : ℕ)
    → (x == 34 || x == 92) ≡ special → (x == 8) ≡ back → (x == 12) ≡ feed → (x == 10) ≡ line → (x == 13) ≡ carriage
    → (x == 9) ≡ tab → nat_lt x 32 ≡ control → Stands x (spelled (letter special back feed line carriage tab x) control x)
unfolding short_escape
stands_by true back feed line carriage tab control x s b f l r t c =
    elim (or_cases (x == 34) (x == 92) s) as (λ _. Stands x (spelled x control x)) [
      | inl quote ↦ rw (eqb-true x 34 quote) (short_stands 34 34 refl refl)
      | inr backslash ↦ rw (eqb-true x 92 backslash) (short_stands 92 92 refl refl)
    ]
stands_by false true feed line carriage tab control x s b f l r t c = rw (eqb-true x 8 b) (short_stands 8 98 refl refl)
stands_by false false true line carriage tab control x s b f l r t c = rw (eqb-true x 12 f) (short_stands 12 102 refl refl)
stands_by false false false true carriage tab control x s b f l r t c = rw (eqb-true x 10 l) (short_stands 10 110 refl refl)
stands_by false false false false true tab control x s b f l r t c = rw (eqb-true x 13 r) (short_stands 13 114 refl refl)
stands_by false false false false false true control x s b f l r t c = rw (eqb-true x 9 t) (short_stands 9 116 refl refl)
stands_by false false false false false false true x s b f l r t c = control_stands x (ltb-true x 32 c)
stands_by false false false false false false false x s b f l r t c =
    let neither = or_false (x == 34) (x == 92) s in
    itself_stands x (ltb-false x 32 c) neither.0 neither.1

byte_stands : (x : ℕ) → Stands x (escape_byte x)
unfolding escape_byte
byte_stands x = stands_by (x == 34 || x == 92) (x == 8) (x == 12) (x == 10) (x == 13) (x == 9) (nat_lt x 32) x
    refl refl refl refl refl refl refl

pub reads_back : EscapedReadsBack
unfolding content
reads_back [] rest = refl
reads_back (x ∷ xs) rest =
    ap (content plain) (append_assoc (escape_byte x) (escape xs) (34 ∷ rest))
    ∙ byte_stands x (escape xs ++ 34 ∷ rest)
    ∙ ap (prepend (x ∷ [])) (reads_back xs rest)

-- ---- no control character

abbrev IsVisible : ℕ → Type 0
IsVisible byte = 32 ≤ byte

one_visible : (x : ℕ) → 32 ≤ x → All IsVisible (x ∷ [])
one_visible x visible = All-cons IsVisible x [] visible (All-nil IsVisible)

two_visible : (e : ℕ) → 32 ≤ e → All IsVisible (92 ∷ e ∷ [])
two_visible e visible = All-cons IsVisible 92 (e ∷ []) (omega arith) (one_visible e visible)

digit_visible : (d : ℕ) → 32 ≤ digit_char d
digit_visible d = elim (nat_lt d 10) as (λ v. 32 ≤ cond v (48 + d) (87 + d)) [ true ↦ omega arith | false ↦ omega arith ]

hex_visible : (x : ℕ) → All IsVisible (92 ∷ 117 ∷ 48 ∷ 48 ∷ digit_char (x / 16) ∷ digit_char (x % 16) ∷ [])
hex_visible x =
    let h : ℕ = digit_char (x / 16) in
    let l : ℕ = digit_char (x % 16) in
    All-append IsVisible (92 ∷ 117 ∷ []) (48 ∷ 48 ∷ h ∷ l ∷ []) (two_visible 117 (omega arith))
    (All-cons IsVisible 48 (48 ∷ h ∷ l ∷ []) (omega arith) (All-cons IsVisible 48 (h ∷ l ∷ []) (omega arith)
    (All-cons IsVisible h (l ∷ []) (digit_visible (x / 16)) (one_visible l (digit_visible (x % 16))))))

visible_by : (special back feed line carriage tab control : Bool) (x : ℕ)
    → (x == 34 || x == 92) ≡ special → nat_lt x 32 ≡ control
    → All IsVisible (spelled (letter special back feed line carriage tab x) control x)
visible_by true back feed line carriage tab control x s c =
    elim (or_cases (x == 34) (x == 92) s) as (λ _. All IsVisible (spelled x control x)) [
      | inl quote ↦ rw (eqb-true x 34 quote) (two_visible 34 (omega arith))
      | inr backslash ↦ rw (eqb-true x 92 backslash) (two_visible 92 (omega arith))
    ]
visible_by false true feed line carriage tab control x s c = two_visible 98 (omega arith)
visible_by false false true line carriage tab control x s c = two_visible 102 (omega arith)
visible_by false false false true carriage tab control x s c = two_visible 110 (omega arith)
visible_by false false false false true tab control x s c = two_visible 114 (omega arith)
visible_by false false false false false true control x s c = two_visible 116 (omega arith)
visible_by false false false false false false true x s c = hex_visible x
visible_by false false false false false false false x s c = one_visible x (ltb-false x 32 c)

byte_visible : (x : ℕ) → All IsVisible (escape_byte x)
unfolding escape_byte
byte_visible x = visible_by (x == 34 || x == 92) (x == 8) (x == 12) (x == 10) (x == 13) (x == 9) (nat_lt x 32) x refl refl

pub has_no_control : HasNoControl
has_no_control [] = All-nil IsVisible
has_no_control (x ∷ xs) = All-append IsVisible (escape_byte x) (escape xs) (byte_visible x) (has_no_control xs)
