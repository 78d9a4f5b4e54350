-- Words.antt: fields that were compared with words, and steps that have the same fields.
use Rattle.std.proofs.Common.{◌≡◌, ℕ, Bool, true, false, List, [], ◌∷◌, ◌↔◌, bytes_eq, refl, sym, ap, ap₂, ◌∙◌}
use Rattle.std.proofs.lemmas.Slice.Eq.{bytes_eq-Decides}
use Rattle.rows.specs.Fields.{Text}

pub same_text : (field word : Text) → bytes_eq field word ≡ true → field ≡ word
same_text field word is = (bytes_eq-Decides field word).0 is

-- a step with this word
pub with_word : (word other : Text) (fields : List Text) → bytes_eq word other ≡ true → word ∷ fields ≡ other ∷ fields
with_word word other fields is = ap (λ (w : Text). w ∷ fields) (same_text word other is)

-- a word and one, two and three fields
pub same_one : (word field : Text) {other : Text} → other ≡ field → word ∷ field ∷ [] ≡ word ∷ other ∷ []
same_one word field same = ap (λ (f : Text). word ∷ f ∷ []) (sym same)

pub same_two : (word one two : Text) {first second : Text} → first ≡ one → second ≡ two
    → word ∷ one ∷ two ∷ [] ≡ word ∷ first ∷ second ∷ []
same_two word one two is_one is_two = ap₂ (λ (f g : Text). word ∷ f ∷ g ∷ []) (sym is_one) (sym is_two)

pub same_three : (word one two three : Text) {first second third : Text} → first ≡ one → second ≡ two → third ≡ three
    → word ∷ one ∷ two ∷ three ∷ [] ≡ word ∷ first ∷ second ∷ third ∷ []
same_three word one two three is_one is_two is_three =
    ap₂ (λ (f : Text) (fs : List Text). word ∷ f ∷ fs) (sym is_one)
    (ap₂ (λ (g h : Text). g ∷ h ∷ []) (sym is_two) (sym is_three))

-- two tests that are true in the same cases
pub same_truth : (one other : Bool) → (one ≡ true) ↔ (other ≡ true) → one ≡ other
same_truth true other both = sym (both.0 refl)
same_truth false true both = both.1 refl
same_truth false false both = refl
