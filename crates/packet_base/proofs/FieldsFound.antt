-- The bytes that are read as a field are its spelling.
use Rattle.std.proofs.Common.{◌≡◌, ℕ, suc, ◌+◌, ◌^◌, ◌<◌, ◌≤◌, Bool, true, false, ltb, List, [], ◌∷◌, ◌++◌, length, take, drop, Option, Some, None, Ok, refl, sym, ap, subst, ◌∙◌, append_assoc, arith, inl, inr}
use Rattle.std.specs.Prelude.{IfOk, not, ◌&&◌}
use Rattle.std.specs.Int.{w16, from_be_bytes}
use Rattle.std.proofs.lemmas.Bool.{cases_lt, ltb-false, ltb-true}
use Rattle.std.proofs.lemmas.List.{take-append-drop, length-take, get_or-drop, get_or-take, get_or_past, append-nil}
use Rattle.std.proofs.lemmas.Nat.{be_bytes_2}
use Rattle.std.specs.Str.{is_utf8}
use Rattle.topics.specs.declared.malformed.MalformedKind.{MalformedKind}
use Rattle.topics.specs.Text.{contains_byte, topic_fault, filter_fault, is_topic, is_filter}
use Rattle.packet_base.specs.Spelling.{number, text}
use Rattle.packet_base.specs.Readers.{AreBytes, ◌>>◌, byte_at, front_at, number_at, id_at, text_of, text_at, ended, is_text}
use Rattle.packet_base.specs.TopicFields.{faultless, topic_of, topic_at, filter_of, filter_at}
use Rattle.packet_base.proofs.Steps.{then_if, check_if, cond_if}

-- the front is before the rest
pub record Splits (bytes front rest : List ℕ) : Type 0 where
  pub parts : bytes ≡ front ++ rest
  pub left : AreBytes rest

pub Splits-then : (a x b y c : List ℕ) → Splits a x b → Splits b y c → Splits a (x ++ y) c
Splits-then a x b y c p q = record {
  parts = p.parts ∙ ap (λ (t : List ℕ). x ++ t) q.parts ∙ sym (append_assoc x y c);
  left = q.left;
}

-- if nothing is left, the front is all
pub Splits-all : (bytes front : List ℕ) → Splits bytes front [] → bytes ≡ front
Splits-all bytes front s = s.parts ∙ append-nil front

pub AreBytes-drop : (n : ℕ) (bytes : List ℕ) → AreBytes bytes → AreBytes (drop n bytes)
AreBytes-drop n bytes fits i = rw get_or-drop (fits (n + i))

pub AreBytes-take : (n : ℕ) (bytes : List ℕ) → AreBytes bytes → AreBytes (take n bytes)
AreBytes-take n bytes fits i =
    elim (cases_lt i n) [
      | inl below ↦ rw (get_or-take n bytes i 0 below) (fits i)
      | inr past ↦ rw (get_or_past (take n bytes) i 0 (omega (arith, length-take n bytes))) (omega arith)
    ]

pub byte_found : (bytes : List ℕ) → AreBytes bytes → IfOk (byte_at bytes) (λ x. Splits bytes (x.0 ∷ []) x.1 × (x.0 < 256))
byte_found [] fits = tt
byte_found (b ∷ rest) fits = (record { parts = refl; left = λ i. fits (suc i) }, fits 0)

pub front_found : (len : ℕ) (bytes : List ℕ) → AreBytes bytes
    → IfOk (front_at len bytes) (λ x. Splits bytes x.0 x.1 × (length x.0 ≡ len) × AreBytes x.0)
front_found len bytes fits =
    let Q : List ℕ × List ℕ → Type 0 = λ x. Splits bytes x.0 x.1 × (length x.0 ≡ len) × AreBytes x.0 in
    cond_if (ltb (length bytes) len) _ _ Q (λ t. tt) (λ t.
    let long : len ≤ length bytes = ltb-false _ _ t in (
      record { parts = sym (take-append-drop len bytes); left = AreBytes-drop len bytes fits },
      omega (arith, length-take len bytes),
      AreBytes-take len bytes fits,
    ))

pub number_found : (bytes : List ℕ) → AreBytes bytes → IfOk (number_at bytes) (λ x. Splits bytes (number x.0) x.1 × (x.0 < 2 ^ 16))
unfolding number_at
number_found bytes fits =
    let Q : ℕ × List ℕ → Type 0 = λ x. Splits bytes (number x.0) x.1 × (x.0 < 2 ^ 16) in
    then_if (front_at 2 bytes) _ (λ x. Splits bytes x.0 x.1 × (length x.0 ≡ 2) × AreBytes x.0) Q (front_found 2 bytes fits) (λ x h.
    let low : from_be_bytes w16 x.0 < 2 ^ 16 = omega (arith, h.2 0, h.2 1) in
    (subst (λ (front : List ℕ). Splits bytes front x.1) (sym (be_bytes_2 x.0 _ h.1 h.2 refl)) h.0, low))

pub id_found : (bytes : List ℕ) → AreBytes bytes → IfOk (id_at bytes) (λ x. Splits bytes (number x.0) x.1 × (x.0 < 2 ^ 16) × (0 < x.0))
unfolding id_at
id_found bytes fits =
    let Q : ℕ × List ℕ → Type 0 = λ x. Splits bytes (number x.0) x.1 × (x.0 < 2 ^ 16) × (0 < x.0) in
    then_if (number_at bytes) _ (λ x. Splits bytes (number x.0) x.1 × (x.0 < 2 ^ 16)) Q (number_found bytes fits) (λ x h.
    check_if (ltb 0 x.0) _ _ Q (λ t. (h.0, h.1, ltb-true _ _ t)))

pub text_of_found : (bytes : List ℕ) → IfOk (text_of bytes) (λ x. (x ≡ bytes) × (is_text x ≡ true))
text_of_found bytes =
    let Q : List ℕ → Type 0 = λ x. (x ≡ bytes) × (is_text x ≡ true) in
    check_if (is_text bytes) _ _ Q (λ t. (refl, t))

pub text_found : (bytes : List ℕ) → AreBytes bytes
    → IfOk (text_at bytes) (λ x. Splits bytes (text x.0) x.1 × (length x.0 < 2 ^ 16) × (is_text x.0 ≡ true))
unfolding text_at
text_found bytes fits =
    let Q : List ℕ × List ℕ → Type 0 = λ x. Splits bytes (text x.0) x.1 × (length x.0 < 2 ^ 16) × (is_text x.0 ≡ true) in
    then_if (number_at bytes) _ (λ x. Splits bytes (number x.0) x.1 × (x.0 < 2 ^ 16)) Q (number_found bytes fits) (λ n h.
    then_if (front_at n.0 n.1) _ (λ x. Splits n.1 x.0 x.1 × (length x.0 ≡ n.0) × AreBytes x.0) Q (front_found n.0 n.1 h.0.left) (λ x k.
    then_if (text_of x.0) _ (λ y. (y ≡ x.0) × (is_text y ≡ true)) Q (text_of_found x.0) (λ y t.
    let counted : length y ≡ n.0 = ap length t.0 ∙ k.1 in
    let both : Splits bytes (number n.0 ++ x.0) x.1 = Splits-then bytes (number n.0) n.1 x.0 x.1 h.0 k.0 in
    let renamed : Splits bytes (number n.0 ++ y) x.1 = subst (λ (z : List ℕ). Splits bytes (number n.0 ++ z) x.1) (sym t.0) both in
    (subst (λ (m : ℕ). Splits bytes (number m ++ y) x.1) (sym counted) renamed, omega (arith, counted, h.1), t.1))))

pub ended_found : (bytes : List ℕ) → IfOk (ended bytes) (λ _. bytes ≡ [])
ended_found [] = refl
ended_found (b ∷ bytes) = tt

-- a text is well-formed UTF-8
pub formed_text : (bytes : List ℕ) → is_text bytes ≡ true → is_utf8 bytes ≡ true
formed_text bytes good = first_of_both (is_utf8 bytes) (not (contains_byte 0 bytes)) good
  where
    first_of_both : (a b : Bool) → (a && b) ≡ true → a ≡ true
    first_of_both true b t = refl
    first_of_both false b t = absurd cc

-- a text that its own checks passed
passed_found : (bytes : List ℕ) (fault : Option MalformedKind) → IfOk (faultless fault >> Ok bytes) (λ y. (y ≡ bytes) × (fault ≡ None))
passed_found bytes None = (refl, refl)
passed_found bytes (Some kind) = tt

pub topic_found : (bytes : List ℕ) → AreBytes bytes → IfOk (topic_at bytes) (λ x. Splits bytes (text x.0) x.1 × (is_topic x.0 ≡ true))
unfolding topic_at
topic_found bytes fits =
    let Q : List ℕ × List ℕ → Type 0 = λ x. Splits bytes (text x.0) x.1 × (is_topic x.0 ≡ true) in
    then_if (text_at bytes) _ (λ x. Splits bytes (text x.0) x.1 × (length x.0 < 2 ^ 16) × (is_text x.0 ≡ true)) Q (text_found bytes fits) (λ x h.
    then_if (topic_of x.0) _ (λ y. (y ≡ x.0) × (topic_fault x.0 ≡ None)) Q (passed_found x.0 (topic_fault x.0)) (λ y t. (
      subst (λ (z : List ℕ). Splits bytes (text z) x.1) (sym t.0) h.0,
      subst (λ (z : List ℕ). is_topic z ≡ true) (sym t.0) (let good : is_topic x.0 ≡ true = rw (formed_text x.0 h.2, t.1) refl in good),
    )))

pub filter_found : (bytes : List ℕ) → AreBytes bytes → IfOk (filter_at bytes) (λ x. Splits bytes (text x.0) x.1 × (is_filter x.0 ≡ true))
unfolding filter_at
filter_found bytes fits =
    let Q : List ℕ × List ℕ → Type 0 = λ x. Splits bytes (text x.0) x.1 × (is_filter x.0 ≡ true) in
    then_if (text_at bytes) _ (λ x. Splits bytes (text x.0) x.1 × (length x.0 < 2 ^ 16) × (is_text x.0 ≡ true)) Q (text_found bytes fits) (λ x h.
    then_if (filter_of x.0) _ (λ y. (y ≡ x.0) × (filter_fault x.0 ≡ None)) Q (passed_found x.0 (filter_fault x.0)) (λ y t. (
      subst (λ (z : List ℕ). Splits bytes (text z) x.1) (sym t.0) h.0,
      subst (λ (z : List ℕ). is_filter z ≡ true) (sym t.0) (let good : is_filter x.0 ≡ true = rw (formed_text x.0 h.2, t.1) refl in good),
    )))
