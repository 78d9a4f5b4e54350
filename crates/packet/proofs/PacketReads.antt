-- A packet that is read is spelled so, and one that is spelled is read, whatever follows it.
use Rattle.std.proofs.Common.{◌≡◌, ℕ, suc, ◌+◌, ◌≤◌, true, leb, List, [], ◌∷◌, ◌++◌, length, take, drop, Ok, refl, sym, ap, subst, ◌∙◌, append_assoc, arith}
use Rattle.std.specs.Prelude.{IfOk}
use Rattle.std.proofs.lemmas.Bool.{le-leb, leb-true}
use Rattle.std.proofs.lemmas.List.{take_at, drop_at, length-append, length-take, take-append-drop}
use Rattle.packet_base.specs.declared.header.Header.{Header}
use Rattle.packet_base.specs.Header.{first_byte, header_of}
use Rattle.packet_base.specs.Spelling.{IsLength}
use Rattle.packet_base.specs.Readers.{AreBytes, length_at}
use Rattle.packet_base.proofs.Steps.{then_if, check_if}
use Rattle.packet_base.proofs.FieldsFound.{AreBytes-take}
use Rattle.packet_base.proofs.LengthForms.{Heads, length_found, length_again, short_form}
use Rattle.packet_base.proofs.HeaderReads.{header_found, header_again}
use Rattle.packet.specs.declared.packet.Packet.{Packet}
use Rattle.packet.specs.Spelling.{header, body, Spells, IsPacket, max_body}
use Rattle.packet.specs.Verdict.{body_of, verdict}
use Rattle.packet.proofs.BodyReads.{IsBody, body_found, body_again}

-- the packet's spelling is before the rest
pub record Begins (bytes : List ℕ) (p : Packet) (rest : List ℕ) : Type 0 where
  pub front : List ℕ
  pub spelled : Spells p front
  pub parts : bytes ≡ front ++ rest
  pub whole : IsPacket p

-- what was read, put together
made : (first : ℕ) (bytes : List ℕ) (h : Header) (n : ℕ) (after : List ℕ) (p : Packet) → first_byte h ≡ first → Heads bytes n after → n ≤ max_body → n ≤ length after
    → IsBody h (take n after) p → Begins (first ∷ bytes) p (drop n after)
made first bytes h n after p said heads small there body_is =
    let len : length (body p) ≡ n = ap length (sym body_is.spelled) ∙ (let l : length (take n after) ≡ n = omega (arith, length-take n after) in l) in
    let head : first_byte (header p) ≡ first = ap first_byte body_is.said ∙ said in
    let rest : after ≡ body p ++ drop n after = sym (take-append-drop n after) ∙ ap (λ (x : List ℕ). x ++ drop n after) body_is.spelled in
    let after_first : bytes ≡ heads.form ++ body p ++ drop n after =
    heads.parts ∙ ap (λ (x : List ℕ). heads.form ++ x) rest ∙ sym (append_assoc heads.form (body p) (drop n after)) in
    record {
      front = first_byte (header p) ∷ heads.form ++ body p;
      spelled = (heads.form, subst (λ (m : ℕ). IsLength heads.form m) (sym len) heads.spelled, refl);
      parts = ap (λ (x : List ℕ). first ∷ x) after_first ∙ ap (λ (x : ℕ). x ∷ (heads.form ++ body p ++ drop n after)) (sym head);
      whole = (body_is.fits, body_is.listed, omega (arith, len, small));
    }

pub verdict_found : (bytes : List ℕ) → AreBytes bytes → IfOk (verdict bytes) (λ x. Begins bytes x.0 x.1)
unfolding verdict
verdict_found [] fits = tt
verdict_found (first ∷ bytes) fits =
    let Q : Packet × List ℕ → Type 0 = λ x. Begins (first ∷ bytes) x.0 x.1 in
    then_if (header_of first) _ (λ h. first_byte h ≡ first) Q (header_found first) (λ h said.
    then_if (length_at 3 bytes) _ (λ x. Heads bytes x.0 x.1) Q (length_found 3 bytes (λ i. fits (suc i))) (λ len heads.
    check_if (leb len.0 max_body) _ _ Q (λ small.
    check_if (leb len.0 (length len.1)) _ _ Q (λ there.
    then_if (body_of h (take len.0 len.1)) _ (IsBody h (take len.0 len.1)) Q (body_found h (take len.0 len.1) (AreBytes-take len.0 len.1 heads.left)) (λ p body_is.
    made first bytes h len.0 len.1 p said heads (leb-true _ _ small) (leb-true _ _ there) body_is)))))

pub verdict_again : (p : Packet) (front rest : List ℕ) → IsPacket p → Spells p front → verdict (front ++ rest) ≡ Ok (p, rest)
unfolding verdict
verdict_again p front rest whole spelled =
    let n = length (body p) in
    let form = spelled.0 in
    let regrouped : front ++ rest ≡ first_byte (header p) ∷ (form ++ (body p ++ rest)) =
    ap (λ (x : List ℕ). x ++ rest) spelled.2 ∙ ap (λ (x : List ℕ). first_byte (header p) ∷ x) (append_assoc form (body p) rest) in
    let few : length form ≤ 3 + 1 = omega (arith, short_form form n spelled.1 (omega (arith, whole.2))) in
    let there : leb n (length (body p ++ rest)) ≡ true = le-leb _ _ (omega (arith, length-append (body p) rest)) in
    ap verdict regrouped ∙ rw (
      header_again (header p),
      length_again 3 form (body p ++ rest) n spelled.1 few,
      le-leb _ _ whole.2,
      there,
      take_at (body p) rest n refl,
      drop_at (body p) rest n refl,
      body_again p whole.0 whole.1,
    ) refl
