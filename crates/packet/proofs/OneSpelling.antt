-- Each packet has one spelling, and none begins another.
use Rattle.std.proofs.Common.{◌≡◌, ℕ, List, ◌∷◌, ◌++◌, length, refl, sym, ap, ◌∙◌, arith}
use Rattle.std.proofs.lemmas.List.{append_cancel_right}
use Rattle.packet_base.specs.Header.{first_byte}
use Rattle.packet_base.proofs.LengthForms.{form_of, length_spelled, one_form}
use Rattle.packet_base.specs.Spelling.{remaining_length}
use Rattle.packet.specs.declared.packet.Packet.{Packet}
use Rattle.packet.specs.Spelling.{header, body, spelling}
use Rattle.packet.specs.Verdict.{verdict}
use Rattle.packet.specs.Theorems.{HasOneSpelling, SpellingSpells, NoneBeginsAnother}
use Rattle.packet.proofs.PacketReads.{verdict_again}
use Rattle.packet.proofs.After.{ok_is}

pub has_one : HasOneSpelling
has_one p whole =
    let form = form_of (length (body p)) (omega (arith, whole.2)) in (
      first_byte (header p) ∷ form.0 ++ body p,
      (form.0, form.1, refl),
      λ other spelled.
          spelled.2 ∙ ap (λ (x : List ℕ). first_byte (header p) ∷ x ++ body p)
          (one_form spelled.0 form.0 (length (body p)) spelled.1 form.1),
    )

pub spelling_is : SpellingSpells
unfolding spelling
spelling_is p whole =
    let form = length_spelled (length (body p)) (omega (arith, whole.2)) in (
      (remaining_length (length (body p)), form, refl),
      λ other spelled.
          spelled.2 ∙ ap (λ (x : List ℕ). first_byte (header p) ∷ x ++ body p)
          (one_form spelled.0 (remaining_length (length (body p))) (length (body p)) spelled.1 form),
    )

pub none_begins : NoneBeginsAnother
none_begins p q a b x y whole_p whole_q spelled_p spelled_q e =
    let same : (p, x) ≡ (q, y) =
    ok_is (p, x) (q, y) (sym (verdict_again p a x whole_p spelled_p) ∙ ap verdict e ∙ verdict_again q b y whole_q spelled_q) in
    let rest : x ≡ y = ap (λ (z : Packet × List ℕ). z.1) same in
    (ap (λ (z : Packet × List ℕ). z.0) same, append_cancel_right a b y (ap (λ (z : List ℕ). a ++ z) (sym rest) ∙ e))
