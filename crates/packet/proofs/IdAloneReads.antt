-- A Packet Identifier alone: the bytes that are read are its spelling, and what is spelled is read.
use Rattle.std.proofs.Common.{◌≡◌, ℕ, ◌^◌, ◌<◌, List, [], Ok, refl, sym, ap, subst, ◌∙◌}
use Rattle.std.specs.Prelude.{IfOk}
use Rattle.std.proofs.lemmas.List.{append-nil}
use Rattle.packet_base.specs.Spelling.{number, IsId}
use Rattle.packet_base.specs.Readers.{AreBytes, id_at, ended}
use Rattle.packet_base.proofs.Steps.{then_if, seq_if}
use Rattle.packet_base.proofs.FieldsFound.{Splits, Splits-all, id_found, ended_found}
use Rattle.packet_base.proofs.FieldsAgain.{id_again}
use Rattle.packet.specs.IdAlone.{id_alone_of}

pub id_alone_found : (body : List ℕ) → AreBytes body → IfOk (id_alone_of body) (λ id. (body ≡ number id) × IsId id)
unfolding id_alone_of
id_alone_found body fits =
    let Q : ℕ → Type 0 = λ id. (body ≡ number id) × IsId id in
    then_if (id_at body) _ (λ x. Splits body (number x.0) x.1 × (x.0 < 2 ^ 16) × (0 < x.0)) Q (id_found body fits) (λ id h.
    seq_if (ended id.1) _ (id.1 ≡ []) Q (ended_found id.1) (λ nothing.
    (Splits-all body (number id.0) (subst (λ (rest : List ℕ). Splits body (number id.0) rest) nothing h.0), (h.2, h.1))))

pub id_alone_again : (id : ℕ) → IsId id → id_alone_of (number id) ≡ Ok id
unfolding id_alone_of
id_alone_again id fits = ap id_alone_of (sym (append-nil (number id))) ∙ rw (id_again id [] fits.0 fits.1) refl
