-- PacketAnswers.antt: the bytes of a packet that was written.
use Rattle.std.proofs.Common.{◌≡◌, ◌++◌, List, ℕ, [], ◌∷◌, ap, sym, ◌∙◌}
use Rattle.rows.specs.Fields.{Text}
use Rattle.packet.specs.declared.packet.Packet.{Packet}
use Rattle.packet.specs.Spelling.{IsPacket, AppendsSpelling, spelling}
use Rattle.packet.specs.Theorems.{SpellingSpells}
use Rattle.broker_rows.specs.Values.{packet_fields}

pub written : SpellingSpells → (packet : Packet) (out : List ℕ) → IsPacket packet → AppendsSpelling [] out packet
    → out ≡ spelling packet
written law packet out fits appended = appended.2 ∙ (law packet fits).1 appended.0 appended.1

pub put_bytes : (old new : List Text) (packet : Packet) (bytes : List ℕ) (field : Text) → bytes ≡ spelling packet
    → field ≡ bytes → new ≡ old ++ field ∷ [] → new ≡ old ++ packet_fields packet
put_bytes old new packet bytes field written same gives = gives ∙ ap (λ (f : Text). old ++ f ∷ []) (same ∙ written)
