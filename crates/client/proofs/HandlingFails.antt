-- A packet that was read and then ends the call, or finds no memory, ends the reading.
use Rattle.std.proofs.Common.{Err, ap, ◌∙◌, inr}
use Rattle.packet.specs.declared.packet.Packet.{Packet}
use Rattle.client_base.specs.declared.error.ClientError.{ClientError}
use Rattle.client_base.specs.declared.error.ClientError.TheVariants as errors
use Rattle.client.specs.Core.{Core}
use Rattle.client.specs.Input.{ReadsPacket, outcome_of_packet}
use Rattle.client.specs.Inside.PacketSteps.{Tries, ReadsOne}

pub handling_fails : (old mid new : Core) (packet : Packet) (error : ClientError) → ReadsPacket old packet mid
    → Tries (outcome_of_packet packet mid) mid (Err error) new → ReadsOne old (Err error) new
handling_fails old mid new packet errors.Memory r t =
    (inr (packet, mid, r, t.0), ap (λ (c : Core). c.state) t.1 ∙ r.1, ap (λ (c : Core). c.out) t.1 ∙ r.2)
handling_fails old mid new packet errors.SessionLost r t = (packet, mid, r, t.0, t.1)
handling_fails old mid new packet _ r t =
    (inr (packet, mid, r, t.0), ap (λ (c : Core). c.state) t.1 ∙ r.1, ap (λ (c : Core). c.out) t.1 ∙ r.2)
