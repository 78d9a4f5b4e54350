-- The CONNACK at the client: the client is online with its session present.
use Rattle.std.specs.Prelude.{◌≡◌, ℕ, true, List, [], Result, Ok, Err}
use Rattle.client.specs.Core.{Core, nothing_read}
use Rattle.client.specs.Input.{OnBytes}
use Rattle.client_base.specs.State.{is_online}
use Rattle.client_base.specs.declared.error.ClientError.{ClientError}
use Rattle.client_base.specs.declared.error.ClientError.TheVariants as errors
use Rattle.client_base.specs.declared.stage.Stage.TheVariants as stages
use Rattle.packet.specs.Verdict.{verdict}
use Rattle.packet.specs.declared.connack.Connack.TheVariants as connacks
use Rattle.packet.specs.declared.packet.Packet.TheVariants as packets

-- the client's last CONNACK was a 0 with session present, and the client is online
pub record IsServed (core : Core) : Type 0 where
  pub online : is_online core.state.stage ≡ true
  pub present : core.state.session_present ≡ true

-- bytes that are a CONNACK 0 with session present, on a connection that was opened and on which
-- nothing came yet, are taken unless memory runs out
abbrev pub ConnackServes : Type 0
ConnackServes =
    (piece : List ℕ) (old new : Core) (result : Result (Unit {0}) ClientError) →
    verdict piece ≡ Ok (packets.Connack (connacks.Accepted true), []) →
    old.state.stage ≡ stages.Opened → old.unread ≡ nothing_read → (result ≡ Err errors.Memory → ⊥) →
    OnBytes piece old.state.stage old result new →
    (result ≡ Ok tt) × IsServed new
