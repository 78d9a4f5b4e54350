-- Commands that do not expel the client: its own packets, and those of others.
use Rattle.std.proofs.Common.{◌≡◌, ℕ, zero, suc, Bool, true, false, Option, Some, None, refl, ap, inl, inr, ◌⊎◌}
use Rattle.std.specs.Prelude.{is_some}
use Rattle.std.proofs.lemmas.Bool.{cases_Bool}
use Rattle.packet.specs.declared.packet.Packet.{Packet}
use Rattle.packet.specs.declared.packet.Packet.TheVariants as packets
use Rattle.broker_spec.specs.Connection.{ConnectionName}
use Rattle.broker_spec.specs.Place.{Client, Past, same_client}
use Rattle.broker_spec.specs.Sessions.{expels, clean_session_of}
use Rattle.broker_spec.specs.declared.command.Command.{Command}
use Rattle.broker_spec.specs.declared.command.Command.TheVariants as commands
use Rattle.broker_spec.proofs.ClientsInOrder.{same_is}
use Rattle.exactly_once.specs.StoryCommands.{command_of, names_client}
use Rattle.exactly_once.proofs.places.After.{IsSpared}

-- a packet that was written
pub taken_spares : (x : ConnectionName) (n : ℕ) (packet : Packet) (c : Client) → expels (command_of x n packet) c ≡ false
taken_spares x zero (packets.Connect q) c = refl
taken_spares x zero _ c = refl
taken_spares x (suc n) _ c = refl

-- another client
pub not_this : (c d : Client) → (d ≡ c → ⊥) → same_client d c ≡ false
not_this c d other = by (cases_Bool (same_client d c))
  where
    by : (same_client d c ≡ true) ⊎ (same_client d c ≡ false) → same_client d c ≡ false
    by (inl e) = absurd (other (same_is d c e))
    by (inr e) = e

-- a command that does not name the client
pub other_spares : (past : Past) (c : Client) (command : Command) → (names_client past c command → ⊥) → IsSpared command past c
other_spares past c (commands.Packet x packet) other = inl refl
other_spares past c (commands.Connect x d clean) other = inl refl
other_spares past c (commands.Lost x) other = inl refl
other_spares past c (commands.Start ballot) other = inl refl
other_spares past c (commands.Expel d) other = by (clean_session_of past c) refl
  where
    by : (session : Option Bool) → clean_session_of past c ≡ session → IsSpared (commands.Expel d) past c
    by None e = inr e
    by (Some clean) e = inl (not_this c d (λ same. other (same, ap is_some e)))
