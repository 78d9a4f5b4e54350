-- The next written packet of one of the client's connections comes next in the list.
use Rattle.std.proofs.Common.{◌≡◌, ℕ, zero, suc, Some, refl, sym, subst}
use Rattle.std.specs.Prelude.{slice_get}
use Rattle.broker_spec.specs.Place.{Limits}
use Rattle.broker_spec.specs.Commands.{place_of}
use Rattle.broker_spec.specs.NobodyTheorems.{IsSteady}
use Rattle.broker_spec.specs.declared.command.Command.{Command}
use Rattle.exactly_once.specs.HandshakeInvariant.{IsGood}
use Rattle.client_base.specs.Keeper.{Written}
use Rattle.exactly_once.specs.Sides.{ClientConnection}
use Rattle.exactly_once.specs.Story.{Story}
use Rattle.exactly_once.specs.StoryCommands.{command_of, with_one_counted}
use Rattle.exactly_once.specs.Inside.Projections.{GoesTo}
use Rattle.exactly_once.specs.Inside.AsSubscriber.{as_subscriber}
use Rattle.exactly_once.specs.Inside.Shape.{HasShape}
use Rattle.exactly_once.specs.Inside.ConnectionShape.{ConnectionInShape}
use Rattle.exactly_once.proofs.subscribing.Placed.{placed}
use Rattle.exactly_once.proofs.subscribing.Counted.{each_at}
use Rattle.exactly_once.proofs.subscribing.events.OwnPacket.{takes_packet}
use Rattle.exactly_once.proofs.subscribing.events.Opening.{is_new_one}
use Rattle.exactly_once.proofs.subscribing.events.TakesConnect.{takes_connect}

-- its next packet is taken
pub goes_taken : (limits : Limits) (s : Story) → HasShape limits s → IsSteady limits → IsGood (as_subscriber limits s) → (i : ℕ) (κ : ClientConnection) (w : Written)
    → slice_get s.connections i ≡ Some κ → slice_get κ.written κ.taken ≡ Some w
    → GoesTo (as_subscriber limits s) (as_subscriber limits (placed s (place_of limits s.past (command_of κ.name κ.taken w.packet)) (with_one_counted i s.connections)))
goes_taken limits s shape steady good i κ w at next = by κ.taken refl
  where
    goal : Command → Type 0
    goal command = GoesTo (as_subscriber limits s) (as_subscriber limits (placed s (place_of limits s.past command) (with_one_counted i s.connections)))

    in_shape : ConnectionInShape limits s.past s.keeper.client κ
    in_shape = each_at (ConnectionInShape limits s.past s.keeper.client) s.connections i κ shape.connections at

    by : (taken : ℕ) → κ.taken ≡ taken → goal (command_of κ.name taken w.packet)
    by zero e =
        let new = is_new_one limits s.past s.keeper.client κ w in_shape e next in
        subst (λ (z : Written). goal (command_of κ.name zero z.packet)) (sym new.first)
        (takes_connect limits s i κ w (record { shape = shape; steady = steady; at = at; taken = e; good = in_shape; new = new }))
    by (suc n) e = takes_packet limits s i n κ w shape steady good at next e
