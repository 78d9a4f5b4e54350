-- Closes.antt: how a connection is closed as lost, and by a refused proposal.
use Rattle.std.proofs.Common.{◌≡◌, ◌<◌, ◌≤◌, ◌⊎◌, inl, inr, Bool, true, false, if◌then◌else◌, ◌&&◌, nat_lt, List, length, Some, None, refl, sym, subst}
use Rattle.std.proofs.lemmas.Bool.{lt-ltb, cases_lt}
use Rattle.broker_spec.specs.declared.command.Command.{Command}
use Rattle.broker_spec.specs.declared.command.Command.TheVariants as commands
use Rattle.broker_spec.specs.declared.command.Output.{Output}
use Rattle.ballot_base.specs.Logs.{places}
use Rattle.ballot_base.specs.declared.message.Effect.{Effect}
use Rattle.ballot_base.specs.Service.{max_places}
use Rattle.ballot_base.proofs.StepRows.{proposed-full}
use Rattle.world_base.specs.declared.node_connections.port.Port.{Port}
use Rattle.world_base.specs.declared.node_connections.connection.Connection.{Connection}
use Rattle.world_base.specs.node_connections.Connections.{is_proposed}
use Rattle.world_base.specs.node_connections.ConnectionChanges.{closed_connection}
use Rattle.world_base.specs.node_core.Core.{CoreState, StepOutcome, rules, serves}
use Rattle.world_base.specs.node_core.Inside.{RunningStep, DoesExactly, DoesOutcome}
use Rattle.world_base.specs.node_core.PacketInput.{changes, port_closed, open_at}
use Rattle.world_base.specs.node_core.Effects.{without_messages, then_also, proposes, has_room}
use Rattle.world_base.proofs.of_node_core.Asked.{left_true}
use Rattle.world_base.proofs.of_node_core.StepsJoin.{turns_idle, turns_join, turns_as, turns_after, turns_without_messages}

-- if no connection of the port is open nothing is done
pub ends_none : (port : Port) (r : RunningStep) (out : List (Effect Command Output)) → open_at port r.core ≡ None →
    DoesOutcome r r out out (port_closed port r.core)
unfolding port_closed
ends_none port r out none = subst (λ (t : StepOutcome). DoesOutcome r r out out t) (rw none refl) (turns_idle r out)

-- the connection's CONNECT was proposed, and its loss is reported to the broker
pub ends_proposed : (port : Port) (c : Connection) (a b r : RunningStep) (x y : List (Effect Command Output)) →
    open_at port a.core ≡ Some c → is_proposed c.stage ≡ true → b ≡ record a { core = changes port closed_connection a.core } →
    DoesOutcome b r x y (proposes (commands.Lost c.name) b.core) → DoesOutcome a r x y (port_closed port a.core)
unfolding port_closed
ends_proposed port c a b r x y found heard shut turns =
    subst (λ (t : StepOutcome). DoesOutcome a r x y t) (rw (found, heard) refl)
    (turns_after a b r x y (changes port closed_connection a.core) (proposes (commands.Lost c.name)) shut turns)

-- it did not
pub ends_other : (port : Port) (c : Connection) (a b : RunningStep) (x : List (Effect Command Output)) →
    open_at port a.core ≡ Some c → is_proposed c.stage ≡ false → b ≡ record a { core = changes port closed_connection a.core } →
    DoesOutcome a b x x (port_closed port a.core)
unfolding port_closed
ends_other port c a b x found silent shut =
    subst (λ (t : StepOutcome). DoesOutcome a b x x t) (rw (found, silent) refl)
    (turns_without_messages a b x (changes port closed_connection a.core) (λ _. shut))

-- without room nothing is proposed
room_false : (a b : Bool) → (a && b) ≡ false → (a ≡ false) ⊎ ((a ≡ true) × (b ≡ false))
room_false true b e = inr (refl, e)
room_false false b e = inl refl

full_of : (core : CoreState) → nat_lt (places core.replica.state.log) max_places ≡ false →
    max_places ≤ places core.replica.state.log
full_of core full = by_order (cases_lt (places core.replica.state.log) max_places)
  where
    by_order : (places core.replica.state.log < max_places) ⊎ (max_places ≤ places core.replica.state.log) →
        max_places ≤ places core.replica.state.log
    by_order (inl room) = let e = lt-ltb (places core.replica.state.log) max_places room in absurd cc
    by_order (inr over) = over

pub proposes_nothing : (command : Command) (core : CoreState) → has_room core ≡ false → proposes command core ≡ without_messages core
unfolding proposes
proposes_nothing command core e =
    by_parts (room_false (serves core) (nat_lt (places core.replica.state.log) max_places) e)
  where
    by_parts : (serves core ≡ false)
        ⊎ ((serves core ≡ true) × (nat_lt (places core.replica.state.log) max_places ≡ false)) →
        proposes command core ≡ without_messages core
    by_parts (inl idle) = rw idle refl
    by_parts (inr full) =
        let nothing = proposed-full rules core.replica.state command (left_true _ _ full.0) (full_of core full.1) in
        rw (full.0, nothing) refl

-- a refused proposal closes the connection
pub closes_refused : (port : Port) (command : Command) (a b c : RunningStep)
    (x y : List (Effect Command Output)) → (c.has_lost ≡ false → false ≡ has_room a.core) →
    DoesOutcome a b x y (proposes command a.core) → DoesExactly b c (changes port closed_connection b.core) →
    DoesOutcome a c x y (if has_room a.core then proposes command a.core else without_messages (changes port closed_connection a.core))
closes_refused port command a b c x y full turns shut =
    turns_as a c x y _ _ same
    (turns_join a b c x y y (proposes command a.core)
    (λ core. without_messages (changes port closed_connection core)) turns (turns_without_messages b c y (changes port closed_connection b.core) shut))
  where
    same : c.has_lost ≡ false →
        then_also (proposes command a.core) (λ core. without_messages (changes port closed_connection core))
        ≡ (if has_room a.core then proposes command a.core else without_messages (changes port closed_connection a.core))
    same whole =
        let none = sym (full whole) in
        let nothing = proposes_nothing command a.core none in
        rw (none, nothing) refl
