-- A move in which a replica receives nothing leaves it in its role, also one in which something is
-- lost.
use Rattle.std.proofs.Common.{◌≡◌, false, refl, ap, ◌∙◌}
use Rattle.ballot_base.specs.Replica.{ReplicaState}
use Rattle.broker_base.specs.State.{State}
use Rattle.broker_spec.specs.declared.command.Command.{Command}
use Rattle.broker_spec.specs.declared.command.Command.TheVariants as commands
use Rattle.world_base.specs.node_connections.ConnectionChanges.{noted_proposed, closed_connection, failing, left_with}
use Rattle.world_base.specs.node_core.Core.{CoreState, StepOutcome, rules}
use Rattle.world_base.specs.node_core.Lossy.{Account, TakesCommand}
use Rattle.world_base.specs.node_core.PacketInput.{changes}
use Rattle.headline.specs.node_moves.LossyMoves.{NodeMoveOrLost}
use Rattle.headline.specs.node_moves.LossyParts.{hears_in}
use Rattle.headline.specs.node_moves.LossyMoves.NodeMoveOrLost.{exactly, hears_losing, first_losing, later_losing, tells_losing, expels_losing, forgets, halts, fails, unheard, drops}
use Rattle.headline.proofs.of_node_moves.LossyOutputs.{delivers_replica}
use Rattle.headline.proofs.of_node_moves.MovesOfReplica.{move_same}
use Rattle.headline.proofs.of_node_moves.ReplicaStays.{added_same}
use Rattle.headline.specs.node_group.Group.{replica_of}
use Rattle.headline.proofs.of_node_group.MovesHappen.{changed_state, state_of}

-- a command is taken after a change of connections
taken_role : (command : Command) (core between : CoreState) (account : Account) → replica_of between ≡ replica_of core → TakesCommand command between account
    → (replica_of account.core).role ≡ (replica_of core).role
taken_role command core between account same taken =
    ap (λ (r : ReplicaState State Command). r.role)
    (state_of account.core (record between { replica = taken.replica }) (delivers_replica account.given (record between { replica = taken.replica }) account.core account.messages taken.handles)
    ∙ taken.done.state)
    ∙ (added_same rules (replica_of between) command).role ∙ ap (λ (r : ReplicaState State Command). r.role) same

pub calm_role : (core : CoreState) (outcome : StepOutcome) (m : NodeMoveOrLost core outcome) → hears_in m ≡ false → (replica_of outcome.core).role ≡ (replica_of core).role
calm_role core outcome (exactly m) calm = (move_same core outcome m calm).role
calm_role core outcome (hears_losing input account other drives) calm = absurd cc
calm_role core outcome (first_losing now port c connect rest account at first is taken) calm =
    taken_role _ core (changes port (noted_proposed connect.keep_alive) (changes port (left_with now rest) core)) account
    (changed_state port (noted_proposed connect.keep_alive) (changes port (left_with now rest) core) ∙ changed_state port (left_with now rest) core) taken
calm_role core outcome (later_losing now port c packet rest account at later is taken) calm =
    taken_role _ core (changes port (left_with now rest) core) account (changed_state port (left_with now rest) core) taken
calm_role core outcome (tells_losing name account taken) calm = taken_role (commands.Lost name) core core account refl taken
calm_role core outcome (expels_losing client account taken) calm = taken_role (commands.Expel client) core core account refl taken
calm_role core outcome forgets calm = refl
calm_role core outcome halts calm = refl
calm_role core outcome (fails port) calm = ap (λ (r : ReplicaState State Command). r.role) (changed_state port failing core)
calm_role core outcome unheard calm = refl
calm_role core outcome (drops port piece) calm = ap (λ (r : ReplicaState State Command). r.role) (changed_state port closed_connection core)
