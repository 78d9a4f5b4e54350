-- What each move in which memory may run out does to a connection that may be closed.
use Rattle.std.proofs.lemmas.Bool.{both_ways}
use Rattle.std.proofs.Common.{◌≡◌, ◌≤◌, ℕ, true, List, [], ◌++◌, Option, Some, None, refl, sym, ap, ◌∙◌, subst}
use Rattle.ballot_base.specs.Protocol.{Input}
use Rattle.broker_spec.specs.declared.command.Command.{Command}
use Rattle.broker_spec.specs.declared.command.Command.TheVariants as commands
use Rattle.broker_spec.specs.Connection.{ConnectionName}
use Rattle.exactly_once.specs.Sends.{sends_to}
use Rattle.world_base.specs.declared.node_connections.connection.Connection.{Connection}
use Rattle.world_base.specs.node_connections.Connections.{has_failed, is_open_named}
use Rattle.world_base.specs.node_connections.ConnectionChanges.{noted_proposed, closed_connection, failing, left_with}
use Rattle.world_base.specs.node_core.Core.{CoreState, StepOutcome}
use Rattle.world_base.specs.node_core.Lossy.{Account, Drives, TakesCommand}
use Rattle.world_base.specs.node_core.PacketInput.{changes}
use Rattle.world_base.specs.node_core.Effects.{outcome_of_input}
use Rattle.headline.specs.node_moves.Closed.{listed_named}
use Rattle.headline.specs.node_moves.Ends.{IsOrderly, open_named}
use Rattle.headline.specs.node_moves.LossyTheorems.{LossesPutInOrder}
use Rattle.headline.specs.node_moves.LossyMoves.{NodeMoveOrLost}
use Rattle.headline.specs.node_moves.LossyParts.{move_effects, refusal_in}
use Rattle.headline.specs.node_moves.LossyMoves.NodeMoveOrLost.{exactly, hears_losing, first_losing, later_losing, tells_losing, expels_losing, forgets, halts, fails, unheard, drops}
use Rattle.headline.specs.node_moves.Puts.{outputs_of, spelled}
use Rattle.headline.proofs.of_node_moves.Kept.{heard_up, left_true, live, named}
use Rattle.headline.proofs.of_node_moves.LossyOutputs.{delivers_shuts, failing_shuts}
use Rattle.headline.proofs.of_node_moves.LossyReads.{losses_read_in_order, replica_orderly, taken_joined}
use Rattle.headline.proofs.of_node_moves.NamesInOrder.{same_le}
use Rattle.headline.proofs.of_node_moves.NamesComeOnce.{steps_up}
use Rattle.headline.proofs.of_node_moves.NothingOnClosed.{failed_dead}
use Rattle.headline.proofs.of_node_moves.PutsInOrder.{puts_in_order}
use Rattle.headline.proofs.of_node_moves.Shut.{Shuts, all, shuts_closed, shuts_joined, shuts_same, shuts_tested}
use Rattle.headline.proofs.of_node_moves.Shut.Shuts.{nobody, stays_open, is_shut, was_shut}
use Rattle.headline.proofs.of_node_moves.ShutByChanges.{asked_shuts, at_orderly, at_shuts, left_shuts}
use Rattle.headline.proofs.of_node_moves.ShutByOutputs.{bytes_for, right_true}
use Rattle.headline.proofs.of_node_moves.Views.{found_passes, same_some, some_none, view_of_changed}

-- what a move queues for a name
abbrev pub sent_in : ConnectionName → {core : CoreState} {outcome : StepOutcome} → NodeMoveOrLost core outcome → List ℕ
sent_in x m = spelled (refusal_in x m ++ sends_to x (outputs_of (move_effects m)))

-- ---- the replica

pub driven : (x : ConnectionName) (input : Input Command) (core : CoreState) (account : Account) → Drives input core account → IsOrderly core
    → Shuts (bytes_for x account.given) (listed_named x core) (listed_named x account.core)
driven x input core account m o =
    delivers_shuts x account.given (record core { replica = m.replica }) account.core account.messages m.handles
    (replica_orderly core m.replica (steps_up core.replica m.replica (outcome_of_input input core.replica.state) account.given (heard_up input core) m.steps) o)

taken_shuts : (x : ConnectionName) (command : Command) (core : CoreState) (account : Account) → TakesCommand command core account → IsOrderly core
    → Shuts (bytes_for x account.given) (listed_named x core) (listed_named x account.core)
taken_shuts x command core account t o =
    delivers_shuts x account.given (record core { replica = t.replica }) account.core account.messages t.handles
    (replica_orderly core t.replica (subst (λ (n : ℕ). core.replica.state.joined ≤ n) (sym (taken_joined command core account t)) (same_le core.replica.state.joined)) o)

-- ---- each move that loses

-- a move with losses
abbrev pub Loses : {core : CoreState} {outcome : StepOutcome} → NodeMoveOrLost core outcome → Type 0
Loses (exactly m) = ⊥
Loses _ = Unit {0}

pub lossy_shuts : (core : CoreState) (outcome : StepOutcome) (m : NodeMoveOrLost core outcome) → IsOrderly core → (x : ConnectionName) → Loses m
    → Shuts (sent_in x m) (listed_named x core) (listed_named x outcome.core)
lossy_shuts core outcome (exactly m) o x may = absurd may
lossy_shuts core outcome (hears_losing input account other drives) o x may = driven x input core account drives o
lossy_shuts core outcome (first_losing now port c connect rest account at first is taken) o x may =
    let left : CoreState = changes port (left_with now rest) core in
    let ordered = at_orderly port (left_with now rest) core o (λ z. refl) in
    shuts_joined
    (shuts_joined (at_shuts x port (left_with now rest) core o (λ z. refl) (left_shuts now rest))
    (at_shuts x port (noted_proposed connect.keep_alive) left ordered (λ z. refl) (asked_shuts connect.keep_alive)))
    (taken_shuts x _ (changes port (noted_proposed connect.keep_alive) left) account taken (at_orderly port (noted_proposed connect.keep_alive) left ordered (λ z. refl)))
lossy_shuts core outcome (later_losing now port c packet rest account at later is taken) o x may =
    shuts_joined (at_shuts x port (left_with now rest) core o (λ z. refl) (left_shuts now rest))
    (taken_shuts x _ (changes port (left_with now rest) core) account taken (at_orderly port (left_with now rest) core o (λ z. refl)))
lossy_shuts core outcome (tells_losing name account taken) o x may = taken_shuts x (commands.Lost name) core account taken o
lossy_shuts core outcome (expels_losing client account taken) o x may = taken_shuts x (commands.Expel client) core account taken o
lossy_shuts core outcome forgets o x may = shuts_same (listed_named x core)
lossy_shuts core outcome halts o x may = shuts_same (listed_named x core)
lossy_shuts core outcome (fails port) o x may = at_shuts x port failing core o (λ z. refl) (failing_shuts [])
lossy_shuts core outcome unheard o x may =
    shuts_tested x has_failed closed_connection core.connections (o.names x) (λ z. refl) (λ z failed. was_shut (failed_dead z failed) refl refl)
lossy_shuts core outcome (drops port piece) o x may = at_shuts x port closed_connection core o (λ z. refl) (λ z lives. shuts_closed z)

-- ---- what is queued on an open connection

listed_of : (x : ConnectionName) (core : CoreState) (c : Connection) → IsOrderly core → open_named x core ≡ Some c → listed_named x core ≡ Some c
listed_of x core c o found =
    (view_of_changed all (named x) (is_open_named x) (λ z. z) core.connections c (o.names x) (λ z t. refl) (λ z. refl) found
    (right_true (live c) (named x c) (found_passes (is_open_named x) core.connections c found))).0

put_by : (bytes : List ℕ) (o p : Option Connection) (c d : Connection) → Shuts bytes o p → o ≡ Some c → p ≡ Some d → live d ≡ true →
    d.pending ≡ c.pending ++ bytes
put_by bytes o None c d nobody before after lives = absurd (some_none d (sym after))
put_by bytes None (Some e) c d shuts before after lives = elim shuts [ ]
put_by bytes (Some b) (Some e) c d (stays_open f g h) before after lives =
    ap (λ (z : Connection). z.pending) (sym (same_some e d after)) ∙ h ∙ ap (λ (z : Connection). z.pending ++ bytes) (same_some b c before)
put_by bytes (Some b) (Some e) c d (is_shut front f g h i) before after lives = absurd (both_ways (live d) (ap live (sym (same_some e d after)) ∙ g) lives)
put_by bytes (Some b) (Some e) c d (was_shut f g h) before after lives = absurd (both_ways (live d) (ap live (sym (same_some e d after)) ∙ g) lives)

lossy_puts : (core : CoreState) (outcome : StepOutcome) (m : NodeMoveOrLost core outcome) → IsOrderly core → IsOrderly outcome.core → Loses m → (x : ConnectionName) (c d : Connection) →
    open_named x core ≡ Some c → open_named x outcome.core ≡ Some d → d.pending ≡ c.pending ++ sent_in x m
lossy_puts core outcome m o later may x c d before after =
    put_by (sent_in x m) (listed_named x core) (listed_named x outcome.core) c d (lossy_shuts core outcome m o x may) (listed_of x core c o before)
    (listed_of x outcome.core d later after) (left_true (live d) (named x d) (found_passes (is_open_named x) outcome.core.connections d after))

later_orderly : (core : CoreState) (outcome : StepOutcome) (m : NodeMoveOrLost core outcome) → IsOrderly core → IsOrderly outcome.core
later_orderly core outcome m o = (losses_read_in_order core outcome m o).0

abbrev lost_puts : (core : CoreState) (outcome : StepOutcome) (m : NodeMoveOrLost core outcome) → IsOrderly core → Loses m → (x : ConnectionName) (c d : Connection) →
    open_named x core ≡ Some c → open_named x outcome.core ≡ Some d → d.pending ≡ c.pending ++ sent_in x m
lost_puts core outcome m o may x c d before after = lossy_puts core outcome m o (later_orderly core outcome m o) may x c d before after

pub losses_put_in_order : LossesPutInOrder
losses_put_in_order core outcome (exactly m) o no_hand x c d before after = puts_in_order core outcome m o no_hand x c d before after
losses_put_in_order core outcome (hears_losing input account other drives) o no_hand x c d before after = lost_puts core outcome (hears_losing input account other drives) o tt x c d before after
losses_put_in_order core outcome (first_losing now port b connect rest account at first is taken) o no_hand x c d before after = lost_puts core outcome (first_losing now port b connect rest account at first is taken) o tt x c d before after
losses_put_in_order core outcome (later_losing now port b packet rest account at later is taken) o no_hand x c d before after = lost_puts core outcome (later_losing now port b packet rest account at later is taken) o tt x c d before after
losses_put_in_order core outcome (tells_losing name account taken) o no_hand x c d before after = lost_puts core outcome (tells_losing name account taken) o tt x c d before after
losses_put_in_order core outcome (expels_losing client account taken) o no_hand x c d before after = lost_puts core outcome (expels_losing client account taken) o tt x c d before after
losses_put_in_order core outcome forgets o no_hand x c d before after = lost_puts core outcome forgets o tt x c d before after
losses_put_in_order core outcome halts o no_hand x c d before after = lost_puts core outcome halts o tt x c d before after
losses_put_in_order core outcome (fails port) o no_hand x c d before after = lost_puts core outcome (fails port) o tt x c d before after
losses_put_in_order core outcome unheard o no_hand x c d before after = lost_puts core outcome unheard o tt x c d before after
losses_put_in_order core outcome (drops port piece) o no_hand x c d before after = lost_puts core outcome (drops port piece) o tt x c d before after
