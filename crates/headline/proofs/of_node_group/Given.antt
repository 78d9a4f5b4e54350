-- A name that a node gave stays given, whatever it does.
use Rattle.std.proofs.Common.{◌≡◌, Bool, true, false, not, ◌&&◌, if◌then◌else◌, [], ◌∷◌, ◌++◌, refl, sym, ◌∙◌, subst}
use Rattle.std.specs.List.{list_any}
use Rattle.broker_spec.specs.declared.command.Command.{Command}
use Rattle.broker_spec.specs.declared.command.Command.TheVariants as commands
use Rattle.broker_spec.specs.Connection.{ConnectionName, is_connection_name}
use Rattle.world_base.specs.declared.node_connections.port.Port.{Port}
use Rattle.world_base.specs.declared.node_connections.connection.Connection.{Connection}
use Rattle.world_base.specs.node_connections.Connections.{fresh, is_at}
use Rattle.world_base.specs.node_connections.ConnectionChanges.{noted_proposed, closed_connection, failing, left_with}
use Rattle.world_base.specs.node_core.Core.{CoreState, StepOutcome, serves}
use Rattle.world_base.specs.node_core.FailedConnections.{closes_failed}
use Rattle.world_base.specs.node_core.Lossy.{Account, TakesCommand}
use Rattle.world_base.specs.node_core.PacketInput.{changes}
use Rattle.world_base.specs.node_core.Step.{next_name, with_next_connection}
use Rattle.world_base.specs.node_core.Effects.{proposes}
use Rattle.headline.specs.node_moves.Ends.{IsGiven, IsOrderly}
use Rattle.headline.specs.node_moves.LossyMoves.{NodeMoveOrLost}
use Rattle.headline.specs.node_moves.LossyMoves.NodeMoveOrLost.{exactly, hears_losing, first_losing, later_losing, tells_losing, expels_losing, forgets, halts, fails, unheard, drops}
use Rattle.headline.specs.node_moves.Moves.{NodeMove}
use Rattle.headline.specs.node_moves.Moves.NodeMove.{hears, opens_one, holds, reads_first, reads_later, closes, refuses, loses_one, loses_next, expels_one, cuts_log, crashes, settles, hands}
use Rattle.headline.proofs.of_node_moves.Kept.{stays_crashed, stays_cut, stays_driven, stays_failed, stays_handed, stays_proposed, stays_settled}
use Rattle.headline.proofs.of_node_moves.LossyReads.{stays_drives, stays_takes}
use Rattle.headline.proofs.of_node_moves.NamesInOrder.{given_later, next_precedes}
use Rattle.headline.proofs.of_node_moves.ShutByChanges.{at_orderly}

same_last : (port : Port) (f : Connection → Connection) (core : CoreState) → (changes port f core).last_name ≡ core.last_name
unfolding changes
same_last port f core = refl

-- a command is proposed after a change
after : (command : Command) (core between : CoreState) → IsOrderly between → between.last_name ≡ core.last_name → (proposes command between).core.last_name ≡ core.last_name
after command core between o same = (stays_proposed command between o).last ∙ same

by_same : (x : ConnectionName) (core later : CoreState) → later.last_name ≡ core.last_name → IsGiven core.last_name x → IsGiven later.last_name x
by_same x core later same given = subst (λ (y : ConnectionName). IsGiven y x) (sym same) given

opened_given : (x : ConnectionName) (port : Port) (core : CoreState) → IsOrderly core → IsGiven core.last_name x → IsGiven (with_next_connection port core).last_name x
unfolding with_next_connection
opened_given x port core o given = by ((serves core && not (list_any (is_at port) core.connections)) && is_connection_name (next_name core))
  where
    by : (b : Bool)
        → IsGiven (let k : CoreState = if b then record core { last_name = next_name core; connections = core.connections ++ fresh port (next_name core) ∷ [] } else core in k).last_name x
    by true = given_later core.last_name (next_name core) x (next_precedes core o.within) given
    by false = given

exactly_given : (x : ConnectionName) (core : CoreState) (outcome : StepOutcome) (m : NodeMove core outcome) → IsOrderly core → IsGiven core.last_name x → IsGiven outcome.core.last_name x
exactly_given x core outcome (hears input other) o given = by_same x core outcome.core (stays_driven input core o).last given
exactly_given x core outcome (opens_one port) o given = opened_given x port core o given
exactly_given x core outcome (holds port piece) o given = by_same x core outcome.core (same_last port _ core) given
exactly_given x core outcome (reads_first now port c connect rest at first is room) o given =
    let left : CoreState = changes port (left_with now rest) core in
    by_same x core outcome.core
    (after _ core (changes port (noted_proposed connect.keep_alive) left) (at_orderly port (noted_proposed connect.keep_alive) left (at_orderly port (left_with now rest) core o (λ d. refl)) (λ d. refl))
    (same_last port (noted_proposed connect.keep_alive) left ∙ same_last port (left_with now rest) core)) given
exactly_given x core outcome (reads_later now port c packet rest at later is room) o given =
    by_same x core outcome.core
    (after _ core (changes port (left_with now rest) core) (at_orderly port (left_with now rest) core o (λ d. refl)) (same_last port (left_with now rest) core)) given
exactly_given x core outcome (closes port) o given = by_same x core outcome.core (same_last port closed_connection core) given
exactly_given x core outcome (refuses port c code at first is) o given = by_same x core outcome.core (same_last port _ core) given
exactly_given x core outcome (loses_one port c at asked_before) o given =
    by_same x core outcome.core (after (commands.Lost c.name) core (changes port closed_connection core) (at_orderly port closed_connection core o (λ d. refl)) (same_last port closed_connection core)) given
exactly_given x core outcome (loses_next c at) o given =
    by_same x core outcome.core (after (commands.Lost c.name) core (closes_failed core) (stays_failed core o).orderly refl) given
exactly_given x core outcome (expels_one client) o given = by_same x core outcome.core (after (commands.Expel client) core core o refl) given
exactly_given x core outcome (cuts_log can) o given = by_same x core outcome.core (stays_cut core o).last given
exactly_given x core outcome crashes o given = by_same x core outcome.core (stays_crashed core o).last given
exactly_given x core outcome settles o given = by_same x core outcome.core (stays_settled core o).last given
exactly_given x core outcome (hands port) o given = by_same x core outcome.core (stays_handed port core o).last given

-- .. if a command is taken after a change
taken_last : (command : Command) (core between : CoreState) (account : Account) → IsOrderly between → between.last_name ≡ core.last_name → TakesCommand command between account
    → account.core.last_name ≡ core.last_name
taken_last command core between account o same taken = (stays_takes command between account taken o).last ∙ same

pub stays_given : (x : ConnectionName) (core : CoreState) (outcome : StepOutcome) (m : NodeMoveOrLost core outcome) → IsOrderly core → IsGiven core.last_name x → IsGiven outcome.core.last_name x
stays_given x core outcome (exactly m) o given = exactly_given x core outcome m o given
stays_given x core outcome (hears_losing input account other drives_so) o given = by_same x core outcome.core (stays_drives input core account drives_so o).last given
stays_given x core outcome (first_losing now port c connect rest account at first is taken) o given =
    let left : CoreState = changes port (left_with now rest) core in
    by_same x core outcome.core
    (taken_last _ core (changes port (noted_proposed connect.keep_alive) left) account (at_orderly port (noted_proposed connect.keep_alive) left (at_orderly port (left_with now rest) core o (λ d. refl)) (λ d. refl))
    (same_last port (noted_proposed connect.keep_alive) left ∙ same_last port (left_with now rest) core) taken) given
stays_given x core outcome (later_losing now port c packet rest account at later is taken) o given =
    by_same x core outcome.core
    (taken_last _ core (changes port (left_with now rest) core) account (at_orderly port (left_with now rest) core o (λ d. refl)) (same_last port (left_with now rest) core) taken) given
stays_given x core outcome (tells_losing name account taken) o given = by_same x core outcome.core (taken_last _ core core account o refl taken) given
stays_given x core outcome (expels_losing client account taken) o given = by_same x core outcome.core (taken_last _ core core account o refl taken) given
stays_given x core outcome forgets o given = given
stays_given x core outcome halts o given = given
stays_given x core outcome (fails port) o given = by_same x core outcome.core (same_last port failing core) given
stays_given x core outcome unheard o given = by_same x core outcome.core (stays_failed core o).last given
stays_given x core outcome (drops port piece) o given = by_same x core outcome.core (same_last port closed_connection core) given
