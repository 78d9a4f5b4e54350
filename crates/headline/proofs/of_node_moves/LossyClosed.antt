-- If memory may run out nothing more is queued on a connection that is closed, and new ones have a
-- name of the ballot.
use Rattle.std.proofs.Common.{◌≡◌, true, Option, Some, None, refl, sym, ap, ◌∙◌}
use Rattle.std.proofs.lemmas.Bool.{both_ways}
use Rattle.broker_spec.specs.Connection.{ConnectionName}
use Rattle.world_base.specs.declared.node_connections.connection.Connection.{Connection}
use Rattle.world_base.specs.node_connections.Connections.{is_closed}
use Rattle.world_base.specs.node_core.Core.{CoreState, StepOutcome}
use Rattle.headline.specs.node_moves.Closed.{listed_named}
use Rattle.headline.specs.node_moves.Closed.{IsExactlyClosedBy}
use Rattle.headline.specs.node_moves.Closed.IsExactlyClosedBy.{was_closed as exact_was, closes_now as exact_now}
use Rattle.headline.specs.node_moves.Ends.{IsOrderly}
use Rattle.headline.specs.node_moves.LossyTheorems.{IsClosedBy, LossesPutNothingOnClosed}
use Rattle.headline.specs.node_moves.LossyNames.{LossyNamesAreOfTheBallot}
use Rattle.headline.specs.node_moves.LossyTheorems.IsClosedBy.{was_closed, closes_now}
use Rattle.headline.specs.node_moves.LossyMoves.{NodeMoveOrLost}
use Rattle.headline.specs.node_moves.LossyMoves.NodeMoveOrLost.{exactly, hears_losing, first_losing, later_losing, tells_losing, expels_losing, forgets, halts, fails, unheard, drops}
use Rattle.headline.specs.node_moves.Moves.{NodeMove}
use Rattle.headline.proofs.of_node_moves.Kept.{live}
use Rattle.headline.proofs.of_node_moves.LossyShuts.{Loses, lossy_shuts, sent_in}
use Rattle.headline.proofs.of_node_moves.NewNames.{new_names_are_of_the_ballot, stays_away}
use Rattle.headline.proofs.of_node_moves.NothingOnClosed.{nothing_on_closed, open_if, over_if}
use Rattle.headline.proofs.of_node_moves.Shut.{Shuts, listed_open}
use Rattle.headline.proofs.of_node_moves.Shut.Shuts.{nobody, stays_open, is_shut, was_shut}
use Rattle.headline.proofs.of_node_moves.Views.{same_some}

-- ---- nothing more is queued

closed_by : (x : ConnectionName) (core : CoreState) (outcome : StepOutcome) (m : NodeMoveOrLost core outcome) (d : Connection) (o p : Option Connection) → Shuts (sent_in x m) o p
    → listed_named x core ≡ o → p ≡ Some d → is_closed d.stage ≡ true → IsClosedBy x m d
closed_by x core outcome m d o None nobody before after over = cc
closed_by x core outcome m d None (Some e) shuts before after over = elim shuts [ ]
closed_by x core outcome m d (Some c) (Some e) (stays_open a b pending) before after over =
    let same = same_some e d after in absurd (both_ways (is_closed d.stage) (open_if (is_closed d.stage) (sym (ap live same) ∙ b)) over)
closed_by x core outcome m d (Some c) (Some e) (is_shut front a b pending short) before after over =
    closes_now c front (listed_open x core.connections c before a) (sym (ap (λ (z : Connection). z.pending) (same_some e d after)) ∙ pending) short
closed_by x core outcome m d (Some c) (Some e) (was_shut a b pending) before after over =
    was_closed c before (over_if (is_closed c.stage) a) (sym (ap (λ (z : Connection). z.pending) (same_some e d after)) ∙ pending)

exactly_so : (x : ConnectionName) (core : CoreState) (outcome : StepOutcome) (m : NodeMove core outcome) (d : Connection) → IsExactlyClosedBy x m d →
    IsClosedBy x (let k : NodeMoveOrLost core outcome = exactly m in k) d
exactly_so x core outcome m d (exact_was c there over pending) = was_closed c there over pending
exactly_so x core outcome m d (exact_now c front there pending short) = closes_now c front there pending short

lost_closed : (core : CoreState) (outcome : StepOutcome) (m : NodeMoveOrLost core outcome) → IsOrderly core → Loses m → (x : ConnectionName) (d : Connection) →
    listed_named x outcome.core ≡ Some d → is_closed d.stage ≡ true → IsClosedBy x m d
lost_closed core outcome m o may x d there over =
    closed_by x core outcome m d (listed_named x core) (listed_named x outcome.core) (lossy_shuts core outcome m o x may) refl there over

pub losses_put_nothing_on_closed : LossesPutNothingOnClosed
losses_put_nothing_on_closed core outcome (exactly m) o x d there over = exactly_so x core outcome m d (nothing_on_closed core outcome m o x d there over)
losses_put_nothing_on_closed core outcome (hears_losing input account other drives) o x d there over =
    lost_closed core outcome (hears_losing input account other drives) o tt x d there over
losses_put_nothing_on_closed core outcome (first_losing now port c connect rest account at first is taken) o x d there over =
    lost_closed core outcome (first_losing now port c connect rest account at first is taken) o tt x d there over
losses_put_nothing_on_closed core outcome (later_losing now port c packet rest account at later is taken) o x d there over =
    lost_closed core outcome (later_losing now port c packet rest account at later is taken) o tt x d there over
losses_put_nothing_on_closed core outcome (tells_losing name account taken) o x d there over = lost_closed core outcome (tells_losing name account taken) o tt x d there over
losses_put_nothing_on_closed core outcome (expels_losing client account taken) o x d there over = lost_closed core outcome (expels_losing client account taken) o tt x d there over
losses_put_nothing_on_closed core outcome forgets o x d there over = lost_closed core outcome forgets o tt x d there over
losses_put_nothing_on_closed core outcome halts o x d there over = lost_closed core outcome halts o tt x d there over
losses_put_nothing_on_closed core outcome (fails port) o x d there over = lost_closed core outcome (fails port) o tt x d there over
losses_put_nothing_on_closed core outcome unheard o x d there over = lost_closed core outcome unheard o tt x d there over
losses_put_nothing_on_closed core outcome (drops port piece) o x d there over = lost_closed core outcome (drops port piece) o tt x d there over

-- ---- new names

none_comes : (core : CoreState) (outcome : StepOutcome) (m : NodeMoveOrLost core outcome) → IsOrderly core → Loses m → (x : ConnectionName) (d : Connection) →
    listed_named x core ≡ None → listed_named x outcome.core ≡ Some d → ⊥
none_comes core outcome m o may x d none there =
    stays_away (sent_in x m) (listed_named x core) (listed_named x outcome.core) d (lossy_shuts core outcome m o x may) none there

pub lossy_names_are_of_the_ballot : LossyNamesAreOfTheBallot
lossy_names_are_of_the_ballot core outcome (exactly m) o x d none there = new_names_are_of_the_ballot core outcome m o x d none there
lossy_names_are_of_the_ballot core outcome (hears_losing input account other drives) o x d none there =
    absurd (none_comes core outcome (hears_losing input account other drives) o tt x d none there)
lossy_names_are_of_the_ballot core outcome (first_losing now port c connect rest account at first is taken) o x d none there =
    absurd (none_comes core outcome (first_losing now port c connect rest account at first is taken) o tt x d none there)
lossy_names_are_of_the_ballot core outcome (later_losing now port c packet rest account at later is taken) o x d none there =
    absurd (none_comes core outcome (later_losing now port c packet rest account at later is taken) o tt x d none there)
lossy_names_are_of_the_ballot core outcome (tells_losing name account taken) o x d none there = absurd (none_comes core outcome (tells_losing name account taken) o tt x d none there)
lossy_names_are_of_the_ballot core outcome (expels_losing client account taken) o x d none there = absurd (none_comes core outcome (expels_losing client account taken) o tt x d none there)
lossy_names_are_of_the_ballot core outcome forgets o x d none there = absurd (none_comes core outcome forgets o tt x d none there)
lossy_names_are_of_the_ballot core outcome halts o x d none there = absurd (none_comes core outcome halts o tt x d none there)
lossy_names_are_of_the_ballot core outcome (fails port) o x d none there = absurd (none_comes core outcome (fails port) o tt x d none there)
lossy_names_are_of_the_ballot core outcome unheard o x d none there = absurd (none_comes core outcome unheard o tt x d none there)
lossy_names_are_of_the_ballot core outcome (drops port piece) o x d none there = absurd (none_comes core outcome (drops port piece) o tt x d none there)
