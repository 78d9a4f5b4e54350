-- A node that has a connection of a name led the ballot of the name, so there is only one such
-- node.
use Rattle.std.proofs.Common.{◌≡◌, ◌⊎◌, inl, inr, ℕ, List, [], ◌∷◌, Option, Some, None, slice_get, refl, sym, ap, ◌∙◌, subst}
use Rattle.std.specs.List.{find}
use Rattle.lists.specs.Lists.{In}
use Rattle.lists.specs.Lists.In.{here, there}
use Rattle.ballot_base.specs.declared.config.Config.{Config}
use Rattle.ballot_base.specs.Losses.{Thinned}
use Rattle.broker_base.specs.State.{State}
use Rattle.broker_spec.specs.declared.command.Command.{Command}
use Rattle.broker_spec.specs.declared.command.Output.{Output}
use Rattle.broker_spec.specs.Connection.{ConnectionName}
use Rattle.agreement.specs.MasterState.{refusal}
use Rattle.agreement.specs.cut_logs.Moments.{Moment, Moments}
use Rattle.agreement.proofs.of_cut_logs.MomentsAgree.{one_primary_a_ballot}
use Rattle.world_base.specs.declared.node_connections.connection.Connection.{Connection}
use Rattle.world_base.specs.node_core.Core.{CoreState, StepOutcome, rules}
use Rattle.world_base.specs.node_core.Effects.{without_messages}
use Rattle.headline.specs.node_moves.Closed.{listed_named}
use Rattle.headline.specs.node_moves.Ends.{IsOrderly}
use Rattle.headline.specs.node_moves.LossyMoves.{NodeMoveOrLost}
use Rattle.headline.specs.node_moves.LossyParts.{move_effects, inputs_in}
use Rattle.headline.specs.node_moves.LossyRuns.{AllFreeze, CutsThaw, MoveTraceOrLost, all_inputs}
use Rattle.headline.specs.node_moves.LossyRuns.MoveTraceOrLost.{rests, goes_on}
use Rattle.headline.proofs.of_node_moves.Kept.{named}
use Rattle.headline.proofs.of_node_moves.LossyClosed.{lossy_names_are_of_the_ballot}
use Rattle.headline.proofs.of_node_moves.LossyReads.{losses_read_in_order}
use Rattle.headline.proofs.of_node_moves.Views.{some_none}
use Rattle.headline.specs.byte_world.Apart.{HasName, NamesStayApart}
use Rattle.headline.specs.node_group.Group.{Group, group_after_outcome, moment_of_nodes, opening_cores, with_record}
use Rattle.headline.specs.node_group.Proposals.{recorded_in as recorded_exactly}
use Rattle.headline.specs.node_group.Steps.{GroupStep, GroupTrace, groups_on_trace, with_messages, put_in_step}
use Rattle.headline.specs.node_group.Losses.{WereSent, all_given, put_in_move, put_in_run, recorded_by, recorded_in}
use Rattle.headline.specs.node_group.Steps.GroupStep.{node_acts, node_loses, master_assigns as assigns, master_hears as hears_master, assigns_unheard, answers_unheard}
use Rattle.headline.specs.node_group.Steps.GroupTrace.{opened, then_went}
use Rattle.headline.proofs.of_node_group.GroupsHaveMoments.{goes_on as step_goes_on, groups_have_moments}
use Rattle.headline.proofs.of_node_group.LosingNone.{frozen_losing, losing_none, same_given, same_put, same_recorded, sent_losing}
use Rattle.headline.proofs.of_node_group.LossesHappen.{losses_happen}
use Rattle.headline.proofs.of_node_group.MovesHappen.{Further, unchanged}
use Rattle.headline.proofs.of_node_group.NamesInGroups.{all_well, each_got}
use Rattle.headline.proofs.of_node_group.Placed.{get_of_set}
use Rattle.headline.proofs.of_node_group.RunsHappen.{both, kept_turns, were_both, were_still}
use Rattle.headline.proofs.of_node_group.Thinning.{Given, all_kept, kept_of_both, nothing_kept}
use Rattle.headline.proofs.of_node_group.CarriedInOrder.{assigned_nodes, no_connections}
use Rattle.headline.proofs.of_node_group.RunsKeep.{same_group}
use Rattle.headline.proofs.of_node_group.States.{Led, leads_now, set_back}

-- ---- each node led the ballots of the names that it has

abbrev AreLed : Group → List (Moment State Command Output) → Type 0
AreLed g moments = (x : ConnectionName) (n : ℕ) → HasName x g n → Led moments n x.ballot

led_later : {moments more : List (Moment State Command Output)} {n ballot : ℕ} → ((z : Moment State Command Output) → In z moments → In z more) → Led moments n ballot
    → Led more n ballot
led_later kept led = record { moment = led.moment; among = kept led.moment led.among; primary = led.primary }

record LedOn {config : Config} (g : Group) {earlier : List (Moment State Command Output)} (came : Moments rules config (moment_of_nodes g ∷ earlier)) (h : Group) (put : List (ℕ × Command)) : Type 0 where
  further : Further came (moment_of_nodes h) put
  led : AreLed g (moment_of_nodes g ∷ earlier) → AreLed h (moment_of_nodes h ∷ further.before)

move_led : {config : Config} (g : Group) (n : ℕ) (core : CoreState) (outcome : StepOutcome) (m : NodeMoveOrLost core outcome) (kept : Given) → slice_get g.nodes n ≡ Some core → WereSent g n (inputs_in m)
    → CutsThaw m → Thinned kept outcome.messages → IsOrderly core → {earlier : List (Moment State Command Output)} (came : Moments rules config (moment_of_nodes g ∷ earlier))
    → LedOn g came (group_after_outcome (with_record g (recorded_by g.archive m)) n (with_messages kept outcome) (move_effects m)) (put_in_move m)
move_led {config = config} g n core outcome m kept at sent frozen t o {earlier = earlier} came =
    let f = (losses_happen g n core outcome m kept at sent frozen t config earlier came).further in
    record { further = f; led = λ before x k has. led_later f.kept (on before x k has (set_back g.nodes n k outcome.core has.core has.stands)) }
  where
    here_now : AreLed g (moment_of_nodes g ∷ earlier) → (x : ConnectionName) (d : Connection) → listed_named x outcome.core ≡ Some d → (before : Option Connection) → listed_named x core ≡ before
        → Led (moment_of_nodes g ∷ earlier) n x.ballot
    here_now before x d now None none = leads_now g n core x earlier at (lossy_names_are_of_the_ballot core outcome m o x d none now)
    here_now before x d now (Some c) was = before x n (record { core = core; stands = at; connection = c; listed = was })

    on : AreLed g (moment_of_nodes g ∷ earlier) → (x : ConnectionName) (k : ℕ) (has : HasName x (group_after_outcome (with_record g (recorded_by g.archive m)) n (with_messages kept outcome) (move_effects m)) k)
        → ((k ≡ n) × (has.core ≡ outcome.core)) ⊎ (slice_get g.nodes k ≡ Some has.core) → Led (moment_of_nodes g ∷ earlier) k x.ballot
    on before x k has (inl (same, is)) =
        subst (λ i. Led (moment_of_nodes g ∷ earlier) i x.ballot) (sym same)
        (here_now before x has.connection (ap (listed_named x) (sym is) ∙ has.listed) (listed_named x core) refl)
    on before x k has (inr stood) = before x k (record { core = has.core; stands = stood; connection = has.connection; listed = has.listed })

run_led : {config : Config} (g : Group) (n : ℕ) (core : CoreState) (outcome : StepOutcome) (run : MoveTraceOrLost core outcome) (kept : Given) → IsOrderly core → slice_get g.nodes n ≡ Some core
    → WereSent g n (all_inputs run) → AllFreeze run → Thinned kept outcome.messages → {earlier : List (Moment State Command Output)} (came : Moments rules config (moment_of_nodes g ∷ earlier))
    → LedOn g came (group_after_outcome (with_record g (recorded_in g.archive run)) n (with_messages kept outcome) (all_given run)) (put_in_run run)
run_led g n core outcome rests kept o at sent frozen t came =
    subst (λ (h : Group). LedOn g came h [])
    (same_group g n core at ∙ ap (λ (l : Given). group_after_outcome g n (with_messages l (without_messages core)) []) (sym (nothing_kept kept t))) (record { further = unchanged came; led = λ before. before })
run_led g n core outcome (goes_on {first = first} {next = next} m run) kept o at sent frozen t came =
    let k = kept_of_both first.messages next.messages kept t in
    let s = were_both g n (inputs_in m) (all_inputs run) sent in
    let one : StepOutcome = with_messages k.front first in
    let step = move_led g n core first m k.front at s.0 frozen.0 k.first o came in
    let after : Group = group_after_outcome (with_record g (recorded_by g.archive m)) n one (move_effects m) in
    let rest = subst (λ (h : Group). LedOn after step.further.moments h (put_in_run run)) (kept_turns (with_record g (recorded_in (recorded_by g.archive m) run)) n first next (move_effects m) (all_given run) kept k)
    (run_led after n first.core next run k.rest (losses_read_in_order core first m o).0 (get_of_set g.nodes n core first.core at)
    (were_still g (recorded_by g.archive m) n one (move_effects m) (all_inputs run) s.1) frozen.1 k.next step.further.moments) in
    record { further = both came (put_in_move m) (put_in_run run) step.further rest.further; led = λ before. rest.led (step.led before) }

-- ---- groups

nodes_led : {moments more : List (Moment State Command Output)} (g h : Group) → h.nodes ≡ g.nodes → ((z : Moment State Command Output) → In z moments → In z more) → AreLed g moments
    → AreLed h more
nodes_led g h same kept before x n has =
    led_later kept (before x n (record { core = has.core; stands = ap (λ l. slice_get l n) (sym same) ∙ has.stands; connection = has.connection; listed = has.listed }))

step_led : {nodes : ℕ} {config : Config} (g h : Group) → GroupTrace nodes config g → (step : GroupStep g h) → {earlier : List (Moment State Command Output)}
    (came : Moments rules config (moment_of_nodes g ∷ earlier)) → LedOn g came h (put_in_step step)
step_led {nodes = nodes} {config = config} g h went (node_acts n core node_call outcome run at is first sent) came =
    subst (λ l. LedOn g came h l) (same_put run)
    (subst (λ l. LedOn g came (group_after_outcome (with_record g (recorded_exactly g.archive run)) n outcome l) (put_in_run (losing_none run))) (same_given run)
    (subst (λ us. LedOn g came (group_after_outcome (with_record g us) n outcome (all_given (losing_none run))) (put_in_run (losing_none run))) (same_recorded g.archive run)
    (run_led g n core outcome (losing_none run) outcome.messages (each_got _ g.nodes n core (all_well nodes config g went).0 at).orderly at (sent_losing g n run sent)
    (frozen_losing g n run sent) (all_kept outcome.messages) came)))
step_led {nodes = nodes} {config = config} g h went (node_loses n core item outcome kept by at runs sent thinned) came =
    run_led g n core outcome by.run kept (each_got _ g.nodes n core (all_well nodes config g went).0 at).orderly at (subst (WereSent g n) (sym by.hears) sent) by.freezes thinned came
step_led {config = config} g h went (assigns wanted) {earlier = earlier} came =
    let f = step_goes_on config g h (assigns wanted) earlier came in
    record { further = f; led = nodes_led g h (assigned_nodes g wanted (refusal g.master wanted)) f.kept }
step_led {config = config} g h went (hears_master from ballot sent) {earlier = earlier} came =
    let f = step_goes_on config g h (hears_master from ballot sent) earlier came in
    record { further = f; led = nodes_led g h refl f.kept }
step_led {config = config} g h went (assigns_unheard wanted) {earlier = earlier} came =
    let f = step_goes_on config g h (assigns_unheard wanted) earlier came in
    record { further = f; led = nodes_led g h refl f.kept }
step_led {config = config} g h went (answers_unheard from ballot sent) {earlier = earlier} came =
    let f = step_goes_on config g h (answers_unheard from ballot sent) earlier came in
    record { further = f; led = nodes_led g h refl f.kept }

-- the moments of the group, and at them each earlier group's nodes led the ballots of their names
record SoFar {nodes : ℕ} {config : Config} {g : Group} (went : GroupTrace nodes config g) : Type 0 where
  earlier : List (Moment State Command Output)
  moments : Moments rules config (moment_of_nodes g ∷ earlier)
  now : AreLed g (moment_of_nodes g ∷ earlier)
  ever : (e : Group) → In e (groups_on_trace went) → AreLed e (moment_of_nodes g ∷ earlier)

names_so_far : {nodes : ℕ} {config : Config} {g : Group} (went : GroupTrace nodes config g) → SoFar went
names_so_far {nodes = nodes} {config = config} {g = g} (opened greatest can) =
    let of = groups_have_moments nodes config g (opened greatest can) in
    record { earlier = of.earlier; moments = of.moments; now = none (moment_of_nodes g ∷ of.earlier); ever = λ e i. only e i (moment_of_nodes g ∷ of.earlier) }
  where
    none : (moments : List (Moment State Command Output)) → AreLed g moments
    none moments x n has =
        absurd (some_none has.connection (sym has.listed
        ∙ ap (find (named x)) (each_got (λ (c : CoreState). c.connections ≡ []) (opening_cores nodes config) n has.core (no_connections nodes config) has.stands)))

    only : (e : Group) → In e (g ∷ []) → (moments : List (Moment State Command Output)) → AreLed e moments
    only e here moments = none moments
    only e (there i) moments = elim i [ ]
names_so_far {g = h} (then_went {group = g} went step) =
    let before = names_so_far went in
    let s = step_led g h went step before.moments in
    let now = s.led before.now in
    record { earlier = s.further.before; moments = s.further.moments; now = now; ever = λ e i. by e i now (λ j x n has. led_later s.further.kept (before.ever e j x n has)) }
  where
    by : (e : Group) → In e (h ∷ groups_on_trace went) → {moments : List (Moment State Command Output)} → AreLed h moments → (In e (groups_on_trace went) → AreLed e moments) → AreLed e moments
    by e here now before = now
    by e (there i) now before = before i

pub names_stay_apart : NamesStayApart
names_stay_apart nodes config g went x e h m n i j first other =
    let s = names_so_far went in
    let a = s.ever e i x m first in
    let b = s.ever h j x n other in
    one_primary_a_ballot rules config (moment_of_nodes g) s.earlier s.moments a.moment b.moment m n x.ballot a.among b.among a.primary b.primary
