-- The replicas of a group went through moments.
use Rattle.std.proofs.Common.{◌≡◌, ℕ, List, [], ◌∷◌, ◌++◌, Option, Some, None, refl, sym, ap, ◌∙◌, subst}
use Rattle.lists.specs.Lists.{Each, In}
use Rattle.lists.specs.Lists.In.{here}
use Rattle.ballot_base.specs.declared.config.Config.{Config}
use Rattle.broker_base.specs.State.{State}
use Rattle.broker_spec.specs.declared.command.Command.{Command}
use Rattle.broker_spec.specs.declared.command.Output.{Output}
use Rattle.agreement.specs.MasterState.{AssignRefusal, MasterState, master_after, opening_master, refusal}
use Rattle.agreement.specs.cut_logs.Moments.{Moment, Moments, opening_moment}
use Rattle.agreement.specs.cut_logs.Moments.Moments.{began}
use Rattle.agreement.specs.cut_logs.Steps.{world_after}
use Rattle.agreement.specs.cut_logs.Steps.MayHappen.{master_assigns, master_hears, assignment_lost, answer_lost}
use Rattle.agreement.specs.cut_logs.World.{CutGroupWorld}
use Rattle.world_base.specs.node_core.Core.{rules}
use Rattle.headline.specs.node_group.Group.{Group, group_after_outcome, moment_of_nodes, opening_group, with_master, with_record}
use Rattle.headline.specs.node_group.Steps.{GroupStep, all_given, all_proposed, after_assign, groups_on_trace, put_in_step}
use Rattle.headline.specs.node_group.Steps.GroupStep.{node_acts, node_loses, master_assigns as assigns, master_hears as hears_master, assigns_unheard, answers_unheard}
use Rattle.headline.specs.node_group.Steps.GroupTrace.{opened, then_went}
use Rattle.headline.specs.node_group.Losses.{WereSent}
use Rattle.headline.specs.node_group.Losses.{all_given as given_losing, put_in_run as put_losing}
use Rattle.headline.specs.node_group.Proposals.{recorded_in}
use Rattle.headline.specs.node_group.GroupMoments.{GroupsHaveMoments, packets_in}
use Rattle.headline.proofs.of_node_group.LosingNone.{frozen_losing, losing_none, same_given, same_put, same_recorded, sent_losing}
use Rattle.headline.proofs.of_node_group.MovesHappen.{Further, by_event}
use Rattle.headline.proofs.of_node_group.RunsHappen.{runs_happen}
use Rattle.headline.proofs.of_node_group.Packets.{packets_join}
use Rattle.headline.proofs.of_node_group.Placed.{opened_replicas}
use Rattle.headline.proofs.of_node_group.Thinning.{all_kept}

abbrev at_moment : MasterState → CutGroupWorld State Command Output → Moment State Command Output
at_moment m w = record { master = m; world = w }

opens_as : (greatest nodes : ℕ) (config : Config) → moment_of_nodes (opening_group greatest nodes config) ≡ opening_moment rules greatest nodes config
opens_as greatest nodes config =
    ap (λ l. at_moment (opening_master greatest config) (let w : CutGroupWorld State Command Output = record { nodes = l; sent = []; left = []; archive = [] } in w)) (opened_replicas nodes config)

assigned_as : (g : Group) (config : Config) (why : Option AssignRefusal)
    → at_moment (master_after g.master config why) (world_after g.master (moment_of_nodes g).world config why)
    ≡ moment_of_nodes (with_master (after_assign g config why) (master_after g.master config why))
assigned_as g config (Some why) = refl
assigned_as g config None = refl

pub goes_on : (config : Config) (g h : Group) (step : GroupStep g h) (earlier : List (Moment State Command Output)) (came : Moments rules config (moment_of_nodes g ∷ earlier))
    → Further came (moment_of_nodes h) (put_in_step step)
goes_on config g h (node_acts n core node_call turn run at is first sent) earlier came =
    subst (λ l. Further came (moment_of_nodes (group_after_outcome (with_record g (recorded_in g.archive run)) n turn (all_given run))) l) (same_put run)
    (subst (λ l. Further came (moment_of_nodes (group_after_outcome (with_record g (recorded_in g.archive run)) n turn l)) (put_losing (losing_none run))) (same_given run)
    (subst (λ us. Further came (moment_of_nodes (group_after_outcome (with_record g us) n turn (given_losing (losing_none run)))) (put_losing (losing_none run))) (same_recorded g.archive run)
    (runs_happen g n core turn (losing_none run) turn.messages at (sent_losing g n run sent) (frozen_losing g n run sent) (all_kept turn.messages) config earlier came)))
goes_on config g h (node_loses n core item turn kept by at runs sent thinned) earlier came =
    runs_happen g n core turn by.run kept at (subst (WereSent g n) (sym by.hears) sent) by.freezes thinned config earlier came
goes_on config g h (assigns wanted) earlier came =
    subst (λ z. Further came z []) (assigned_as g wanted (refusal g.master wanted))
    (by_event came _ (master_assigns wanted) [] 0 [] refl (λ x. refl) refl).further
goes_on config g h (hears_master from ballot sent) earlier came =
    (by_event came _ (master_hears from ballot sent) [] 0 [] refl (λ x. refl) refl).further
goes_on config g h (assigns_unheard wanted) earlier came = (by_event came _ (assignment_lost wanted) [] 0 [] refl (λ x. refl) refl).further
goes_on config g h (answers_unheard from ballot sent) earlier came = (by_event came _ (answer_lost from ballot sent) [] 0 [] refl (λ x. refl) refl).further

pub seen_still : {old new : List (Moment State Command Output)} (groups : List Group) → ((z : Moment State Command Output) → In z old → In z new)
    → Each (λ h. In (moment_of_nodes h) old) groups → Each (λ h. In (moment_of_nodes h) new) groups
seen_still [] kept all = tt
seen_still (h ∷ groups) kept all = (kept (moment_of_nodes h) all.0, seen_still groups kept all.1)

pub groups_have_moments : GroupsHaveMoments
groups_have_moments nodes config g (opened greatest can) =
    record { earlier = []; moments = began greatest nodes can (opens_as greatest nodes config); proposed = refl; taken = λ x. refl; seen = (here, tt) }
groups_have_moments nodes config h (then_went {group = g} went step) =
    let so_far = groups_have_moments nodes config g went in
    let further = goes_on config g h step so_far.earlier so_far.moments in
    record {
      earlier = further.before;
      moments = further.moments;
      proposed = further.proposed ∙ ap (λ l. l ++ put_in_step step) so_far.proposed;
      taken = λ x.
          further.taken x ∙ ap (λ l. l ++ packets_in x (put_in_step step)) (so_far.taken x) ∙ sym (packets_join x (all_proposed went) (put_in_step step));
      seen = (here, seen_still (groups_on_trace went) further.kept so_far.seen);
    }
