-- A group carries the packets of each connection in order, both ways, by a list that only grows.
use Rattle.std.proofs.Common.{◌≡◌, ◌+◌, inl, inr, ℕ, zero, suc, true, List, [], ◌∷◌, ◌++◌, length, Option, Some, None, slice_get, refl, sym, ap, ◌∙◌, subst, append_assoc}
use Rattle.std.specs.List.{find}
use Rattle.std.proofs.lemmas.List.{append-nil}
use Rattle.packet.specs.declared.packet.Packet.{Packet}
use Rattle.ballot_base.specs.declared.config.Config.{Config}
use Rattle.ballot_base.specs.declared.message.Effect.{Effect}
use Rattle.broker_spec.specs.declared.command.Command.{Command}
use Rattle.broker_spec.specs.Connection.{ConnectionName}
use Rattle.broker_spec.specs.declared.command.Output.{Output}
use Rattle.broker_base.specs.State.{State}
use Rattle.lists.specs.Lists.{Each, In, IsPrefixOf}
use Rattle.lists.specs.Lists.In.{here}
use Rattle.lists.proofs.Prefixes.{prefix_then}
use Rattle.lists.proofs.OfEach.{each_append}
use Rattle.headline.specs.node_moves.Pipe.{Joins}
use Rattle.agreement.specs.MasterState.{AssignRefusal, master_after, refusal}
use Rattle.agreement.specs.cut_logs.Moments.{IsAgreed, Moment, Moments}
use Rattle.agreement.specs.Proposals.{commands_of as commands_in}
use Rattle.agreement.specs.World.{can_open}
use Rattle.agreement.proofs.of_cut_logs.MomentsAgree.{has_agreed}
use Rattle.world_base.specs.node_core.Core.{CoreState, opening_core, rules}
use Rattle.headline.specs.node_moves.Ends.{packet_commands_from}
use Rattle.headline.specs.node_moves.RunProposals.{bytes_on}
use Rattle.headline.specs.node_moves.ItemRuns.{came_with}
use Rattle.headline.specs.node_moves.LossyRuns.{bytes_on as bytes_losing}
use Rattle.headline.proofs.of_node_moves.Kept.{named}
use Rattle.headline.proofs.of_node_moves.ProposesInOrder.{commands_join, front_of}
use Rattle.headline.specs.node_group.Group.{Group, group_after_outcome, moment_of_nodes, opening_cores, opening_group, with_master, with_record}
use Rattle.headline.specs.node_group.Steps.{GroupStep, GroupTrace, all_proposed, after_assign, groups_on_trace, put_in_run, put_in_step}
use Rattle.headline.specs.node_group.Steps.GroupStep.{node_acts, node_loses, master_assigns, master_hears, assigns_unheard, answers_unheard}
use Rattle.headline.specs.node_group.Steps.GroupTrace.{opened, then_went}
use Rattle.headline.specs.node_group.Losses.{WereSent}
use Rattle.headline.specs.node_group.Losses.{all_given as given_losing, put_in_run as put_losing}
use Rattle.headline.specs.node_group.Proposals.{recorded_in}
use Rattle.headline.specs.node_group.Order.{packet_commands}
use Rattle.headline.specs.node_group.GroupMoments.{HasMoments}
use Rattle.headline.proofs.of_node_group.GroupsHaveMoments.{goes_on, groups_have_moments, seen_still}
use Rattle.headline.proofs.of_node_group.LosingNone.{first_still, frozen_losing, losing_none, same_bytes, same_given, same_put, same_recorded, sent_losing}
use Rattle.headline.proofs.of_node_group.MovesHappen.{Further}
use Rattle.headline.proofs.of_node_group.NamesInGroups.{IsWell, all_well, each_got}
use Rattle.headline.proofs.of_node_group.Ordered.{in_agreed}
use Rattle.headline.proofs.of_node_group.Thinning.{all_kept}
use Rattle.headline.specs.node_group.Carried.{GroupsCarryInOrder, IsCarried, answers_to}
use Rattle.headline.specs.node_group.Streams.{came_up, comes_up, goes_down, handed_in_run, went_down}
use Rattle.headline.proofs.of_node_group.Downward.{down_front, down_later}
use Rattle.headline.proofs.of_node_group.Handed.{handed_losing, none_handed, same_handed}
use Rattle.headline.proofs.of_node_group.RunsKeep.{Good, IsPut, Steps, put_further, run_steps, steps_as}
use Rattle.headline.proofs.of_node_group.States.{Stands}

-- ---- the master

-- if the nodes stay as they are
nodes_stay : {x : ConnectionName} {written : List Packet} {later : List ℕ} (g h : Group) (moments more : List (Moment State Command Output)) {put : List (ℕ × Command)} {sent : List ℕ}
    (xs ys : List Command) → h.nodes ≡ g.nodes → ((z : Moment State Command Output) → In z moments → In z more) → IsPrefixOf xs ys
    → Stands x written later g moments put sent xs → Stands x written later h more put sent ys
nodes_stay g h moments more xs ys same kept grown (inl u) =
    inl (record { nowhere = λ n core at. u.nowhere n core (ap (λ l. slice_get l n) (sym same) ∙ at); unsaid = u.unsaid; piped = u.piped; queued = u.queued })
nodes_stay g h moments more xs ys same kept grown (inr held) =
    inr (record {
      n = held.n;
      core = held.core;
      stands = ap (λ l. slice_get l held.n) same ∙ held.stands;
      led = record { moment = held.led.moment; among = kept held.led.moment held.led.among; primary = held.led.primary };
      given = held.given;
      read = held.read;
      end = held.end;
      said = held.said;
      others = λ m other at. held.others m other (ap (λ l. slice_get l m) (sym same) ∙ at);
      sent = down_later xs ys grown held.sent;
    })

master_steps : {config : Config} (g h : Group) {earlier : List (Moment State Command Output)} (came : Moments rules config (moment_of_nodes g ∷ earlier)) → h.nodes ≡ g.nodes
    → Further came (moment_of_nodes h) [] → Steps g came h [] (λ x. []) (λ x. [])
master_steps {config = config} g h {earlier = earlier} came same f =
    let xs = has_agreed rules config (moment_of_nodes g) earlier came in
    record {
      further = f;
      keeps_each = λ x written later put sent is each good ys after.
          subst (λ (l : List (ℕ × Command)). Stands x written later h (moment_of_nodes h ∷ f.before) l (sent ++ []) ys) (sym (append-nil put))
          (subst (λ (l : List ℕ). Stands x written later h (moment_of_nodes h ∷ f.before) put l ys) (sym (append-nil sent))
          (nodes_stay g h (moment_of_nodes g ∷ earlier) (moment_of_nodes h ∷ f.before) xs.0 ys same f.kept (f.grows xs.0 ys xs.1 after) (good xs.0 xs.1)));
    }

pub assigned_nodes : (g : Group) (config : Config) (why : Option AssignRefusal) → (with_master (after_assign g config why) (master_after g.master config why)).nodes ≡ g.nodes
assigned_nodes g config None = refl
assigned_nodes g config (Some why) = refl

-- ---- each step

group_steps : {config : Config} (g h : Group) (step : GroupStep g h) {earlier : List (Moment State Command Output)} (came : Moments rules config (moment_of_nodes g ∷ earlier)) → Each IsWell g.nodes
    → Steps g came h (put_in_step step) (λ x. comes_up x step) (λ x. goes_down x step)
group_steps g h (node_acts n core node_call turn run at is first sent) came well =
    let mine = each_got IsWell g.nodes n core well at in
    subst (λ (given : List (Effect Command Output)). Steps g came (group_after_outcome (with_record g (recorded_in g.archive run)) n turn given) (put_in_run run) (λ x. bytes_on x run)
    (λ x. handed_in_run x run)) (same_given run)
    (subst (λ (archive : List Command). Steps g came (group_after_outcome (with_record g archive) n turn (given_losing (losing_none run))) (put_in_run run) (λ x. bytes_on x run)
    (λ x. handed_in_run x run)) (same_recorded g.archive run)
    (steps_as came (put_losing (losing_none run)) (put_in_run run) (λ x. bytes_losing x (losing_none run)) (λ x. bytes_on x run) (λ x. handed_losing x (losing_none run))
    (λ x. handed_in_run x run) (same_put run) (λ x. same_bytes x run) (λ x. same_handed x run)
    (run_steps g n core turn (losing_none run) turn.messages (first_still run first) mine.orderly mine.names at (sent_losing g n run sent)
    (frozen_losing g n run sent) (all_kept turn.messages) came)))
group_steps g h (node_loses n core item turn kept by at runs sent thinned) came well =
    let mine = each_got IsWell g.nodes n core well at in
    steps_as came (put_losing by.run) (put_losing by.run) (λ x. bytes_losing x by.run) (λ x. came_with x item core) (λ x. handed_losing x by.run) (λ x. []) refl by.bytes
    (λ x. none_handed x by.run by.hands)
    (run_steps g n core turn by.run kept by.first mine.orderly mine.names at (subst (WereSent g n) (sym by.hears) sent) by.freezes thinned came)
group_steps {config = config} g h (master_assigns wanted) {earlier = earlier} came well =
    master_steps g h came (assigned_nodes g wanted (refusal g.master wanted)) (goes_on config g h (master_assigns wanted) earlier came)
group_steps {config = config} g h (master_hears from ballot sent) {earlier = earlier} came well =
    master_steps g h came refl (goes_on config g h (master_hears from ballot sent) earlier came)
group_steps {config = config} g h (assigns_unheard wanted) {earlier = earlier} came well =
    master_steps g h came refl (goes_on config g h (assigns_unheard wanted) earlier came)
group_steps {config = config} g h (answers_unheard from ballot sent) {earlier = earlier} came well =
    master_steps g h came refl (goes_on config g h (answers_unheard from ballot sent) earlier came)

-- ---- all steps

pub no_connections : (nodes : ℕ) (config : Config) → Each (λ (core : CoreState). core.connections ≡ []) (opening_cores nodes config)
no_connections zero config = tt
no_connections (suc n) config =
    each_append (λ (core : CoreState). core.connections ≡ []) (opening_cores n config) (opening_core (n + 1) config ∷ []) (no_connections n config) (refl, tt)

-- the moments of the group, and the state of each connection by what is agreed at its end
pub record CarriedSo {nodes : ℕ} {config : Config} {g : Group} (went : GroupTrace nodes config g) : Type 0 where
  pub of : HasMoments config g (groups_on_trace went) (all_proposed went)
  pub good : (x : ConnectionName) (written : List Packet) (later : List ℕ) → Joins written (came_up x went ++ later)
      → Good config x written later g (moment_of_nodes g ∷ of.earlier) (all_proposed went) (went_down x went)

-- what is agreed in it
abbrev pub IsAgreedSo : {nodes : ℕ} {config : Config} {g : Group} {went : GroupTrace nodes config g} → CarriedSo went → List Command → Type 0
IsAgreedSo {config = config} {g = g} so agreed = IsAgreed config (moment_of_nodes g ∷ so.of.earlier) agreed

-- it continues by a step, and what is agreed grows
pub record CarriedOn {nodes : ℕ} {config : Config} {g h : Group} {went : GroupTrace nodes config g} (before : CarriedSo went) (step : GroupStep g h) : Type 0 where
  pub now : CarriedSo (then_went went step)
  pub grows : (xs ys : List Command) → IsAgreedSo before xs → IsAgreedSo now ys → IsPrefixOf xs ys

pub carried_at_first : (greatest nodes : ℕ) (config : Config) (can : can_open greatest nodes config ≡ true)
    → CarriedSo (let went : GroupTrace nodes config (opening_group greatest nodes config) = opened greatest can in went)
carried_at_first greatest nodes config can =
    record {
      of = groups_have_moments nodes config (opening_group greatest nodes config) (opened greatest can);
      good = λ x written later joined agreed is.
          inl (record {
            nowhere = λ n core at. ap (find (named x)) (each_got (λ (c : CoreState). c.connections ≡ []) (opening_cores nodes config) n core (no_connections nodes config) at);
            unsaid = refl;
            piped = record { rest = written; is = refl; joined = joined; sound = refl };
            queued = refl;
          });
    }

pub carried_on : {nodes : ℕ} {config : Config} (g h : Group) (went : GroupTrace nodes config g) (before : CarriedSo went) (step : GroupStep g h) → CarriedOn before step
carried_on {nodes = nodes} {config = config} g h went before step =
    let is : IsPut before.of.moments (all_proposed went) = record { proposed = before.of.proposed; taken = before.of.taken } in
    let s = group_steps g h step before.of.moments (all_well nodes config g went).0 in
    let now = put_further (all_proposed went) s.further is in
    record {
      now = record {
        of = record {
          earlier = s.further.before;
          moments = s.further.moments;
          proposed = now.proposed;
          taken = now.taken;
          seen = (here, seen_still (groups_on_trace went) s.further.kept before.of.seen);
        };
        good = λ x written later joined.
            s.keeps_each x written later (all_proposed went) (went_down x went) is (all_well nodes config h (then_went went step)).1
            (before.good x written (comes_up x step ++ later) (subst (Joins written) (append_assoc (came_up x went) (comes_up x step) later) joined));
      };
      grows = s.further.grows;
    }

-- the same holds for all steps
pub carried_so : {nodes : ℕ} {config : Config} {g : Group} (went : GroupTrace nodes config g) → CarriedSo went
carried_so {nodes = nodes} {config = config} (opened greatest can) = carried_at_first greatest nodes config can
carried_so {g = h} (then_went {group = g} went step) = (carried_on g h went (carried_so went) step).now

-- ---- what it says

carried : (x : ConnectionName) (written : List Packet) (later : List ℕ) (g : Group) (moments : List (Moment State Command Output)) (put : List (ℕ × Command)) (sent : List ℕ)
    (agreed : List Command) → IsPrefixOf (packet_commands x agreed) (packet_commands x (commands_in put)) → Stands x written later g moments put sent agreed
    → IsCarried x written sent agreed
carried x written later g moments put sent agreed said (inl u) =
    record {
      up = prefix_then (subst (IsPrefixOf (packet_commands x agreed)) u.unsaid said) (record { rest = packet_commands_from x 0 written; is = refl });
      down = record { rest = answers_to x agreed; is = ap (λ l. l ++ answers_to x agreed) (sym u.queued) };
    }
carried x written later g moments put sent agreed said (inr held) =
    let front = front_of x held.core written held.read later held.end in
    record {
      up = prefix_then (subst (IsPrefixOf (packet_commands x agreed)) held.said said)
          (record { rest = packet_commands_from x (0 + length held.read) front.rest; is = ap (packet_commands_from x 0) front.is ∙ commands_join x 0 held.read front.rest });
      down = down_front held.sent;
    }

pub carries_each : {nodes : ℕ} {config : Config} (g : Group) (went : GroupTrace nodes config g) (so : CarriedSo went) (agreed : List Command) → IsAgreedSo so agreed → (x : ConnectionName)
    (written : List Packet) (later : List ℕ) → Joins written (came_up x went ++ later) → IsCarried x written (went_down x went) agreed
carries_each {nodes = nodes} {config = config} g went so agreed is x written later joined =
    carried x written later g (moment_of_nodes g ∷ so.of.earlier) (all_proposed went) (went_down x went) agreed
    (in_agreed config g (groups_on_trace went) (all_proposed went) so.of (all_well nodes config g went).1 x agreed is) (so.good x written later joined agreed is)

-- ---- the law

pub groups_carry_in_order : GroupsCarryInOrder
groups_carry_in_order nodes config g went =
    let so = carried_so went in
    record { of = so.of; each = λ agreed is x written later joined. carries_each g went so agreed is x written later joined }
