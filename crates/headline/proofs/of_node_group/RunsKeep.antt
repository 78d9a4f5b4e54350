-- What a node does in a run of moves keeps the state of each connection of the group.
use Rattle.std.proofs.Common.{◌≡◌, ℕ, false, List, [], ◌∷◌, ◌++◌, Some, slice_get, refl, sym, ap, ◌∙◌, subst, append_assoc}
use Rattle.std.proofs.lemmas.List.{append-nil}
use Rattle.packet.specs.declared.packet.Packet.{Packet}
use Rattle.ballot_base.specs.declared.config.Config.{Config}
use Rattle.ballot_base.specs.Losses.{Thinned}
use Rattle.ballot_base.specs.Replica.{is_active}
use Rattle.broker_spec.specs.declared.command.Command.{Command}
use Rattle.broker_spec.specs.Connection.{ConnectionName}
use Rattle.broker_spec.specs.declared.command.Output.{Output}
use Rattle.broker_base.specs.State.{State}
use Rattle.lists.specs.Lists.{Each, IsPrefixOf}
use Rattle.lists.proofs.OfEach.{each_left}
use Rattle.agreement.specs.cut_logs.Moments.{Moment, Moments, IsAgreed}
use Rattle.agreement.specs.Proposals.{commands_of as commands_in}
use Rattle.agreement.specs.cut_logs.Proposals.{proposals_of, taken_of}
use Rattle.agreement.proofs.of_cut_logs.MomentsAgree.{has_agreed}
use Rattle.world_base.specs.node_connections.Connections.{is_closed}
use Rattle.world_base.specs.node_core.Core.{CoreState, StepOutcome, rules}
use Rattle.world_base.specs.node_core.Effects.{without_messages}
use Rattle.headline.specs.node_moves.Ends.{IsOrderly}
use Rattle.headline.specs.node_moves.BallotNames.{AreOfTheBallot}
use Rattle.headline.specs.node_moves.LossyMoves.{NodeMoveOrLost}
use Rattle.headline.specs.node_moves.LossyParts.{came_on, move_effects, hears_in, inputs_in}
use Rattle.headline.specs.node_moves.LossyRuns.{AllFreeze, CutsThaw, HearsAtFirst, HearsNothing, MoveTraceOrLost, all_inputs, bytes_on}
use Rattle.headline.specs.node_moves.LossyRuns.MoveTraceOrLost.{rests, goes_on}
use Rattle.headline.specs.node_moves.Moves.{and_then}
use Rattle.headline.proofs.of_node_moves.Kept.{left_true}
use Rattle.headline.proofs.of_node_moves.LossyReads.{losses_read_in_order}
use Rattle.headline.proofs.of_node_moves.OpenAfter.{open_if}
use Rattle.headline.specs.node_group.Ballots.{IsInItsBallot}
use Rattle.headline.specs.node_group.Group.{Group, group_after_outcome, moment_of_nodes, replica_of, with_record}
use Rattle.headline.specs.node_group.Steps.{with_messages}
use Rattle.headline.specs.node_group.Losses.{WereSent, all_given, put_in_move, put_in_run, recorded_by, recorded_in}
use Rattle.headline.specs.node_group.Order.{packet_commands}
use Rattle.headline.specs.node_group.GroupMoments.{packets_in}
use Rattle.headline.proofs.of_node_group.LossesHappen.{losses_happen}
use Rattle.headline.proofs.of_node_group.MovesHappen.{Further, unchanged}
use Rattle.headline.proofs.of_node_group.Ordered.{in_agreed}
use Rattle.headline.proofs.of_node_group.Packets.{packets_join}
use Rattle.headline.proofs.of_node_group.Placed.{get_of_set, set_same}
use Rattle.headline.proofs.of_node_group.RunsHappen.{both, kept_turns, were_both, were_still}
use Rattle.headline.proofs.of_node_group.Thinning.{Given, KeptOfBoth, kept_of_both, nothing_kept}
use Rattle.headline.proofs.of_node_group.CalmMoves.{calm_role}
use Rattle.headline.proofs.of_node_group.Handed.{handed_losing, handed_on}
use Rattle.headline.proofs.of_node_group.MovesKeep.{Known, LeadsStill, move_keeps}
use Rattle.headline.proofs.of_node_group.States.{Stands}

-- the state of a group's connection, by each list that is agreed there
abbrev pub Good : Config → ConnectionName → List Packet → List ℕ → Group → List (Moment State Command Output) → List (ℕ × Command) → List ℕ → Type 0
Good config x written later g moments put sent = (agreed : List Command) → IsAgreed config moments agreed → Stands x written later g moments put sent agreed

-- what was put between moments
pub record IsPut {config : Config} {moments : List (Moment State Command Output)} (came : Moments rules config moments) (put : List (ℕ × Command)) : Type 0 where
  pub proposed : proposals_of came ≡ put
  pub taken : (x : ConnectionName) → packets_in x (taken_of came) ≡ packets_in x put

-- Moments continue to a group, while these commands were put, and of each connection these bytes
-- came up and these went down.
pub record Steps {config : Config} (g : Group) {earlier : List (Moment State Command Output)} (came : Moments rules config (moment_of_nodes g ∷ earlier)) (h : Group)
    (more : List (ℕ × Command)) (up down : ConnectionName → List ℕ) : Type 0 where
  pub further : Further came (moment_of_nodes h) more
  pub keeps_each : (x : ConnectionName) (written : List Packet) (later : List ℕ) (put : List (ℕ × Command)) (sent : List ℕ) → IsPut came put → Each IsInItsBallot (put ++ more)
      → Good config x written (up x ++ later) g (moment_of_nodes g ∷ earlier) put sent
      → Good config x written later h (moment_of_nodes h ∷ further.before) (put ++ more) (sent ++ down x)

pub put_further : {config : Config} {a b : Moment State Command Output} {earlier : List (Moment State Command Output)} {came : Moments rules config (a ∷ earlier)} {more : List (ℕ × Command)}
    (put : List (ℕ × Command)) (f : Further came b more) → IsPut came put → IsPut f.moments (put ++ more)
put_further {more = more} put f is =
    record {
      proposed = f.proposed ∙ ap (λ l. l ++ more) is.proposed;
      taken = λ x. f.taken x ∙ ap (λ l. l ++ packets_in x more) (is.taken x) ∙ sym (packets_join x put more);
    }

-- ---- no move

nothing_steps : {config : Config} (g : Group) {earlier : List (Moment State Command Output)} (came : Moments rules config (moment_of_nodes g ∷ earlier))
    → Steps g came g [] (λ x. []) (λ x. [])
nothing_steps {config = config} g {earlier = earlier} came =
    record {
      further = unchanged came;
      keeps_each = λ x written later put sent is each good.
          subst (λ (l : List (ℕ × Command)). Good config x written later g (moment_of_nodes g ∷ earlier) l (sent ++ [])) (sym (append-nil put))
          (subst (λ (l : List ℕ). Good config x written later g (moment_of_nodes g ∷ earlier) put l) (sym (append-nil sent)) good);
    }

pub same_group : (g : Group) (n : ℕ) (core : CoreState) → slice_get g.nodes n ≡ Some core → g ≡ group_after_outcome g n (without_messages core) []
same_group g n core at = sym (rw (set_same g.nodes n core at, append-nil g.sent, append-nil g.left) refl)

-- ---- one move

-- the agreed list has a prefix of what was put
said_first : {config : Config} {a : Moment State Command Output} {earlier : List (Moment State Command Output)} {came : Moments rules config (a ∷ earlier)} (h : Group) {more : List (ℕ × Command)}
    (f : Further came (moment_of_nodes h) more) (x : ConnectionName) (put : List (ℕ × Command)) → IsPut came put → Each IsInItsBallot (put ++ more) → (ys : List Command)
    → IsAgreed config (moment_of_nodes h ∷ f.before) ys → IsPrefixOf (packet_commands x ys) (packet_commands x (commands_in (put ++ more)))
said_first {config = config} h {more = more} f x put is each ys after =
    let now = put_further put f is in
    in_agreed config h [] (put ++ more) (record { earlier = f.before; moments = f.moments; proposed = now.proposed; taken = now.taken; seen = tt }) each x ys after

move_steps : {config : Config} (g : Group) (n : ℕ) (core : CoreState) (outcome : StepOutcome) (m : NodeMoveOrLost core outcome) (kept : Given) → slice_get g.nodes n ≡ Some core → WereSent g n (inputs_in m)
    → CutsThaw m → Thinned kept outcome.messages → IsOrderly core → LeadsStill core outcome → {earlier : List (Moment State Command Output)} (came : Moments rules config (moment_of_nodes g ∷ earlier))
    → Steps g came (group_after_outcome (with_record g (recorded_by g.archive m)) n (with_messages kept outcome) (move_effects m)) (put_in_move m) (λ x. came_on x m) (λ x. handed_on x m)
move_steps {config = config} g n core outcome m kept at sent_so frozen t o leads {earlier = earlier} came =
    let known : Known g came n m kept = record { at = at; orderly = o; leads = leads; once = losses_happen g n core outcome m kept at sent_so frozen t config earlier came } in
    let xs = has_agreed rules config (moment_of_nodes g) earlier came in
    record {
      further = known.once.further;
      keeps_each = λ x written later put sent is each good ys after.
          move_keeps known x written later put sent xs.0 ys xs.1 after
          (said_first (group_after_outcome (with_record g (recorded_by g.archive m)) n (with_messages kept outcome) (move_effects m)) known.once.further x put is each ys after) (good xs.0 xs.1);
    }

-- ---- one after another

both_steps : {config : Config} {g h k : Group} {earlier : List (Moment State Command Output)} (came : Moments rules config (moment_of_nodes g ∷ earlier)) (put more : List (ℕ × Command))
    (up next_up down next_down : ConnectionName → List ℕ) → (first : Steps g came h put up down) → Steps h first.further.moments k more next_up next_down
    → Steps g came k (put ++ more) (λ x. up x ++ next_up x) (λ x. down x ++ next_down x)
both_steps {config = config} {g = g} {h = h} {k = k} {earlier = earlier} came put more up next_up down next_down first next =
    record {
      further = both came put more first.further next.further;
      keeps_each = λ x written later said sent is each good.
          let all = subst (λ (l : List (ℕ × Command)). Each IsInItsBallot l) (sym (append_assoc said put more)) each in
          subst (λ (l : List (ℕ × Command)). Good config x written later k (moment_of_nodes k ∷ next.further.before) l (sent ++ (down x ++ next_down x))) (append_assoc said put more)
          (subst (λ (l : List ℕ). Good config x written later k (moment_of_nodes k ∷ next.further.before) ((said ++ put) ++ more) l) (append_assoc sent (down x) (next_down x))
          (next.keeps_each x written later (said ++ put) (sent ++ down x) (put_further said first.further is) all
          (first.keeps_each x written (next_up x ++ later) said sent is (each_left IsInItsBallot (said ++ put) more all)
          (subst (λ (l : List ℕ). Good config x written l g (moment_of_nodes g ∷ earlier) said sent) (append_assoc (up x) (next_up x) later) good))));
    }

-- the same with what equals it
pub steps_as : {config : Config} {g h : Group} {earlier : List (Moment State Command Output)} (came : Moments rules config (moment_of_nodes g ∷ earlier)) (put more : List (ℕ × Command))
    (up next_up down next_down : ConnectionName → List ℕ) → put ≡ more → ((x : ConnectionName) → up x ≡ next_up x) → ((x : ConnectionName) → down x ≡ next_down x)
    → Steps g came h put up down → Steps g came h more next_up next_down
steps_as {config = config} {g = g} {h = h} {earlier = earlier} came put more up next_up down next_down same ups downs s =
    subst (λ (l : List (ℕ × Command)). Steps g came h l next_up next_down) same
    (record {
      further = s.further;
      keeps_each = λ x written later said sent is each good.
          subst (λ (l : List ℕ). Good config x written later h (moment_of_nodes h ∷ s.further.before) (said ++ put) (sent ++ l)) (downs x)
          (s.keeps_each x written later said sent is each
          (subst (λ (l : List ℕ). Good config x written (l ++ later) g (moment_of_nodes g ∷ earlier) said sent) (sym (ups x)) good));
    })

-- ---- runs

-- a calm move leaves the replica in its role
calm_leads : (core : CoreState) (outcome : StepOutcome) (m : NodeMoveOrLost core outcome) → hears_in m ≡ false → LeadsStill core outcome
calm_leads core outcome m calm x c there lives e = ap is_active (sym (calm_role core outcome m calm)) ∙ e

-- at the beginning of a step who has open connections leads
first_leads : (core : CoreState) (outcome : StepOutcome) → AreOfTheBallot core → LeadsStill core outcome
first_leads core outcome of x c there lives e = left_true (is_active (replica_of core).role) _ (of.each x c there (open_if (is_closed c.stage) lives)).0

-- one move, and a run after it
move_and_run : {config : Config} (g : Group) (n : ℕ) (core : CoreState) (first next : StepOutcome) (m : NodeMoveOrLost core first) (run : MoveTraceOrLost first.core next) (kept : Given)
    (k : KeptOfBoth kept first.messages next.messages) {earlier : List (Moment State Command Output)} (came : Moments rules config (moment_of_nodes g ∷ earlier))
    → (step : Steps g came (group_after_outcome (with_record g (recorded_by g.archive m)) n (with_messages k.front first) (move_effects m)) (put_in_move m) (λ x. came_on x m) (λ x. handed_on x m))
    → Steps (group_after_outcome (with_record g (recorded_by g.archive m)) n (with_messages k.front first) (move_effects m)) step.further.moments
    (group_after_outcome (with_record (group_after_outcome (with_record g (recorded_by g.archive m)) n (with_messages k.front first) (move_effects m)) (recorded_in (recorded_by g.archive m) run)) n
    (with_messages k.rest next) (all_given run)) (put_in_run run) (λ x. bytes_on x run) (λ x. handed_losing x run)
    → Steps g came (group_after_outcome (with_record g (recorded_in (recorded_by g.archive m) run)) n (with_messages kept (and_then first next)) (move_effects m ++ all_given run))
    (put_in_move m ++ put_in_run run) (λ x. came_on x m ++ bytes_on x run) (λ x. handed_on x m ++ handed_losing x run)
move_and_run g n core first next m run kept k came step rest =
    both_steps came (put_in_move m) (put_in_run run) (λ x. came_on x m) (λ x. bytes_on x run) (λ x. handed_on x m) (λ x. handed_losing x run) step
    (subst (λ (h : Group). Steps (group_after_outcome (with_record g (recorded_by g.archive m)) n (with_messages k.front first) (move_effects m)) step.further.moments h (put_in_run run)
    (λ x. bytes_on x run) (λ x. handed_losing x run))
    (kept_turns (with_record g (recorded_in (recorded_by g.archive m) run)) n first next (move_effects m) (all_given run) kept k) rest)

no_move : {config : Config} (g : Group) (n : ℕ) (core : CoreState) (kept : Given) → slice_get g.nodes n ≡ Some core → Thinned kept []
    → {earlier : List (Moment State Command Output)} (came : Moments rules config (moment_of_nodes g ∷ earlier))
    → Steps g came (group_after_outcome g n (with_messages kept (without_messages core)) []) [] (λ x. []) (λ x. [])
no_move g n core kept at t came =
    subst (λ (h : Group). Steps g came h [] (λ x. []) (λ x. []))
    (same_group g n core at ∙ ap (λ (l : Given). group_after_outcome g n (with_messages l (without_messages core)) []) (sym (nothing_kept kept t))) (nothing_steps g came)

calm_steps : {config : Config} (g : Group) (n : ℕ) (core : CoreState) (outcome : StepOutcome) (run : MoveTraceOrLost core outcome) (kept : Given) → HearsNothing run → IsOrderly core → slice_get g.nodes n ≡ Some core
    → WereSent g n (all_inputs run) → AllFreeze run → Thinned kept outcome.messages → {earlier : List (Moment State Command Output)} (came : Moments rules config (moment_of_nodes g ∷ earlier))
    → Steps g came (group_after_outcome (with_record g (recorded_in g.archive run)) n (with_messages kept outcome) (all_given run)) (put_in_run run) (λ x. bytes_on x run) (λ x. handed_losing x run)
calm_steps g n core outcome rests kept calm o at sent frozen t came = no_move g n core kept at t came
calm_steps g n core outcome (goes_on {first = first} {next = next} m run) kept calm o at sent frozen t came =
    let k = kept_of_both first.messages next.messages kept t in
    let s = were_both g n (inputs_in m) (all_inputs run) sent in
    let one : StepOutcome = with_messages k.front first in
    let step = move_steps g n core first m k.front at s.0 frozen.0 k.first o (calm_leads core first m calm.0) came in
    move_and_run g n core first next m run kept k came step
    (calm_steps (group_after_outcome (with_record g (recorded_by g.archive m)) n one (move_effects m)) n first.core next run k.rest calm.1 (losses_read_in_order core first m o).0 (get_of_set g.nodes n core first.core at)
    (were_still g (recorded_by g.archive m) n one (move_effects m) (all_inputs run) s.1) frozen.1 k.next step.further.moments)

pub run_steps : {config : Config} (g : Group) (n : ℕ) (core : CoreState) (outcome : StepOutcome) (run : MoveTraceOrLost core outcome) (kept : Given) → HearsAtFirst run → IsOrderly core → AreOfTheBallot core
    → slice_get g.nodes n ≡ Some core → WereSent g n (all_inputs run) → AllFreeze run → Thinned kept outcome.messages
    → {earlier : List (Moment State Command Output)} (came : Moments rules config (moment_of_nodes g ∷ earlier))
    → Steps g came (group_after_outcome (with_record g (recorded_in g.archive run)) n (with_messages kept outcome) (all_given run)) (put_in_run run) (λ x. bytes_on x run) (λ x. handed_losing x run)
run_steps g n core outcome rests kept first_so o of at sent frozen t came = no_move g n core kept at t came
run_steps g n core outcome (goes_on {first = first} {next = next} m run) kept calm o of at sent frozen t came =
    let k = kept_of_both first.messages next.messages kept t in
    let s = were_both g n (inputs_in m) (all_inputs run) sent in
    let one : StepOutcome = with_messages k.front first in
    let step = move_steps g n core first m k.front at s.0 frozen.0 k.first o (first_leads core first of) came in
    move_and_run g n core first next m run kept k came step
    (calm_steps (group_after_outcome (with_record g (recorded_by g.archive m)) n one (move_effects m)) n first.core next run k.rest calm (losses_read_in_order core first m o).0 (get_of_set g.nodes n core first.core at)
    (were_still g (recorded_by g.archive m) n one (move_effects m) (all_inputs run) s.1) frozen.1 k.next step.further.moments)
