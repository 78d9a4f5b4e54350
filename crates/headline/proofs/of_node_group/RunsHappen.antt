-- What a node does by a run of moves are events among replicas, one after another.
use Rattle.std.proofs.Common.{◌≡◌, ℕ, List, [], ◌∷◌, ◌++◌, Some, slice_get, refl, sym, ap, ◌∙◌, subst, append_assoc}
use Rattle.ballot_base.specs.declared.config.Config.{Config}
use Rattle.ballot_base.specs.declared.message.Effect.{Effect}
use Rattle.ballot_base.specs.Losses.{Thinned}
use Rattle.ballot_base.specs.declared.message.Message.{Message}
use Rattle.ballot_base.specs.Protocol.{Input}
use Rattle.ballot_base.specs.Protocol.Input.{Receives, Proposes, Ticks}
use Rattle.broker_base.specs.State.{State}
use Rattle.broker_spec.specs.declared.command.Command.{Command}
use Rattle.broker_spec.specs.declared.command.Output.{Output}
use Rattle.agreement.specs.cut_logs.Moments.{Moment, Moments}
use Rattle.agreement.specs.cut_logs.Proposals.{proposals_of, taken_of}
use Rattle.agreement.specs.cut_logs.World.{messages, outputs}
use Rattle.world_base.specs.node_core.Core.{CoreState, StepOutcome, rules}
use Rattle.headline.specs.node_moves.LossyParts.{move_effects, inputs_in}
use Rattle.headline.specs.node_moves.LossyRuns.{AllFreeze, MoveTraceOrLost, all_inputs}
use Rattle.headline.specs.node_moves.LossyRuns.MoveTraceOrLost.{rests, goes_on}
use Rattle.headline.specs.node_moves.Moves.{and_then}
use Rattle.headline.specs.node_group.Group.{Group, group_after_outcome, moment_of_nodes, with_record}
use Rattle.headline.specs.node_group.Steps.{InputWasSent, with_messages}
use Rattle.headline.specs.node_group.Losses.{WereSent, all_given, put_in_move, put_in_run, recorded_by, recorded_in}
use Rattle.headline.proofs.of_node_group.LossesHappen.{losses_happen}
use Rattle.headline.proofs.of_node_group.MovesHappen.{Further, happens_without_messages}
use Rattle.headline.proofs.of_node_group.Thinning.{Given, KeptOfBoth, kept_of_both}
use Rattle.headline.specs.node_group.GroupMoments.{packets_in}
use Rattle.headline.proofs.of_node_group.Packets.{packets_join}
use Rattle.headline.proofs.of_node_group.Placed.{get_of_set, set_twice}
use Rattle.lists.proofs.Prefixes.{prefix_then}
use Rattle.lists.proofs.Members.{in_left}
use Rattle.agreement.proofs.of_cut_logs.MomentsAgree.{has_agreed}
use Rattle.agreement.proofs.of_cut_logs.Effects.{messages-append, outputs-append}

-- ---- what was sent stays sent

input_still : (g : Group) (archive : List Command) (n : ℕ) (outcome : StepOutcome) (given : List (Effect Command Output)) (input : Input Command) → InputWasSent g n input
    → InputWasSent (group_after_outcome (with_record g archive) n outcome given) n input
input_still g archive n outcome given (Receives message) i = in_left (messages outcome.messages) i
input_still g archive n outcome given (Proposes command) i = tt
input_still g archive n outcome given Ticks i = tt

pub were_still : (g : Group) (archive : List Command) (n : ℕ) (outcome : StepOutcome) (given : Given) (inputs : List (Input Command)) → WereSent g n inputs
    → WereSent (group_after_outcome (with_record g archive) n outcome given) n inputs
were_still g archive n outcome given [] sent = tt
were_still g archive n outcome given (input ∷ inputs) sent = (input_still g archive n outcome given input sent.0, were_still g archive n outcome given inputs sent.1)

pub were_both : (g : Group) (n : ℕ) (inputs more : List (Input Command)) → WereSent g n (inputs ++ more) → WereSent g n inputs × WereSent g n more
were_both g n [] more sent = (tt, sent)
were_both g n (input ∷ inputs) more sent = let z = were_both g n inputs more sent.1 in ((sent.0, z.0), z.1)

-- ---- two turns are one

same_group : (g : Group) {nodes later_nodes : List CoreState} {sent later_sent : List (ℕ × Message Command)} {left later_left : List (ℕ × Output)}
    → nodes ≡ later_nodes → sent ≡ later_sent → left ≡ later_left
    → (let a : Group = record g { nodes = nodes; sent = sent; left = left } in a) ≡ (let b : Group = record g { nodes = later_nodes; sent = later_sent; left = later_left } in b)
same_group g a b c = rw (a, b, c) refl

pub two_turns : (g : Group) (n : ℕ) (first next : StepOutcome) (given more : List (Effect Command Output))
    → group_after_outcome (group_after_outcome g n first given) n next more ≡ group_after_outcome g n (and_then first next) (given ++ more)
two_turns g n first next given more =
    same_group g (set_twice g.nodes n first.core next.core)
    (append_assoc g.sent (messages first.messages) (messages next.messages) ∙ ap (λ l. g.sent ++ l) (sym (messages-append first.messages next.messages)))
    (append_assoc g.left (outputs given) (outputs more) ∙ ap (λ l. g.left ++ l) (sym (outputs-append given more)))

-- ---- runs

abbrev pub both : {config : Config} {a b c : Moment State Command Output} {earlier : List (Moment State Command Output)} (came : Moments rules config (a ∷ earlier)) (put more : List (ℕ × Command))
    → (first : Further came b put) → Further first.moments c more → Further came c (put ++ more)
both {config = config} {b = b} came put more first next =
    record {
      before = next.before;
      moments = next.moments;
      proposed = next.proposed ∙ ap (λ l. l ++ more) first.proposed ∙ append_assoc (proposals_of came) put more;
      taken = λ x.
          next.taken x ∙ ap (λ l. l ++ packets_in x more) (first.taken x) ∙ append_assoc (packets_in x (taken_of came)) (packets_in x put) (packets_in x more)
          ∙ ap (λ l. packets_in x (taken_of came) ++ l) (sym (packets_join x put more));
      kept = λ z i. next.kept z (first.kept z i);
      grows = λ xs ys before after.
          let mid = has_agreed rules config b first.before first.moments in
          prefix_then (first.grows xs mid.0 before mid.1) (next.grows mid.0 ys mid.1 after);
    }

-- of what a node hands out in the first turn these messages are kept, and of the next those
pub kept_turns : (g : Group) (n : ℕ) (first next : StepOutcome) (given more kept : Given) (k : KeptOfBoth kept first.messages next.messages)
    → group_after_outcome (group_after_outcome g n (with_messages k.front first) given) n (with_messages k.rest next) more ≡ group_after_outcome g n (with_messages kept (and_then first next)) (given ++ more)
kept_turns g n first next given more kept k =
    two_turns g n (with_messages k.front first) (with_messages k.rest next) given more
    ∙ ap (λ (l : Given). group_after_outcome g n (with_messages l (and_then first next)) (given ++ more)) (sym k.is)

pub runs_happen : (g : Group) (n : ℕ) (core : CoreState) (outcome : StepOutcome) (run : MoveTraceOrLost core outcome) (kept : Given) → slice_get g.nodes n ≡ Some core → WereSent g n (all_inputs run)
    → AllFreeze run → Thinned kept outcome.messages → (config : Config) (earlier : List (Moment State Command Output)) (came : Moments rules config (moment_of_nodes g ∷ earlier))
    → Further came (moment_of_nodes (group_after_outcome (with_record g (recorded_in g.archive run)) n (with_messages kept outcome) (all_given run))) (put_in_run run)
runs_happen g n core outcome rests kept at sent frozen t config earlier came = (happens_without_messages g n core core kept at refl t config earlier came).further
runs_happen g n core outcome (goes_on {first = first} {next = next} m run) kept at sent frozen t config earlier came =
    let k = kept_of_both first.messages next.messages kept t in
    let s = were_both g n (inputs_in m) (all_inputs run) sent in
    let step = (losses_happen g n core first m k.front at s.0 frozen.0 k.first config earlier came).further in
    let one : StepOutcome = with_messages k.front first in
    let after : Group = group_after_outcome (with_record g (recorded_by g.archive m)) n one (move_effects m) in
    let rest = runs_happen after n first.core next run k.rest (get_of_set g.nodes n core first.core at)
    (were_still g (recorded_by g.archive m) n one (move_effects m) (all_inputs run) s.1) frozen.1 k.next config step.before step.moments in
    both came (put_in_move m) (put_in_run run) step
    (subst (λ (h : Group). Further step.moments (moment_of_nodes h) (put_in_run run))
    (kept_turns (with_record g (recorded_in (recorded_by g.archive m) run)) n first next (move_effects m) (all_given run) kept k) rest)
