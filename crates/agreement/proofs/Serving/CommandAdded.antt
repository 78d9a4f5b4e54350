-- CommandAdded.antt: a command is added, sent and committed.
use Rattle.std.proofs.Common.{◌≡◌, ℕ, ◌+◌, ◌≤◌, List, [], ◌∷◌, ◌++◌, length, take, Some, ap, sym, ◌∙◌, subst, arith}
use Rattle.std.specs.Prelude.{slice_get}
use Rattle.machine.specs.Machine.{Rules, replay}
use Rattle.agreement.specs.whole_logs.Messages.Body.{Append}
use Rattle.agreement.specs.whole_logs.Replica.{ReplicaState}
use Rattle.agreement.specs.whole_logs.StepOutcome.{Outcome, message_to_followed}
use Rattle.agreement.specs.whole_logs.Service.{added}
use Rattle.agreement.proofs.of_whole_logs.StepRows.{added-is}
use Rattle.agreement.specs.World.{GroupWorld, moved}
use Rattle.lists.specs.Lists.{In}
use Rattle.agreement.specs.Inside.Ballots.{History}
use Rattle.agreement.specs.Inside.Keeps.{KeepsAdding}
use Rattle.agreement.specs.Inside.MovesAt.{with_lines, lined_at}
use Rattle.agreement.specs.Inside.Sound.{IsSoundWorld}
use Rattle.agreement.specs.Inside.MessageMeaning.{SpeaksTruth}
use Rattle.lists.proofs.Prefixes.{prefix_push, take_prefix}
use Rattle.lists.proofs.Places.{get_pushed}
use Rattle.agreement.proofs.Effects.{outputs_of_messages}
use Rattle.agreement.proofs.Serving.ActiveTicks.{said_to_progress}
use Rattle.agreement.proofs.Frame.Joining.{IsSilent}
use Rattle.agreement.proofs.Frame.Lining.{lined_here}
use Rattle.agreement.proofs.Serving.Commits.{ready_keeps}
use Rattle.agreement.proofs.Serving.Leading.{Leading, longer}
use Rattle.agreement.proofs.Serving.Growing.{grown_ready}

-- a command is added, and sent
pub keeps_added : {S C O : Type 0} (rules : Rules S C O) (w : GroupWorld S C O) (h : History C) (n : ℕ) (old r : ReplicaState S C) (c : C) →
    IsSoundWorld rules w h → slice_get w.nodes n ≡ Some old → Leading w h n r → r.id ≡ old.id → r.joined ≡ old.joined →
    r.held_in ≡ old.held_in → r.log ≡ old.log → old.committed ≤ r.committed → r.machine ≡ replay rules (take r.committed r.log) →
    KeepsAdding rules w h n (λ b x. (b ≡ r.joined) × (x ≡ c)) (added rules r c)
keeps_added {S = S} {C = C} {O = O} rules w h n old r c s stands q same_id same_joined same_held same_log up ran =
    subst (λ (o : Outcome S C O). KeepsAdding rules w h n (λ b x. (b ≡ r.joined) × (x ≡ c)) o) (sym (added-is rules r c))
    (ready_keeps rules w h (lined_at r.joined (longer q.line c) h.line) n old (record r { log = r.log ++ c ∷ [] })
    (λ b x. (b ≡ r.joined) × (x ≡ c)) (message_to_followed O r.id (Append r.joined (length r.log) c) r.progress) s
    (grown_ready rules w h n old r c s stands q same_id same_joined same_held same_log up)
    (outputs_of_messages r.id (Append r.joined (length r.log) c) r.progress) id
    (ran ∙ ap (replay rules) (sym (take_prefix r.committed (prefix_push r.log c) q.within)))
    (said_to_progress O (λ to m. (m.from ≡ n + 1) × IsSilent m.body) r.id (Append r.joined (length r.log) c) r.progress (λ reached j. (id, tt)))
    (λ k u given moves. said_to_progress O
    (λ to m. SpeaksTruth (moved w n (record r { log = r.log ++ c ∷ []; committed = k; machine = u }) given)
    (with_lines h (lined_at r.joined (longer q.line c) h.line)) to m.from m.body)
    r.id (Append r.joined (length r.log) c) r.progress
    (λ reached j. (
      q.ballot,
      q.is_given,
      id ∙ sym q.primary,
      (subst (λ ms. In reached.member ms) q.members (q.followed reached j).0, λ e. q.others reached j (e ∙ q.primary)),
      q.activated,
      (
        longer q.line c,
        lined_here r.joined (longer q.line c) h.line,
        (let a = q.above in let b = q.within in omega (arith, a, b)),
        subst (λ (us : List C). slice_get (us ++ c ∷ []) (length r.log) ≡ Some c) q.log (get_pushed r.log c),
      ),
    ))))
  where
    id : r.id ≡ n + 1
    id = same_id ∙ (s.nodes n old stands).id
