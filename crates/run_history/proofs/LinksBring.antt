-- What links bring is an event of the run.
use Rattle.std.proofs.Common.{◌≡◌, ℕ, ◌+◌, List, [], ◌∷◌, ◌++◌, ap, sym, ◌∙◌, subst, arith}
use mathlib.Core.List.{IsPrefix}
use Rattle.lists.specs.Lists.{In}
use Rattle.lists.specs.Lists.In.{here}
use Rattle.lists.proofs.Members.{in_right}
use Rattle.ballot_base.specs.StepOutcome.{master}
use Rattle.ballot_base.specs.declared.message.Message.{Message}
use Rattle.broker_spec.specs.declared.command.Command.{Command}
use Rattle.run_history.specs.declared.event.BroughtMessage.{BroughtMessage}
use Rattle.run_history.specs.declared.event.RunEvent.{RunEvent}
use Rattle.run_history.specs.declared.event.RunEvent.TheVariants.{ByLink}
use Rattle.run_history.specs.Brought.{HasBrought}
use Rattle.run_history.specs.Log.{events_by, sent_in}
use Rattle.run_history.specs.Rules.{Added}
use Rattle.run_history.proofs.LongerLogs.{events_append, sent_more}
use Rattle.run_history.proofs.Prefixes.{prefix_trans}

-- one more message was brought
pub brought_more : (seen log : List RunEvent) (count : ℕ) (brought : BroughtMessage) → Added seen count (ByLink brought) log → events_by master log ≡ count + 1
brought_more seen log count brought added =
    ap (events_by master) added.now ∙ omega (arith, events_append master added.before (ByLink brought ∷ []), added.counted)

-- its message counts as sent
pub brought_sent : (seen log : List RunEvent) (count : ℕ) (brought : BroughtMessage) → Added seen count (ByLink brought) log → In (brought.receiver, brought.message) (sent_in log)
brought_sent seen log count brought added =
    subst (λ (l : List RunEvent). In (brought.receiver, brought.message) (sent_in l)) (sym added.now)
    (subst (In (brought.receiver, brought.message)) (sym (sent_more added.before (ByLink brought))) (in_right (sent_in added.before) here))

-- that is all that happened
pub has_brought : (old seen new : List RunEvent) (count : ℕ) (brought : BroughtMessage) (message : Message Command) → IsPrefix old seen → Added seen count (ByLink brought) new
    → events_by master old ≡ count → brought.message ≡ message → HasBrought old brought.receiver message new
has_brought old seen new count brought message p added counted is =
    record {
      earlier = added.before;
      begins = prefix_trans old seen added.before p added.begins;
      none_since = added.counted ∙ sym counted;
      now = added.now ∙ ap (λ (m : Message Command). added.before ++ ByLink (record { receiver = brought.receiver; message = m }) ∷ []) is;
    }
