-- LinkKept.antt: what waits for a link was sent to the node to which the link leads.
use Rattle.std.proofs.Common.{◌≡◌, ◌≢◌, ℕ, ◌-◌, Bool, true, false, if◌then◌else◌, List, [], ◌∷◌, ◌++◌, Option, Some, None, length, take, refl, sym, subst, ap}
use mathlib.Core.List.{IsPrefix}
use Rattle.ballot_base.specs.declared.config.Config.{Config}
use Rattle.ballot_base.specs.declared.message.Message.{Message}
use Rattle.broker_spec.specs.declared.command.Command.{Command}
use Rattle.links.specs.declared.link_queue.queue.Waiting.{Waiting}
use Rattle.links.specs.declared.link_queue.queue.Fate.{Fate}
use Rattle.links.specs.declared.link_queue.queue.Fate.TheVariants as fates
use Rattle.links.specs.link_queue.Queues.{QueueView, covers_newest, still_waiting, with_message, without_message}
use Rattle.lists.specs.Lists.{Each, In}
use Rattle.lists.proofs.OfEach.{each_append, each_then}
use Rattle.run_history.specs.declared.event.RunEvent.{RunEvent}
use Rattle.run_history.specs.Linked.{IsRun}
use Rattle.run_history.specs.Log.{sent_in}
use Rattle.run_history.proofs.LongerLogs.{in_later}
use Rattle.post.specs.Linked.{AreSentTo, IsSentTo}
use Rattle.post.proofs.of_outbox.OutboxKept.{each_taken}

-- by a longer log, too
pub sent_later : (xs ys : List RunEvent) (leads : Option ℕ) (waiting : List (Waiting Command)) → IsPrefix xs ys
    → AreSentTo (sent_in xs) leads waiting → AreSentTo (sent_in ys) leads waiting
sent_later xs ys None waiting more none = none
sent_later xs ys (Some number) waiting more sent =
    each_then (λ (one : Waiting Command). In (number, one.message) (sent_in xs)) (λ (one : Waiting Command). In (number, one.message) (sent_in ys)) waiting
    (λ one was. in_later (number, one.message) xs ys more was) sent

-- what still waits when a message is queued
still_sent : (sent : List (ℕ × Message Command)) (number : ℕ) (waiting : List (Waiting Command)) (b : Bool)
    → Each (λ (one : Waiting Command). In (number, one.message) sent) waiting
    → Each (λ (one : Waiting Command). In (number, one.message) sent) (if b then take (length waiting - 1) waiting else waiting)
still_sent sent number waiting true each = each_taken (λ (one : Waiting Command). In (number, one.message) sent) (length waiting - 1) waiting each
still_sent sent number waiting false each = each

-- one more message to the node to which the link leads
pub sent_more : (sent : List (ℕ × Message Command)) (leads : Option ℕ) (number : ℕ) (waiting : List (Waiting Command)) (one : Waiting Command)
    → leads ≡ Some number → In (number, one.message) sent → AreSentTo sent leads waiting
    → AreSentTo sent leads (still_waiting one.message waiting ++ one ∷ [])
sent_more sent leads number waiting one is was all =
    subst (λ (l : Option ℕ). AreSentTo sent l (still_waiting one.message waiting ++ one ∷ [])) (sym is)
    (each_append (λ (other : Waiting Command). In (number, other.message) sent) (still_waiting one.message waiting) (one ∷ [])
    (still_sent sent number waiting (covers_newest one.message waiting) (subst (λ (l : Option ℕ). AreSentTo sent l waiting) is all))
    (was, tt))

-- what waits after a message was offered to the queue, whatever became of it
pub sent_after : (sent : List (ℕ × Message Command)) (leads : Option ℕ) (number : ℕ) (old new : QueueView Command) (message : Message Command) (size : ℕ) (fate : Fate)
    → leads ≡ Some number → In (number, message) sent
    → (fate ≡ fates.Queued → new ≡ with_message old message size) → (fate ≢ fates.Queued → new ≡ without_message old)
    → AreSentTo sent leads old.waiting → AreSentTo sent leads new.waiting
sent_after sent leads number old new message size fates.Queued is was queued lost all =
    subst (λ (queue : QueueView Command). AreSentTo sent leads queue.waiting) (sym (queued refl))
    (sent_more sent leads number old.waiting (record { message = message; size = size }) is was all)
sent_after sent leads number old new message size fates.Repeated is was queued lost all =
    subst (λ (queue : QueueView Command). AreSentTo sent leads queue.waiting) (sym (lost (λ same. absurd cc))) all
sent_after sent leads number old new message size fates.Full is was queued lost all =
    subst (λ (queue : QueueView Command). AreSentTo sent leads queue.waiting) (sym (lost (λ same. absurd cc))) all
sent_after sent leads number old new message size fates.Memory is was queued lost all =
    subst (λ (queue : QueueView Command). AreSentTo sent leads queue.waiting) (sym (lost (λ same. absurd cc))) all

-- what waits is known by a log of the run
pub sent_by : (linked : Bool) (nodes : ℕ) (config : Config) (log : List RunEvent) (leads : Option ℕ) (number : ℕ) (waiting : List (Waiting Command))
    → IsRun linked nodes config log → leads ≡ Some number → AreSentTo (sent_in log) leads waiting
    → Each (IsSentTo linked nodes config number) waiting
sent_by linked nodes config log leads number waiting run is all =
    each_then (λ (one : Waiting Command). In (number, one.message) (sent_in log)) (IsSentTo linked nodes config number) waiting
    (λ one was. record { log = log; run = run; sent = was }) (subst (λ (l : Option ℕ). AreSentTo (sent_in log) l waiting) is all)

-- nothing waits
pub none_sent : (sent : List (ℕ × Message Command)) (leads : Option ℕ) (waiting : List (Waiting Command)) → waiting ≡ [] → AreSentTo sent leads waiting
none_sent sent None waiting none = none
none_sent sent (Some number) waiting none = subst (Each (λ (one : Waiting Command). In (number, one.message) sent)) (sym none) tt
