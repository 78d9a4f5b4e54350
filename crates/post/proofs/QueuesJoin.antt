-- QueuesJoin.antt: what is queued at first and then is what is queued.
use Rattle.std.proofs.Common.{◌≡◌, List, [], ◌∷◌, ◌++◌, refl, ap, sym, subst}
use Rattle.std.proofs.lemmas.List.{append-nil, append_assoc}
use Rattle.broker_spec.specs.declared.command.Command.{Command}
use Rattle.broker_spec.specs.declared.command.Output.{Output}
use Rattle.ballot_base.specs.declared.message.Effect.{Effect}
use Rattle.ballot_base.specs.declared.message.Effect.TheVariants.{To, Out}
use Rattle.post.specs.outbox.Given.{Addressed}
use Rattle.post.specs.GivenMessages.{QueuesAll, messages_of}
use Rattle.post.specs.GivenMessages.QueuesAll.{none, one_more}

-- the messages of joined effects are the joined messages
pub messages_join : (first next : List (Effect Command Output))
    → messages_of (first ++ next) ≡ messages_of first ++ messages_of next
messages_join [] next = refl
messages_join (To receiver message ∷ first) next =
    ap (λ (messages : List Addressed). record { receiver = receiver; message = message } ∷ messages) (messages_join first next)
messages_join (Out place output ∷ first) next = messages_join first next

pub queues_join : {X : Type 0} (queues : X → Addressed → X → Type 0) (before between after : X)
    (first next : List Addressed)
    → QueuesAll queues before first between → QueuesAll queues between next after
    → QueuesAll queues before (first ++ next) after
queues_join queues before between _ first _ queued none =
    subst (λ (messages : List Addressed). QueuesAll queues before messages between) (sym (append-nil first)) queued
queues_join queues before between _ first _ queued (one_more {messages = messages} addressed after rest last) =
    subst (λ (all : List Addressed). QueuesAll queues before all after) (append_assoc first messages (addressed ∷ []))
    (one_more addressed after (queues_join queues before between _ first messages queued rest) last)

-- the messages of one effect more were queued
pub queues_more : {X : Type 0} (queues : X → Addressed → X → Type 0) (before between after : X)
    (effects : List (Effect Command Output)) (effect : Effect Command Output)
    → QueuesAll queues before (messages_of effects) between
    → QueuesAll queues between (messages_of (effect ∷ [])) after
    → QueuesAll queues before (messages_of (effects ++ effect ∷ [])) after
queues_more queues before between after effects effect first next =
    subst (λ (messages : List Addressed). QueuesAll queues before messages after) (sym (messages_join effects (effect ∷ [])))
    (queues_join queues before between after (messages_of effects) (messages_of (effect ∷ [])) first next)
