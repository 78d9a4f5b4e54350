use Rattle.std.proofs.Common.{[], ◌∷◌, ◌∙◌, sym, subst}
use Rattle.broker_spec.specs.declared.command.Command.{Command}
use Rattle.broker_spec.specs.declared.command.Output.{Output}
use Rattle.ballot_base.specs.declared.message.Effect.{Effect}
use Rattle.post.specs.outbox.Given.{Addressed}
use Rattle.post.specs.GivenMessages.{QueuesAll, messages_of}
use Rattle.post.specs.GivenMessages.QueuesAll.{none, one_more}
use Rattle.post.proofs.given_effects.queue_one.Goals as goal

pub returns-in-To : goal.returns-in-To
returns-in-To g c =
    subst (λ (effect : Effect Command Output). QueuesAll g.C.Receivers.queues c.args.receivers.now (messages_of (effect ∷ [])) c.queue.new.self)
    (sym c.in-To.is)
    (subst (λ (addressed : Addressed). QueuesAll g.C.Receivers.queues c.args.receivers.now (addressed ∷ []) c.queue.new.self)
    (c.new.ensures ∙ c.new-sent.ensures)
    (one_more c.new.result c.queue.new.self none c.queue.ensures))

pub returns : goal.returns
returns g c =
    subst (λ (effect : Effect Command Output). QueuesAll g.C.Receivers.queues c.args.receivers.now (messages_of (effect ∷ [])) c.args.receivers.now)
    (sym c.in-Out.is) none
