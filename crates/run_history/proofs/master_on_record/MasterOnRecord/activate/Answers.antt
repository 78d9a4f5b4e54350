use Rattle.std.proofs.Common.{◌≡◌, ◌+◌, refl, ap, ◌∙◌, subst}
use mathlib.Core.List.{IsPrefix}
use Rattle.lists.specs.Lists.{In}
use Rattle.ballot_base.specs.StepOutcome.{master}
use Rattle.ballot_base.specs.declared.message.Body.{Body}
use Rattle.ballot_base.specs.declared.message.Body.TheVariants.{Activate}
use Rattle.ballot_base.specs.declared.message.Message.{Message}
use Rattle.broker_spec.specs.declared.command.Command.{Command}
use Rattle.agreement.specs.MasterState.{MasterState, is_granted}
use Rattle.agreement.specs.cut_logs.Masters.{activated}
use Rattle.run_history.specs.declared.event.MasterAct.TheVariants.{Answers}
use Rattle.run_history.specs.declared.event.MasterEvent.{MasterEvent}
use Rattle.run_history.specs.History.{IsMasterOf}
use Rattle.run_history.specs.Log.{sent_in}
use Rattle.run_history.specs.Masters.{MasterDid, MasterView, message_of}
use Rattle.run_history.specs.Rules.MayAdd.{master_may}
use Rattle.run_history.proofs.LongerLogs.{in_later}
use Rattle.run_history.proofs.MasterEvents.{answer_is, master_after_added, master_did, told_sent}
use Rattle.run_history.proofs.master_on_record.MasterOnRecord.activate.Goals as goal

pub add_or_wait-requires-clause-may : goal.add_or_wait-requires-clause-may
add_or_wait-requires-clause-may g c =
    let me = c.self.inside in
    let v = c.learn.new.self in
    let ballot = c.args.ballot in
    let begins : IsPrefix me.seen v = subst (λ l. IsPrefix l v) c.again-seen.ensures c.learn.ensures.this in
    let event : MasterEvent = record { act = Answers c.args.from ballot; after = c.of.result.value; receiver = c.args.from; message = c.of-2.result.value } in
    let body = answer_is (is_granted me.state ballot me.state.waiting) c.activate.result ballot c.activation_answer-body.result c.activate.ensures.answer c.activation_answer-body.ensures in
    let message = c.of-2.ensures ∙ ap (λ (b : Body Command). record { from = master; body = b }) body in
    master_may event me.seen me.state c.self.invariant.2 begins c.self.invariant.1 (
      in_later (master, record { from = c.args.from; body = Activate ballot }) c.args.known.now v c.learn.ensures.that c.requires,
      record { after = c.of.ensures ∙ c.activate.ensures.state; receiver = refl; message = message },
    )

pub invariant_of-self : goal.invariant_of-self
invariant_of-self g c =
    let config = g.H.RunNaming.config in
    let me = c.self.inside in
    let v = c.learn.new.self in
    let w = c.add_or_wait.new.self in
    let event : MasterEvent = record { act = Answers c.args.from c.args.ballot; after = c.of.result.value; receiver = c.args.from; message = c.of-2.result.value } in
    let begins : IsPrefix me.seen v = subst (λ l. IsPrefix l v) c.again-seen.ensures c.learn.ensures.this in
    (c.self.invariant.0, subst (λ (m : MasterState). IsMasterOf config w m (me.count + 1)) c.of.ensures (master_after_added config me.seen v w event me.state me.count begins c.self.invariant.1 c.add_or_wait.ensures), c.self.invariant.2)

pub new-sent-requires : goal.new-sent-requires
new-sent-requires g c =
    let v = c.learn.new.self in
    let w = c.add_or_wait.new.self in
    let event : MasterEvent = record { act = Answers c.args.from c.args.ballot; after = c.of.result.value; receiver = c.args.from; message = c.of-2.result.value } in
    rw c.again.ensures (subst (λ (m : Message Command). In (c.args.from, m) (sent_in w)) c.of-2.ensures (told_sent v w c.self.inside.count event c.add_or_wait.ensures))

pub returns-clause-message : goal.returns-clause-message
returns-clause-message g c =
    let me = c.self.inside in
    let ballot = c.args.ballot in
    let body = answer_is (is_granted me.state ballot me.state.waiting) c.activate.result ballot c.activation_answer-body.result c.activate.ensures.answer c.activation_answer-body.ensures in
    subst (λ (s : MasterView). c.new-sent.result ≡ message_of (activated Command s.state ballot c.args.from s.state.waiting)) c.self.view_is
    (c.new-sent.ensures ∙ ap (λ (b : Body Command). message_of (record { state = me.state; receiver = c.args.from; body = b })) body)

pub returns-clause-did : goal.returns-clause-did
returns-clause-did g c =
    let me = c.self.inside in
    let v = c.learn.new.self in
    let ballot = c.args.ballot in
    let begins : IsPrefix me.seen v = subst (λ l. IsPrefix l v) c.again-seen.ensures c.learn.ensures.this in
    let body = answer_is (is_granted me.state ballot me.state.waiting) c.activate.result ballot c.activation_answer-body.result c.activate.ensures.answer c.activation_answer-body.ensures in
    let message = c.of-2.ensures ∙ ap (λ (b : Body Command). record { from = master; body = b }) body in
    subst (λ (s : MasterView). MasterDid s (Answers c.args.from ballot) (activated Command s.state ballot c.args.from s.state.waiting) (record { state = c.activate.new.self; log = c.add_or_wait.new.self })) c.self.view_is
    (master_did (record { state = me.state; log = me.seen }) (record { state = c.activate.new.self; log = c.add_or_wait.new.self }) v (Answers c.args.from ballot) (Answers c.args.from ballot) c.of.result.value c.args.from c.of-2.result.value (activated Command me.state ballot c.args.from me.state.waiting) me.count begins c.add_or_wait.ensures refl (c.of.ensures ∙ c.activate.ensures.state) refl message c.activate.ensures.state c.self.invariant.1.counted)
