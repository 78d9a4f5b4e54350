use Rattle.std.specs.Prelude.{is_ok}
use Rattle.std.proofs.Common.{rules, ◌≡◌, ℕ, Bool, true, if◌then◌else◌, List, [], ◌∷◌, ◌++◌, ap, sym, subst, ◌∙◌}
use Rattle.agreement.specs.cut_logs.Masters.{assigned}
use Rattle.broker_spec.specs.declared.command.Command.{Command}
use Rattle.lists.specs.Lists.{In}
use Rattle.run_history.specs.Log.{sent_in}
use Rattle.world_base.specs.declared.node_core.item.Item.{Item}
use Rattle.world_base.specs.declared.node_core.item.Item.TheVariants.{Peer}
use Rattle.post.specs.outbox.Given.{Addressed}
use Rattle.post.specs.outbox.MasterAnswers.{message_of}
use Rattle.post.specs.outbox.WaitingItems.{OutboxView}
use Rattle.post.proofs.of_outbox.OutboxKept.{queued_answer}
use Rattle.post.proofs.outbox.outbox.Outbox.assign.Goals as goal

pub invariant_of-self-2 : goal.invariant_of-self-2
invariant_of-self-2 g c =
    let known = c.item_of-item.result.1 in
    let message = c.into_sent.result.message in
    let answer : c.into_sent.result ≡ message_of (assigned Command c.args.master.now c.args.config) = c.into_sent.ensures ∙ c.in_ok-ballot.ensures.answer in
    let number : c.into_sent.result.receiver ≡ c.self.inside.number = ap (λ (a : Addressed). a.receiver) answer ∙ (c.requires ∙ sym (ap (λ (o : OutboxView). o.number) c.self.view_is)) in
    queued_answer c.self.inside.seen known c.learn.new.self c.self.inside.number message (is_ok c.push.result)
    c.self.inside.items.items c.reserve.new.self.items c.push.new.self.items
    c.learn.ensures.this c.learn.ensures.that
    (subst (λ (n : ℕ). In (n, message) (sent_in known)) number c.item_of-item.ensures.sent)
    (ap (λ (addressed : Addressed). addressed.message.from) answer) c.self.invariant c.reserve.ensures.items
    (c.push.ensures.items ∙ ap (λ (item : Item). if is_ok c.push.result then c.reserve.new.self.items ++ item ∷ [] else c.reserve.new.self.items) c.item_of-item.ensures.item)

pub returns-clause-queued : goal.returns-clause-queued
returns-clause-queued g c =
    let message = (message_of (assigned Command c.args.master.now c.args.config)).message in
    let ok : is_ok c.push.result ≡ true = search (rules, c.if-is_err-2, c.is_err-2) in
    let kept : c.push.new.self.items ≡ c.reserve.new.self.items ++ c.item_of-item.result.0 ∷ [] =
    c.push.ensures.items ∙ ap (λ (b : Bool). if b then c.reserve.new.self.items ++ c.item_of-item.result.0 ∷ [] else c.reserve.new.self.items) ok in
    let item : c.item_of-item.result.0 ≡ Peer message = c.item_of-item.ensures.item ∙ ap (λ (a : Addressed). Peer a.message) (c.into_sent.ensures ∙ c.in_ok-ballot.ensures.answer) in
    let whole : c.push.new.self.items ≡ c.self.inside.items.items ++ Peer message ∷ [] = kept ∙ (λ i. c.reserve.ensures.items i ++ item i ∷ []) in
    ap (λ (items : List Item). record { number = c.self.inside.number; items = items }) whole
    ∙ ap (λ (o : OutboxView). record { number = o.number; items = o.items ++ Peer message ∷ [] }) c.self.view_is
