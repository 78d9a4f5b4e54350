use Rattle.std.proofs.Common.{List, sym, subst}
use mathlib.Core.List.{IsPrefix}
use Rattle.lists.specs.Lists.{In}
use Rattle.ballot_base.specs.declared.message.Message.{Message}
use Rattle.broker_spec.specs.declared.command.Command.{Command}
use Rattle.run_history.specs.declared.event.BroughtMessage.{BroughtMessage}
use Rattle.run_history.specs.declared.event.RunEvent.{RunEvent}
use Rattle.run_history.specs.Log.{sent_in}
use Rattle.run_history.specs.Rules.MayAdd.{link_may}
use Rattle.run_history.proofs.LinksBring.{brought_more, brought_sent, has_brought}
use Rattle.run_history.proofs.Prefixes.{prefix_self}
use Rattle.run_history.proofs.links_on_record.LinksOnRecord.bring.Goals as goal

pub add_or_wait-requires-clause-may : goal.add_or_wait-requires-clause-may
add_or_wait-requires-clause-may g c =
    let me = c.self.inside in
    let begins : IsPrefix me.seen c.again-seen.result = subst (λ (l : List RunEvent). IsPrefix me.seen l) (sym c.again-seen.ensures) (prefix_self me.seen) in
    link_may (record { receiver = c.args.receiver; message = c.of.result.value }) me.seen c.self.invariant.2 begins c.self.invariant.1

pub invariant_of-self : goal.invariant_of-self
invariant_of-self g c =
    let event : BroughtMessage = record { receiver = c.args.receiver; message = c.of.result.value } in
    (c.self.invariant.0, brought_more c.again-seen.result c.add_or_wait.new.self c.self.inside.count event c.add_or_wait.ensures, c.self.invariant.2)

pub new-sent-requires : goal.new-sent-requires
new-sent-requires g c =
    let event : BroughtMessage = record { receiver = c.args.receiver; message = c.of.result.value } in
    rw c.again.ensures (subst (λ (m : Message Command). In (c.args.receiver, m) (sent_in c.add_or_wait.new.self)) c.of.ensures (brought_sent c.again-seen.result c.add_or_wait.new.self c.self.inside.count event c.add_or_wait.ensures))

pub returns-clause-brought : goal.returns-clause-brought
returns-clause-brought g c =
    let me = c.self.inside in
    let event : BroughtMessage = record { receiver = c.args.receiver; message = c.of.result.value } in
    let begins : IsPrefix me.seen c.again-seen.result = subst (λ (l : List RunEvent). IsPrefix me.seen l) (sym c.again-seen.ensures) (prefix_self me.seen) in
    rw (← c.self.view_is) (has_brought me.seen c.again-seen.result c.add_or_wait.new.self me.count event c.args.message begins c.add_or_wait.ensures c.self.invariant.1 c.of.ensures)
