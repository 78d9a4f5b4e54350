use Rattle.std.proofs.Common.{◌≡◌, ◌+◌, List, refl, ap, sym, ◌∙◌, subst}
use mathlib.Core.List.{IsPrefix}
use Rattle.ballot_base.specs.StepOutcome.{master}
use Rattle.ballot_base.specs.declared.config.Config.{Config}
use Rattle.ballot_base.specs.declared.message.Body.{Body}
use Rattle.ballot_base.specs.declared.message.Message.{Message}
use Rattle.broker_spec.specs.declared.command.Command.{Command}
use Rattle.agreement.specs.MasterState.{MasterState, assigning, master_after}
use Rattle.agreement.specs.cut_logs.Masters.{assigned}
use Rattle.lists.specs.Lists.{In}
use Rattle.master.proofs.Groups.{new_ballot_is}
use Rattle.run_history.specs.declared.event.MasterAct.TheVariants.{Assigns}
use Rattle.run_history.specs.declared.event.MasterEvent.{MasterEvent}
use Rattle.run_history.specs.declared.event.RunEvent.{RunEvent}
use Rattle.run_history.specs.declared.event.RunEvent.TheVariants.{ByMaster}
use Rattle.run_history.specs.History.{IsMasterOf}
use Rattle.run_history.specs.Log.{sent_in}
use Rattle.run_history.specs.Rules.{MayAdd}
use Rattle.run_history.specs.Rules.MayAdd.{master_may}
use Rattle.run_history.proofs.MasterEvents.{master_after_added, master_did, no_refusal, told_sent}
use Rattle.run_history.proofs.Prefixes.{prefix_self}
use Rattle.run_history.proofs.master_on_record.MasterOnRecord.assign.Goals as goal

pub unreachable-requires : goal.unreachable-requires
unreachable-requires g c =
    let granted = rw (← c.self.view_is) at c.requires in
    no_refusal c.assign.result c.in_default.field-0 _ c.in_default.is granted c.assign.ensures.bad c.assign.ensures.spent

pub add_or_wait-requires-clause-may : goal.add_or_wait-requires-clause-may
add_or_wait-requires-clause-may g c =
    let me = c.self.inside in
    let config = c.args.config in
    let v = c.again-seen.result in
    let granted = rw (← c.self.view_is) at c.requires in
    let state : c.assign.new.self ≡ assigning me.state config = c.assign.ensures.state ∙ ap (λ r. master_after me.state config r) granted in
    let body = new_ballot_is {C = Command} c.in-Ok.ballot me.state config config c.in_ok-members.members c.in_ok-previous_members.previous_members c.active-previous.result.0 refl
    (c.in_ok-members.ensures ∙ c.as_slice.ensures) c.in-Ok.ensures.ok c.active-previous.ensures.ballot (c.in_ok-previous_members.ensures ∙ c.active-previous.ensures.members) in
    let message = c.of-2.ensures ∙ ap (λ (b : Body Command). record { from = master; body = b }) body in
    let begins : IsPrefix me.seen v = subst (λ (l : List RunEvent). IsPrefix me.seen l) (sym c.again-seen.ensures) (prefix_self me.seen) in
    let event : MasterEvent = record { act = Assigns config; after = c.of.result.value; receiver = config.primary; message = c.of-2.result.value } in
    subst (λ (k : Config). MayAdd g.H.RunNaming.nodes g.H.RunNaming.config g.H.RunNaming.linked v me.count (ByMaster (record { act = Assigns k; after = c.of.result.value; receiver = config.primary; message = c.of-2.result.value }))) (sym c.of-assigned.ensures)
    (master_may event me.seen me.state c.self.invariant.2 begins c.self.invariant.1 (granted, record { after = c.of.ensures ∙ state; receiver = refl; message = message }))

pub invariant_of-self : goal.invariant_of-self
invariant_of-self g c =
    let config = g.H.RunNaming.config in
    let me = c.self.inside in
    let v = c.again-seen.result in
    let w = c.add_or_wait.new.self in
    let event : MasterEvent = record { act = Assigns c.of-assigned.result.value; after = c.of.result.value; receiver = c.args.config.primary; message = c.of-2.result.value } in
    let begins : IsPrefix me.seen v = subst (λ (l : List RunEvent). IsPrefix me.seen l) (sym c.again-seen.ensures) (prefix_self me.seen) in
    (c.self.invariant.0, subst (λ (m : MasterState). IsMasterOf config w m (me.count + 1)) c.of.ensures (master_after_added config me.seen v w event me.state me.count begins c.self.invariant.1 c.add_or_wait.ensures), c.self.invariant.2)

pub new-sent-requires : goal.new-sent-requires
new-sent-requires g c =
    let v = c.again-seen.result in
    let w = c.add_or_wait.new.self in
    let event : MasterEvent = record { act = Assigns c.of-assigned.result.value; after = c.of.result.value; receiver = c.args.config.primary; message = c.of-2.result.value } in
    rw c.again.ensures (subst (λ (m : Message Command). In (c.args.config.primary, m) (sent_in w)) c.of-2.ensures (told_sent v w c.self.inside.count event c.add_or_wait.ensures))

pub returns-clause-message : goal.returns-clause-message
returns-clause-message g c =
    let me = c.self.inside in
    let config = c.args.config in
    let body = new_ballot_is {C = Command} c.in-Ok.ballot me.state config config c.in_ok-members.members c.in_ok-previous_members.previous_members c.active-previous.result.0 refl
    (c.in_ok-members.ensures ∙ c.as_slice.ensures) c.in-Ok.ensures.ok c.active-previous.ensures.ballot (c.in_ok-previous_members.ensures ∙ c.active-previous.ensures.members) in
    rw (← c.self.view_is) (c.new-sent.ensures ∙ ap (λ (b : Body Command). record { receiver = config.primary; message = record { from = master; body = b } }) body)

pub returns-clause-did : goal.returns-clause-did
returns-clause-did g c =
    let me = c.self.inside in
    let config = c.args.config in
    let v = c.again-seen.result in
    let granted = rw (← c.self.view_is) at c.requires in
    let state : c.assign.new.self ≡ assigning me.state config = c.assign.ensures.state ∙ ap (λ r. master_after me.state config r) granted in
    let body = new_ballot_is {C = Command} c.in-Ok.ballot me.state config config c.in_ok-members.members c.in_ok-previous_members.previous_members c.active-previous.result.0 refl
    (c.in_ok-members.ensures ∙ c.as_slice.ensures) c.in-Ok.ensures.ok c.active-previous.ensures.ballot (c.in_ok-previous_members.ensures ∙ c.active-previous.ensures.members) in
    let message = c.of-2.ensures ∙ ap (λ (b : Body Command). record { from = master; body = b }) body in
    let begins : IsPrefix me.seen v = subst (λ (l : List RunEvent). IsPrefix me.seen l) (sym c.again-seen.ensures) (prefix_self me.seen) in
    rw (← c.self.view_is) (master_did _ _ v (Assigns config) (Assigns c.of-assigned.result.value) c.of.result.value config.primary c.of-2.result.value (assigned Command me.state config) me.count begins c.add_or_wait.ensures (ap Assigns c.of-assigned.ensures) (c.of.ensures ∙ state) refl message state c.self.invariant.1.counted)
