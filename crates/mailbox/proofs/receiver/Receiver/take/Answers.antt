use Rattle.std.proofs.Common.{◌∙◌, ap}
use Rattle.crossbeam_queue.specs.Passes.{view}
use Rattle.mailbox.proofs.CountsAreKept.{kept_hearing, kept_on}
use Rattle.mailbox.proofs.StepsKeepTheRule.{takes}
use Rattle.mailbox.proofs.MeetingKeepsTheRule.{moments}
use Rattle.mailbox.proofs.TellingKeepsTheRule.{has_arrived, hears}
use Rattle.mailbox.proofs.receiver.Receiver.take.Goals as goal

pub absorb-requires-clause-rule : goal.absorb-requires-clause-rule
absorb-requires-clause-rule g c = hears _ _ _ _

pub pop_as-requires-clause-rule : goal.pop_as-requires-clause-rule
pop_as-requires-clause-rule g c =
    (takes _ _ (ap (λ v. v.is_of_receiver) c.absorb.ensures.rule ∙ ap (λ v. v.is_of_receiver) c.self.invariant.role), moments _ _)

pub returns-in_err-lane-clause-arrived : goal.returns-in_err-lane-clause-arrived
returns-in_err-lane-clause-arrived g c =
    has_arrived c.from_residual.result (view c.self.inside.pass) (view c.receipt.inside.pass) _ c.args.self.now c.args.receipt
    c.absorb.ensures.rule
    (ap (λ v. v.is_of_receiver) c.self.invariant.role)
    (ap (λ r. r.taken) c.self.view_is)
    (ap (λ r. r.bounds) c.receipt.view_is)
    c.in_err-lane.ensures.rule.1

pub invariant_of-self-2 : goal.invariant_of-self-2
invariant_of-self-2 g c =
    let took = c.in_ok-lane.ensures in
    kept_on _ _ _ _ _ _ (c.in_ok-lane.lane, c.in_ok-lane.item) _ _
    (kept_hearing _ _ _ c.absorb.new.pass _ _ (view c.receipt.inside.pass) c.self.invariant c.absorb.ensures.queue c.absorb.ensures.rule)
    took.queue
    took.rule
    c.from.ensures
    c.index_mut.ensures.value
