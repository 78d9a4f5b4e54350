use Rattle.std.proofs.Common.{◌∙◌, length, inl, sym, ap, arith}
use Rattle.crossbeam_queue.specs.Passes.{ruled_capacity, view}
use Rattle.mailbox.proofs.StepsKeepTheRule.{sends}
use Rattle.mailbox.proofs.MeetingKeepsTheRule.{moments}
use Rattle.mailbox.proofs.TellingKeepsTheRule.{hears, is_full}
use Rattle.mailbox.proofs.lane.Lane.send.Goals as goal

pub absorb-requires-clause-rule : goal.absorb-requires-clause-rule
absorb-requires-clause-rule g c = hears _ _ _ _

pub push_as-requires-clause-rule : goal.push_as-requires-clause-rule
push_as-requires-clause-rule g c =
    let kept = c.self.invariant in
    let heard = c.absorb.ensures.rule in
    let sent = ap (λ v. length v.sent) heard in
    let may_send = ap (λ v. v.may_send) heard in
    let role = ap (λ v. v.may_send) kept.role in (
      sends _ _ _ _
          (ap (λ v. v.is_of_lane) heard ∙ ap (λ v. v.is_of_lane) kept.role)
          (sym (ap (λ v. v.lane) heard ∙ ap (λ v. v.lane) kept.role))
          (omega (arith, sent))
          (omega (arith, may_send, role)),
      moments _ _,
    )

pub returns-in-Err-clause-room : goal.returns-in-Err-clause-room
returns-in-Err-clause-room g c =
    let kept = c.self.invariant in
    inl
    (is_full (view c.self.inside.pass) (view c.receipt.inside.pass) _ _ c.args.self.now c.args.receipt
    c.absorb.ensures.rule
    (ap (λ q. ruled_capacity q) c.deref-2.ensures ∙ kept.has_room)
    (ap (λ v. v.may_send) kept.role)
    (ap (λ s. s.sent) c.self.view_is)
    (ap (λ r. r.bounds) c.receipt.view_is)
    c.in-Err.ensures.rule.2)
