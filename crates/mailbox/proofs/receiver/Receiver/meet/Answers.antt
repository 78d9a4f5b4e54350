use Rattle.std.proofs.Common.{◌∙◌, ap}
use Rattle.mailbox.proofs.PassesKeepTheRule.{lends}
use Rattle.mailbox.proofs.MeetingKeepsTheRule.{meets, learns, parts}
use Rattle.mailbox.proofs.receiver.Receiver.meet.Goals as goal

pub another-lent-requires-clause-rule : goal.another-lent-requires-clause-rule
another-lent-requires-clause-rule g c =
    lends _ _ (ap (λ v. v.is_of_lane) c.lane.invariant.role) (ap (λ v. v.is_of_receiver) c.lane.invariant.role)

pub absorb-requires-clause-rule : goal.absorb-requires-clause-rule
absorb-requires-clause-rule g c =
    let mine = c.self.invariant.role in
    let lent = c.another-lent.ensures.rule.1 ∙ c.lane.invariant.role in
    meets _ _ _ _ (ap (λ v. v.is_of_receiver) mine) (ap (λ v. v.is_of_lane) mine) (ap (λ v. v.is_of_lane) lent)

pub learn_as-requires-clause-rule : goal.learn_as-requires-clause-rule
learn_as-requires-clause-rule g c =
    let lent = c.another-lent.ensures.rule.1 ∙ c.lane.invariant.role in
    let both = c.absorb.ensures.rule in
    learns _ _
    (ap (λ v. v.is_of_lane) both ∙ ap (λ v. v.is_of_lane) lent)
    (ap (λ v. v.is_of_receiver) both ∙ ap (λ v. v.is_of_receiver) c.self.invariant.role)

pub another-requires-clause-rule : goal.another-requires-clause-rule
another-requires-clause-rule g c =
    let lent = c.another-lent.ensures.rule.1 ∙ c.lane.invariant.role in
    let both = c.learn_as.ensures.queue.1 ∙ c.absorb.ensures.rule in
    parts _ _
    (ap (λ v. v.is_of_lane) both ∙ ap (λ v. v.is_of_lane) lent)
    (ap (λ v. v.is_of_receiver) both ∙ ap (λ v. v.is_of_receiver) c.self.invariant.role)
