use Rattle.std.proofs.Common.{◌≡◌, Some, sym, ◌∙◌, subst, true≢false}
use Rattle.agreement.specs.MasterState.{MasterState, refusal}
use Rattle.agreement.specs.MasterState.AssignRefusal.{bad_members, ballots_spent}
use Rattle.post.proofs.of_outbox.Refusing.{bad_if, spent_if}
use Rattle.post.proofs.outbox.messaging_master.MessagingMaster.assign.Goals as goal

pub returns-then-not-is_lawful-clause-bad : goal.returns-then-not-is_lawful-clause-bad
returns-then-not-is_lawful-clause-bad g c = λ _.
    subst (λ (m : MasterState). refusal m c.args.config ≡ Some bad_members) c.self.view_is
    (bad_if c.self.inside.master.state c.args.config c.self.invariant.1 (sym c.is_lawful.ensures ∙ c.if-not-is_lawful.true))

pub returns-then-not-is_granted-clause-spent : goal.returns-then-not-is_granted-clause-spent
returns-then-not-is_granted-clause-spent g c = λ _.
    subst (λ (m : MasterState). refusal m c.args.config ≡ Some ballots_spent) c.self.view_is
    (spent_if c.self.inside.master.state c.args.config c.self.invariant.1 (sym c.is_lawful.ensures ∙ c.if-not-is_lawful.false)
    (λ none. true≢false (sym (c.can_assign-is_granted.ensures.1 none) ∙ c.if-not-is_granted.true)))
