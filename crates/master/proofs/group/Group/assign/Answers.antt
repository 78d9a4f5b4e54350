use Rattle.std.proofs.Common.{◌≡◌, None, true, subst, rules as rules_of}
use Rattle.agreement.specs.MasterState.{refusal}
use Rattle.master.specs.declared.event.Event.TheVariants.{Assign}
use Rattle.master.specs.Group.{GroupState}
use Rattle.master.proofs.Counting.{gives_turn, some_idle, steps_idle, steps_lost, steps_master}
use Rattle.master.proofs.Quiet.{exactly_none, master_needs, refused_turn}
use Rattle.master.proofs.group.Group.assign.Goals as goal

pub returns-in-Ok-clause-step : goal.returns-in-Ok-clause-step
returns-in-Ok-clause-step g c =
    let rules = g.M.Machine.rules in
    steps_master rules c.args.self.now c.give.new.self (Assign c.args.config.now) _
    (gives_turn rules c.args.self.now.moment c.args.config.now
    (subst (λ (z : GroupState _ _ _). refusal z.moment.master c.args.config.now ≡ None) c.self.view_is (c.can_assign.ensures.0 c.if-not-can_assign.false))) c.in-Ok.ensures.ok

pub returns-in-Err-clause-step : goal.returns-in-Err-clause-step
returns-in-Err-clause-step g c =
    let rules = g.M.Machine.rules in
    steps_lost rules c.args.self.now _ (Assign c.args.config.now) (rw c.in-Err.ensures.err at c.count_loss.ensures)

pub returns-in-Ok-clause-quiet : goal.returns-in-Ok-clause-quiet
returns-in-Ok-clause-quiet g c =
    let rules = g.M.Machine.rules in
    let goes = gives_turn rules c.args.self.now.moment c.args.config.now
    (subst (λ (z : GroupState _ _ _). refusal z.moment.master c.args.config.now ≡ None) c.self.view_is (c.can_assign.ensures.0 c.if-not-can_assign.false)) in
    master_needs rules c.args.self.now.moment (Assign c.args.config.now) _ goes (λ n f. cc)

pub returns-in-Err-clause-quiet : goal.returns-in-Err-clause-quiet
returns-in-Err-clause-quiet g c =
    let rules = g.M.Machine.rules in
    let goes = gives_turn rules c.args.self.now.moment c.args.config.now
    (subst (λ (z : GroupState _ _ _). refusal z.moment.master c.args.config.now ≡ None) c.self.view_is (c.can_assign.ensures.0 c.if-not-can_assign.false)) in
    master_needs rules c.args.self.now.moment (Assign c.args.config.now) _ goes (λ n f. cc)

pub returns-in-Ok-clause-idle : goal.returns-in-Ok-clause-idle
returns-in-Ok-clause-idle g c =
    let rules = g.M.Machine.rules in
    let goes = gives_turn rules c.args.self.now.moment c.args.config.now
    (subst (λ (z : GroupState _ _ _). refusal z.moment.master c.args.config.now ≡ None) c.self.view_is (c.can_assign.ensures.0 c.if-not-can_assign.false)) in
    (λ h. cc, λ e. some_idle goes e)

pub returns-in-Err-clause-idle : goal.returns-in-Err-clause-idle
returns-in-Err-clause-idle g c =
    let rules = g.M.Machine.rules in
    let goes = gives_turn rules c.args.self.now.moment c.args.config.now
    (subst (λ (z : GroupState _ _ _). refusal z.moment.master c.args.config.now ≡ None) c.self.view_is (c.can_assign.ensures.0 c.if-not-can_assign.false)) in
    (λ h. cc, λ e. some_idle goes e)

pub returns-then-not-can_assign-clause-step : goal.returns-then-not-can_assign-clause-step
returns-then-not-can_assign-clause-step g c =
    let rules = g.M.Machine.rules in
    let exactly = subst (λ (z : GroupState _ _ _). (c.can_assign.result ≡ true → refusal z.moment.master c.args.config.now ≡ None)
    × (refusal z.moment.master c.args.config.now ≡ None → c.can_assign.result ≡ true)) c.self.view_is c.can_assign.ensures in
    let none = refused_turn rules c.args.self.now.moment c.args.config.now c.can_assign.result exactly c.if-not-can_assign.true in
    steps_idle rules c.args.self.now (Assign c.args.config.now) none

pub returns-then-not-can_assign-clause-idle : goal.returns-then-not-can_assign-clause-idle
returns-then-not-can_assign-clause-idle g c =
    let rules = g.M.Machine.rules in
    let exactly = subst (λ (z : GroupState _ _ _). (c.can_assign.result ≡ true → refusal z.moment.master c.args.config.now ≡ None)
    × (refusal z.moment.master c.args.config.now ≡ None → c.can_assign.result ≡ true)) c.self.view_is c.can_assign.ensures in
    let none = refused_turn rules c.args.self.now.moment c.args.config.now c.can_assign.result exactly c.if-not-can_assign.true in
    (λ h. none, λ e. search rules_of)

pub returns-then-not-can_assign-clause-quiet : goal.returns-then-not-can_assign-clause-quiet
returns-then-not-can_assign-clause-quiet g c =
    let rules = g.M.Machine.rules in
    let exactly = subst (λ (z : GroupState _ _ _). (c.can_assign.result ≡ true → refusal z.moment.master c.args.config.now ≡ None)
    × (refusal z.moment.master c.args.config.now ≡ None → c.can_assign.result ≡ true)) c.self.view_is c.can_assign.ensures in
    let none = refused_turn rules c.args.self.now.moment c.args.config.now c.can_assign.result exactly c.if-not-can_assign.true in
    λ q. exactly_none rules c.args.self.now (Assign c.args.config.now) none
