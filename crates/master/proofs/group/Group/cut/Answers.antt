use Rattle.std.proofs.Common.{◌≡◌, ◌-◌, true, false, ap, sym, ◌∙◌, refl, rules as rules_of}
use Rattle.ballot_base.specs.Compaction.{can_cut}
use Rattle.master.specs.declared.event.Event.TheVariants.{Cut}
use Rattle.master.specs.Outcomes.{cut_outcome, outcome_of_cutting}
use Rattle.master.proofs.Counting.{cuts_nothing, cuts_turn, some_idle, steps_cut, steps_idle}
use Rattle.master.proofs.Quiet.{cut_needs, exactly_none}
use Rattle.master.proofs.StepsOfNodes.{same_replica}
use Rattle.master.proofs.group.Group.cut.Goals as goal

pub returns-in_default-clause-step : goal.returns-in_default-clause-step
returns-in_default-clause-step g c =
    let rules = g.M.Machine.rules in
    let none = ap (outcome_of_cutting rules (c.args.node - 1)) (c.in_default.ensures.none refl) in
    steps_idle rules c.args.self.now (Cut c.args.node) none

pub returns-in_default-clause-idle : goal.returns-in_default-clause-idle
returns-in_default-clause-idle g c =
    let rules = g.M.Machine.rules in
    let none = ap (outcome_of_cutting rules (c.args.node - 1)) (c.in_default.ensures.none refl) in
    (λ h. none, λ e. search rules_of)

pub returns-in_default-clause-quiet : goal.returns-in_default-clause-quiet
returns-in_default-clause-quiet g c =
    let rules = g.M.Machine.rules in
    λ q. exactly_none rules c.args.self.now (Cut c.args.node) (ap (outcome_of_cutting rules (c.args.node - 1)) (c.in_default.ensures.none refl))

pub returns-then-not-can_cut-clause-step : goal.returns-then-not-can_cut-clause-step
returns-then-not-can_cut-clause-step g c =
    let rules = g.M.Machine.rules in
    let x = c.in-Some.ensures.some in
    let inside = rw (← c.self.view_is) at x.stands in
    let same = same_replica c.self.inside.nodes.items c.in-Some.at c.index.result.now x.replica c.index.ensures inside in
    let cannot : can_cut x.replica ≡ false = sym (ap can_cut same) ∙ sym c.can_cut.ensures ∙ c.if-not-can_cut.true in
    steps_idle rules c.args.self.now (Cut c.args.node) (cuts_nothing rules c.args.self.now.moment.world.nodes c.args.node c.in-Some.at x cannot)

pub returns-then-not-can_cut-clause-idle : goal.returns-then-not-can_cut-clause-idle
returns-then-not-can_cut-clause-idle g c =
    let rules = g.M.Machine.rules in
    let x = c.in-Some.ensures.some in
    let inside = rw (← c.self.view_is) at x.stands in
    let same = same_replica c.self.inside.nodes.items c.in-Some.at c.index.result.now x.replica c.index.ensures inside in
    let cannot : can_cut x.replica ≡ false = sym (ap can_cut same) ∙ sym c.can_cut.ensures ∙ c.if-not-can_cut.true in
    let none = cuts_nothing rules c.args.self.now.moment.world.nodes c.args.node c.in-Some.at x cannot in
    (λ h. none, λ e. search rules_of)

pub returns-then-not-can_cut-clause-quiet : goal.returns-then-not-can_cut-clause-quiet
returns-then-not-can_cut-clause-quiet g c =
    let rules = g.M.Machine.rules in
    let x = c.in-Some.ensures.some in
    let inside = rw (← c.self.view_is) at x.stands in
    let same = same_replica c.self.inside.nodes.items c.in-Some.at c.index.result.now x.replica c.index.ensures inside in
    let cannot : can_cut x.replica ≡ false = sym (ap can_cut same) ∙ sym c.can_cut.ensures ∙ c.if-not-can_cut.true in
    λ q. exactly_none rules c.args.self.now (Cut c.args.node) (cuts_nothing rules c.args.self.now.moment.world.nodes c.args.node c.in-Some.at x cannot)

pub cut_at-requires : goal.cut_at-requires
cut_at-requires g c =
    let x = c.in-Some.ensures.some in
    let inside = rw (← c.self.view_is) at x.stands in
    let same = same_replica c.self.inside.nodes.items c.in-Some.at c.index.result.now x.replica c.index.ensures inside in
    (x.replica, x.stands, sym (ap can_cut same) ∙ sym c.can_cut.ensures ∙ c.if-not-can_cut.false)

pub returns-clause-step : goal.returns-clause-step
returns-clause-step g c =
    let rules = g.M.Machine.rules in
    let x = c.in-Some.ensures.some in
    let inside = rw (← c.self.view_is) at x.stands in
    let same = same_replica c.self.inside.nodes.items c.in-Some.at c.index.result.now x.replica c.index.ensures inside in
    let can : can_cut x.replica ≡ true = sym (ap can_cut same) ∙ sym c.can_cut.ensures ∙ c.if-not-can_cut.false in
    steps_cut rules c.args.self.now c.cut_at.new.self (Cut c.args.node) (cut_outcome rules c.in-Some.at x.replica)
    (cuts_turn rules c.args.self.now.moment.world.nodes c.args.node c.in-Some.at x can) (c.cut_at.ensures x.replica x.stands)

pub returns-clause-idle : goal.returns-clause-idle
returns-clause-idle g c =
    let rules = g.M.Machine.rules in
    let x = c.in-Some.ensures.some in
    let inside = rw (← c.self.view_is) at x.stands in
    let same = same_replica c.self.inside.nodes.items c.in-Some.at c.index.result.now x.replica c.index.ensures inside in
    let can : can_cut x.replica ≡ true = sym (ap can_cut same) ∙ sym c.can_cut.ensures ∙ c.if-not-can_cut.false in
    (λ h. cc, λ e. some_idle (cuts_turn rules c.args.self.now.moment.world.nodes c.args.node c.in-Some.at x can) e)

pub returns-clause-quiet : goal.returns-clause-quiet
returns-clause-quiet g c =
    let rules = g.M.Machine.rules in
    let x = c.in-Some.ensures.some in
    let inside = rw (← c.self.view_is) at x.stands in
    let same = same_replica c.self.inside.nodes.items c.in-Some.at c.index.result.now x.replica c.index.ensures inside in
    let can : can_cut x.replica ≡ true = sym (ap can_cut same) ∙ sym c.can_cut.ensures ∙ c.if-not-can_cut.false in
    λ q. cut_needs rules c.args.self.now.moment c.args.node _ (cuts_turn rules c.args.self.now.moment.world.nodes c.args.node c.in-Some.at x can) q
