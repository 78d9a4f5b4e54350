use Rattle.std.proofs.Common.{sym, ◌∙◌}
use Rattle.world_base.proofs.of_node_core.EndsRun.{core_of, ran_held, ran_not_held}
use Rattle.std.specs.Prelude.{false}
use Rattle.world_base.proofs.node_core.stepping_node.SteppingNode.hold.Goals as goal

pub returns-then-not-hold_at-clause-lossy : goal.returns-then-not-hold_at-clause-lossy
returns-then-not-hold_at-clause-lossy c =
    ran_not_held c.args.port c.args.piece _ _ _ _ _ (core_of _ _ c.self.view_is ∙ core_of _ _ (c.hold_at.ensures.same c.if-not-hold_at.true)) c.end.ensures.lossy

pub returns-clause-lossy : goal.returns-clause-lossy
returns-clause-lossy c = ran_held c.args.port c.args.piece _ c.hold_at.new.self.core _ (core_of _ _ (c.hold_at.ensures.ok c.if-not-hold_at.false))

pub returns-then-not-hold_at-clause-none : goal.returns-then-not-hold_at-clause-none
returns-then-not-hold_at-clause-none c = λ none.
    let f = sym (c.hold_at.ensures.none none).0 ∙ c.if-not-hold_at.true in cc

pub returns-clause-none : goal.returns-clause-none
returns-clause-none c = λ none. (c.hold_at.ensures.none none).1
