use Rattle.std.proofs.Common.{inl, inr, refl, sym, ◌∙◌}
use Rattle.world_base.proofs.of_node_core.Opens.{opens-none, opened, opened_core, opened_not}
use Rattle.world_base.proofs.node_core.stepping_node.SteppingNode.open.Goals as goal

pub returns-in_default-clause-exact : goal.returns-in_default-clause-exact
returns-in_default-clause-exact c = λ _. opens-none c.args.port _ c.in_default.ensures.none

pub returns-in_default-clause-lossy : goal.returns-in_default-clause-lossy
returns-in_default-clause-lossy c = inr refl

pub returns-clause-exact : goal.returns-clause-exact
returns-clause-exact c = λ _.
    let accepted = rw (← c.self.view_is) at c.in-Some.ensures.some in
    let name = rw (← c.self.view_is) at c.in-Some.ensures.named in
    rw (← c.self.view_is) (opened c.args.port _ c.in-Some.name c.ballot-self-inside.result c.count-self-inside.result
    c.new-connection.result c.push.new.connections.items accepted name c.ballot-self-inside.ensures.value
    c.count-self-inside.ensures.value c.new-connection.ensures (c.push.ensures.ok c.if-not-push.false))

pub returns-clause-lossy : goal.returns-clause-lossy
returns-clause-lossy c =
    let accepted = rw (← c.self.view_is) at c.in-Some.ensures.some in
    let name = rw (← c.self.view_is) at c.in-Some.ensures.named in
    rw (← c.self.view_is) (inl (opened_core c.args.port _ c.in-Some.name c.ballot-self-inside.result
    c.count-self-inside.result
    c.new-connection.result c.push.new.connections.items accepted name c.ballot-self-inside.ensures.value
    c.count-self-inside.ensures.value c.new-connection.ensures (c.push.ensures.ok c.if-not-push.false)))

pub returns-then-not-push-clause-lossy : goal.returns-then-not-push-clause-lossy
returns-then-not-push-clause-lossy c = rw (← c.self.view_is) (inr (opened_not _ _ (c.push.ensures.same c.if-not-push.true)))

pub returns-then-not-push-clause-none : goal.returns-then-not-push-clause-none
returns-then-not-push-clause-none c = λ refused.
    let f = sym c.in-Some.ensures.some ∙ refused in cc

pub returns-clause-none : goal.returns-clause-none
returns-clause-none c = λ refused.
    let f = sym c.in-Some.ensures.some ∙ refused in cc
