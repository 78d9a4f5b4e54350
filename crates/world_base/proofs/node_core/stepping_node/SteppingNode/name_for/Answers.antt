use Rattle.std.proofs.Common.{sym, ◌∙◌}
use Rattle.world_base.specs.node_core.Core.{CoreState}
use Rattle.world_base.proofs.of_node_core.Opens.{accepts-idle, accepts-known, accepts-none, accepts-some}
use Rattle.world_base.proofs.node_core.stepping_node.SteppingNode.name_for.Goals as goal

pub returns-then-not-serves-clause-none : goal.returns-then-not-serves-clause-none
returns-then-not-serves-clause-none c = accepts-idle c.args.port c.args.self.now.core (sym c.serves.ensures ∙ c.if-not-serves.true)

pub returns-then-has_port-clause-none : goal.returns-then-has_port-clause-none
returns-then-has_port-clause-none c =
    let core : CoreState = record {
      replica = c.self.inside.replica;
      last_name = record { ballot = c.self.inside.last_ballot; count = c.self.inside.last_count };
      connections = c.self.inside.connections.items;
    } in
    rw (← c.self.view_is) (accepts-known c.args.port core
    (rw (← c.self.view_is) at (sym c.serves.ensures ∙ c.if-not-serves.false))
    (rw c.deref.ensures.value at (sym c.has_port.ensures ∙ c.if-has_port.true)))

pub returns-clause-some : goal.returns-clause-some
returns-clause-some c =
    let core : CoreState = record {
      replica = c.self.inside.replica;
      last_name = record { ballot = c.self.inside.last_ballot; count = c.self.inside.last_count };
      connections = c.self.inside.connections.items;
    } in
    rw (← c.self.view_is) (accepts-some c.args.port core c.next_name.result
    (rw (← c.self.view_is) at (sym c.serves.ensures ∙ c.if-not-serves.false))
    (rw c.deref.ensures.value at (sym c.has_port.ensures ∙ c.if-has_port.false))
    (rw (← c.self.view_is) at c.next_name.ensures.some))

pub returns-clause-none : goal.returns-clause-none
returns-clause-none c =
    let core : CoreState = record {
      replica = c.self.inside.replica;
      last_name = record { ballot = c.self.inside.last_ballot; count = c.self.inside.last_count };
      connections = c.self.inside.connections.items;
    } in
    rw (← c.self.view_is) (accepts-none c.args.port core c.next_name.result
    (rw (← c.self.view_is) at (sym c.serves.ensures ∙ c.if-not-serves.false))
    (rw c.deref.ensures.value at (sym c.has_port.ensures ∙ c.if-has_port.false))
    (rw (← c.self.view_is) at c.next_name.ensures.none))
