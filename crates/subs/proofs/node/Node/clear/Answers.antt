-- The rows of the one side or the other have no such client any more.
use Rattle.std.proofs.Common.{refl, sym, subst, Bool, None}
use Rattle.subs.proofs.NodeSets.{sets_rest, sets_here}
use Rattle.subs.specs.Changes.{SetsRow}
use Rattle.subs.specs.Inside.{clients_at}
use Rattle.subs.proofs.node.Node.clear.Goals as goal

pub returns-then-rest-clause-after : goal.returns-then-rest-clause-after
returns-then-rest-clause-after c =
    subst (λ (b : Bool). SetsRow (clients_at c.args.self.now) (clients_at (record c.args.self.now { rest = c.clear.new.self })) b c.args.client.now None) (sym c.if-rest.true)
    (sets_rest c.args.self.now (record c.args.self.now { rest = c.clear.new.self }) c.args.client.now None refl c.clear.ensures.after)

pub returns-clause-after : goal.returns-clause-after
returns-clause-after c =
    subst (λ (b : Bool). SetsRow (clients_at c.args.self.now) (clients_at (record c.args.self.now { here = c.clear-2.new.self })) b c.args.client.now None) (sym c.if-rest.false)
    (sets_here c.args.self.now (record c.args.self.now { here = c.clear-2.new.self }) c.args.client.now None refl c.clear-2.ensures.after)
