-- The rows of the one side or the other have the client's.
use Rattle.std.proofs.Common.{refl, sym, subst, Bool, Some}
use Rattle.subs_base.proofs.ContentAfter.{on_ok, on_err}
use Rattle.subs.proofs.NodeSets.{sets_rest, sets_here, same_rows}
use Rattle.subs.specs.Changes.{SetsRow}
use Rattle.subs.specs.Inside.{clients_at}
use Rattle.subs.proofs.node.Node.set.Goals as goal

pub returns-then-rest-clause-ok : goal.returns-then-rest-clause-ok
returns-then-rest-clause-ok c =
    on_ok c.set.result
    (λ sets.
    subst (λ (b : Bool). SetsRow (clients_at c.args.self.now) (clients_at (record c.args.self.now { rest = c.set.new.self })) b c.args.client.now (Some c.args.qos)) (sym c.if-rest.true)
    (sets_rest c.args.self.now (record c.args.self.now { rest = c.set.new.self }) c.args.client.now (Some c.args.qos) refl sets))
    c.set.ensures.ok

pub returns-clause-ok : goal.returns-clause-ok
returns-clause-ok c =
    on_ok c.set-2.result
    (λ sets.
    subst (λ (b : Bool). SetsRow (clients_at c.args.self.now) (clients_at (record c.args.self.now { here = c.set-2.new.self })) b c.args.client.now (Some c.args.qos)) (sym c.if-rest.false)
    (sets_here c.args.self.now (record c.args.self.now { here = c.set-2.new.self }) c.args.client.now (Some c.args.qos) refl sets))
    c.set-2.ensures.ok

pub returns-then-rest-clause-err : goal.returns-then-rest-clause-err
returns-then-rest-clause-err c =
    on_err c.set.result (λ same. same_rows c.args.self.now (record c.args.self.now { rest = c.set.new.self }) refl same) c.set.ensures.err

pub returns-clause-err : goal.returns-clause-err
returns-clause-err c =
    on_err c.set-2.result (λ same. same_rows c.args.self.now (record c.args.self.now { here = c.set-2.new.self }) same refl) c.set-2.ensures.err
