-- The map has the child at its level.
use Rattle.std.proofs.Common.{rules, ◌≡◌, ◌∙◌, ap, refl, cond, false, Some, bytes_eq, codes}
use Rattle.subs.proofs.LevelsFound.{updates_level}
use Rattle.subs.proofs.NodeSets.{sets_named, named_at}
use Rattle.subs.proofs.node.Node.set_child.Goals as goal

pub returns-clause-ok : goal.returns-clause-ok
returns-clause-ok c =
    let not : bytes_eq c.args.level.now (codes "+") ≡ false = search rules in
    sets_named c.args.self.now (record c.args.self.now { named = c.insert.new.self }) c.args.level.now (Some c.args.child) not refl
    (λ q.
    updates_level (λ k. k.items) c.args.self.now.named c.insert.new.self c.in_ok-from_slice.field-0.items (Some c.args.child) c.in_ok-insert.ensures.updates q
    ∙ ap (λ x. cond (bytes_eq x q) (Some c.args.child) (named_at c.args.self.now q)) c.in_ok-from_slice.ensures.items)
