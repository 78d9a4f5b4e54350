-- The map has nothing at the level.
use Rattle.std.proofs.Common.{rules, ◌≡◌, refl, false, None, bytes_eq, codes}
use Rattle.subs.proofs.LevelsFound.{updates_level}
use Rattle.subs.proofs.NodeSets.{sets_named}
use Rattle.subs.proofs.node.Node.drop_child.Goals as goal

pub returns-clause-child : goal.returns-clause-child
returns-clause-child c =
    let not : bytes_eq c.args.level.now (codes "+") ≡ false = search rules in
    sets_named c.args.self.now (record c.args.self.now { named = c.remove.new.self }) c.args.level.now None not refl
    (λ q. updates_level (λ k. k.items) c.args.self.now.named c.remove.new.self c.args.level.now None c.remove.ensures.updates q)
