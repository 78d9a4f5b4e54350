use Rattle.std.proofs.Common.{Bor, ◌≡◌, ℕ, List, Option, length, subst, sym}
use Rattle.post.specs.Linked.{rows_of}
use Rattle.post.proofs.RowsPinned.{found_at}
use Rattle.post.proofs.linked.linked_node.LinkedNode.row.Goals as goal

pub returns-clause-its : goal.returns-clause-its
returns-clause-its g c =
    found_at (λ (route : Bor (Option ℕ)). route.now) c.deref.result.now c.args.index c.get.result
    (subst (λ (rows : List (Option ℕ)). rows ≡ rows_of (length rows)) (sym c.deref.ensures.value) c.self.invariant.0)
    c.get.ensures.lookup.1 c.get.ensures.lookup.3
