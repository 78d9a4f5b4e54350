use Rattle.std.proofs.Common.{◌≡◌, ℕ, ◌∙◌, ap, arith}
use Rattle.post.specs.Linked.{rows_of}
use Rattle.post.proofs.RowsPinned.{one_more}
use Rattle.post.proofs.linked.linked_node.routes_of.Goals as goal

pub loop-row-preserved : goal.loop-row-preserved
loop-row-preserved g c =
    c.in_ok-push.ensures.items
    ∙ one_more c.loop-row.row c.loop-row.routes.items c.new.result c.loop-row.invariant c.new.ensures

pub returns : goal.returns
returns g c =
    let same : c.loop-row.row ≡ c.args.rows = omega (arith, c.loop-row-test.false, c.loop-row.auto.row-end) in
    c.loop-row.invariant ∙ ap rows_of same
