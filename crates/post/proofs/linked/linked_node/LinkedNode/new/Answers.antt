use Rattle.std.proofs.Common.{◌≡◌, ℕ, length, ◌∙◌, ap, sym}
use Rattle.post.specs.Linked.{rows_of}
use Rattle.post.specs.Numbers.{PeerView}
use Rattle.post.proofs.RowsPinned.{counted}
use Rattle.post.proofs.linked.linked_node.LinkedNode.new.Goals as goal

pub invariant_of-result : goal.invariant_of-result
invariant_of-result g c =
    (c.in_ok-rows.ensures ∙ ap rows_of (sym (ap length c.in_ok-rows.ensures ∙ counted c.args.rows)), c.new-master.ensures)

pub returns : goal.returns
returns g c =
    let number : c.new.result.number ≡ c.args.number = ap (λ (peer : PeerView). peer.number) c.new.ensures in
    let rows : length c.in_ok-rows.rows.items ≡ c.args.rows = ap length c.in_ok-rows.ensures ∙ counted c.args.rows in
    λ i. record { number = number i; rows = rows i }
