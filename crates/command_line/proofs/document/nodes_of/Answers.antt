use Rattle.std.proofs.Common.{◌≡◌, ◌++◌, ◌∷◌, [], Some, ap, rules, sym, ◌∙◌}
use Rattle.toml.specs.Data.{array}
use Rattle.toml.specs.View.{items_view, view}
use Rattle.command_line.specs.Tables.{node_data}
use Rattle.command_line.specs.Inside.Documents.{has_id_at_most_max_node}
use Rattle.command_line.proofs.Listed.{is_array, items_said, said_at, said_more}
use Rattle.command_line.proofs.document.nodes_of.Goals as goal

pub returns-in_err-node_of-clause-shape : goal.returns-in_err-node_of-clause-shape
returns-in_err-node_of-clause-shape c failed all bounded same =
    let got : c.as_array.result ≡ Some c.in_ok-values.values = search rules in
    let is : view c.args.value.now ≡ array (items_view c.in_ok-values.values.now.items) =
    is_array _ _ (rw got at c.as_array.ensures) in
    let listed : view c.args.value.now ≡ array (items_view c.deref-one-items.result.now) =
    rw c.deref-one-items.ensures.value is in
    let at = said_at node_data has_id_at_most_max_node c.deref-one-items.result.now all c.loop-one.one-index c.one-item.result c.loop-one-test.true bounded
    (items_said node_data c.deref-one-items.result.now c.args.value.now all listed same) in
    c.in_err-node_of.ensures.shape (search rules) at.one at.passed (ap view c.one-item.is ∙ at.said)

pub loop-one-preserved : goal.loop-one-preserved
loop-one-preserved c =
    let pushed : c.push.new.self.items ≡ c.loop-one.nodes.items ++ c.in_ok-node_of.field-0 ∷ [] = search rules in
    rw pushed (said_more node_data c.deref-one-items.result.now c.loop-one.one-index c.one-item.result c.loop-one.nodes.items c.in_ok-node_of.field-0
    c.loop-one-test.true c.one-item.is c.loop-one.invariant c.in_ok-node_of.ensures.value)
