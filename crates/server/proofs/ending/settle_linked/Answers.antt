use Rattle.std.proofs.Common.{List, ◌∷◌, refl, sym, subst, arith, ◌∙◌}
use Rattle.std.specs.Prelude.{◌≡◌}
use Rattle.std.specs.List.{Contains}
use Rattle.std.specs.Vec.Iter.{into_iter_items}
use Rattle.server.specs.Ended.{EndedView}
use Rattle.server.specs.Inside.{numbers_of}
use Rattle.server.specs.declared.node_threads.served_node.NodeReport.{NodeReport}
use Rattle.server.proofs.NodesEnded.{contains_map}
use Rattle.server.proofs.ending.settle_linked.Goals as goal

pub returns-clause-among : goal.returns-clause-among
returns-clause-among g c =
    let served = c.args.ended.served.items in
    let one : EndedView = c.in-Some.one in
    let list : one ∷ into_iter_items c.next.new.self ≡ served = sym c.in-Some.ensures.items ∙ c.into_iter.ensures.rest in
    let among : Contains served one = subst (λ (l : List EndedView). Contains l one) list (0, omega arith, refl) in
    subst (λ (report : NodeReport). Contains (numbers_of served) report.number) (sym c.settle_one.ensures.number)
    (contains_map (λ (it : EndedView). it.report.number) served one among)
