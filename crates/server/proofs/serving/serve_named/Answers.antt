use Rattle.std.proofs.Common.{map}
use Rattle.server.proofs.KeptEnds.{all_ended, started_keeps}
use Rattle.server.proofs.serving.serve_named.Goals as goal

pub returns-clause-served : goal.returns-clause-served
returns-clause-served g c =
    all_ended (map (λ one. one.number) c.args.opened.items) (map (λ node. node.number) c.in_ok-nodes.nodes.items) c.in-Ok.outcome c.expect_started.new.self c.end_all.new.outcome c.in_ok-ended.ended.items
    c.in-Ok.ensures.empty
    (started_keeps c.serve_states-served.result.all_started _ c.in-Ok.outcome c.expect_started.new.self c.expect_started.ensures)
    c.end_all.ensures c.in_ok-ended.ensures.served c.in_ok-nodes.ensures c.in_ok-ended.ensures.same
