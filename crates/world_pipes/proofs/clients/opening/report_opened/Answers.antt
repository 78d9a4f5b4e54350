use Rattle.std.proofs.Common.{inl, refl, sym}
use Rattle.world_pipes.proofs.of_clients.NodesGoOn.{call_goes}
use Rattle.world_pipes.proofs.of_clients.Offered.{hears_of_one, not_heard, still_there, was_heard}
use Rattle.world_pipes.proofs.clients.opening.report_opened.Goals as goal

pub returns-then-is_err-clause-nodes : goal.returns-then-is_err-clause-nodes
returns-then-is_err-clause-nodes c = call_goes c.open_stream.result c.args.nodes.now c.open_stream.new.self _ _ c.open_stream.ensures.rises c.open_stream.ensures.acts c.open_stream.ensures.same

pub returns-then-is_err-clause-takes : goal.returns-then-is_err-clause-takes
returns-then-is_err-clause-takes c = inl (not_heard c.open_stream.result _ (sym c.if-is_err.ensures.value) c.open_stream.ensures.same)

pub returns-in-None-clause-nodes : goal.returns-in-None-clause-nodes
returns-in-None-clause-nodes c = call_goes c.open_stream.result c.args.nodes.now c.open_stream.new.self _ _ c.open_stream.ensures.rises c.open_stream.ensures.acts c.open_stream.ensures.same

pub returns-in-None-clause-takes : goal.returns-in-None-clause-takes
returns-in-None-clause-takes c = absurd (still_there c.args.node _ c.args.nodes.now c.open_stream.new.self (was_heard c.open_stream.result _ (sym c.if-is_err.ensures.value) c.open_stream.ensures.lossy) (c.in-None.ensures.none refl))

pub returns-in-Some-clause-nodes : goal.returns-in-Some-clause-nodes
returns-in-Some-clause-nodes c = call_goes c.open_stream.result c.args.nodes.now c.open_stream.new.self _ _ c.open_stream.ensures.rises c.open_stream.ensures.acts c.open_stream.ensures.same

pub returns-in-Some-clause-takes : goal.returns-in-Some-clause-takes
returns-in-Some-clause-takes c =
    hears_of_one c.has_port.result c.args.node c.args.port c.args.nodes.now c.open_stream.new.self c.in-Some.core.now c.in-Some.ensures.some c.has_port.ensures
    (was_heard c.open_stream.result _ (sym c.if-is_err.ensures.value) c.open_stream.ensures.lossy) (was_heard c.open_stream.result _ (sym c.if-is_err.ensures.value) c.open_stream.ensures.acts)
