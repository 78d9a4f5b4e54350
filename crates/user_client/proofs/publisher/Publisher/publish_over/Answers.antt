use Rattle.std.proofs.Common.{◌∙◌}
use Rattle.user_client.proofs.TracesJoin.{traces_follow}
use Rattle.user_client.proofs.LossFollows.{passed_later}
use Rattle.user_client.proofs.Acknowledged.{stays_acknowledged, left_trace}
use Rattle.user_client.proofs.publisher.Publisher.publish_over.Goals as goal

pub returns-in-Lost-clause-trace : goal.returns-in-Lost-clause-trace
returns-in-Lost-clause-trace g c = traces_follow c.loop.invariant.0 c.in_ok-continue_once.ensures.trace

pub returns-in-Done-clause-acknowledged : goal.returns-in-Done-clause-acknowledged
returns-in-Done-clause-acknowledged g c =
    λ _. stays_acknowledged g.D.Write.contents c.continue_once.new.stream.device c.self-in-loop.inside.caller c.disconnect.new.caller c.self-in-loop.inside.once c.self-in-loop.view_is
    c.disconnect.ensures.kept (c.in_ok-continue_once.ensures.acknowledged c.in-Done.is)

pub returns-in-Done-clause-trace : goal.returns-in-Done-clause-trace
returns-in-Done-clause-trace g c =
    left_trace c.self-in-loop.inside.caller c.disconnect.new.caller c.self-in-loop.inside.once c.self-in-loop.view_is
    (traces_follow c.loop.invariant.0 c.in_ok-continue_once.ensures.trace) c.disconnect.ensures.trace

pub loop-preserved : goal.loop-preserved
loop-preserved g c =
    (traces_follow c.loop.invariant.0 c.in_ok-continue_once.ensures.trace, c.in_ok-continue_once.ensures.same ∙ c.loop.invariant.1)

pub returns-in_err-continue_once-clause-ended : goal.returns-in_err-continue_once-clause-ended
returns-in_err-continue_once-clause-ended g c =
    passed_later c.continue_once.new.self.caller c.from_residual-in_err-continue_once.result c.in_err-continue_once.field-0.0
    c.from_residual-in_err-continue_once.ensures.1 c.loop.invariant.0 c.in_err-continue_once.ensures.ended
