use Rattle.streams.proofs.HandedByTap.{stays_or_goes}
use Rattle.streams.proofs.cleanup.forget.Goals as goal

pub returns-then-eq-clause-takes : goal.returns-then-eq-clause-takes
returns-then-eq-clause-takes g c =
    stays_or_goes c.args.node.now _ c.outgoing.new.self c.outgoing.result c.outgoing.ensures.left c.outgoing.ensures.same
