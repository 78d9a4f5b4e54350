use Rattle.std.proofs.Common.{arith}
use Rattle.ballot_base.proofs.PlacesApplied.{place_applied}
use Rattle.ballot_base.proofs.application.apply_dropping.Goals as goal

pub loop-place-preserved : goal.loop-place-preserved
loop-place-preserved g c =
    let rules = g.M.Machine.rules in
    place_applied rules c.args.machine.now c.args.log.now c.args.from c.loop-place.place c.base-base.result c.rest-rest.result.now c.index-rest-place.result
    c.loop-place.machine c.apply.new.self c.requires.kept (omega arith) (omega (arith, c.requires.within)) c.base-base.ensures.base c.rest-rest.ensures
    c.index-rest-place.is c.loop-place.invariant c.in_ok-apply.ensures.state
