use Rattle.std.proofs.Common.{arith}
use Rattle.ballot_base.proofs.PlacesApplied.{on_err_any, place_applied, place_given}
use Rattle.lists.proofs.Prefixes.{prefix_then}
use Rattle.ballot_base.proofs.application.apply_places.Goals as goal

pub returns-in_err-append_outputs-clause-err : goal.returns-in_err-append_outputs-clause-err
returns-in_err-append_outputs-clause-err g c =
    on_err_any _ (prefix_then (record { rest = _; is = c.loop-place.invariant.outputs }) c.in_err-append_outputs.ensures.err)

pub loop-place-preserved : goal.loop-place-preserved
loop-place-preserved g c =
    let rules = g.M.Machine.rules in
    let place = c.loop-place.place in
    record {
      state = place_applied rules c.args.machine.now c.args.log.now c.args.from place c.base-base.result c.rest-rest.result.now c.index-rest-place.result
          c.loop-place.machine c.apply.new.self c.requires.kept (omega arith) (omega (arith, c.requires.within)) c.base-base.ensures.base c.rest-rest.ensures
          c.index-rest-place.is c.loop-place.invariant.state c.in_ok-apply.ensures.state;
      outputs = place_given rules c.args.machine.now c.args.log.now c.args.from place c.base-base.result c.rest-rest.result.now c.index-rest-place.result c.loop-place.machine
          _ _ _ _ _ c.requires.kept (omega arith) (omega (arith, c.requires.within)) c.base-base.ensures.base c.rest-rest.ensures c.index-rest-place.is
          c.loop-place.invariant.state c.new-given.ensures.items c.in_ok-apply.ensures.outputs
          c.loop-place.invariant.outputs c.in_ok-append_outputs.ensures.ok;
    }
