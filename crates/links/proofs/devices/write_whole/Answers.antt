use Rattle.links.proofs.WritesJoin.{writes_join}
use Rattle.links.proofs.devices.write_whole.Goals as goal

pub loop-done-preserved : goal.loop-done-preserved
loop-done-preserved g c =
    let took = c.in-Some.ensures in
    let all = writes_join _ _ _ _ _ _ c.loop-done.invariant.within took.0 c.loop-done.invariant.so_far took.1 in
    record { within = all.0; so_far = all.1 }
