use Rattle.std.proofs.Common.{◌≡◌, ◌^◌, ◌-◌, drop}
use Rattle.master.specs.Inside.{least_but_one}
use Rattle.master.proofs.acknowledged.second_least.Given as goal

abbrev pub invariant-loop-slot : goal.invariant-loop-slot
invariant-loop-slot l =
    least_but_one l.told l.pair.0 l.pair.1 (drop l.slot-index l.slots)
    ≡ least_but_one l.told (2 ^ 64 - 1) (2 ^ 64 - 1) l.slots
