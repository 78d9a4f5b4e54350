-- CutsApart.antt: nodes have their logs cut after different ticks, and each after one of any 50.
use Rattle.std.proofs.Common.{◌+◌, ◌*◌, ◌-◌, ◌%◌, ◌≤◌, arith}
use Rattle.std.proofs.lemmas.Bool.{eqb-true, eq-eqb}
use Rattle.node.specs.Theorems.{CutsComeApart, CutsComeOften}

pub cuts_apart : CutsComeApart
cuts_apart node other ticks low lower one two =
    let first_low : node ≤ 15 = low in
    let second_low : other ≤ 15 = lower in
    let first = eqb-true (ticks % 50) (node * 7 % 50) one in
    let second = eqb-true (ticks % 50) (other * 7 % 50) two in
    omega (arith, first_low, second_low, first, second)

pub cuts_often : CutsComeOften
cuts_often node ticks =
    let more = (node * 7 + (50 - ticks % 50)) % 50 in
    record {
      more = more;
      soon = omega arith;
      cuts = eq-eqb ((ticks + more) % 50) (node * 7 % 50) (omega arith);
    }
