use Rattle.std.proofs.Common.{◌≡◌, true, false, arith, rules}
use Rattle.links.proofs.of_frames.Walking.{found_unfinished, found_fault, found_short, found_end, walk_on, head_at, part_at}
use Rattle.links.proofs.frames.joiner.found_from.Goals as goal

pub returns-in-Unfinished : goal.returns-in-Unfinished
returns-in-Unfinished c =
    found_unfinished c.args.limit c.args.bytes.now c.parts.walk c.parts.invariant (head_at _ _ _ _ c.behind.ensures c.in-Unfinished.ensures.value)

pub returns-in-Fault : goal.returns-in-Fault
returns-in-Fault c =
    found_fault c.args.limit c.args.bytes.now c.parts.walk c.in-Fault.fault c.parts.invariant (head_at _ _ _ _ c.behind.ensures c.in-Fault.ensures.value)

pub returns-then-end-bytes : goal.returns-then-end-bytes
returns-then-end-bytes c =
    found_short c.args.limit c.args.bytes.now c.parts.walk c.in-Part.is_followed c.in-Part.len c.parts.invariant
    (head_at _ _ _ _ c.behind.ensures c.in-Part.ensures.value) (omega arith)

pub returns-then-not-is_followed : goal.returns-then-not-is_followed
returns-then-not-is_followed c =
    let so : c.in-Part.is_followed ≡ false = search rules in
    found_end c.args.limit c.args.bytes.now c.parts.walk c.in-Part.len c.parts.invariant
    (part_at _ _ _ _ _ _ c.behind.ensures c.in-Part.ensures.value so) (omega arith)

pub parts-preserved : goal.parts-preserved
parts-preserved c =
    let so : c.in-Part.is_followed ≡ true = search rules in
    walk_on c.args.limit c.args.bytes.now c.parts.walk c.in-Part.len c.parts.invariant
    (part_at _ _ _ _ _ _ c.behind.ensures c.in-Part.ensures.value so) (omega arith)
