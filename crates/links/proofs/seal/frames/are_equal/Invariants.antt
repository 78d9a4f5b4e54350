use Rattle.std.proofs.Common.{◌≡◌, ◌↔◌, true, take}
use Rattle.links.proofs.seal.frames.are_equal.Given as goal

abbrev pub invariant-bytes : goal.invariant-bytes
invariant-bytes l = (l.is_equal ≡ true) ↔ (take l.index l.first ≡ take l.index l.second)
