use Rattle.std.proofs.Common.{◌≡◌, ◌+◌, ◌≤◌, ◌++◌, length, vec_len, vec_capacity}
use Rattle.links.specs.frames.Parts.{parts_of}
use Rattle.links.proofs.frames.parts.put_parts.Given as goal

abbrev pub invariant-parts : goal.invariant-parts
invariant-parts l = record {
  written : l.out.items ++ parts_of l.rest ≡ l.fn.out.items ++ parts_of l.message;
  room : vec_len l.out + length (parts_of l.rest) ≤ vec_capacity l.out;
}

abbrev pub decreases-parts : goal.decreases-parts
decreases-parts l = length l.rest
