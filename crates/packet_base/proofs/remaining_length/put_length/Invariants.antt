use Rattle.std.proofs.Common.{◌≡◌, ℕ, ◌+◌, ◌<◌, ◌≤◌, ◌^◌, ◌++◌, List, vec_len, vec_capacity}
use Rattle.packet_base.specs.Spelling.{IsLength, AppendsLength, length_bytes}
use Rattle.packet_base.proofs.remaining_length.put_length.Given as goal

abbrev pub invariant-loop-rest : goal.invariant-loop-rest
invariant-loop-rest l = record {
  small : l.rest < 2 ^ 28;
  size : vec_len l.out + length_bytes l.rest ≡ vec_len l.fn.out + length_bytes l.fn.length;
  capacity : vec_capacity l.fn.out ≤ vec_capacity l.out;
  completed : (tail : List ℕ) → IsLength tail l.rest
      → AppendsLength l.fn.out.items (l.out.items ++ tail) l.fn.length;
}

abbrev pub decreases-loop-rest : goal.decreases-loop-rest
decreases-loop-rest l = l.rest
