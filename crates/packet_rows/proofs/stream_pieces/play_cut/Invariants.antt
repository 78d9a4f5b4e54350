use Rattle.std.proofs.Common.{◌<◌, ℕ}
use Rattle.packet_rows.specs.StreamRuns.{BringsSame, cut_at}
use Rattle.packet_rows.proofs.stream_pieces.play_cut.Given as goal

abbrev pub invariant-loop-at : goal.invariant-loop-at
invariant-loop-at l = (n : ℕ) → n < l.at → BringsSame l.wanted (cut_at n l.bytes)
