use Rattle.std.proofs.Common.{◌≡◌, true, false, length}
use Rattle.rows.specs.Rows.{AllRows}
use Rattle.rows.proofs.files.play_rows.Given as goal

abbrev pub invariant-loop-rest : goal.invariant-loop-rest
invariant-loop-rest g l = l.are_right ≡ true → l.is_turned ≡ false
    → AllRows g.P.Player.RowAgrees l.rest → AllRows g.P.Player.RowAgrees l.lines

abbrev pub decreases-loop-rest : goal.decreases-loop-rest
decreases-loop-rest g l = length l.rest
