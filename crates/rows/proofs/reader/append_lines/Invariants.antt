use Rattle.std.proofs.Common.{take}
use Rattle.rows.specs.Fields.{Appends, texts}
use Rattle.rows.specs.Rows.{lines_from}
use Rattle.rows.proofs.reader.append_lines.Given as goal

abbrev pub invariant-loop-index : goal.invariant-loop-index
invariant-loop-index l = Appends l.initial.lines.items l.lines.items (lines_from 1 (take l.index (texts l.parts)))
