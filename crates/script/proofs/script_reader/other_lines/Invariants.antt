use Rattle.std.proofs.Common.{take}
use Rattle.script.specs.Fields.{texts}
use Rattle.script.specs.Scripts.{AreLines}
use Rattle.script.proofs.script_reader.other_lines.Given as goal

abbrev pub invariant-loop-index : goal.invariant-loop-index
invariant-loop-index l = AreLines (take l.index (texts l.lines)) l.script_lines.items
