use Rattle.std.proofs.Common.{◌≡◌, ◌++◌, take}
use Rattle.client_base.specs.printed.Lines.{printed}
use Rattle.client_base.proofs.printed.lines.print_text.Given as goal

abbrev pub invariant-loop-byte : goal.invariant-loop-byte
invariant-loop-byte l = l.line.items ≡ l.initial.line.items ++ printed (take l.byte-index l.text)
