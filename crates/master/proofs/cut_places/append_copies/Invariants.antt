use Rattle.std.proofs.Common.{◌≡◌, ◌++◌, take}
use Rattle.master.proofs.cut_places.append_copies.Given as goal

abbrev pub invariant-loop-command : goal.invariant-loop-command
invariant-loop-command g l = l.list.items ≡ l.initial.list.items ++ take l.command-index l.commands
