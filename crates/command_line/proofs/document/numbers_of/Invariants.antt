use Rattle.std.proofs.Common.{◌≡◌, map, take}
use Rattle.toml.specs.View.{items_of, items_view}
use Rattle.command_line.specs.Tables.{number_value}
use Rattle.command_line.proofs.document.numbers_of.Given as goal

abbrev pub invariant-loop-one : goal.invariant-loop-one
invariant-loop-one l = items_view (take l.one-index l.one-items) ≡ items_of (map number_value l.numbers.items)
