use Rattle.std.proofs.Common.{◌≡◌, Some, take}
use Rattle.script.specs.Fields.{all_of, parse_number, texts}
use Rattle.script.proofs.values.numbers.Given as goal

abbrev pub invariant-loop-part : goal.invariant-loop-part
invariant-loop-part l = all_of parse_number (take l.part-index (texts l.parts)) ≡ Some l.numbers.items
