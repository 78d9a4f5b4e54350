use Rattle.std.proofs.Common.{◌≡◌, Some, take}
use Rattle.script.specs.Fields.{all_of, parse_client, texts}
use Rattle.script.proofs.values.clients.Given as goal

abbrev pub invariant-loop-part : goal.invariant-loop-part
invariant-loop-part l = all_of parse_client (take l.part-index (texts l.parts)) ≡ Some l.clients.items
