use Rattle.std.proofs.Common.{◌≡◌, ◌++◌, take}
use Rattle.std.specs.List.{flat_map}
use Rattle.std.proofs.Common.{◌∷◌, [], decimal}
use Rattle.json.specs.Token.{number}
use Rattle.admin.proofs.status_page.put_each.Given as goal

abbrev pub invariant-loop-number : goal.invariant-loop-number
invariant-loop-number l = record {
  before : l.writer.before ≡ l.initial.writer.before;
  tokens : l.writer.tokens ≡ l.initial.writer.tokens ++ flat_map (λ n. number (decimal n) ∷ []) (take l.number-index l.numbers);
}
