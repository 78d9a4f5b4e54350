use Rattle.std.proofs.Common.{ap, ◌∙◌}
use Rattle.std.specs.Char.{is_ascii_digit}
use Rattle.std.specs.List.{list_all}
use Rattle.script.proofs.NumbersSaid.{decimal, nonempty}
use Rattle.script.proofs.orders.words.is_decimal.Goals as goal

pub returns-then-not-is_empty : goal.returns-then-not-is_empty
returns-then-not-is_empty c = decimal c.args.word.now c.are_digits.result (c.are_digits.ensures ∙ ap (list_all is_ascii_digit) c.as_bytes.ensures.value)
    (nonempty c.args.word.now c.is_empty.result c.is_empty.ensures c.if-not-is_empty.true)
