use Rattle.std.proofs.Common.{◌==◌, rules, tests, ◌∙◌}
use Rattle.std.proofs.lemmas.Iterator.Consumers.{map_from_collect}
use Rattle.std.proofs.lemmas.Iterator.Splits.{YieldsList-from_slice_split}
use Rattle.script.specs.Scripts.{lines_of, without_last_feed}
use Rattle.script.proofs.lines.lines_of.Goals as goal

pub returns : goal.returns
unfolding lines_of
returns c =
    map_from_collect _ c.collect.ensures.ran
    (YieldsList-from_slice_split _ (λ byte. byte == 10) (without_last_feed c.args.text.now) (c.split.ensures.rest ∙ c.without_last_feed.ensures) c.split.ensures.done c.split.ensures.closure (λ x r q k. search (rules, tests)))
