-- What is in front of a `/` that is found.
use Rattle.std.proofs.Common.{◌∷◌, [], Some}
use Rattle.std.proofs.lemmas.Str.Pattern.{split_text_parts}
use Rattle.retained.proofs.search.front_part.Goals as goal

pub returns-in-Some : goal.returns-in-Some
returns-in-Some c = (
  43 ∷ c.in-Some.field-0-1.now,
  split_text_parts (47 ∷ 43 ∷ []) c.args.filter.now (Some (c.in-Some.front, c.in-Some.field-0-1)) c.in-Some.ensures.cases,
)

pub returns : goal.returns
returns c = (
  35 ∷ c.in_ok-front.field-0-1.now,
  split_text_parts (47 ∷ 35 ∷ []) c.args.filter.now (Some (c.in_ok-front.front, c.in_ok-front.field-0-1)) c.in_ok-front.ensures.cases,
)
