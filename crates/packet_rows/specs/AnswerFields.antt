-- Answers that several kinds of rows have, as their fields.
use Rattle.std.specs.Prelude.{List, codes}
use Rattle.rows.specs.Fields.{Text}
use Rattle.rows.specs.Answers.{counted}
use Rattle.topics.specs.declared.malformed.MalformedKind.{MalformedKind}
use Rattle.topics.specs.Refusals.{malformed_number}

-- the number of a refusal
abbrev pub refused : MalformedKind → List Text
refused kind = counted (codes "refused") (malformed_number kind)
