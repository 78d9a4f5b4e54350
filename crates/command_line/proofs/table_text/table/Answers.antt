use Rattle.std.proofs.Common.{◌≡◌, false, rules, sym, ◌∙◌}
use Rattle.std.proofs.lemmas.Bool.{both_ways}
use Rattle.std.proofs.lemmas.Option.{same_Some}
use Rattle.toml.specs.View.{table_view}
use Rattle.command_line.specs.Tables.{document_of, is_lawful_table}
use Rattle.command_line.proofs.SameDocument.{same_lawful}
use Rattle.command_line.proofs.NumbersAtMostMaxNode.{lawful_is_at_most}
use Rattle.command_line.proofs.table_text.table.Goals as goal

pub returns-in_err-read-clause-shape : goal.returns-in_err-read-clause-shape
returns-in_err-read-clause-shape c same t says =
    c.in_err-read.ensures.shape (search rules) t (lawful_is_at_most t says.1)
    (same_Some (table_view c.in-Ok.document) (document_of t) (sym c.in-Ok.ensures.ok ∙ says.0))

pub returns-clause-shape : goal.returns-clause-shape
returns-clause-shape c _ t says =
    let one : document_of c.in_ok-read.read ≡ document_of t =
    sym c.in_ok-read.ensures.value ∙ same_Some (table_view c.in-Ok.document) (document_of t) (sym c.in-Ok.ensures.ok ∙ says.0) in
    let unlawful : is_lawful_table c.in_ok-read.read ≡ false = sym c.is_lawful.ensures ∙ c.if-is_lawful.false in
    both_ways _ unlawful (same_lawful c.in_ok-read.read t one ∙ says.1)
