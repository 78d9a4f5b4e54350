-- Both are what is read of the fields.
use Rattle.std.proofs.Common.{sym, ◌∙◌}
use Rattle.std.proofs.lemmas.Option.{same_Some}
use Rattle.script.proofs.OneForm.{is_read}
use Rattle.script.proofs.theorems.one_meaning_a_line.Goals as goal

pub returns : goal.returns
returns c fields line other is also = same_Some line other (sym (is_read fields line is) ∙ is_read fields other also)
