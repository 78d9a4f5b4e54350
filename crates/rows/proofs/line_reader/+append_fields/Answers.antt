use Rattle.std.proofs.Common.{Bor, List, subst}
use Rattle.std.proofs.lemmas.List.{take_rest}
use Rattle.rows.specs.Fields.{Appends, Text, fields_in, texts}
use Rattle.rows.proofs.Appended.{fields_append}
use Rattle.rows.proofs.line_reader.+append_fields.Goals as goal

pub returns-in_ok-append_fields-in-len2-up : goal.returns-in_ok-append_fields-in-len2-up
returns-in_ok-append_fields-in-len2-up t c =
    let P : List (Bor Text) → Type 0 = λ rest. Appends c.append_quoted.new.fields c.append_fields.new.fields (fields_in (texts rest)) in
    fields_append c.args.parts.now _ _ c.args.fields.now c.append_quoted.new.fields c.append_fields.new.fields c.in-len2-up.len_at_least
    c.in_ok-append_quoted-in-len2-up.ensures
    (subst P (take_rest c.args.parts.now 2) c.in_ok-append_fields-in-len2-up.ensures)
