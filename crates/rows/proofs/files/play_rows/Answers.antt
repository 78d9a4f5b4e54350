use Rattle.std.proofs.Common.{Ok, length, ap, sym, ◌∙◌}
use Rattle.std.proofs.lemmas.Bool.{and_parts, eqb-true}
use Rattle.rows.proofs.RowByRow.{no_rows, row_more}
use Rattle.rows.proofs.files.play_rows.Goals as goal

pub loop-rest-preserved : goal.loop-rest-preserved
loop-rest-preserved g c all turned rows =
    let (before, here) = and_parts c.loop-rest.are_right c.in_ok-are_right.field-0 all in
    c.loop-rest.invariant before turned
    (row_more g.P.Player.RowAgrees c.loop-rest.rest.now _ _ c.split_row.ensures.row c.split_row.ensures.rest
    (c.play-outcome.ensures (c.in_ok-are_right.ensures (ap Ok here) turned)) rows)

pub returns-in_ok-println : goal.returns-in_ok-println
returns-in_ok-println g c same turned =
    c.loop-rest.invariant c.if-are_right.true turned
    (no_rows g.P.Player.RowAgrees c.loop-rest.rest.now (eqb-true (length c.loop-rest.rest.now) 0 (sym c.is_empty.ensures ∙ c.loop-rest-test.false)))
