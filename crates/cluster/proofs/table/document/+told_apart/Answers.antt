use Rattle.std.proofs.Common.{◌≡◌, ◌∷◌, ap, rules, subst, sym, ◌∙◌}
use Rattle.cluster.specs.table.Given.{Gives, rows_data}
use Rattle.cluster.specs.table.Tables.{told_apart}
use Rattle.cluster.proofs.of_table.Counted.{first_apart, link_again, listen_again}
use Rattle.cluster.proofs.table.document.+told_apart.Goals as goal

pub returns-then-has_link : goal.returns-then-has_link
returns-then-has_link t c =
    let is : c.args.rows.now ≡ c.in-Some.first.now ∷ c.in-Some.others.now = search rules in
    ap (λ rows. told_apart c.args.row (rows_data rows)) is
    ∙ link_again c.args.row c.in-Some.first.now c.in-Some.others.now (search rules)

pub returns-then-has_listen : goal.returns-then-has_listen
returns-then-has_listen t c =
    let is : c.args.rows.now ≡ c.in-Some.first.now ∷ c.in-Some.others.now = search rules in
    ap (λ rows. told_apart c.args.row (rows_data rows)) is
    ∙ listen_again c.args.row c.in-Some.first.now c.in-Some.others.now (search rules) (search rules)

pub returns : goal.returns
returns t c =
    let is : c.args.rows.now ≡ c.in-Some.first.now ∷ c.in-Some.others.now = search rules in
    subst (λ said. Gives (λ done. done) c.told_apart.result said)
    (sym (ap (λ rows. told_apart c.args.row (rows_data rows)) is
    ∙ first_apart c.args.row c.in-Some.first.now c.in-Some.others.now (search rules) (search rules)))
    c.told_apart.ensures
