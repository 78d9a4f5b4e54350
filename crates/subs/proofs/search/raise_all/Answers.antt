-- Nobody, a single client, or those of a map are raised.
use Rattle.std.proofs.Common.{sym, subst, refl, ap, ◌∙◌}
use Rattle.std.specs.Cmp.Lexicographic.{bytes_decides}
use Rattle.subs_base.proofs.ContentAfter.{on_ok}
use Rattle.subs.specs.declared.rows.Rows.{Rows}
use Rattle.subs.specs.Rows.{qos_of_client}
use Rattle.subs.specs.Walk.{Raises}
use Rattle.subs.proofs.ContentOfTree.{anyhow}
use Rattle.subs.proofs.Raising.{raised_none, raised_one}
use Rattle.subs.proofs.RowsSet.{some_at}
use Rattle.subs.proofs.search.raise_all.Goals as goal

pub returns-in-Empty-clause-ok : goal.returns-in-Empty-clause-ok
returns-in-Empty-clause-ok c =
    subst (λ (rows : Rows). Raises c.args.found.now c.args.found.now (qos_of_client rows)) (sym c.in-Empty.is) (raised_none c.args.found.now)

pub returns-in-One-clause-ok : goal.returns-in-One-clause-ok
returns-in-One-clause-ok c =
    on_ok c.raise.result
    (λ updates.
    subst (λ (rows : Rows). Raises c.args.found.now c.raise.new.found (qos_of_client rows)) (sym c.in-One.is)
    (raised_one c.args.found.now c.raise.new.found c.in-One.client c.in-One.qos updates))
    c.raise.ensures

-- the single client is given something
pub returns-in-One-clause-some : goal.returns-in-One-clause-some
returns-in-One-clause-some c =
    anyhow c.raise.result (
      c.in-One.client,
      c.in-One.qos,
      ap (λ rows. qos_of_client rows c.in-One.client) c.in-One.is
          ∙ some_at c.in-One.client c.in-One.client c.in-One.qos ((bytes_decides c.in-One.client c.in-One.client).1 refl),
    )
