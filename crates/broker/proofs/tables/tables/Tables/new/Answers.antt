use Rattle.std.proofs.Common.{◌∙◌, ap, sym}
use Rattle.std.specs.BTreeMap.{is_at}
use Rattle.std.specs.Map.{lookup}
use Rattle.broker_base.specs.rows.Owners.{owners_in}
use Rattle.broker_base.specs.rows.Indexed.{content_in}
use Rattle.broker.specs.tables.Tables.{by_connection}
use Rattle.broker.proofs.tables.tables.Tables.new.Goals as goal

pub returns-clause-tied : goal.returns-clause-tied
returns-clause-tied c = record {
  owners = λ x.
      ap (lookup (is_at (by_connection x))) c.new-2.ensures.empty ∙ ap (λ rows. owners_in rows x) (sym c.new.ensures.empty);
  index = c.new-3.ensures ∙ ap content_in (sym c.new.ensures.empty);
}
