use Rattle.std.proofs.Common.{sym, ◌∙◌}
use Rattle.run_history.proofs.ending.settle_at.Goals as goal

pub returns : goal.returns
returns g c = record {
  place = sym c.index.ensures ∙ (sym c.from.ensures ∙ c.wait_unless_equal.ensures);
  settled = c.settle.ensures;
}
