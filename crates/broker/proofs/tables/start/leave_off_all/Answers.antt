use Rattle.std.proofs.Common.{rules}
use Rattle.broker.proofs.of_tables.Starts.{left_rows}
use Rattle.broker.proofs.tables.start.leave_off_all.Goals as goal

pub returns : goal.returns
returns c = left_rows _ _ (λ k v b w f' t. search rules) _ _ c.retain.ensures.filtered
