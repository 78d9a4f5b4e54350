-- The sessions by themselves, and the maps follow.
use Rattle.std.proofs.Common.{◌∙◌, ap, sym}
use Rattle.broker.proofs.of_tables.Starts.{start_of, ties_of_start}
use Rattle.broker.proofs.tables.tables.Tables.start.Goals as goal

pub returns-clause-state : goal.returns-clause-state
returns-clause-state c =
    (λ i. record { window = c.wide-self.ensures i; sessions = c.leave_off_all.ensures i; retained = c.args.self.now.retained })
    ∙ sym (ap (λ p. p.0) (start_of c.args.self.now c.args.ballot c.requires))

pub returns-clause-tied : goal.returns-clause-tied
returns-clause-tied c =
    ties_of_start c.args.self.now _ c.requires c.leave_off_all.ensures c.clear.ensures.empty c.drop_clean_clients.ensures
