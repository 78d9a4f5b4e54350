-- A client that has no session takes note of nothing.
use Rattle.std.proofs.Common.{◌∙◌, ap, sym}
use Rattle.broker_base.specs.rows.Published.{received_on}
use Rattle.broker_base.proofs.of_rows.OneChanged.{change_is_of_one_row}
use Rattle.broker.proofs.tables.tables.Tables.note_received.Goals as goal

pub returns-in_default-clause-sessions : goal.returns-in_default-clause-sessions
returns-in_default-clause-sessions c =
    ap (λ m. m.entries) c.get_mut.follows.holds-at-none
    ∙ sym ((change_is_of_one_row c.args.client.now (received_on c.args.delivery) c.args.self.now.sessions.entries).2
    (sym c.in_default.ensures.value))
