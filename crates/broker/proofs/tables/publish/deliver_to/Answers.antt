-- A client that has no session gets nothing.
use Rattle.std.proofs.Common.{◌∙◌, ap, sym}
use Rattle.broker_base.specs.rows.Published.{delivered_on}
use Rattle.broker_base.proofs.of_rows.OneChanged.{change_is_of_one_row}
use Rattle.broker.proofs.tables.publish.deliver_to.Goals as goal

pub returns-in_default-clause-state : goal.returns-in_default-clause-state
returns-in_default-clause-state c =
    ap (λ m. m.entries) c.get_mut.follows.holds-at-none
    ∙ sym ((change_is_of_one_row c.args.granted.now.0 (delivered_on c.args.window c.args.publication.now c.args.granted.now.1) c.args.sessions.now.entries).2
    (sym c.in_default.ensures.value))
