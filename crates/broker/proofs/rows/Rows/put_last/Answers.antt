use Rattle.std.proofs.Common.{◌∙◌, ap, sym}
use Rattle.broker_base.specs.ClientSession.{ClientSession}
use Rattle.broker_base.specs.rows.Owners.{owners_in, owned_by}
use Rattle.broker.specs.tables.Tables.{owners_at}
use Rattle.broker.proofs.LastRows.{insert_last}
use Rattle.broker.proofs.OwnersOfLast.{owners_of_last, may_stand}
use Rattle.broker.proofs.rows.Rows.put_last.Goals as goal

pub returns-clause-sessions : goal.returns-clause-sessions
returns-clause-sessions c =
    c.in_ok-insert.ensures.entries
    ∙ insert_last c.args.client c.args.row c.args.self.now.sessions.entries c.in_ok-insert.ensures.was_ordered
    (may_stand c.args.self.now.sessions.entries (c.args.client, c.args.row) c.requires.follows).0

pub returns-clause-owned : goal.returns-clause-owned
returns-clause-owned c = λ x.
    c.in_ok-own.ensures x
    ∙ ap (λ (row : ClientSession). owned_by row.connection c.args.client (owners_at c.args.self.now.owners.entries) x) c.row.view_is
    ∙ ap (λ owners. owned_by c.args.row.connection c.args.client owners x) (λ i y. c.requires.owned y i)
    ∙ sym (owners_of_last c.args.self.now.sessions.entries c.args.client c.args.row x
    (may_stand c.args.self.now.sessions.entries (c.args.client, c.args.row) c.requires.follows).1)
    ∙ ap (λ rows. owners_in rows x)
    (sym (c.in_ok-insert.ensures.entries
    ∙ insert_last c.args.client c.args.row c.args.self.now.sessions.entries c.in_ok-insert.ensures.was_ordered
    (may_stand c.args.self.now.sessions.entries (c.args.client, c.args.row) c.requires.follows).0))
