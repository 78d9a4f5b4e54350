-- The rows of the map are those that its content grants.
use Rattle.std.proofs.Common.{subst}
use Rattle.subs_base.specs.Granted.{AppendsGranted}
use Rattle.subs_base.specs.ListIndex.{Clients, content_of}
use Rattle.subs_base.proofs.ContentAfter.{on_ok_both}
use Rattle.subs_base.proofs.RowsAreGranted.{appends_granted}
use Rattle.subs_base.proofs.list_index.ListIndexSubIndex.granted.Goals as goal

pub returns-else-is_err-clause-ok : goal.returns-else-is_err-clause-ok
returns-else-is_err-clause-ok c =
    on_ok_both c.append_rows-appended.result
    (λ is ordered.
    subst (λ (v : Clients). AppendsGranted (content_of v) c.args.topic.now c.args.rows.now.items c.append_rows-appended.new.rows.items) c.self.view_is
    (appends_granted c.args.topic.now c.self.inside.clients.entries c.args.rows.now.items c.append_rows-appended.new.rows.items
    c.append_rows-appended.ensures.clients_ordered ordered is))
    c.append_rows-appended.ensures.ok
    c.append_rows-appended.ensures.ordered
