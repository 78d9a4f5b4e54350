use Rattle.std.proofs.Common.{◌∙◌, ap, sym, subst}
use Rattle.session_base.specs.Publication.{is_qos1}
use Rattle.session_base.specs.Queue.{Queue, is_pubcomp}
use Rattle.session_base.specs.OrderTheorems.{IsReleasedFirst}
use Rattle.session_base.proofs.OrderInFlight.{first_more, not_yet}
use Rattle.session.proofs.session_queue.SessionQueue.start.Goals as goal

-- what starts is not released, and comes last
pub returns-in_ok-put_last-clause-first : goal.returns-in_ok-put_last-clause-first
returns-in_ok-put_last-clause-first c first =
    subst IsReleasedFirst (sym c.in_ok-put_last.ensures.ok)
    (first_more c.self.inside.in_flight.entries (c.free_id-id.result, c.awaits_of.result)
    (ap is_pubcomp c.awaits_of.ensures ∙ not_yet (is_qos1 c.in_ok-clone.field-0.qos) c.in_ok-clone.field-0)
    (subst IsReleasedFirst (sym (ap (λ (q : Queue). q.in_flight) c.self.view_is)) first))
