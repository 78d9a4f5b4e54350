-- A copy takes one place at most, and the others find theirs.
use Rattle.std.proofs.Common.{rules, ◌≡◌, ◌≤◌, ◌∷◌, ◌∙◌, ap, sym, subst, List, length}
use Rattle.session_base.specs.declared.publication.Publication.{Publication}
use Rattle.session_base.specs.declared.limits.TheConstants.{MAX_ENTRIES}
use Rattle.session_base.specs.Queue.{Queue, room}
use Rattle.session_base.specs.Session.{SessionState}
use Rattle.broker_spec.specs.Entries.{queued}
use Rattle.broker.proofs.of_one_session.RoomForCopies.{others_find_room, sent_first}
use Rattle.broker.proofs.one_session.retained_copies.put_copies.Goals as goal

pub loop-copy-preserved : goal.loop-copy-preserved
loop-copy-preserved c =
    let cut : c.loop-copy.copy-iterator.rest.items ≡ c.in-Some.copy ∷ c.next.new.self.rest.items = search rules in (
      search rules,
      sent_first c.args.window c.in-Some.copy c.next.new.self.rest.items c.loop-copy.copy-iterator.rest.items c.loop-copy.session.queue
          c.put_copy.new.session.queue c.loop-copy.sent.items c.put_copy.new.sent.items cut
          (ap (λ (s : SessionState). s.queue) c.in_ok-put_copy.ensures.state) c.in_ok-put_copy.ensures.sends
          ∙ c.loop-copy.invariant.1,
      subst (λ (queue : Queue). length (queued c.next.new.self.rest.items) ≤ room MAX_ENTRIES queue)
          (sym (ap (λ (s : SessionState). s.queue) c.in_ok-put_copy.ensures.state))
          (others_find_room c.args.window c.in-Some.copy c.next.new.self.rest.items c.loop-copy.session.queue
          (subst (λ (copies : List Publication). length (queued copies) ≤ room MAX_ENTRIES c.loop-copy.session.queue) cut c.loop-copy.invariant.2)),
    )
