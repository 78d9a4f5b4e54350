-- By what happens to the publication: another try, a refused one, a taken one.
use Rattle.std.proofs.Common.{◌≡◌, ◌∙◌, ◌++◌, ap, sym, subst, ℕ, List, true, false}
use Rattle.std.proofs.lemmas.List.{append_assoc}
use Rattle.session_base.specs.declared.publication.Publication.{Publication}
use Rattle.session_base.specs.Publication.{publication_of}
use Rattle.subs_base.specs.Granted.{Row}
use Rattle.broker_spec.specs.Answers.{acknowledged}
use Rattle.broker_spec.specs.Retained.{retains}
use Rattle.broker_spec.specs.Commands.{usual_limits}
use Rattle.broker_base.specs.rows.Published.{all_delivered, answered_in_turn, session_changed, received_on}
use Rattle.broker_base.specs.rows.PublishTheorems.{is_refused_by_rows, HaveRoomInTurn}
use Rattle.broker.specs.tables.Tables.{state_in}
use Rattle.broker.proofs.of_tables.FoundByMaps.{has_session, is_served}
use Rattle.broker.proofs.of_tables.Publications.{repeat_of, refused_of, taken_of, room_of_taken, ties_of_taken}
use Rattle.broker.proofs.tables.tables.Tables.publish.Goals as goal

pub index-requires : goal.index-requires
index-requires c = has_session c.args.self.now c.args.connection c.args.client.now c.requires.consistent c.requires.served

pub returns-then-repeats_taken-clause-step : goal.returns-then-repeats_taken-clause-step
returns-then-repeats_taken-clause-step c =
    let t = c.args.self.now in
    let kept = c.index.result.now in
    let served = is_served t c.args.connection c.args.client.now kept c.requires.consistent c.requires.served c.index.ensures in
    record {
      state = sym (ap (λ p. p.0)
          (repeat_of t c.args.connection c.args.client.now kept served c.args.publish.now (sym c.repeats_taken.ensures ∙ c.if-repeats_taken.true)));
      outputs = c.in_ok-acknowledge.ensures
          ∙ ap (λ given. c.args.out.now.items ++ given)
          (sym (ap (λ p. p.1)
          (repeat_of t c.args.connection c.args.client.now kept served c.args.publish.now (sym c.repeats_taken.ensures ∙ c.if-repeats_taken.true))));
    }

pub returns-then-refuses-clause-step : goal.returns-then-refuses-clause-step
returns-then-refuses-clause-step c =
    let t = c.args.self.now in
    let kept = c.index.result.now in
    let served = is_served t c.args.connection c.args.client.now kept c.requires.consistent c.requires.served c.index.ensures in
    let refused : is_refused_by_rows usual_limits (state_in t) (publication_of c.args.publish.now) ≡ true
    = ap (is_refused_by_rows usual_limits (state_in t)) (sym c.in_ok-publication.ensures) ∙ sym c.refuses.ensures ∙ c.if-refuses.true in
    record {
      state = c.in_ok-close.ensures.state
          ∙ sym (ap (λ p. p.0)
          (refused_of t c.args.connection c.args.client.now kept served c.args.publish.now (sym c.repeats_taken.ensures ∙ c.if-repeats_taken.false) refused));
      outputs = c.in_ok-close.ensures.outputs
          ∙ ap (λ given. c.args.out.now.items ++ given)
          (sym (ap (λ p. p.1)
          (refused_of t c.args.connection c.args.client.now kept served c.args.publish.now (sym c.repeats_taken.ensures ∙ c.if-repeats_taken.false) refused)));
    }

pub returns-clause-step : goal.returns-clause-step
returns-clause-step c =
    let t = c.args.self.now in
    let kept = c.index.result.now in
    let served = is_served t c.args.connection c.args.client.now kept c.requires.consistent c.requires.served c.index.ensures in
    let taken : is_refused_by_rows usual_limits (state_in t) (publication_of c.args.publish.now) ≡ false
    = ap (is_refused_by_rows usual_limits (state_in t)) (sym c.in_ok-publication.ensures) ∙ sym c.refuses.ensures ∙ c.if-refuses.false in
    record {
      state = (λ i. record {
        window = c.in_ok-note_received.ensures.others.window i;
        sessions = (c.in_ok-deliver_all.ensures.state
            ∙ (λ j. all_delivered (c.in_ok-note_received.ensures.others.window j) (c.in_ok-publication.ensures j) (c.deref-2.ensures.value j) (c.in_ok-note_received.ensures.sessions j))) i;
        retained = (c.in_ok-retain.ensures ∙ (λ j. retains (c.in_ok-publication.ensures j) (c.in_ok-note_received.ensures.others.retained j))) i;
      })
          ∙ sym (ap (λ p. p.0)
          (taken_of t c.args.connection c.args.client.now kept served c.args.publish.now (sym c.repeats_taken.ensures ∙ c.if-repeats_taken.false) taken
          c.in_ok-granted.granted.items c.in_ok-granted.ensures));
      outputs = c.in_ok-deliver_all.ensures.outputs
          ∙ (λ i. c.in_ok-acknowledge-2.ensures i
          ++ answered_in_turn (c.in_ok-note_received.ensures.others.window i) (c.in_ok-publication.ensures i) (c.deref-2.ensures.value i) (c.in_ok-note_received.ensures.sessions i))
          ∙ append_assoc c.args.out.now.items (acknowledged c.args.connection c.args.publish.now.delivery)
          (answered_in_turn t.window (publication_of c.args.publish.now) c.in_ok-granted.granted.items
          (session_changed c.args.client.now (received_on c.args.publish.now.delivery) t.sessions.entries))
          ∙ ap (λ given. c.args.out.now.items ++ given)
          (sym (ap (λ p. p.1)
          (taken_of t c.args.connection c.args.client.now kept served c.args.publish.now (sym c.repeats_taken.ensures ∙ c.if-repeats_taken.false) taken
          c.in_ok-granted.granted.items c.in_ok-granted.ensures)));
    }

pub returns-clause-tied : goal.returns-clause-tied
returns-clause-tied c =
    ties_of_taken c.args.self.now _ c.args.client.now c.args.publish.now c.in_ok-granted.granted.items c.requires.consistent.tied
    (c.in_ok-deliver_all.ensures.state
    ∙ (λ j. all_delivered (c.in_ok-note_received.ensures.others.window j) (c.in_ok-publication.ensures j) (c.deref-2.ensures.value j) (c.in_ok-note_received.ensures.sessions j)))
    c.in_ok-note_received.ensures.others.owners c.in_ok-note_received.ensures.others.index

pub deliver_all-requires : goal.deliver_all-requires
deliver_all-requires c =
    let t = c.args.self.now in
    let kept = c.index.result.now in
    let served = is_served t c.args.connection c.args.client.now kept c.requires.consistent c.requires.served c.index.ensures in
    let taken : is_refused_by_rows usual_limits (state_in t) (publication_of c.args.publish.now) ≡ false
    = ap (is_refused_by_rows usual_limits (state_in t)) (sym c.in_ok-publication.ensures) ∙ sym c.refuses.ensures ∙ c.if-refuses.false in
    record {
      room = subst (λ (w : ℕ). HaveRoomInTurn usual_limits w c.in_ok-publication.publication c.deref-2.result.now c.note_received.new.self.sessions.entries)
          (sym c.in_ok-note_received.ensures.others.window)
          (subst (λ (p : Publication). HaveRoomInTurn usual_limits t.window p c.deref-2.result.now c.note_received.new.self.sessions.entries)
          (sym c.in_ok-publication.ensures)
          (subst (λ (rows : List Row). HaveRoomInTurn usual_limits t.window (publication_of c.args.publish.now) rows c.note_received.new.self.sessions.entries)
          (sym c.deref-2.ensures.value)
          (room_of_taken t c.args.connection c.args.client.now kept served c.args.publish.now taken
          c.in_ok-granted.granted.items c.in_ok-granted.ensures c.note_received.new.self.sessions.entries c.in_ok-note_received.ensures.sessions)));
    }
