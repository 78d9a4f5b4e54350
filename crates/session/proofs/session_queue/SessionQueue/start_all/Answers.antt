use Rattle.std.proofs.Common.{rules, ◌≡◌, ◌≤◌, ◌<◌, ◌++◌, ◌∙◌, ap, sym, List, length, drop}
use Rattle.std.proofs.lemmas.List.{append-nil}
use Rattle.session_base.specs.declared.publication.Publication.{Publication}
use Rattle.session_base.specs.EntryPackets.{fill_sends}
use Rattle.session.specs.Inside.{started_with, sends_with}
use Rattle.session.proofs.FillsStepByStep.{fill_shut, sends_shut, fill_next, sent_next, flights_before, still_front, fill_of_nothing_starts_none}
use Rattle.session.proofs.session_queue.SessionQueue.start_all.Goals as goal

pub returns-then-len-window-clause-state : goal.returns-then-len-window-clause-state
returns-then-len-window-clause-state c =
    let full : c.args.window ≤ length c.loop-index.self.in_flight = search rules in
    sym (fill_shut c.args.window c.loop-index.self.in_flight (drop c.loop-index.index c.args.self.now.waiting) full)
    ∙ c.loop-index.invariant.state

pub returns-then-len-window-clause-sends : goal.returns-then-len-window-clause-sends
returns-then-len-window-clause-sends c =
    let full : c.args.window ≤ length c.loop-index.self.in_flight = search rules in
    sym (append-nil c.loop-index.out.items)
    ∙ ap (λ sent. c.loop-index.out.items ++ sent)
    (sym (sends_shut c.args.window c.loop-index.self.in_flight (drop c.loop-index.index c.args.self.now.waiting) full))
    ∙ c.loop-index.invariant.sends

pub loop-index-preserved : goal.loop-index-preserved
loop-index-preserved c =
    let has_room : length c.loop-index.self.in_flight < c.args.window = search rules in
    let waits : List Publication = c.args.self.now.waiting in
    let is : c.start.new.self.in_flight ≡ (started_with c.loop-index.self.in_flight (drop c.loop-index.index waits)).in_flight
    = c.in_ok-start.ensures.state
    ∙ ap (λ (ps : List Publication). (started_with c.loop-index.self.in_flight (drop c.loop-index.index ps)).in_flight) c.loop-index.invariant.waiting in
    let appended : c.start.new.out.items ≡ c.loop-index.out.items ++ sends_with c.loop-index.self.in_flight (drop c.loop-index.index waits)
    = c.in_ok-start.ensures.sends
    ∙ ap (λ (ps : List Publication). c.loop-index.out.items ++ sends_with c.loop-index.self.in_flight (drop c.loop-index.index ps)) c.loop-index.invariant.waiting in
    record {
      state = fill_next c.args.window c.loop-index.self.in_flight c.start.new.self.in_flight waits c.loop-index.index has_room is
          ∙ c.loop-index.invariant.state;
      sends = sent_next c.args.window c.loop-index.self.in_flight c.start.new.self.in_flight waits c.loop-index.index
          c.loop-index.out.items c.start.new.out.items (c.args.out.now.items ++ fill_sends c.args.window c.args.self.now.in_flight c.args.self.now.waiting) has_room is appended c.loop-index.invariant.sends;
      waiting = c.start.ensures.waiting ∙ c.loop-index.invariant.waiting;
      first = λ h. c.start.ensures.first (c.loop-index.invariant.first h);
      flights = flights_before c.loop-index.self.in_flight c.start.new.self.in_flight c.args.self.now.in_flight
          (drop c.loop-index.index waits) is c.loop-index.invariant.flights;
      kept = still_front c.args.out.now.items c.loop-index.out.items (sends_with c.loop-index.self.in_flight (drop c.loop-index.index waits)) c.start.new.out.items appended c.loop-index.invariant.kept;
    }

pub returns-in_err-start-clause-nothing : goal.returns-in_err-start-clause-nothing
returns-in_err-start-clause-nothing c sends_none =
    let has_room : length c.loop-index.self.in_flight < c.args.window = search rules in
    let below : c.loop-index.index < length c.args.self.now.waiting = search rules in
    absurd (fill_of_nothing_starts_none c.args.window c.loop-index.self.in_flight c.args.self.now.waiting c.loop-index.index
    c.loop-index.out.items c.args.out.now.items (fill_sends c.args.window c.args.self.now.in_flight c.args.self.now.waiting)
    has_room below c.loop-index.invariant.sends sends_none c.loop-index.invariant.kept)
