use Rattle.std.proofs.Common.{ap, arith, sym, ◌∙◌, ◌++◌, List}
use Rattle.std.specs.Prelude.{option_map}
use Rattle.std.specs.List.{flat_map}
use Rattle.admin.specs.Json.{session_tokens}
use Rattle.admin.specs.Sessions.{comes_after}
use Rattle.admin.specs.declared.view.SessionLine.{SessionLine}
use Rattle.admin.proofs.PagesTurned.{filled, unfilled}
use Rattle.admin.proofs.sessions_page.put_listed.Goals as goal

pub returns-then-listed-eq-MAX_LISTED : goal.returns-then-listed-eq-MAX_LISTED
returns-then-listed-eq-MAX_LISTED c =
    let full = filled (comes_after (option_map (λ client. client.now) c.args.after)) c.args.sessions.now c.loop-session.session-index 1000
    (sym c.loop-session.invariant.count ∙ c.if-listed-eq-MAX_LISTED.true) in
    record {
      before = c.loop-session.invariant.before;
      added = c.loop-session.invariant.tokens
          ∙ ap (λ (l : List SessionLine). c.args.writer.now.tokens ++ flat_map session_tokens l) (sym full);
    }

pub returns : goal.returns
returns c =
    let whole = unfilled (comes_after (option_map (λ client. client.now) c.args.after)) c.args.sessions.now c.loop-session.session-index 1000
    c.loop-session-test.false (omega arith) in
    record {
      before = c.loop-session.invariant.before;
      added = c.loop-session.invariant.tokens
          ∙ ap (λ (l : List SessionLine). c.args.writer.now.tokens ++ flat_map session_tokens l) (sym whole);
    }
