use Rattle.std.proofs.Common.{◌≡◌, true, ap, refl, sym, ◌∙◌}
use Rattle.ballot_base.specs.declared.status.Role.TheVariants.{Installing}
use Rattle.ballot_base.specs.Transfer.{waits_for}
use Rattle.ballot_base.specs.Logs.{places}
use Rattle.ballot_base.specs.Replica.{CountedReplica}
use Rattle.ballot_base.proofs.ChangeRows.{on_state-stays}
use Rattle.ballot.proofs.MessagesTaken.{went_same}
use Rattle.ballot.proofs.ChangesTaken.{state_taken, state_lost, not_read, taken_is_read}
use Rattle.ballot.proofs.replica.Replica.on_state.Goals as goal

pub returns-then-not-waits_for-clause-step : goal.returns-then-not-waits_for-clause-step
returns-then-not-waits_for-clause-step g c =
    let steps = g.M.Machine.rules in
    went_same _ _ _ (on_state-stays steps _ c.args.ballot c.args.log
    (ap (waits_for c.args.self.now.state c.args.ballot) (sym c.places.ensures) ∙ sym c.waits_for.ensures ∙ c.if-not-waits_for.true))

pub returns-in_default-clause-step : goal.returns-in_default-clause-step
returns-in_default-clause-step g c =
    let steps = g.M.Machine.rules in
    let waits : waits_for c.args.self.now.state c.args.ballot (places c.args.log) ≡ true =
    ap (waits_for c.args.self.now.state c.args.ballot) (sym c.places.ensures) ∙ sym c.waits_for.ensures ∙ c.if-not-waits_for.false in
    state_lost {rules = steps} c.args.self.now _ c.args.ballot c.args.log _ waits refl

pub returns-then-not-take-clause-step : goal.returns-then-not-take-clause-step
returns-then-not-take-clause-step g c =
    let steps = g.M.Machine.rules in
    let waits : waits_for c.args.self.now.state c.args.ballot (places c.args.log) ≡ true =
    ap (waits_for c.args.self.now.state c.args.ballot) (sym c.places.ensures) ∙ sym c.waits_for.ensures ∙ c.if-not-waits_for.false in
    state_lost {rules = steps} c.args.self.now _ c.args.ballot c.args.log _ waits c.if-not-take.ensures.unread.0

pub returns-clause-step : goal.returns-clause-step
returns-clause-step g c =
    let steps = g.M.Machine.rules in
    let waits : waits_for c.args.self.now.state c.args.ballot (places c.args.log) ≡ true =
    ap (waits_for c.args.self.now.state c.args.ballot) (sym c.places.ensures) ∙ sym c.waits_for.ensures ∙ c.if-not-waits_for.false in
    state_taken {rules = steps} c.args.self.now c.take.new.self _ _ c.args.ballot c.args.log _ c.in-Ok.lacking.items _ _ c.send_log.result
    waits c.if-not-take.ensures.took.0 c.if-not-take.ensures.took.1
    (rw (← c.self.view_is) (rw c.as_slice.ensures at c.in-Ok.ensures))
    (ap (λ (z : CountedReplica _ _). let y : CountedReplica _ _ = record z {
      state = record z.state { held_in = c.args.ballot; role = Installing; lacking = c.in-Ok.lacking.items };
    } in y) c.self-2.view_is)
    c.send_log.ensures
    refl
    refl

pub returns-then-not-waits_for-clause-unread : goal.returns-then-not-waits_for-clause-unread
returns-then-not-waits_for-clause-unread g c = λ unread.
    not_read _ _ (ap (waits_for c.args.self.now.state c.args.ballot) (sym c.places.ensures) ∙ sym c.waits_for.ensures ∙ c.if-not-waits_for.true) unread

pub returns-clause-unread : goal.returns-clause-unread
returns-clause-unread g c = λ unread.
    let steps = g.M.Machine.rules in
    taken_is_read steps c.args.self.now.state c.take.new.self.state c.args.log _ c.if-not-take.ensures.took.0 unread
