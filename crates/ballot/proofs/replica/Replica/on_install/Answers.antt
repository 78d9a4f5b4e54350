use Rattle.std.proofs.Common.{ap, sym, ◌∙◌}
use Rattle.ballot_base.specs.declared.status.Role.TheVariants.{Backup}
use Rattle.ballot_base.specs.Transfer.{lacks}
use Rattle.ballot_base.specs.Replica.{CountedReplica}
use Rattle.ballot_base.proofs.ChangeRows.{on_install-stays}
use Rattle.ballot_base.proofs.LogsTaken.{taken-id}
use Rattle.ballot.proofs.MessagesTaken.{went_same}
use Rattle.ballot.proofs.ChangesTaken.{install_taken, install_lost, install_answered, not_read, taken_is_read}
use Rattle.ballot.proofs.replica.Replica.on_install.Goals as goal

pub returns-then-lacks-clause-step : goal.returns-then-lacks-clause-step
returns-then-lacks-clause-step g c =
    let steps = g.M.Machine.rules in
    install_taken {rules = steps} c.args.self.now c.take.new.self _ c.args.from c.args.ballot c.places-held.result c.args.log _ _ _ c.send_one.result
    (sym c.lacks.ensures ∙ c.if-lacks.true) c.places-held.ensures c.if-not-take.ensures.took.0 c.if-not-take.ensures.took.1
    (taken-id steps c.args.self.now.state c.take.new.self.state c.args.log c.if-not-take.ensures.took.0)
    (ap (λ (z : CountedReplica _ _). let y : CountedReplica _ _ = record z {
      state = record z.state { joined = c.args.ballot; held_in = c.args.ballot; role = Backup };
    } in y) c.self.view_is)
    c.send_one.ensures

pub returns-then-not-take-clause-step : goal.returns-then-not-take-clause-step
returns-then-not-take-clause-step g c =
    let steps = g.M.Machine.rules in
    install_lost {rules = steps} c.args.self.now _ c.args.from c.args.ballot c.places-held.result c.args.log _
    (sym c.lacks.ensures ∙ c.if-lacks.true) c.places-held.ensures c.if-not-take.ensures.unread.0

pub returns-then-holds-clause-step : goal.returns-then-holds-clause-step
returns-then-holds-clause-step g c =
    let steps = g.M.Machine.rules in
    install_answered {rules = steps} c.args.self.now c.args.from c.args.ballot c.places-held.result c.args.log _ _ _ c.send_one-then-holds.result
    (sym c.lacks.ensures ∙ c.if-lacks.false) (sym c.holds.ensures ∙ c.if-holds.true) c.places-held.ensures c.send_one-then-holds.ensures

pub returns-clause-step : goal.returns-clause-step
returns-clause-step g c =
    let steps = g.M.Machine.rules in
    went_same _ _ _ (on_install-stays steps _ c.args.from c.args.ballot c.args.log
    (ap (lacks c.args.self.now.state c.args.ballot) (sym c.places-held.ensures) ∙ sym c.lacks.ensures ∙ c.if-lacks.false)
    (sym c.holds.ensures ∙ c.if-holds.false))

pub returns-then-lacks-clause-unread : goal.returns-then-lacks-clause-unread
returns-then-lacks-clause-unread g c = λ unread.
    let steps = g.M.Machine.rules in
    taken_is_read steps c.args.self.now.state c.take.new.self.state c.args.log _ c.if-not-take.ensures.took.0 unread

pub returns-then-holds-clause-unread : goal.returns-then-holds-clause-unread
returns-then-holds-clause-unread g c = λ unread.
    not_read _ _ (ap (lacks c.args.self.now.state c.args.ballot) (sym c.places-held.ensures) ∙ sym c.lacks.ensures ∙ c.if-lacks.false) unread

pub returns-clause-unread : goal.returns-clause-unread
returns-clause-unread g c = λ unread.
    not_read _ _ (ap (lacks c.args.self.now.state c.args.ballot) (sym c.places-held.ensures) ∙ sym c.lacks.ensures ∙ c.if-lacks.false) unread
