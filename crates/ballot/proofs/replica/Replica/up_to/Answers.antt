use Rattle.std.proofs.Common.{◌∙◌}
use Rattle.ballot.proofs.ReplicaOpens.{opens_active, opens_backup}
use Rattle.ballot.proofs.replica.Replica.up_to.Goals as goal
use Rattle.ballot.proofs.replica.Replica.up_to.Goals.{then-id-config+in_ok-lead_first_ballot, else-id-config}

pub returns-clause-ok : goal.returns-clause-ok
returns-clause-ok g c =
    let steps = g.M.Machine.rules in
    elim c.if-id-config.branch [
      | then-id-config+in_ok-lead_first_ballot w ↦
          w.replica-is ∙ opens_active steps c.args.id c.args.config.now c.new_backup-replica.result _
          w.if-id-config.true c.new_backup-replica.ensures w.in_ok-lead_first_ballot.ensures
      | else-id-config w ↦
          w.replica-is ∙ opens_backup steps c.args.id c.args.config.now c.new_backup-replica.result
          w.if-id-config.false c.new_backup-replica.ensures
    ]
