use Rattle.std.proofs.Common.{◌≡◌, cond, rules}
use Rattle.ballot.proofs.ReplicaOpens.{joined_first, joined_first-is, opens_as_member}
use Rattle.ballot.proofs.replica.Replica.new_backup.Goals as goal
use Rattle.ballot.proofs.replica.Replica.new_backup.Goals.{then-contains, else-contains}

pub returns : goal.returns
returns g c =
    let steps = g.M.Machine.rules in
    let member : c.if-contains.ballot ≡ cond c.contains.result 1 0 =
    elim c.if-contains.branch [ then-contains w ↦ search rules | else-contains w ↦ search rules ] in
    let ballot : c.if-contains.ballot ≡ joined_first c.args.id c.args.config.now =
    joined_first-is c.args.id c.args.config.now c.if-contains.ballot c.contains.result
    (rw c.as_slice-members.ensures at c.contains.ensures.value) member in
    opens_as_member steps c.args.id c.args.config.now c.if-contains.ballot c.args.machine c.new-5.result _ _ _ _
    ballot c.requires c.new-5.ensures c.new.ensures c.new-2.ensures c.new-3.ensures.items c.new-4.ensures.items
