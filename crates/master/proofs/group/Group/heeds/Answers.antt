use Rattle.std.proofs.Common.{arith}
use Rattle.std.proofs.lemmas.Bool.{both_ways}
use Rattle.std.proofs.lemmas.List.{length-map}
use Rattle.ballot_base.specs.Replica.{CountedReplica}
use Rattle.agreement.proofs.of_cut_logs.MomentsAgree.{snapshots_are_read}
use Rattle.master.proofs.EarlierMembers.{names_some, quiet_does_nothing}
use Rattle.master.proofs.StepsOfNodes.{same_replica}
use Rattle.master.proofs.Viewed.{heeded}
use Rattle.master.proofs.group.Group.heeds.Goals as goal

pub index-requires : goal.index-requires
index-requires g c =
    let low = rw (← c.self.view_is) at c.requires.at in
    let long = length-map c.self.inside.nodes.items (λ (z : CountedReplica g.row.M.Denot g.row.M-Command.Denot). z.state) in
    let all = c.self.inside.nodes.ok.0 in omega (arith, low, long, all)

pub returns-clause-nothing : goal.returns-clause-nothing
returns-clause-nothing g c =
    let rules = g.M.Machine.rules in
    let there = c.self.invariant.1 in
    let sent = rw (← c.self.view_is) at c.requires.sent in
    rw (← c.self.view_is) (λ r stands. heeded rules r c.index.result.now.state c.args.message.now c.heeds.result
    (same_replica c.self.inside.nodes.items c.args.at c.index.result.now r c.index.ensures stands)
    (snapshots_are_read rules there.config _ there.moments there.came sent.0 c.args.message.now sent.1 r) c.heeds.ensures)

pub returns-clause-more : goal.returns-clause-more
returns-clause-more g c =
    let rules = g.M.Machine.rules in
    let there = c.self.invariant.1 in
    let sent = rw (← c.self.view_is) at c.requires.sent in
    rw (← c.self.view_is) (λ r stands on more quiet. both_ways c.heeds.result ((heeded rules r c.index.result.now.state c.args.message.now c.heeds.result
    (same_replica c.self.inside.nodes.items c.args.at c.index.result.now r c.index.ensures stands)
    (snapshots_are_read rules there.config _ there.moments there.came sent.0 c.args.message.now sent.1 r) c.heeds.ensures).1
    (quiet_does_nothing rules r c.args.message.now.from c.args.message.now.body more
    (names_some rules there.config _ there.moments there.came sent.0 c.args.message.now sent.1) quiet)) on)
