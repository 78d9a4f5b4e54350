use Rattle.std.proofs.Common.{◌≡◌, ap, ◌∙◌, arith}
use Rattle.agreement.specs.cut_logs.Masters.{assigned}
use Rattle.agreement.specs.MasterState.{assigning, refusal}
use Rattle.master.proofs.Groups.{group_gives, master_sends, new_ballot_is, took_given, world_is}
use Rattle.master.proofs.LossesCounted.{counts_told}
use Rattle.master.proofs.group.Group.give.Goals as goal

pub give-ballot-requires : goal.give-ballot-requires
give-ballot-requires g c =
    let granted = rw (← c.self.view_is) at c.requires in
    ap (refusal c.self.inside.master) c.in_ok-given.ensures ∙ granted

pub invariant_of-self : goal.invariant_of-self
invariant_of-self g c =
    let rules = g.M.Machine.rules in
    let m = c.self.inside.master in
    let granted = rw (← c.self.view_is) at c.requires in
    let state : c.give-ballot.new.self ≡ assigning m c.args.config.now = c.give-ballot.ensures.state ∙ ap (assigning m) c.in_ok-given.ensures in
    let body = new_ballot_is {C = g.row.M-Command.Denot} c.give-ballot.result m c.args.config.now c.in_ok-given.given c.in_ok-members.members c.in_ok-previous_members.previous_members c.active-previous.result.0
    c.in_ok-given.ensures (c.in_ok-members.ensures ∙ c.as_slice.ensures) c.give-ballot.ensures.ballot c.active-previous.ensures.ballot
    (c.in_ok-previous_members.ensures ∙ c.active-previous.ensures.members) in
    let world = master_sends c.self.inside.archive.items c.self.inside.nodes.items c.self.inside.sent.items c.send-kept.new.sent.items c.self.inside.left.items c.self.inside.losses c.counted-self-inside.result
    (assigned _ m c.args.config.now) _ c.send-kept.result body c.send-kept.ensures.kept c.send-kept.ensures.lost c.counted-self-inside.ensures in (
      c.self.invariant.0,
      group_gives rules _ _ c.args.config.now c.self.inside.told c.self.inside.next c.begin.new.self c.self.invariant.1 granted state (world_is world)
          (c.begin.ensures.ballot ∙ c.give-ballot.ensures.ballot) c.begin.ensures.counted,
      counts_told c.send-kept.result _ c.self.inside.losses c.counted-self-inside.result c.self.inside.nodes.items (omega arith) c.counted-self-inside.ensures
          c.self.invariant.2,
    )

pub returns-clause-ok : goal.returns-clause-ok
returns-clause-ok g c =
    let m = c.self.inside.master in
    let state : c.give-ballot.new.self ≡ assigning m c.args.config.now = c.give-ballot.ensures.state ∙ ap (assigning m) c.in_ok-given.ensures in
    let body = new_ballot_is {C = g.row.M-Command.Denot} c.give-ballot.result m c.args.config.now c.in_ok-given.given c.in_ok-members.members c.in_ok-previous_members.previous_members c.active-previous.result.0
    c.in_ok-given.ensures (c.in_ok-members.ensures ∙ c.as_slice.ensures) c.give-ballot.ensures.ballot c.active-previous.ensures.ballot
    (c.in_ok-previous_members.ensures ∙ c.active-previous.ensures.members) in
    let world = master_sends c.self.inside.archive.items c.self.inside.nodes.items c.self.inside.sent.items c.send-kept.new.sent.items c.self.inside.left.items c.self.inside.losses c.counted-self-inside.result
    (assigned _ m c.args.config.now) _ c.send-kept.result body c.send-kept.ensures.kept c.send-kept.ensures.lost c.counted-self-inside.ensures in
    took_given c.self.inside.archive.items m c.give-ballot.new.self c.self.inside.nodes.items c.self.inside.sent.items c.send-kept.new.sent.items c.self.inside.left.items
    c.self.inside.losses c.counted-self-inside.result c.args.config.now c.args.self.now c.self.view_is state world
