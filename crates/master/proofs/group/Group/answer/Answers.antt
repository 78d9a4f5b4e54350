use Rattle.std.proofs.Common.{sym, ◌∙◌, arith}
use Rattle.agreement.specs.cut_logs.Masters.{activated}
use Rattle.agreement.specs.MasterState.{is_granted}
use Rattle.master.proofs.Groups.{answer_is, group_answers, master_sends, took_as_seen, turned, world_is}
use Rattle.master.proofs.LossesCounted.{counts_told}
use Rattle.master.proofs.group.Group.answer.Goals as goal

pub invariant_of-self : goal.invariant_of-self
invariant_of-self g c =
    let rules = g.M.Machine.rules in
    let m = c.self.inside.master in
    let sent = rw (← c.self.view_is) at c.requires in
    let body = answer_is c.args.ballot (is_granted m c.args.ballot m.waiting) c.activate-activation.result c.activation_answer.result
    c.activate-activation.ensures.answer c.activation_answer.ensures in
    let world = master_sends c.self.inside.archive.items c.self.inside.nodes.items c.self.inside.sent.items c.send-kept.new.sent.items c.self.inside.left.items c.self.inside.losses c.counted-self-inside.result
    (activated _ m c.args.ballot c.args.from m.waiting) c.activation_answer.result c.send-kept.result body c.send-kept.ensures.kept c.send-kept.ensures.lost c.counted-self-inside.ensures in (
      c.self.invariant.0,
      group_answers rules _ _ c.args.from c.args.ballot c.self.inside.told c.self.inside.next c.follow_ballot.new.told c.follow_ballot.new.next c.self.invariant.1 sent
          c.activate-activation.ensures.state (world_is world)
          (turned c.self.inside.told c.self.inside.next c.follow_ballot.new.told c.follow_ballot.new.next m.active c.activate-activation.new.self.active
          (λ e. c.follow_ballot.ensures.stays (c.active-before.ensures.ballot ∙ e ∙ sym c.active-after.ensures.ballot))
          (λ ne. c.follow_ballot.ensures.swaps (λ e. ne (sym c.active-before.ensures.ballot ∙ e ∙ c.active-after.ensures.ballot)))),
      counts_told c.send-kept.result _ c.self.inside.losses c.counted-self-inside.result c.self.inside.nodes.items (omega arith) c.counted-self-inside.ensures
          c.self.invariant.2,
    )

pub returns : goal.returns
returns g c =
    let rules = g.M.Machine.rules in
    let m = c.self.inside.master in
    let body = answer_is c.args.ballot (is_granted m c.args.ballot m.waiting) c.activate-activation.result c.activation_answer.result
    c.activate-activation.ensures.answer c.activation_answer.ensures in
    let world = master_sends c.self.inside.archive.items c.self.inside.nodes.items c.self.inside.sent.items c.send-kept.new.sent.items c.self.inside.left.items c.self.inside.losses c.counted-self-inside.result
    (activated _ m c.args.ballot c.args.from m.waiting) c.activation_answer.result c.send-kept.result body c.send-kept.ensures.kept c.send-kept.ensures.lost c.counted-self-inside.ensures in
    took_as_seen c.self.inside.archive.items m c.activate-activation.new.self c.self.inside.nodes.items c.self.inside.sent.items c.send-kept.new.sent.items c.self.inside.left.items
    c.self.inside.losses c.counted-self-inside.result (λ k. activated _ k c.args.ballot c.args.from k.waiting) c.args.self.now c.self.view_is
    c.activate-activation.ensures.state world
