use Rattle.std.proofs.Common.{sym, ◌∙◌, subst}
use Rattle.ballot_base.specs.declared.message.Body.TheVariants.{Activate}
use Rattle.agreement.specs.MasterState.{is_granted}
use Rattle.master.proofs.Groups.{answer_is, turned}
use Rattle.world_nodes.specs.Nodes.{NodesState}
use Rattle.world_nodes.specs.Steps.{MasterAnswerOrLost}
use Rattle.world_nodes.proofs.MasterCounts.{answers_counting}
use Rattle.world_nodes.proofs.MasterActs.{answers_ballot, answers_or_loses, master_turn}
use Rattle.world_nodes.proofs.nodes.Nodes.answer.Goals as goal

pub returns-clause-lossy : goal.returns-clause-lossy
returns-clause-lossy c =
    let m = c.self.inside.master in
    let body = answer_is c.args.ballot (is_granted m c.args.ballot m.waiting) c.activate-activation.result c.activation_answer.result
    c.activate-activation.ensures.answer c.activation_answer.ensures in
    let old : NodesState = record {
      master = m;
      nodes = c.self.inside.nodes.items;
      sent = c.self.inside.sent.items;
      archive = c.self.inside.archive.items;
      losses = c.self.inside.losses;
    } in
    subst (λ (n : NodesState). MasterAnswerOrLost c.args.from (Activate c.args.ballot) n (master_turn c.activate-activation.new.self c.send-kept.new.sent.items c.counted-self-inside.result old))
    c.self.view_is
    (answers_ballot old c.args.from c.args.ballot c.activate-activation.new.self c.activation_answer.result c.send-kept.new.sent.items c.send-kept.result c.counted-self-inside.result
    c.activate-activation.ensures.state body c.send-kept.ensures.kept c.send-kept.ensures.lost c.counted-self-inside.ensures)

pub returns-clause-acts : goal.returns-clause-acts
returns-clause-acts c =
    let m = c.self.inside.master in
    let sent = rw (← c.self.view_is) at c.requires in
    let body = answer_is c.args.ballot (is_granted m c.args.ballot m.waiting) c.activate-activation.result c.activation_answer.result
    c.activate-activation.ensures.answer c.activation_answer.ensures in
    rw (← c.self.view_is) (answers_or_loses (let old : NodesState = record {
      master = m;
      nodes = c.self.inside.nodes.items;
      sent = c.self.inside.sent.items;
      archive = c.self.inside.archive.items;
      losses = c.self.inside.losses;
    } in old) c.args.from c.args.ballot c.activate-activation.new.self c.activation_answer.result c.send-kept.new.sent.items c.send-kept.result c.counted-self-inside.result
    sent c.activate-activation.ensures.state body c.send-kept.ensures.kept c.send-kept.ensures.lost)

pub invariant_of-self : goal.invariant_of-self
invariant_of-self c =
    let m = c.self.inside.master in
    let counters = c.self.inside.counters in
    let turned_to = c.follow_ballot.new.self in
    let sent = rw (← c.self.view_is) at c.requires in
    let body = answer_is c.args.ballot (is_granted m c.args.ballot m.waiting) c.activate-activation.result c.activation_answer.result
    c.activate-activation.ensures.answer c.activation_answer.ensures in
    answers_counting (let old : NodesState = record {
      master = m;
      nodes = c.self.inside.nodes.items;
      sent = c.self.inside.sent.items;
      archive = c.self.inside.archive.items;
      losses = c.self.inside.losses;
    } in old) c.args.from c.args.ballot c.activate-activation.new.self c.activation_answer.result c.send-kept.new.sent.items c.send-kept.result c.counted-self-inside.result
    counters.told counters.next turned_to.told turned_to.next c.self.invariant sent c.activate-activation.ensures.state body c.send-kept.ensures.kept c.send-kept.ensures.lost
    (turned counters.told counters.next turned_to.told turned_to.next m.active c.activate-activation.new.self.active
    (λ e. c.follow_ballot.ensures.stays (c.active-before.ensures.ballot ∙ e ∙ sym c.active-after.ensures.ballot))
    (λ ne. c.follow_ballot.ensures.swaps (λ e. ne (sym c.active-before.ensures.ballot ∙ e ∙ c.active-after.ensures.ballot))))
