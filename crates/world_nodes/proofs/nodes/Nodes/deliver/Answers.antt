use Rattle.std.proofs.Common.{sym, refl, ◌∙◌}
use Rattle.master.specs.Copies.{has_numbers_alone}
use Rattle.master.proofs.Quiet.{not_copied}
use Rattle.world_nodes.specs.Nodes.{NodesState}
use Rattle.world_nodes.proofs.MasterActs.{asked_in, came_on, came_to_master, comes_exactly, comes_on, delivered_or_lost, heard_ballot, heard_or_lost, may_come_on, sent_copy}
use Rattle.world_nodes.proofs.Acts.{same_core}
use Rattle.world_nodes.proofs.Resting.{asked_takes, copied_or, heeded_takes, is_passed, names_sent}
use Rattle.world_nodes.proofs.nodes.Nodes.deliver.Goals as goal

pub answer-requires : goal.answer-requires
answer-requires c =
    asked_in c.args.self.now.sent c.args.number c.in-Some-asks_for.ballot c.in-Some.field-0.now c.in-Some.ensures.some c.if-receiver-eq0.true
    (sym c.asks_for.ensures ∙ c.in-Some-asks_for.is)

pub returns-in-Some-asks_for-clause-lossy : goal.returns-in-Some-asks_for-clause-lossy
returns-in-Some-asks_for-clause-lossy c =
    came_to_master _ c.in-Some.field-0.now c.args.self.now c.answer.new.self c.in-Some.ensures.some c.if-receiver-eq0.true
    (heard_ballot c.in-Some.field-0.now.1.from c.in-Some-asks_for.ballot c.in-Some.field-0.now.1.body c.args.self.now c.answer.new.self
    (sym c.asks_for.ensures ∙ c.in-Some-asks_for.is) c.answer.ensures.lossy)

pub returns-in-Some-asks_for-clause-exact : goal.returns-in-Some-asks_for-clause-exact
returns-in-Some-asks_for-clause-exact c =
    comes_exactly _ c.args.self.now c.answer.new.self
    (came_to_master _ c.in-Some.field-0.now c.args.self.now c.answer.new.self c.in-Some.ensures.some c.if-receiver-eq0.true
    (heard_ballot c.in-Some.field-0.now.1.from c.in-Some-asks_for.ballot c.in-Some.field-0.now.1.body c.args.self.now c.answer.new.self
    (sym c.asks_for.ensures ∙ c.in-Some-asks_for.is) c.answer.ensures.lossy))

pub returns-clause-lossy : goal.returns-clause-lossy
returns-clause-lossy c =
    came_on c.act.result _ c.in-Some.field-0.now c.in-Ok.message c.args.self.now c.act.new.self c.in-Some.ensures.some c.if-receiver-eq0.false c.in-Ok.ensures.same c.act.ensures.lossy

pub returns-clause-exact : goal.returns-clause-exact
returns-clause-exact c =
    comes_on c.act.result _ c.args.self.now c.act.new.self
    (came_on c.act.result _ c.in-Some.field-0.now c.in-Ok.message c.args.self.now c.act.new.self c.in-Some.ensures.some c.if-receiver-eq0.false c.in-Ok.ensures.same c.act.ensures.lossy)

pub returns-clause-acts : goal.returns-clause-acts
returns-clause-acts c =
    may_come_on c.act.result _ c.in-Some.field-0.now c.in-Ok.message c.args.self.now c.act.new.self c.in-Some.ensures.some c.if-receiver-eq0.false c.in-Ok.ensures.same c.act.ensures.acts

pub act-requires : goal.act-requires
act-requires c =
    sent_copy c.args.self.now.sent c.args.number c.in-Some.field-0.now c.in-Ok.message c.in-Some.ensures.some c.in-Ok.ensures.same

pub returns-in-Some-asks_for-clause-acts : goal.returns-in-Some-asks_for-clause-acts
returns-in-Some-asks_for-clause-acts c =
    delivered_or_lost _ c.in-Some.field-0.now c.args.self.now c.answer.new.self c.in-Some.ensures.some c.if-receiver-eq0.true
    (heard_or_lost c.in-Some-asks_for.ballot c.in-Some.field-0.now.1.body c.args.self.now c.answer.new.self
    (sym c.asks_for.ensures ∙ c.in-Some-asks_for.is) c.answer.ensures.acts)

pub pass_over-requires : goal.pass_over-requires
pass_over-requires c =
    let there = rw (← c.self.view_is) at c.in-Some.ensures.some in
    let runs = rw (← c.self.view_is) at c.in-Some-running.ensures.some in
    rw (← c.self.view_is) (is_passed (let old : NodesState = record {
      master = c.self.inside.master;
      nodes = c.self.inside.nodes.items;
      sent = c.self.inside.sent.items;
      archive = c.self.inside.archive.items;
      losses = c.self.inside.losses;
    } in old) c.args.number c.in-Some-running.at c.in-Some.field-0.now c.index.result.now c.heeds.result there runs c.index.ensures c.if-not-heeds.true c.heeds.ensures)

pub returns-in_default-copy_of-clause-quiet : goal.returns-in_default-copy_of-clause-quiet
returns-in_default-copy_of-clause-quiet c =
    let there = rw (← c.self.view_is) at c.in-Some.ensures.some in
    let runs = rw (← c.self.view_is) at c.in-Some-running.ensures.some in
    let old : NodesState = record {
      master = c.self.inside.master;
      nodes = c.self.inside.nodes.items;
      sent = c.self.inside.sent.items;
      archive = c.self.inside.archive.items;
      losses = c.self.inside.losses;
    } in
    rw (← c.self.view_is) (λ rests. copied_or (has_numbers_alone c.in-Some.field-0.now.1.body) (λ e. not_copied c.copy_of.result _ c.in_default-copy_of.is (c.copy_of.ensures.numbers e))
    (λ more. heeded_takes old c.args.number c.in-Some.field-0.now.0 c.in-Some-running.at c.in-Some.field-0.now c.index.result.now c.heeds.result there refl c.if-receiver-eq0.false runs
    (same_core c.self.inside.nodes.items c.in-Some-running.at runs.core c.index.result.now runs.stands c.index.ensures) c.if-not-heeds.false c.heeds.ensures
    more (names_sent old _ _ c.self.invariant c.args.number c.in-Some.field-0.now there) rests))

pub returns-in-Some-asks_for-clause-quiet : goal.returns-in-Some-asks_for-clause-quiet
returns-in-Some-asks_for-clause-quiet c =
    asked_takes c.args.self.now c.args.number c.in-Some-asks_for.ballot c.in-Some.field-0.now c.in-Some.ensures.some c.if-receiver-eq0.true (sym c.asks_for.ensures ∙ c.in-Some-asks_for.is)
