use Rattle.std.proofs.Common.{◌≡◌, ◌≤◌, length, ap, ◌∙◌, refl, arith}
use Rattle.master.specs.Inside.Losses.{input_of}
use Rattle.agreement.specs.cut_logs.World.{messages}
use Rattle.master.proofs.Groups.{front_of, group_turns, more_than}
use Rattle.master.proofs.LossesCounted.{count_covers, counts_at, counts_more, counts_set}
use Rattle.master.proofs.StepsOfNodes.{took_turn, below_of, going_of}
use Rattle.master.proofs.Viewed.{taken_is_read}
use Rattle.master.proofs.group.Group.take_input.Goals as goal

pub step_replica-whole-requires : goal.step_replica-whole-requires
step_replica-whole-requires g c =
    let there = rw (← c.self.view_is) at c.requires.runs in
    going_of c.self.inside.nodes.items c.args.at c.index_mut-replica.result.now there.0 c.index_mut-replica.ensures.value there.1 there.2

pub count_from-requires : goal.count_from-requires
count_from-requires g c =
    more_than c.len-before.result c.self.inside.sent.items _ c.part-kept.new.sent.items c.deref.result.now c.deref.ensures.value c.part-kept.ensures.sent_is
    (c.len-before.ensures ∙ c.self.inside.sent.ok.0)

pub count_from-requires-2 : goal.count_from-requires-2
count_from-requires-2 g c =
    more_than c.len-before.result c.self.inside.sent.items _ c.part-kept.new.sent.items c.deref-2.result.now c.deref-2.ensures.value c.part-kept.ensures.sent_is
    (c.len-before.ensures ∙ c.self.inside.sent.ok.0)

pub invariant_of-self : goal.invariant_of-self
invariant_of-self g c =
    let rules = g.M.Machine.rules in
    let group = c.self.invariant.1 in
    let there = rw (← c.self.view_is) at c.requires.runs in
    let may = rw (← c.self.view_is) at c.requires.may in
    let below = below_of c.self.inside.nodes.items c.args.at there.0 there.1 in
    let from : c.len-from.result ≡ length c.self.inside.left.items = c.len-from.ensures ∙ c.self.inside.left.ok.0 in
    let high : c.self.inside.losses ≤ 18446744073709551615 = omega arith in
    let low = counts_at c.self.inside.losses c.self.inside.nodes.items c.args.at c.index_mut-replica.result.now c.self.invariant.2 below c.index_mut-replica.ensures.value in
    let covers = count_covers c.step_replica-whole.result c.part-kept.result c.self.inside.losses c.counted-self-inside.result c.step_replica-whole.ensures
    c.counted-self-inside.ensures low high in
    let took = took_turn c.self.inside.archive.items c.self.inside.master c.self.inside.nodes.items c.self.inside.sent.items c.part-kept.new.sent.items
    c.self.inside.left.items c.step_replica-whole.new.out.items c.part-kept.new.effects.items c.self.inside.losses c.counted-self-inside.result c.args.at c.len-from.result
    c.index_mut-replica.result.now c.step_replica-whole.new.replica (input_of c.args.input) there.0 c.step_replica-whole.result c.part-kept.result
    below c.index_mut-replica.ensures.value there.1 from c.step_replica-whole.ensures c.part-kept.ensures c.counted-self-inside.ensures
    (taken_is_read rules group.config _ group.moments group.came c.args.at (input_of c.args.input) there.0 may) low high in (
      c.part-kept.ensures.messages_are
          ∙ ap messages (front_of c.len-from.result c.self.inside.left.items c.step_replica-whole.ensures.given c.step_replica-whole.new.out.items c.step_replica-whole.ensures.appended from)
          ∙ c.self.invariant.0,
      group_turns rules _ _ c.self.inside.told c.self.inside.next c.count_from.new.self c.count_from-2.new.self _ _ (input_of c.args.input) c.args.at c.len-before.result there.0
          c.part-kept.ensures.kept c.part-kept.new.sent.items group refl refl there.1 there.2 may took refl (c.len-before.ensures ∙ c.self.inside.sent.ok.0)
          c.part-kept.ensures.sent_is c.count_from.ensures.ballot (rw c.deref.ensures.value at c.count_from.ensures.counted) c.count_from-2.ensures.ballot
          (rw c.deref-2.ensures.value at c.count_from-2.ensures.counted),
      counts_set c.counted-self-inside.result c.self.inside.nodes.items c.args.at c.step_replica-whole.new.replica
          (counts_more c.self.inside.losses c.counted-self-inside.result c.self.inside.nodes.items covers.1 c.self.invariant.2) covers.0,
    )

pub returns : goal.returns
returns g c =
    let rules = g.M.Machine.rules in
    let group = c.self.invariant.1 in
    let there = rw (← c.self.view_is) at c.requires.runs in
    let may = rw (← c.self.view_is) at c.requires.may in
    let below = below_of c.self.inside.nodes.items c.args.at there.0 there.1 in
    let from : c.len-from.result ≡ length c.self.inside.left.items = c.len-from.ensures ∙ c.self.inside.left.ok.0 in
    let high : c.self.inside.losses ≤ 18446744073709551615 = omega arith in
    let low = counts_at c.self.inside.losses c.self.inside.nodes.items c.args.at c.index_mut-replica.result.now c.self.invariant.2 below c.index_mut-replica.ensures.value in
    rw (← c.self.view_is) (λ r stands. took_turn c.self.inside.archive.items c.self.inside.master c.self.inside.nodes.items c.self.inside.sent.items c.part-kept.new.sent.items
    c.self.inside.left.items c.step_replica-whole.new.out.items c.part-kept.new.effects.items c.self.inside.losses c.counted-self-inside.result c.args.at c.len-from.result
    c.index_mut-replica.result.now c.step_replica-whole.new.replica (input_of c.args.input) r c.step_replica-whole.result c.part-kept.result
    below c.index_mut-replica.ensures.value stands from c.step_replica-whole.ensures c.part-kept.ensures c.counted-self-inside.ensures
    (taken_is_read rules group.config _ group.moments group.came c.args.at (input_of c.args.input) r may) low high)
