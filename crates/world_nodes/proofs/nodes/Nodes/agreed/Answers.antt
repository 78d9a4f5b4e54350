use Rattle.std.proofs.Common.{◌-◌, ap, sym, ◌∙◌, length, refl, arith}
use Rattle.std.proofs.lemmas.List.{length-take-le}
use Rattle.ballot_base.specs.Replica.{ReplicaState}
use Rattle.broker_spec.specs.declared.command.Command.{Command}
use Rattle.broker_base.specs.State.{State}
use Rattle.world_nodes.specs.Nodes.{NodesState}
use Rattle.world_nodes.proofs.AgreedCounted.{front_agrees, recorded_agrees, same_replica, some_agrees, within_at}
use Rattle.world_nodes.proofs.nodes.Nodes.agreed.Goals as goal

pub returns-in_default : goal.returns-in_default
returns-in_default c =
    some_agrees c.args.self.now c.agreed_len-held.result _ c.agreed_len-held.ensures (c.in_default.ensures.none refl)

pub slice_bounds-result-end-then-held-base : goal.slice_bounds-result-end-then-held-base
slice_bounds-result-end-then-held-base c =
    let stands = rw (← c.self.view_is) at c.in-Some.ensures.some.stands in
    let within = within_at _ _ _ c.self.invariant c.in-Some.at c.in-Some.ensures.some.replica stands in
    let same = same_replica c.self.inside.nodes.items c.in-Some.at c.index-core.result.now c.in-Some.ensures.some.replica c.index-core.ensures stands in
    let base = c.snapshot-base.ensures.base ∙ ap (λ (s : ReplicaState State Command). s.log.base) same in
    let long = ap length c.deref.ensures.value in
    sym (length-take-le c.agreed_len-held.result c.deref.result.now (omega (arith, within, base, long, c.if-held-base.true)))

pub returns-then-held-base : goal.returns-then-held-base
returns-then-held-base c =
    let stands = rw (← c.self.view_is) at c.in-Some.ensures.some.stands in
    let same = same_replica c.self.inside.nodes.items c.in-Some.at c.index-core.result.now c.in-Some.ensures.some.replica c.index-core.ensures stands in
    let base = c.snapshot-base.ensures.base ∙ ap (λ (s : ReplicaState State Command). s.log.base) same in
    let seen = c.deref.ensures.value ∙ ap (λ (z : NodesState). z.archive) c.self.view_is in
    recorded_agrees c.args.self.now c.agreed_len-held.result c.in-Some.at c.snapshot-base.result.0 c.deref.result.now c.agreed_len-held.ensures
    c.in-Some.ensures.some base c.if-held-base.true seen

pub slice_bounds-result-end-2 : goal.slice_bounds-result-end-2
slice_bounds-result-end-2 c =
    let stands = rw (← c.self.view_is) at c.in-Some.ensures.some.stands in
    let within = within_at _ _ _ c.self.invariant c.in-Some.at c.in-Some.ensures.some.replica stands in
    let same = same_replica c.self.inside.nodes.items c.in-Some.at c.index-core.result.now c.in-Some.ensures.some.replica c.index-core.ensures stands in
    let base = c.snapshot-base.ensures.base ∙ ap (λ (s : ReplicaState State Command). s.log.base) same in
    let long = ap length c.deref-2.ensures.value in
    sym (length-take-le c.snapshot-base.result.0 c.deref-2.result.now (omega (arith, within, base, long)))

pub slice_bounds-result-end-3 : goal.slice_bounds-result-end-3
slice_bounds-result-end-3 c =
    let stands = rw (← c.self.view_is) at c.in-Some.ensures.some.stands in
    let same = same_replica c.self.inside.nodes.items c.in-Some.at c.index-core.result.now c.in-Some.ensures.some.replica c.index-core.ensures stands in
    let base = c.snapshot-base.ensures.base ∙ ap (λ (s : ReplicaState State Command). s.log.base) same in
    let kept = ap length (c.rest.ensures.rest ∙ ap (λ (s : ReplicaState State Command). s.log.rest) same) in
    let held = c.in-Some.ensures.some.long in
    sym (length-take-le (c.agreed_len-held.result - c.snapshot-base.result.0) c.rest.result.now (omega (arith, base, kept, held)))

pub returns : goal.returns
returns c =
    let stands = rw (← c.self.view_is) at c.in-Some.ensures.some.stands in
    let same = same_replica c.self.inside.nodes.items c.in-Some.at c.index-core.result.now c.in-Some.ensures.some.replica c.index-core.ensures stands in
    let base = c.snapshot-base.ensures.base ∙ ap (λ (s : ReplicaState State Command). s.log.base) same in
    let kept = c.rest.ensures.rest ∙ ap (λ (s : ReplicaState State Command). s.log.rest) same in
    let seen = c.deref-2.ensures.value ∙ ap (λ (z : NodesState). z.archive) c.self.view_is in
    front_agrees c.args.self.now c.agreed_len-held.result c.in-Some.at c.snapshot-base.result.0 c.deref-2.result.now c.rest.result.now c.agreed_len-held.ensures
    c.in-Some.ensures.some base c.if-held-base.false seen kept
