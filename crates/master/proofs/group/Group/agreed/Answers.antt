use Rattle.std.proofs.Common.{◌-◌, ap, sym, ◌∙◌, length, refl, arith}
use Rattle.std.proofs.lemmas.List.{length-take-le}
use Rattle.ballot_base.specs.Replica.{ReplicaState}
use Rattle.master.specs.Group.{GroupState}
use Rattle.master.proofs.StepsOfNodes.{same_replica}
use Rattle.master.proofs.Viewed.{agreed_read, agreed_read_on, some_as_seen, within_of}
use Rattle.master.proofs.group.Group.agreed.Goals as goal

pub returns-in_default : goal.returns-in_default
returns-in_default g c =
    let rules = g.M.Machine.rules in
    λ config moments came. absurd (some_as_seen rules config c.args.self.now.moment moments c.agreed_len-held.result came
    (λ xs is. c.agreed_len-held.ensures config moments xs came is) (c.in_default.ensures.none refl))

pub slice_bounds-result-end-then-held-base : goal.slice_bounds-result-end-then-held-base
slice_bounds-result-end-then-held-base g c =
    let rules = g.M.Machine.rules in
    let group = c.self.invariant.1 in
    let stands = rw (← c.self.view_is) at c.in-Some.ensures.some.stands in
    let within = within_of rules group.config _ group.moments group.came c.in-Some.at c.in-Some.ensures.some.replica stands in
    let same = same_replica c.self.inside.nodes.items c.in-Some.at c.index-replica.result.now c.in-Some.ensures.some.replica c.index-replica.ensures stands in
    let base = c.snapshot-base.ensures.base ∙ ap (λ (s : ReplicaState g.row.M.Denot g.row.M-Command.Denot). s.log.base) same in
    let long = ap length c.deref.ensures.value in
    sym (length-take-le c.agreed_len-held.result c.deref.result.now (omega (arith, within, base, long, c.if-held-base.true)))

pub returns-then-held-base : goal.returns-then-held-base
returns-then-held-base g c =
    let rules = g.M.Machine.rules in
    let stands = rw (← c.self.view_is) at c.in-Some.ensures.some.stands in
    let same = same_replica c.self.inside.nodes.items c.in-Some.at c.index-replica.result.now c.in-Some.ensures.some.replica c.index-replica.ensures stands in
    let base = c.snapshot-base.ensures.base ∙ ap (λ (s : ReplicaState g.row.M.Denot g.row.M-Command.Denot). s.log.base) same in
    let seen = c.deref.ensures.value ∙ ap (λ (z : GroupState g.row.M.Denot g.row.M-Command.Denot g.row.M-Output.Denot). z.moment.world.archive) c.self.view_is in
    λ config moments came. agreed_read rules config c.args.self.now.moment moments c.agreed_len-held.result c.in-Some.at c.snapshot-base.result.0 c.deref.result.now came
    (λ xs is. c.agreed_len-held.ensures config moments xs came is) c.in-Some.ensures.some base c.if-held-base.true seen

pub slice_bounds-result-end-2 : goal.slice_bounds-result-end-2
slice_bounds-result-end-2 g c =
    let rules = g.M.Machine.rules in
    let group = c.self.invariant.1 in
    let stands = rw (← c.self.view_is) at c.in-Some.ensures.some.stands in
    let within = within_of rules group.config _ group.moments group.came c.in-Some.at c.in-Some.ensures.some.replica stands in
    let same = same_replica c.self.inside.nodes.items c.in-Some.at c.index-replica.result.now c.in-Some.ensures.some.replica c.index-replica.ensures stands in
    let base = c.snapshot-base.ensures.base ∙ ap (λ (s : ReplicaState g.row.M.Denot g.row.M-Command.Denot). s.log.base) same in
    let long = ap length c.deref-2.ensures.value in
    sym (length-take-le c.snapshot-base.result.0 c.deref-2.result.now (omega (arith, within, base, long)))

pub slice_bounds-result-end-3 : goal.slice_bounds-result-end-3
slice_bounds-result-end-3 g c =
    let stands = rw (← c.self.view_is) at c.in-Some.ensures.some.stands in
    let same = same_replica c.self.inside.nodes.items c.in-Some.at c.index-replica.result.now c.in-Some.ensures.some.replica c.index-replica.ensures stands in
    let base = c.snapshot-base.ensures.base ∙ ap (λ (s : ReplicaState g.row.M.Denot g.row.M-Command.Denot). s.log.base) same in
    let kept = ap length (c.rest.ensures.rest ∙ ap (λ (s : ReplicaState g.row.M.Denot g.row.M-Command.Denot). s.log.rest) same) in
    let held = c.in-Some.ensures.some.long in
    sym (length-take-le (c.agreed_len-held.result - c.snapshot-base.result.0) c.rest.result.now (omega (arith, base, kept, held)))

pub returns : goal.returns
returns g c =
    let rules = g.M.Machine.rules in
    let stands = rw (← c.self.view_is) at c.in-Some.ensures.some.stands in
    let same = same_replica c.self.inside.nodes.items c.in-Some.at c.index-replica.result.now c.in-Some.ensures.some.replica c.index-replica.ensures stands in
    let base = c.snapshot-base.ensures.base ∙ ap (λ (s : ReplicaState g.row.M.Denot g.row.M-Command.Denot). s.log.base) same in
    let kept = c.rest.ensures.rest ∙ ap (λ (s : ReplicaState g.row.M.Denot g.row.M-Command.Denot). s.log.rest) same in
    let seen = c.deref-2.ensures.value ∙ ap (λ (z : GroupState g.row.M.Denot g.row.M-Command.Denot g.row.M-Output.Denot). z.moment.world.archive) c.self.view_is in
    λ config moments came. agreed_read_on rules config c.args.self.now.moment moments c.agreed_len-held.result c.in-Some.at c.snapshot-base.result.0 c.deref-2.result.now c.rest.result.now came
    (λ xs is. c.agreed_len-held.ensures config moments xs came is) c.in-Some.ensures.some base c.if-held-base.false seen kept
