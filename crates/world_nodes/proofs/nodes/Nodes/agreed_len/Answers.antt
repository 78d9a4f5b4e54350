use Rattle.std.proofs.Common.{◌^◌, ◌-◌, ap, sym, ◌∙◌, get_or, length, subst}
use Rattle.master.specs.Inside.{least_but_one}
use Rattle.master.proofs.Groups.{sole_is}
use Rattle.world_nodes.specs.Agreed.{AgreeOnSoMany}
use Rattle.world_nodes.specs.Nodes.{NodesState}
use Rattle.world_nodes.proofs.AgreedCounted.{members_low, several_agree, sole_agrees}
use Rattle.world_nodes.proofs.nodes.Nodes.agreed_len.Goals as goal

pub agreed_by-requires : goal.agreed_by-requires
agreed_by-requires c = λ m i. members_low _ _ _ c.self.invariant m (rw c.active.ensures.members at i)

pub returns-then-members-eq1 : goal.returns-then-members-eq1
returns-then-members-eq1 c =
    let sole = sym (ap (λ (z : NodesState). z.master.members) c.self.view_is) ∙ sym c.active.ensures.members ∙ sole_is c.active.result.1.now c.if-members-eq1.true in
    subst (AgreeOnSoMany c.args.self.now) (sym c.held.ensures) (sole_agrees c.args.self.now (get_or c.active.result.1.now 0 0) sole)

pub returns : goal.returns
returns c =
    rw (← c.self.view_is) (subst (AgreeOnSoMany _)
    (sym (c.agreed_by.ensures.least ∙ ap (least_but_one c.self.inside.counters.told.held (2 ^ 64 - 1) (2 ^ 64 - 1)) c.active.ensures.members))
    (several_agree _ c.self.inside.counters.told c.self.inside.counters.next c.self.invariant c.agreed_by.ensures.range
    (λ e. c.if-members-eq1.false (ap length c.active.ensures.members ∙ e))))
