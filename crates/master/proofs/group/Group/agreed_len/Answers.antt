use Rattle.std.proofs.Common.{◌≡◌, ◌^◌, ◌-◌, ◌≤◌, ℕ, ap, sym, ◌∙◌, get_or, length, arith}
use Rattle.master.specs.Group.{GroupState}
use Rattle.master.specs.Inside.{least_but_one}
use Rattle.master.proofs.Viewed.{counted_as_seen, sole_as_seen}
use Rattle.master.proofs.Groups.{sole_is}
use Rattle.master.proofs.Lawful.{rising_above}
use Rattle.master.proofs.Viewed.{group_lawful}
use Rattle.master.proofs.group.Group.agreed_len.Goals as goal

pub least_but_one-requires : goal.least_but_one-requires
least_but_one-requires g c =
    let rules = g.M.Machine.rules in
    let lawful = group_lawful rules c.self.invariant.1.config _ c.self.invariant.1.moments c.self.invariant.1.came in
    let bounded : c.self.inside.master.greatest ≡ 15 = c.self.invariant.1.bounded in
    λ m i. (let high = (rising_above c.self.inside.master.greatest 0 c.self.inside.master.members m lawful.active (rw c.active.ensures.members at i)).1 in omega (arith, bounded, high))

pub returns-then-members-eq1 : goal.returns-then-members-eq1
returns-then-members-eq1 g c =
    let rules = g.M.Machine.rules in
    let members = sym (ap (λ (z : GroupState _ _ _). z.moment.master.members) c.self.view_is) ∙ sym c.active.ensures.members ∙ sole_is c.active.result.1.now c.if-members-eq1.true in
    λ config moments agreed came is. c.held.ensures ∙ sole_as_seen rules config c.args.self.now.moment moments agreed came is (get_or c.active.result.1.now 0 0) members

pub returns : goal.returns
returns g c =
    let rules = g.M.Machine.rules in
    let bound : (m : ℕ) → get_or c.self.inside.told.held m 0 ≤ 2 ^ 64 - 1 = λ m. (let z = c.least_but_one.ensures.range m in omega (arith, z)) in
    let several = λ (e : length c.self.inside.master.members ≡ 1). c.if-members-eq1.false (ap length c.active.ensures.members ∙ e) in
    rw (← c.self.view_is) (λ config moments agreed came is. c.least_but_one.ensures.least ∙ ap (least_but_one c.self.inside.told.held (2 ^ 64 - 1) (2 ^ 64 - 1)) c.active.ensures.members
    ∙ counted_as_seen rules config _ moments agreed c.self.inside.told (2 ^ 64 - 1) came is c.self.invariant.1.bounded c.self.invariant.1.active c.self.invariant.1.counted bound several)
