use Rattle.std.proofs.Common.{◌<◌, ◌-◌, ℕ, List, length, sym, ap, ◌∙◌, arith}
use Rattle.std.proofs.lemmas.Option.{same_Some, slice_get_within}
use Rattle.master.proofs.Counting.{get_there}
use Rattle.world_pipes.specs.clients.SlotsAreValid.{open_from}
use Rattle.world_pipes.specs.declared.clients.connection_slot.ConnectionSlot.{ConnectionSlot}
use Rattle.world.proofs.OpenEnds.{opened, stands_open}
use Rattle.world.proofs.world.World.open_at.Goals as goal

pub index-number-requires : goal.index-number-requires
index-number-requires c =
    let few : c.args.at < length (open_from 1 c.self.inside.connections.items) = rw (← c.self.view_is) at c.requires in
    let same = ap (λ (l : List ℕ). length l) c.self.invariant.1 in
    omega (arith, few, same)

pub overflow_sub-number : goal.overflow_sub-number
overflow_sub-number c =
    let few : c.args.at < length (open_from 1 c.self.inside.connections.items) = rw (← c.self.view_is) at c.requires in
    let number = opened c.self.inside.open_ends.items c.self.inside.connections.items c.args.at c.index-number.result.now c.self.invariant.1 few c.index-number.ensures in
    let positive = (stands_open c.self.inside.connections.items c.args.at c.index-number.result.now number).positive in
    omega (arith, positive)

pub index-requires : goal.index-requires
index-requires c =
    let few : c.args.at < length (open_from 1 c.self.inside.connections.items) = rw (← c.self.view_is) at c.requires in
    let number = opened c.self.inside.open_ends.items c.self.inside.connections.items c.args.at c.index-number.result.now c.self.invariant.1 few c.index-number.ensures in
    let s = stands_open c.self.inside.connections.items c.args.at c.index-number.result.now number in
    let within = slice_get_within c.self.inside.connections.items (c.index-number.result.now - 1) s.place s.found in
    omega (arith, within)

pub returns-clause-number : goal.returns-clause-number
returns-clause-number c =
    let few : c.args.at < length (open_from 1 c.self.inside.connections.items) = rw (← c.self.view_is) at c.requires in
    rw (← c.self.view_is) (opened c.self.inside.open_ends.items c.self.inside.connections.items c.args.at c.index-number.result.now c.self.invariant.1 few c.index-number.ensures)

pub returns-clause-positive : goal.returns-clause-positive
returns-clause-positive c =
    let few : c.args.at < length (open_from 1 c.self.inside.connections.items) = rw (← c.self.view_is) at c.requires in
    let number = opened c.self.inside.open_ends.items c.self.inside.connections.items c.args.at c.index-number.result.now c.self.invariant.1 few c.index-number.ensures in
    (stands_open c.self.inside.connections.items c.args.at c.index-number.result.now number).positive

pub returns-clause-slot : goal.returns-clause-slot
returns-clause-slot c =
    let few : c.args.at < length (open_from 1 c.self.inside.connections.items) = rw (← c.self.view_is) at c.requires in
    let number = opened c.self.inside.open_ends.items c.self.inside.connections.items c.args.at c.index-number.result.now c.self.invariant.1 few c.index-number.ensures in
    let s = stands_open c.self.inside.connections.items c.args.at c.index-number.result.now number in
    let within = slice_get_within c.self.inside.connections.items (c.index-number.result.now - 1) s.place s.found in
    rw (← c.self.view_is) (get_there c.self.inside.connections.items (c.index-number.result.now - 1) c.index.result.now within c.index.ensures)

pub returns-clause-up : goal.returns-clause-up
returns-clause-up c =
    let few : c.args.at < length (open_from 1 c.self.inside.connections.items) = rw (← c.self.view_is) at c.requires in
    let number = opened c.self.inside.open_ends.items c.self.inside.connections.items c.args.at c.index-number.result.now c.self.invariant.1 few c.index-number.ensures in
    let s = stands_open c.self.inside.connections.items c.args.at c.index-number.result.now number in
    let within = slice_get_within c.self.inside.connections.items (c.index-number.result.now - 1) s.place s.found in
    let found = get_there c.self.inside.connections.items (c.index-number.result.now - 1) c.index.result.now within c.index.ensures in
    ap (λ (p : ConnectionSlot). p.is_open) (same_Some c.index.result.now s.place (sym found ∙ s.found)) ∙ s.up
