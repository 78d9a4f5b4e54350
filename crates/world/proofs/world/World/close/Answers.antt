use Rattle.std.proofs.Common.{◌-◌, ℕ, false, List, ap, ◌∙◌, length, arith}
use Rattle.std.specs.List.{remove}
use Rattle.std.proofs.lemmas.Option.{slice_get_within}
use Rattle.world_pipes.specs.clients.SlotsAreValid.{open_from}
use Rattle.world.proofs.HousedOn.{housed_mark}
use Rattle.world.proofs.OpenEnds.{closes, stands_open}
use Rattle.world.proofs.world.World.close.Goals as goal

pub overflow_sub-number : goal.overflow_sub-number
overflow_sub-number c =
    let s = stands_open c.self.inside.connections.items c.args.at c.args.number (rw (← c.self.view_is) at c.requires.number) in
    let positive = s.positive in
    omega (arith, positive)

pub index_mut-requires : goal.index_mut-requires
index_mut-requires c =
    let few = slice_get_within c.self.inside.connections.items (c.args.number - 1) c.args.slot (rw (← c.self.view_is) at c.requires.slot) in
    omega (arith, few)

pub remove-requires : goal.remove-requires
remove-requires c =
    let few = slice_get_within (open_from 1 c.self.inside.connections.items) c.args.at c.args.number (rw (← c.self.view_is) at c.requires.number) in
    let same = ap (λ (l : List ℕ). length l) c.self.invariant.1 in
    omega (arith, few, same)

pub invariant_of-self : goal.invariant_of-self
invariant_of-self c =
    let number = rw (← c.self.view_is) at c.requires.number in
    let stands = rw (← c.self.view_is) at c.requires.slot in (
      housed_mark _ c.self.inside.connections.items (c.args.number - 1) c.args.slot false stands c.self.invariant.0,
      c.remove.ensures.items ∙ ap (λ (l : List ℕ). remove l c.args.at) c.self.invariant.1
          ∙ closes c.self.inside.connections.items c.args.at c.args.number c.args.slot number stands,
    )
