use Rattle.std.proofs.Common.{◌≡◌, inl, inr, ◌<◌, ◌-◌, ℕ, List, [], ◌∷◌, ◌++◌, Bool, true, false, suc, length, refl, sym, ap, ◌∙◌, subst, arith}
use Rattle.master.proofs.Counting.{get_there}
use Rattle.world.specs.Found.{port_at_node}
use Rattle.world_pipes.specs.clients.SlotsAreValid.{open_from}
use Rattle.world_pipes.specs.clients.Opening.{HearsOfOne, Reaches}
use Rattle.world_pipes.specs.declared.clients.connection_slot.ConnectionSlot.{ConnectionSlot}
use Rattle.world.specs.World.{WorldState}
use Rattle.world.proofs.ClientGoes.{housed_still}
use Rattle.world.proofs.HousedOpened.{housed_opened}
use Rattle.world.proofs.Joined.{goes_on_still}
use Rattle.world.proofs.OpenEnds.{one_opened}
use Rattle.world.proofs.OpensOn.{connects_at, connects_on, of_found, opens_none, refused_on}
use Rattle.world.proofs.world.World.open_slot.Goals as goal

pub returns-then-is_err-clause-goes : goal.returns-then-is_err-clause-goes
returns-then-is_err-clause-goes c = rw (← c.self.view_is) (goes_on_still (let old : WorldState = record {
  nodes = c.self.inside.nodes;
  clients = c.self.inside.clients.items;
  connections = c.self.inside.connections.items;
  losses = c.self.inside.losses;
} in old) (let new : WorldState = record {
  nodes = c.self.inside.nodes;
  clients = c.self.inside.clients.items;
  connections = c.reserve.new.self.items;
  losses = c.self.inside.losses;
} in new) refl refl (omega arith))

pub invariant_of-self : goal.invariant_of-self
invariant_of-self c =
    (rw c.reserve.ensures.items c.self.invariant.0, rw c.reserve.ensures.items c.self.invariant.1)

pub returns-then-is_err-2-clause-goes : goal.returns-then-is_err-2-clause-goes
returns-then-is_err-2-clause-goes c = rw (← c.self.view_is) (goes_on_still (let old : WorldState = record {
  nodes = c.self.inside.nodes;
  clients = c.self.inside.clients.items;
  connections = c.self.inside.connections.items;
  losses = c.self.inside.losses;
} in old) (let new : WorldState = record {
  nodes = c.self.inside.nodes;
  clients = c.self.inside.clients.items;
  connections = c.reserve.new.self.items;
  losses = c.self.inside.losses;
} in new) refl refl (omega arith))

pub invariant_of-self-then-is_err-2 : goal.invariant_of-self-then-is_err-2
invariant_of-self-then-is_err-2 c =
    (rw c.reserve.ensures.items c.self.invariant.0, rw (c.reserve-2.ensures.items, c.reserve.ensures.items) c.self.invariant.1)

pub open_pipe-requires-clause-free : goal.open_pipe-requires-clause-free
open_pipe-requires-clause-free c =
    let few : c.args.client < length c.self.inside.clients.items = rw (← c.self.view_is) at c.requires.some in
    let found = get_there c.self.inside.clients.items c.args.client c.index_mut.result.now few c.index_mut.ensures.value in
    of_found c.self.inside.clients.items c.args.client c.index_mut.result.now found (rw (← c.self.view_is) at c.requires.free)

pub invariant_of-self-then-not-open_pipe : goal.invariant_of-self-then-not-open_pipe
invariant_of-self-then-not-open_pipe c =
    let few : c.args.client < length c.self.inside.clients.items = rw (← c.self.view_is) at c.requires.some in
    let found = get_there c.self.inside.clients.items c.args.client c.index_mut.result.now few c.index_mut.ensures.value in (
      rw c.reserve.ensures.items
          (housed_still c.self.inside.clients.items c.self.inside.connections.items c.args.client c.index_mut.result.now c.open_pipe.new.piped found
          (c.open_pipe.ensures.leads c.if-not-open_pipe.true) c.self.invariant.0),
      rw (c.reserve-2.ensures.items, c.reserve.ensures.items) c.self.invariant.1,
    )

pub returns-then-not-open_pipe-clause-goes : goal.returns-then-not-open_pipe-clause-goes
returns-then-not-open_pipe-clause-goes c =
    let few : c.args.client < length c.self.inside.clients.items = rw (← c.self.view_is) at c.requires.some in
    let found = get_there c.self.inside.clients.items c.args.client c.index_mut.result.now few c.index_mut.ensures.value in
    let counted : c.saturating_add-number.result ≡ suc (length c.self.inside.connections.items) = omega arith in
    let none = subst (λ (b : Bool). Reaches b c.args.node (port_at_node c.saturating_add-number.result) c.self.inside.nodes c.index_mut.result.now.piped c.open_pipe.new.nodes c.open_pipe.new.piped)
    c.if-not-open_pipe.true c.open_pipe.ensures.reaches in
    rw (← c.self.view_is, c.reserve.ensures.items)
    (refused_on (let old : WorldState = record {
      nodes = c.self.inside.nodes;
      clients = c.self.inside.clients.items;
      connections = c.self.inside.connections.items;
      losses = c.self.inside.losses;
    } in old) c.args.client c.args.node c.index_mut.result.now c.open_pipe.new.nodes c.open_pipe.new.piped c.self.invariant.0 found c.open_pipe.ensures.nodes none.0
    (subst (λ (k : ℕ). HearsOfOne false c.args.node (port_at_node k) c.self.inside.nodes c.open_pipe.new.nodes) counted none.1))

pub invariant_of-self-2 : goal.invariant_of-self-2
invariant_of-self-2 c =
    let few : c.args.client < length c.self.inside.clients.items = rw (← c.self.view_is) at c.requires.some in
    let found = get_there c.self.inside.clients.items c.args.client c.index_mut.result.now few c.index_mut.ensures.value in
    let counted : c.saturating_add-number.result ≡ suc (length c.self.inside.connections.items) = omega arith in
    let one = subst (λ (b : Bool). Reaches b c.args.node (port_at_node c.saturating_add-number.result) c.self.inside.nodes c.index_mut.result.now.piped c.open_pipe.new.nodes c.open_pipe.new.piped)
    c.if-not-open_pipe.false c.open_pipe.ensures.reaches in
    let place : ConnectionSlot = record { client = c.args.client; at = c.len-at.result; node = c.args.node; is_open = true } in (
      rw (c.push_reserved.ensures.items, c.reserve.ensures.items)
          (housed_opened c.self.inside.clients.items c.self.inside.connections.items c.args.client c.index_mut.result.now c.open_pipe.new.piped (c.args.node - 1) c.saturating_add-number.result place
          one.opens.0 found one.opens.2 counted refl c.len-at.ensures
          (let high = c.requires.node in let e : suc (c.args.node - 1) ≡ c.args.node = omega (arith, high) in e) c.self.invariant.0),
      c.push_reserved-2.ensures.items ∙ ap (λ (l : List ℕ). l ++ c.saturating_add-number.result ∷ []) (c.reserve-2.ensures.items ∙ c.self.invariant.1)
          ∙ one_opened c.self.inside.connections.items c.saturating_add-number.result place counted refl
          ∙ ap (λ (l : List ConnectionSlot). open_from 1 (l ++ place ∷ [])) (sym c.reserve.ensures.items)
          ∙ ap (open_from 1) (sym c.push_reserved.ensures.items),
    )

pub returns-clause-connects : goal.returns-clause-connects
returns-clause-connects c =
    let few : c.args.client < length c.self.inside.clients.items = rw (← c.self.view_is) at c.requires.some in
    let found = get_there c.self.inside.clients.items c.args.client c.index_mut.result.now few c.index_mut.ensures.value in
    let counted : c.saturating_add-number.result ≡ suc (length c.self.inside.connections.items) = omega arith in
    let one = subst (λ (b : Bool). Reaches b c.args.node (port_at_node c.saturating_add-number.result) c.self.inside.nodes c.index_mut.result.now.piped c.open_pipe.new.nodes c.open_pipe.new.piped)
    c.if-not-open_pipe.false c.open_pipe.ensures.reaches in
    let old : WorldState = record {
      nodes = c.self.inside.nodes;
      clients = c.self.inside.clients.items;
      connections = c.self.inside.connections.items;
      losses = c.self.inside.losses;
    } in
    let place : ConnectionSlot = record { client = c.args.client; at = c.len-at.result; node = c.args.node; is_open = true } in
    let at = connects_at c.args.client c.args.node c.saturating_add-number.result c.len-at.result old c.index_mut.result.now c.open_pipe.new.nodes c.open_pipe.new.piped c.push_reserved.new.self.items
    found counted c.len-at.ensures (c.push_reserved.ensures.items ∙ ap (λ (l : List ConnectionSlot). l ++ place ∷ []) c.reserve.ensures.items) one in
    rw (← c.self.view_is) (λ yes. at)

pub returns-clause-goes : goal.returns-clause-goes
returns-clause-goes c =
    let few : c.args.client < length c.self.inside.clients.items = rw (← c.self.view_is) at c.requires.some in
    let found = get_there c.self.inside.clients.items c.args.client c.index_mut.result.now few c.index_mut.ensures.value in
    let counted : c.saturating_add-number.result ≡ suc (length c.self.inside.connections.items) = omega arith in
    let one = subst (λ (b : Bool). Reaches b c.args.node (port_at_node c.saturating_add-number.result) c.self.inside.nodes c.index_mut.result.now.piped c.open_pipe.new.nodes c.open_pipe.new.piped)
    c.if-not-open_pipe.false c.open_pipe.ensures.reaches in
    let old : WorldState = record {
      nodes = c.self.inside.nodes;
      clients = c.self.inside.clients.items;
      connections = c.self.inside.connections.items;
      losses = c.self.inside.losses;
    } in
    let place : ConnectionSlot = record { client = c.args.client; at = c.len-at.result; node = c.args.node; is_open = true } in
    let at = connects_at c.args.client c.args.node c.saturating_add-number.result c.len-at.result old c.index_mut.result.now c.open_pipe.new.nodes c.open_pipe.new.piped c.push_reserved.new.self.items
    found counted c.len-at.ensures (c.push_reserved.ensures.items ∙ ap (λ (l : List ConnectionSlot). l ++ place ∷ []) c.reserve.ensures.items) one in
    rw (← c.self.view_is) (connects_on c.args.client c.args.node old _ c.self.invariant.0 refl c.open_pipe.ensures.nodes at)

pub returns-then-is_err-clause-none : goal.returns-then-is_err-clause-none
returns-then-is_err-clause-none c = rw (← c.self.view_is, c.reserve.ensures.items) (λ no. inl refl)

pub returns-then-is_err-2-clause-none : goal.returns-then-is_err-2-clause-none
returns-then-is_err-2-clause-none c = rw (← c.self.view_is, c.reserve.ensures.items) (λ no. inl refl)

pub returns-then-not-open_pipe-clause-none : goal.returns-then-not-open_pipe-clause-none
returns-then-not-open_pipe-clause-none c =
    let few : c.args.client < length c.self.inside.clients.items = rw (← c.self.view_is) at c.requires.some in
    let found = get_there c.self.inside.clients.items c.args.client c.index_mut.result.now few c.index_mut.ensures.value in
    let counted : c.saturating_add-number.result ≡ suc (length c.self.inside.connections.items) = omega arith in
    let none = subst (λ (b : Bool). Reaches b c.args.node (port_at_node c.saturating_add-number.result) c.self.inside.nodes c.index_mut.result.now.piped c.open_pipe.new.nodes c.open_pipe.new.piped)
    c.if-not-open_pipe.true c.open_pipe.ensures.reaches in
    rw (← c.self.view_is, c.reserve.ensures.items)
    (λ no. inr (opens_none c.args.node (let old : WorldState = record {
      nodes = c.self.inside.nodes;
      clients = c.self.inside.clients.items;
      connections = c.self.inside.connections.items;
      losses = c.self.inside.losses;
    } in old) c.args.client c.saturating_add-number.result c.index_mut.result.now c.open_pipe.new.nodes c.open_pipe.new.piped found counted none.2))
