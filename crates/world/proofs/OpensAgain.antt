-- The new primary in a world that was led out: it gave no name in its ballot, and knows nothing of the next port.
use Rattle.std.proofs.Common.{◌≡◌, inl, inr, ◌<◌, ◌&&◌, ◌||◌, ◌==◌, ℕ, zero, suc, Bool, true, false, not, if◌then◌else◌, List, [], ◌∷◌, None, Some, length, refl, sym, ap, ◌∙◌, arith}
use Rattle.std.specs.Prelude.{slice_get}
use Rattle.std.specs.List.{find, list_any}
use Rattle.std.proofs.lemmas.Bool.{eq-eqb, ne_eqb, or_parts}
use Rattle.std.proofs.lemmas.Option.{none-some, same_Some}
use Rattle.ballot_base.specs.declared.config.Config.{Config}
use Rattle.broker_spec.specs.Place.{Client}
use Rattle.world_nodes.specs.recoveries.Opened.{first_of}
use Rattle.headline.specs.node_moves.Ends.{IsGiven}
use Rattle.headline.specs.byte_world.AtNodes.{LeadsToPort}
use Rattle.headline.specs.byte_world.World.{ClientPipes, ByteWorld, is_used, leads_to}
use Rattle.headline.specs.byte_world.Steps.{Reached}
use Rattle.headline.proofs.of_node_group.Placed.{get_mapped}
use Rattle.headline.proofs.of_byte_world.NodesHoused.{nodes_are_orderly, ports_have_pipes}
use Rattle.lists.proofs.Tests.{eq_is}
use Rattle.lists.specs.Lists.{Each, In}
use Rattle.lists.specs.Lists.In.{here, there}
use Rattle.world_base.specs.declared.node_connections.connection.Connection.{Connection}
use Rattle.world_base.specs.declared.node_connections.port.Port.{Port}
use Rattle.world_base.specs.node_connections.Connections.{is_at, is_open_named, is_closed}
use Rattle.world_base.specs.node_core.Core.{CoreState, CountedCore}
use Rattle.world.specs.Found.{port_at_node}
use Rattle.world.specs.StandsFor.{WorldStandsFor}
use Rattle.world.specs.World.{WorldState}
use Rattle.world_pipes.specs.clients.SlotsAreValid.{SlotsAreValid, targets_of_clients}
use Rattle.world.proofs.Connects.{unused}

-- ---- tests that nothing passes

none_passes : {X : Type 0} (test : X → Bool) (xs : List X) → ((x : X) → In x xs → test x ≡ true → ⊥) → list_any test xs ≡ false
none_passes test [] none = refl
none_passes test (x ∷ xs) none = by (test x) refl (none_passes test xs (λ y i. none y (there i)))
  where
    by : (b : Bool) → test x ≡ b → list_any test xs ≡ false → list_any test (x ∷ xs) ≡ false
    by true e rest = absurd (none x here e)
    by false e rest = ap (λ (b : Bool). b || list_any test xs) e ∙ rest

at_none : {X : Type 0} (test : X → Bool) (xs : List X) (i : ℕ) (x : X) → list_any test xs ≡ false → slice_get xs i ≡ Some x → test x ≡ false
at_none test [] i x none e = absurd (none-some x e)
at_none test (y ∷ xs) zero x none e = sym (ap test (same_Some y x e)) ∙ (or_parts (test y) (list_any test xs) none).0
at_none test (y ∷ xs) (suc i) x none e = at_none test xs i x (or_parts (test y) (list_any test xs) none).1 e

-- ---- its ports and its names

module _ {nodes : ℕ} {config : Config} {cs : List Client} (m : ByteWorld) (trail : Reached nodes config cs m) (w : WorldState) (s : WorldStandsFor m w)
    (housed : SlotsAreValid (targets_of_clients w.clients) w.connections) (at : ℕ) (node : CountedCore) (stands : slice_get w.nodes.nodes at ≡ Some node) where
  in_model : slice_get m.group.nodes at ≡ Some node.core
  in_model = ap (λ (l : List CoreState). slice_get l at) s.nodes.nodes ∙ get_mapped (λ (c : CountedCore). c.core) w.nodes.nodes at node stands

  abbrev next : Port
  next = port_at_node (suc (length w.connections))

  none_used : is_used at next m.clients ≡ false
  none_used = unused at (length w.connections) next (let e : length w.connections < suc (length w.connections) = omega arith in e) w.clients m.clients s.clients housed.used

  pub new_port : list_any (is_at next) node.core.connections ≡ false
  new_port = none_passes (is_at next) node.core.connections (λ d i e. by d (ports_have_pipes nodes config cs m trail at node.core d in_model i) e)
    where
      by : (d : Connection) → LeadsToPort m at d.port → is_at next d ≡ true → ⊥
      by d l e = clash (at_none (leads_to at next) l.client.pipes l.nth l.pipe
          (at_none (λ (c : ClientPipes). list_any (leads_to at next) c.pipes) m.clients l.index l.client none_used l.has.client) l.has.pipe)
        where
          same : l.pipe.port.0 ≡ next.0
          same = l.at ∙ eq_is d.port.0 next.0 e

          clash : leads_to at next l.pipe ≡ false → ⊥
          clash f =
              let t : leads_to at next l.pipe ≡ true =
              ap (λ (b : Bool). b && (l.pipe.port.0 == next.0)) (eq-eqb l.pipe.node at l.node) ∙ eq-eqb l.pipe.port.0 next.0 same in
              let z = sym t ∙ f in cc

  -- no open connection has the first name of a ballot above all in which the node gave one
  pub new_name : (ballot : ℕ) → node.core.last_name.ballot < ballot → find (is_open_named (first_of ballot)) node.core.connections ≡ None
  new_name ballot low = none_found node.core.connections (nodes_are_orderly nodes config cs m trail at node.core in_model).given
    where
      other : (d : Connection) → IsGiven node.core.last_name d.name → is_open_named (first_of ballot) d ≡ false
      other d g =
          ap (λ (b : Bool). not (is_closed d.stage) && (b && (d.name.count == 1)))
          (ne_eqb d.name.ballot ballot (λ e. by g e)) ∙ never (not (is_closed d.stage))
        where
          never : (b : Bool) → (b && false) ≡ false
          never true = refl
          never false = refl

          by : IsGiven node.core.last_name d.name → d.name.ballot ≡ ballot → ⊥
          by (inl before) e = omega (arith, before, e, low)
          by (inr given) e = let f = given.0 in omega (arith, f, e, low)

      none_found : (ds : List Connection) → Each (λ (d : Connection). IsGiven node.core.last_name d.name) ds → find (is_open_named (first_of ballot)) ds ≡ None
      none_found [] all = refl
      none_found (d ∷ ds) all =
          ap (λ (b : Bool). if b then Some d else find (is_open_named (first_of ballot)) ds) (other d all.0) ∙ none_found ds all.1
