-- Connects.antt: a client opens a connection, which its node takes.
use Rattle.std.proofs.Common.{◌≡◌, ◌<◌, ◌≤◌, ◌-◌, ◌==◌, ℕ, zero, suc, Bool, true, false, ◌&&◌, List, [], ◌∷◌, Option, Some, None, Ok, length, reverse, slice_get, refl, sym, ap, ◌∙◌, subst, arith}
use Rattle.std.specs.List.{list_any}
use Rattle.std.specs.Option.{is_some}
use Rattle.std.proofs.lemmas.Bool.{both_ways, ne_eqb}
use Rattle.std.proofs.lemmas.List.{reverse-reverse}
use Rattle.std.proofs.lemmas.Option.{none-some}
use Rattle.lists.proofs.Tests.{none_or}
use Rattle.world_base.specs.declared.node_core.item.Item.TheVariants.{Opened}
use Rattle.world_base.specs.declared.node_connections.port.Port.{Port}
use Rattle.world_base.specs.node_core.Core.{CoreState, CountedCore}
use Rattle.world_base.specs.node_core.PortOutput.{listed_at}
use Rattle.headline.specs.node_moves.Moves.NodeCall.{takes}
use Rattle.headline.proofs.of_node_group.Placed.{get_mapped}
use Rattle.headline.specs.byte_world.World.{ClientPipes, Pipe, ByteWorld, is_used, leads_to, with_client}
use Rattle.headline.specs.byte_world.ClientSteps.{after_connecting}
use Rattle.headline.specs.byte_world.Steps.ByteWorldStep.{connects}
use Rattle.world_nodes.specs.ExactSteps.{NodeDoesCall}
use Rattle.world_nodes.specs.RunningNodes.{numbered_node}
use Rattle.world_nodes.specs.Nodes.{NodesState, NodesStandFor}
use Rattle.world_pipes.specs.declared.pair.PipePair.{PipePair}
use Rattle.world_pipes.specs.ModelSteps.{ConnectingFollows}
use Rattle.world_pipes.specs.StandsFor.{ArePipePairs}
use Rattle.world_pipes.specs.declared.clients.world_client.WorldClient.{WorldClient}
use Rattle.world_pipes.specs.clients.SlotsAreValid.{SlotsAreValid, connection_targets, targets_of_clients}
use Rattle.world.specs.Inside.Connections.{ConnectsAt}
use Rattle.world_pipes.specs.clients.Opening.{IsKnown}
use Rattle.world_pipes.specs.clients.Clients.{ClientsStand}
use Rattle.world.specs.StandsFor.{ModelStepsTo, FollowsModel}
use Rattle.world.specs.StandsFor.WorldSteps.{rests, goes_on}
use Rattle.world.specs.World.{WorldState}
use Rattle.world.proofs.ClientsStand.{client_at, stand_set}
use Rattle.world_pipes.proofs.of_clients.Turned.{turned_at}

-- ---- the node has it

pub is_there : {X : Type 0} (o : Option X) → is_some o ≡ true → (x : X) × (o ≡ Some x)
is_there None e = absurd (both_ways false refl e)
is_there (Some x) e = (x, refl)

-- ---- its port was never used

module _ (n bound : ℕ) (port : Port) (beyond : bound < port.0) where
  none_there : (pairs : List PipePair) (pipes : List Pipe) → ArePipePairs pairs pipes → ((j : ℕ) (pair : PipePair) → slice_get pairs j ≡ Some pair → pair.port.0 ≤ bound)
      → list_any (leads_to n port) pipes ≡ false
  none_there [] [] are low = refl
  none_there [] (p ∷ pipes) are low = absurd are
  none_there (pair ∷ pairs) [] are low = absurd are
  none_there (pair ∷ pairs) (p ∷ pipes) are low =
      none_or (leads_to n port p) (list_any (leads_to n port) pipes)
      (ap (λ (a : Bool). (p.node == n) && a) (ne_eqb p.port.0 port.0 (λ same.
      let l : pair.port.0 ≤ bound = low 0 pair refl in let e : p.port.0 ≡ pair.port.0 = ap (λ (q : Port). q.0) are.0.port in omega (arith, l, e, same, beyond)))
      ∙ none (p.node == n))
      (none_there pairs pipes are.1 (λ j. low (suc j)))
    where
      none : (a : Bool) → (a && false) ≡ false
      none true = refl
      none false = refl

  pub unused : (clients : List WorldClient) (cs : List ClientPipes) → ClientsStand clients cs
      → ((i at node : ℕ) (q : Port) (pairs : List (ℕ × Port)) → slice_get (targets_of_clients clients) i ≡ Some pairs → slice_get pairs at ≡ Some (node, q) → q.0 ≤ bound)
      → is_used n port cs ≡ false
  unused [] [] all low = refl
  unused [] (c ∷ cs) all low = absurd all
  unused (d ∷ clients) [] all low = absurd all
  unused (d ∷ clients) (c ∷ cs) all low =
      none_or (list_any (leads_to n port) c.pipes) (is_used n port cs)
      (none_there (reverse d.piped.pairs) c.pipes all.0.pairs (λ j pair e. in_turn j pair e))
      (unused clients cs all.1 (λ i. low (suc i)))
    where
      in_turn : (j : ℕ) (pair : PipePair) → slice_get (reverse d.piped.pairs) j ≡ Some pair → pair.port.0 ≤ bound
      in_turn j pair e =
          let t = turned_at (reverse d.piped.pairs) j pair e in
          let found : slice_get d.piped.pairs t.place ≡ Some pair = ap (λ (l : List PipePair). slice_get l t.place) (sym (reverse-reverse d.piped.pairs)) ∙ t.found in
          low 0 t.place pair.node pair.port (connection_targets d.piped.pairs) refl (get_mapped (λ (w : PipePair). (w.node, w.port)) d.piped.pairs t.place pair found)

-- ---- the step

pub connects_goes : (i node : ℕ) (old new : WorldState) → SlotsAreValid (targets_of_clients old.clients) old.connections → ConnectsAt i node old new → FollowsModel old new
connects_goes i node old new housed one nodes config cs m trail s = by node refl
  where
    number : ℕ
    number = suc (length old.connections)

    port : Port
    port = record { 0 = number }

    has : IsKnown true node port one.between
    has = one.reaches.hears.known

    by : (k : ℕ) → node ≡ k → ModelStepsTo [] m new
    by zero is = absurd (none-some has.core (sym (ap (numbered_node one.between.nodes) is) ∙ has.stands))
    by (suc n) is =
        let low : node - 1 ≡ n = omega (arith, is) in
        let c = client_at old.clients m.clients i one.client s.clients one.found in
        let acts = subst (λ (k : ℕ). NodeDoesCall k (takes (Opened port 0)) old.nodes one.between) low one.reaches.hears.acts in
        let d = acts m.group s.nodes in
        let found : slice_get one.between.nodes n ≡ Some has.core = sym (ap (numbered_node one.between.nodes) is) ∙ has.stands in
        let stands = ap (λ (l : List CoreState). slice_get l n) d.stands.nodes ∙ get_mapped (λ (z : CountedCore). z.core) one.between.nodes n has.core found in
        let end = is_there (listed_at port has.core.core) has.known in
        let follows = subst (λ (k : ℕ). ConnectingFollows k port one.client.piped (Ok tt) one.piped) low one.reaches.follows c.c end.0.name c.stands in
        let step = connects i n c.c port 0 d.does has.core.core end.0 c.at
        (unused n (length old.connections) port (let e : length old.connections < suc (length old.connections) = omega arith in e) old.clients m.clients s.clients housed.used) stands end.1 follows.1 in
        let after : ByteWorld = with_client i (after_connecting end.0.name n port c.c) (record m { group = d.does.after }) in
        record {
          after = after;
          steps = goes_on rests step;
          asked_is = refl;
          stands = record {
            nodes = subst (λ (z : NodesState). NodesStandFor d.does.after z) (sym (ap (λ (w : WorldState). w.nodes) one.is)) d.stands;
            clients = subst (λ (l : List WorldClient). ClientsStand l after.clients) (sym (ap (λ (w : WorldState). w.clients) one.is))
                (stand_set old.clients m.clients i (record one.client { piped = one.piped }) (after_connecting end.0.name n port c.c) s.clients follows.0);
          };
        }
