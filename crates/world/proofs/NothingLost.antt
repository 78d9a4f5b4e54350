-- NothingLost.antt: what was done with losses allowed was done exactly if the nodes counted none.
use Rattle.std.specs.Prelude.{min}
use Rattle.std.proofs.Common.{◌≡◌, ◌⊎◌, inl, inr, ◌≤◌, ◌<◌, ◌^◌, ◌-◌, ℕ, zero, suc, Bool, true, false, Option, Some, None, length, ap, arith}
use Rattle.ballot_base.specs.declared.message.Body.{Body}
use Rattle.ballot_base.specs.declared.message.Body.TheVariants.{NewBallot, Join, State, Install, Installed, Activate, Activated, Superseded, Append, Held, Commit}
use Rattle.ballot_base.specs.declared.config.Config.{Config}
use Rattle.ballot_base.specs.declared.message.Message.{Message}
use Rattle.broker_spec.specs.declared.command.Command.{Command}
use Rattle.broker_spec.specs.Place.{Client}
use Rattle.agreement.specs.cut_logs.World.{recorded}
use Rattle.headline.specs.node_moves.Moves.NodeCall.{takes}
use Rattle.world_base.specs.node_core.Core.{CountedCore}
use Rattle.world_base.specs.declared.node_core.item.Item.{Item}
use Rattle.world_base.specs.declared.node_core.item.Item.TheVariants.{Cut, Expel, Peer}
use Rattle.world_base.specs.declared.node_connections.port.Port.{Port}
use Rattle.world_nodes.specs.ExactSteps.{after_node_call}
use Rattle.world_nodes.specs.Nodes.{NodesState}
use Rattle.world_nodes.specs.Steps.{ActsWithLosses, CutsWithLosses, DeliveryOrLost, MasterAnswerOrLost, NodeCutOrLost, NodeExpelOrLost, NodeItemOrLost, NodesLoseNothing, nodes_with_loss}
use Rattle.world_nodes.proofs.Exactly.{exactly}
use Rattle.world.specs.Found.{slot_numbered, port_at_node}
use Rattle.world.specs.NodeOutput.{GatheredWhere, Gathers, GathersAmong, MayBeGathered, TakesItem, leads_open_to}
use Rattle.world_pipes.specs.clients.NodeOutput.{HandsOverBytes}
use Rattle.world.specs.EventSteps.{Assigns}
use Rattle.world.specs.World.{WorldState}

-- ---- counts do not fall below the greatest number

abbrev pub Rises : NodesState → NodesState → Type 0
Rises old new = min old.losses (2 ^ 64 - 1) ≤ new.losses

-- if nothing is lost from end to end, nothing is on the way
pub rises_split : (a b c : NodesState) → Rises a b → Rises b c → NodesLoseNothing a c → NodesLoseNothing a b × NodesLoseNothing b c
rises_split a b c x y none =
    let same = none.0 in let low = none.1 in (
      ((let e : b.losses ≡ a.losses = omega (arith, x, y, same, low) in e), low),
      ((let e : c.losses ≡ b.losses = omega (arith, x, y, same, low) in e), (let l : b.losses < 2 ^ 64 - 1 = omega (arith, x, y, same, low) in l)),
    )

-- nodes that count one more lost something
pub counts_more : (old new : NodesState) → new ≡ nodes_with_loss old → NodesLoseNothing old new → ⊥
counts_more old new is none = let more = ap (λ (n : NodesState). n.losses) is in let same = none.0 in let low = none.1 in omega (arith, more, same, low)

pub forgets_rises : (old new : NodesState) → new ≡ nodes_with_loss old → Rises old new
forgets_rises old new is = let more = ap (λ (n : NodesState). n.losses) is in omega (arith, more)

pub takes_rises : (node : ℕ) (item : Item) (old new : NodesState) → NodeItemOrLost node item old new → Rises old new
takes_rises node item old new t = by t.way
  where
    by : (new ≡ after_node_call (node - 1) t.core (takes item) old) ⊎ ActsWithLosses (node - 1) item t.core old new → Rises old new
    by (inl is) = let same = ap (λ (n : NodesState). n.losses) is in omega (arith, same)
    by (inr loses) = let more = ap (λ (n : NodesState). n.losses) loses.is in omega (arith, more)

pub cuts_rises : (node : ℕ) (old new : NodesState) → NodeCutOrLost node old new → Rises old new
cuts_rises node old new t = by t.way
  where
    by : (new ≡ record (after_node_call (node - 1) t.core (takes Cut) old) { archive = recorded old.archive t.core.core.replica.state })
        ⊎ CutsWithLosses (node - 1) t.core old new
        ⊎ (new ≡ nodes_with_loss old) → Rises old new
    by (inl is) = let same = ap (λ (n : NodesState). n.losses) is in omega (arith, same)
    by (inr (inl loses)) = let more = ap (λ (n : NodesState). n.losses) loses.is in omega (arith, more)
    by (inr (inr lost)) = forgets_rises old new lost

pub expels_rises : (client : Client) (node : ℕ) (old new : NodesState) → NodeExpelOrLost client node old new → Rises old new
expels_rises client node old new (inl took) = takes_rises node (Expel client) old new took
expels_rises client node old new (inr lost) = forgets_rises old new lost

gives_rises : (o : Option CountedCore) (node : ℕ) (port : Port) (old new : NodesState) → HandsOverBytes o node port old new → Rises old new
gives_rises None node port old new is = let same = ap (λ (n : NodesState). n.losses) is in omega (arith, same)
gives_rises (Some core) node port old new is = let same = ap (λ (n : NodesState). n.losses) is in omega (arith, same)

gathered_rises : (number : ℕ) (old new : WorldState) → MayBeGathered false number old new → Rises old.nodes new.nodes
gathered_rises number old new (inl a) =
    let low = gives_rises a.node a.connected.slot.node (port_at_node number) old.nodes a.between a.gives in
    let same = ap (λ (w : WorldState). w.nodes.losses) a.is in
    omega (arith, low, same)
gathered_rises number old new (inr is) = forgets_rises old.nodes new.nodes (ap (λ (w : WorldState). w.nodes) is)

where_rises : (is_open : Bool) (number : ℕ) (old new : WorldState) → GatheredWhere false is_open number old new → Rises old.nodes new.nodes
where_rises true number old new a = gathered_rises number old new a
where_rises false number old new is = let same = ap (λ (w : WorldState). w.nodes.losses) is in omega (arith, same)

among_rises : (count node : ℕ) (old new : WorldState) → GathersAmong false count node old new → Rises old.nodes new.nodes
among_rises zero node old new is = let same = ap (λ (w : WorldState). w.nodes.losses) is in omega (arith, same)
among_rises (suc before) node old new g =
    let one = where_rises (leads_open_to node (slot_numbered (suc before) old.connections)) (suc before) old g.0 g.1 in
    let more = among_rises before node g.0 new g.2 in
    omega (arith, one, more)

pub gathers_rises : (node : ℕ) (old new : WorldState) → Gathers false node old new → Rises old.nodes new.nodes
gathers_rises zero old new is = let same = ap (λ (w : WorldState). w.nodes.losses) is in omega (arith, same)
gathers_rises (suc at) old new g = among_rises (length old.connections) (suc at) old new g

-- ---- one connection, and all of a node

gathered_exactly : (is_open : Bool) (number : ℕ) (old new : WorldState) → GatheredWhere false is_open number old new → NodesLoseNothing old.nodes new.nodes
    → GatheredWhere true is_open number old new
gathered_exactly true number old new (inl a) none = a
gathered_exactly true number old new (inr is) none = absurd (counts_more old.nodes new.nodes (ap (λ (w : WorldState). w.nodes) is) none)
gathered_exactly false number old new is none = is

among_exactly : (count node : ℕ) (old new : WorldState) → GathersAmong false count node old new → NodesLoseNothing old.nodes new.nodes → GathersAmong true count node old new
among_exactly zero node old new is none = is
among_exactly (suc before) node old new g none =
    let is_open = leads_open_to node (slot_numbered (suc before) old.connections) in
    let s = rises_split old.nodes g.0.nodes new.nodes (where_rises is_open (suc before) old g.0 g.1) (among_rises before node g.0 new g.2) none in
    (g.0, gathered_exactly is_open (suc before) old g.0 g.1 s.0, among_exactly before node g.0 new g.2 s.1)

pub gathers_exactly : (node : ℕ) (old new : WorldState) → Gathers false node old new → NodesLoseNothing old.nodes new.nodes → Gathers true node old new
gathers_exactly zero old new is none = is
gathers_exactly (suc at) old new g none = among_exactly (length old.connections) (suc at) old new g none

-- ---- an item at a node

pub takes_exactly : (node : ℕ) (item : Item) (old new : WorldState) → TakesItem false node item old new → NodesLoseNothing old.nodes new.nodes → TakesItem true node item old new
takes_exactly node item old new t none =
    let mid : WorldState = record old { nodes = t.0 } in
    let s = rises_split old.nodes t.0 new.nodes (takes_rises node item old.nodes t.0 t.1) (gathers_rises node mid new t.2) none in
    (t.0, exactly node item old.nodes t.0 t.1 s.0, gathers_exactly node mid new t.2 s.1)

-- ---- the master

pub assigns_exactly : (config : Config) (old new : NodesState) → Assigns false config old new → NodesLoseNothing old new → Assigns true config old new
assigns_exactly config old new (inl is) none = is
assigns_exactly config old new (inr (inl lost)) none =
    absurd (let more = ap (λ (n : NodesState). n.losses) lost in let same = none.0 in let low = none.1 in omega (arith, more, same, low))
assigns_exactly config old new (inr (inr lost)) none = absurd (counts_more old new lost none)

-- ---- a message

heard_rises : (from : ℕ) (body : Body Command) (old new : NodesState) → MasterAnswerOrLost from body old new → Rises old new
heard_rises from (Activate ballot) old new (inl is) = let same = ap (λ (n : NodesState). n.losses) is in omega (arith, same)
heard_rises from (Activate ballot) old new (inr lost) = let more = ap (λ (n : NodesState). n.losses) lost in omega (arith, more)
heard_rises from (NewBallot b members a o) old new is = let same = ap (λ (n : NodesState). n.losses) is in omega (arith, same)
heard_rises from (Join b a) old new is = let same = ap (λ (n : NodesState). n.losses) is in omega (arith, same)
heard_rises from (State b log) old new is = let same = ap (λ (n : NodesState). n.losses) is in omega (arith, same)
heard_rises from (Install b log) old new is = let same = ap (λ (n : NodesState). n.losses) is in omega (arith, same)
heard_rises from (Installed b held) old new is = let same = ap (λ (n : NodesState). n.losses) is in omega (arith, same)
heard_rises from (Activated b) old new is = let same = ap (λ (n : NodesState). n.losses) is in omega (arith, same)
heard_rises from (Superseded b) old new is = let same = ap (λ (n : NodesState). n.losses) is in omega (arith, same)
heard_rises from (Append b place command) old new is = let same = ap (λ (n : NodesState). n.losses) is in omega (arith, same)
heard_rises from (Held b held) old new is = let same = ap (λ (n : NodesState). n.losses) is in omega (arith, same)
heard_rises from (Commit b held) old new is = let same = ap (λ (n : NodesState). n.losses) is in omega (arith, same)

pub comes_rises : (o : Option (ℕ × Message Command)) (old new : NodesState) → DeliveryOrLost o old new → Rises old new
comes_rises None old new comes = absurd comes
comes_rises (Some (zero, message)) old new comes = heard_rises message.from message.body old new comes
comes_rises (Some (suc at, message)) old new (inl t) = takes_rises (suc at) (Peer message) old new t
comes_rises (Some (suc at, message)) old new (inr lost) = forgets_rises old new lost
