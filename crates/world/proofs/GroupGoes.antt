-- GroupGoes.antt: what nodes and their master do by themselves is a step of the world, even if
-- memory runs out.
use Rattle.std.proofs.Common.{◌≡◌, ◌⊎◌, inl, inr, ◌≤◌, ◌-◌, ℕ, zero, suc, true, Option, Some, None, Result, Ok, Err, OnOk, OnErr, refl, arith}
use Rattle.std.specs.Prelude.{slice_get}
use Rattle.ballot_base.specs.declared.message.Body.{Body}
use Rattle.ballot_base.specs.declared.message.Body.TheVariants.{NewBallot, Join, State, Install, Installed, Activate, Activated, Superseded, Append, Held, Commit}
use Rattle.ballot_base.specs.declared.message.Message.{Message}
use Rattle.broker_spec.specs.declared.command.Command.{Command}
use Rattle.broker_spec.specs.Place.{Client}
use Rattle.master.specs.declared.event.Idle.{Idle}
use Rattle.world_base.specs.declared.node_core.item.Item.TheVariants.{Cut, Expel, Peer}
use Rattle.headline.specs.node_moves.Moves.{NodeCall}
use Rattle.headline.specs.node_moves.Moves.NodeCall.{takes}
use Rattle.headline.specs.node_group.Group.{Group}
use Rattle.headline.specs.byte_world.World.{ByteWorld}
use Rattle.headline.specs.byte_world.Steps.{is_apart}
use Rattle.headline.specs.byte_world.Steps.ByteWorldStep.{group_goes}
use Rattle.world_nodes.specs.Nodes.{NodesState, NodesStandFor}
use Rattle.world_nodes.specs.ExactSteps.{NodeDoesCall, GoesBy}
use Rattle.world_nodes.specs.Steps.{nodes_with_loss}
use Rattle.world_nodes.specs.GroupSteps.{GroupDeliveryOrLost, MasterHears, MasterStepOrLost, NodeCallOrLost}
use Rattle.world_pipes.specs.clients.NodesGoOn.{NodesGo, NodesStay}
use Rattle.world.specs.Inside.Steps.{IsTrace}
use Rattle.world.specs.StandsFor.{FollowsModel}
use Rattle.world.specs.StandsFor.WorldSteps.{rests, goes_on}
use Rattle.world.specs.World.{WorldState}
use Rattle.world_pipes.proofs.of_clients.NodesGoOn.{nodes_forget, nodes_stay, staying_goes}
use Rattle.world_pipes.proofs.of_clients.NodesGoOn.{acts_go}

abbrev pub with_nodes : NodesState → WorldState → WorldState
with_nodes nodes w = record w { nodes = nodes }

-- ---- what is done without connections

-- a call in which connections have no part, or nothing
pub data GoesApart (old new : NodesState) : Type 0 where
  stays : NodesStay old new → GoesApart old new
  acts : (node_call : Option (ℕ × NodeCall)) → is_apart node_call ≡ true → ((g : Group) → NodesStandFor g old → GoesBy node_call g new) → GoesApart old new

nodes_go : (old new : NodesState) → GoesApart old new → NodesGo old new
nodes_go old new (stays stay) = staying_goes old new stay
nodes_go old new (acts node_call apart by) = acts_go node_call old new by

pub world_stands : (old : WorldState) (new : NodesState) → NodesStay old.nodes new → FollowsModel old (with_nodes new old)
world_stands old new stay nodes config cs m trail s = record { after = m; steps = rests; asked_is = refl; stands = record { nodes = stay m.group s.nodes; clients = s.clients } }

world_goes : (old : WorldState) (new : NodesState) → GoesApart old.nodes new → FollowsModel old (with_nodes new old)
world_goes old new (stays stay) nodes config cs m trail s = world_stands old new stay nodes config cs m trail s
world_goes old new (acts node_call apart by) nodes config cs m trail s =
    let d = by m.group s.nodes in
    record {
      after = (let w : ByteWorld = record m { group = d.does.after } in w);
      steps = goes_on rests (group_goes node_call d.does apart);
      asked_is = refl;
      stands = record { nodes = d.stands; clients = s.clients };
    }

pub goes_apart : (old : WorldState) (new : NodesState) → old.nodes.losses ≤ new.losses → GoesApart old.nodes new → IsTrace old (with_nodes new old)
goes_apart old new rises apart =
    record { rises = omega arith; nodes = record { rises = rises; goes = nodes_go old.nodes new apart }; goes = world_goes old new apart }

-- ---- calls of nodes, done or idle

pub by_call : {X : Type 0} (r : Result X Idle) (old new : NodesState) (at : ℕ) (node_call : NodeCall) → is_apart (Some (at, node_call)) ≡ true → OnOk r (NodeDoesCall at node_call old new)
    → OnErr r (new ≡ old) → GoesApart old new
by_call (Ok x) old new at node_call apart does same = acts (Some (at, node_call)) apart does
by_call (Err e) old new at node_call apart does same = stays (nodes_stay old new same)

acts_or_stays : (node_call : Option (ℕ × NodeCall)) (old new : NodesState) → is_apart node_call ≡ true → ((g : Group) → NodesStandFor g old → GoesBy node_call g new) ⊎ (new ≡ nodes_with_loss old) → GoesApart old new
acts_or_stays node_call old new apart (inl does) = acts node_call apart does
acts_or_stays node_call old new apart (inr forgets) = stays (nodes_forget old new forgets)

pub by_assign : {X : Type 0} (r : Result X Idle) (old new : NodesState) → OnOk r (MasterStepOrLost old new) → OnErr r (new ≡ old) → GoesApart old new
by_assign (Ok x) old new does same = acts_or_stays None old new refl does
by_assign (Err e) old new does same = stays (nodes_stay old new same)

pub by_cut : {X : Type 0} (r : Result X Idle) (old new : NodesState) (node : ℕ) → OnOk r (NodeCallOrLost (node - 1) (takes Cut) old new) → OnErr r (new ≡ old) → GoesApart old new
by_cut (Ok x) old new node does same = acts_or_stays (Some (node - 1, takes Cut)) old new refl does
by_cut (Err e) old new node does same = stays (nodes_stay old new same)

pub by_expel : {X : Type 0} (r : Result X Idle) (old new : NodesState) (node : ℕ) (client : Client) → OnOk r (NodeCallOrLost (node - 1) (takes (Expel client)) old new) → OnErr r (new ≡ old)
    → GoesApart old new
by_expel (Ok x) old new node client does same = acts_or_stays (Some (node - 1, takes (Expel client))) old new refl does
by_expel (Err e) old new node client does same = stays (nodes_stay old new same)

-- ---- a message comes

heard : (body : Body Command) (old new : NodesState) → MasterHears body old new → GoesApart old new
heard (Activate ballot) old new does = acts None refl does
heard (NewBallot b members a o) old new same = stays (nodes_stay old new same)
heard (Join b a) old new same = stays (nodes_stay old new same)
heard (State b log) old new same = stays (nodes_stay old new same)
heard (Install b log) old new same = stays (nodes_stay old new same)
heard (Installed b held) old new same = stays (nodes_stay old new same)
heard (Activated b) old new same = stays (nodes_stay old new same)
heard (Superseded b) old new same = stays (nodes_stay old new same)
heard (Append b place command) old new same = stays (nodes_stay old new same)
heard (Held b held) old new same = stays (nodes_stay old new same)
heard (Commit b held) old new same = stays (nodes_stay old new same)

comes : (o : Option (ℕ × Message Command)) (old new : NodesState) → GroupDeliveryOrLost o old new → GoesApart old new
comes None old new does = absurd does
comes (Some (zero, message)) old new does = heard message.body old new does
comes (Some (suc at, message)) old new does = acts_or_stays (Some (at, takes (Peer message))) old new refl does

pub by_delivery : {X : Type 0} (r : Result X Idle) (old new : NodesState) (number : ℕ) → OnOk r (GroupDeliveryOrLost (slice_get old.sent number) old new) → OnErr r (new ≡ old)
    → GoesApart old new
by_delivery (Ok x) old new number does same = comes (slice_get old.sent number) old new does
by_delivery (Err e) old new number does same = stays (nodes_stay old new same)
