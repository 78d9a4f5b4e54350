-- A client opens a connection at the primary of the new ballot: its CONNECT is all that is in
-- transit, and the primary awaits it.
use Rattle.std.proofs.Common.{◌≡◌, ◌⊎◌, inl, inr, ◌<◌, ◌-◌, ◌&&◌, ℕ, suc, Bool, true, false, not, List, [], ◌∷◌, ◌++◌, Option, Some, length, slice_get, refl, sym, ap, ◌∙◌, subst, arith}
use Rattle.std.specs.List.{position}
use Rattle.std.proofs.lemmas.Bool.{both_ways}
use Rattle.std.proofs.lemmas.List.{length-append}
use Rattle.std.proofs.lemmas.Option.{same_Some}
use Rattle.ballot_base.specs.Replica.{is_active}
use Rattle.broker_spec.specs.declared.command.Command.{Command}
use Rattle.broker_spec.specs.declared.command.Output.{Output}
use Rattle.broker_base.specs.State.{State}
use Rattle.client_base.specs.Calls.{opened}
use Rattle.client.specs.Core.{AppendsAll, Core, nothing_read}
use Rattle.client_base.specs.declared.stage.Stage.TheVariants as stages
use Rattle.client_base.specs.State.{ClientState, is_open}
use Rattle.world_nodes.specs.recoveries.Deliveries.{Come}
use Rattle.world_nodes.specs.recoveries.Deliveries.Come.{all_came as none_comes}
use Rattle.world_nodes.specs.recoveries.Opened.{CanOpen, IsOpened, first_of}
use Rattle.world_nodes.proofs.of_recoveries.OpensFirst.{connections_open_first}
use Rattle.agreement.specs.cut_logs.Moments.{Moment}
use Rattle.headline.specs.node_moves.Moves.{NodeCall}
use Rattle.headline.specs.node_moves.Moves.NodeCall.{takes}
use Rattle.lists.proofs.Places.{get_pushed, get_set}
use Rattle.world_base.specs.node_core.Core.{CountedCore}
use Rattle.world_base.specs.declared.node_core.item.Item.{Item}
use Rattle.world_base.specs.declared.node_core.item.Item.TheVariants.{Opened}
use Rattle.world_nodes.specs.ExactSteps.{after_node_call}
use Rattle.world_nodes.specs.RunningNodes.{numbered_node}
use Rattle.world_nodes.specs.Nodes.{NodesState}
use Rattle.world_nodes.proofs.Acts.{acts}
use Rattle.world_pipes.specs.declared.pair.PipePair.{PipePair}
use Rattle.world_pipes.specs.Piped.{Piped, new_pair}
use Rattle.world_pipes.specs.declared.events.event.Event.{Event}
use Rattle.world_pipes.specs.declared.events.event.Event.TheVariants as events
use Rattle.world_pipes.specs.declared.clients.connection_slot.ConnectionSlot.{ConnectionSlot}
use Rattle.world_pipes.specs.declared.clients.world_client.WorldClient.{WorldClient}
use Rattle.world.specs.Cannot.{CannotOpen, is_serving}
use Rattle.world.specs.Opening.{OpensOne, OpensUnless, has_no_name_left, next_connection_number, with_connection}
use Rattle.world.specs.Found.{Named, core_named, port_at_node}
use Rattle.world_pipes.specs.clients.Clients.{is_named}
use Rattle.world.specs.NodeOutput.{Gathers}
use Rattle.world.specs.Trace.{WorldLosesNothing}
use Rattle.world_pipes.specs.clients.NodesGoOn.{NodesGo}
use Rattle.world.specs.Events.{EventsHappen}
use Rattle.world_pipes.specs.clients.SlotsAreValid.{SlotsAreValid, targets_of_clients}
use Rattle.world.specs.World.{WorldState}
use Rattle.world.proofs.ExactRuns.{first_done}
use Rattle.world_pipes.proofs.of_clients.NodesGoOn.{acts_go}
use Rattle.world.proofs.GroupGoes.{with_nodes}
use Rattle.world.proofs.HousedOpened.{housed_opened}
use Rattle.world.proofs.NamesKept.{names_seen, names_set, position_kept}
use Rattle.world.proofs.NamesSpent.{first_is_left}
use Rattle.world.proofs.NewestFound.{its_place, takes_at}
use Rattle.world_pipes.proofs.of_clients.NodesGoOn.{nodes_go_join}
use Rattle.world.proofs.PassesOn.{Passes, gathers_passes}
use Rattle.world.proofs.StandsOn.{IsNewest}
use Rattle.world.proofs.StandsThere.{core_found}
use Rattle.world.proofs.WaitsOn.{own_waits}

-- the world then: the connection is its newest, and these bytes are in transit up on it
pub record HasOpened (name : List ℕ) (state : ClientState) (a : Moment State Command Output) (ballot place : ℕ) (os : List ℕ) (log : List Command) (number : ℕ) (old after : WorldState) : Type 0 where
  pub awaits : IsOpened a after.nodes ballot place os log (port_at_node number)
  pub i : ℕ
  pub at : ℕ
  pub core : Core
  pub up : List ℕ
  pub newest : IsNewest i at number (suc place) core up [] true after
  pub stage : core.state.stage ≡ stages.Opened
  pub unread : core.unread ≡ nothing_read
  pub written : AppendsAll [] up (opened state).writes
  pub first : position (is_named name) after.clients ≡ Some i
  pub housed : SlotsAreValid (targets_of_clients after.clients) after.connections
  pub nodes : NodesGo old.nodes after.nodes

module _ (name : List ℕ) (before : Core) (a : Moment State Command Output) (ballot place : ℕ) (node : CountedCore) (os : List ℕ) (log : List Command) (old : WorldState)
    (there : core_named name old.clients ≡ Some before) (possible : CanOpen a old.nodes ballot place node os log (port_at_node (next_connection_number old)))
    (housed : SlotsAreValid (targets_of_clients old.clients) old.connections) where
  serving : is_serving (numbered_node old.nodes.nodes (suc place)) ≡ true
  serving =
      ap is_serving possible.stands
      ∙ ap (λ (b : Bool). b && not node.core.replica.state.stopped) (ap is_active possible.serves.leads.role)
      ∙ ap not possible.serves.leads.runs

  pub can_open_there : is_open before.state.stage ≡ false → CannotOpen (core_named name old.clients) ⊎ (is_serving (numbered_node old.nodes.nodes (suc place)) ≡ false) → ⊥
  can_open_there closed (inl taken) = both_ways (is_open before.state.stage) closed (subst CannotOpen there taken)
  can_open_there closed (inr shut) = both_ways (is_serving (numbered_node old.nodes.nodes (suc place))) shut serving

  has_name : has_no_name_left (numbered_node old.nodes.nodes (suc place)) ≡ false
  has_name =
      let joined = possible.serves.leads.joined in let high = possible.most in let low = possible.low in
      ap has_no_name_left possible.stands ∙ first_is_left node (omega (arith, joined, high)) (omega (arith, joined, low))

  module _ (after : WorldState) (does : OpensOne true name (suc place) old after) where
    abbrev number : ℕ
    number = next_connection_number old

    abbrev item : Item
    item = Opened (port_at_node number) 0

    abbrev c : Named name old
    c = does.0

    abbrev piped : Piped
    piped = does.1

    abbrev core : Core
    core = does.2.0

    abbrev later : WorldClient
    later = record c.client { piped = piped }

    abbrev at : ℕ
    at = length c.client.piped.pairs

    abbrev pair : PipePair
    pair = record (new_pair (suc place - 1) (port_at_node number)) { up = core.out }

    abbrev stands_at : ConnectionSlot
    stands_at = its_place c.at at (suc place) true

    abbrev mid : WorldState
    mid = with_connection c piped (suc place)

    abbrev taken : NodesState
    taken = after_node_call place node (takes item) old.nodes

    mine : c.client.piped.core ≡ before
    mine = same_Some c.client.piped.core before (sym (core_found name old.clients c.at c.client c.first c.stands) ∙ there)

    pairs_are : piped.pairs ≡ c.client.piped.pairs ++ pair ∷ []
    pairs_are = ap (λ (p : Piped). p.pairs) does.2.2

    many : length piped.pairs ≡ suc at
    many =
        let more = length-append c.client.piped.pairs (pair ∷ []) in
        ap (λ (l : List PipePair). length l) pairs_are ∙ (let e : length (c.client.piped.pairs ++ pair ∷ []) ≡ suc at = omega (arith, more) in e)

    last : length (old.connections ++ stands_at ∷ []) ≡ suc (length old.connections)
    last = let more = length-append old.connections (stands_at ∷ []) in omega (arith, more)

    mid_newest : IsNewest c.at at number (suc place) (record core { out = [] }) core.out [] true (with_nodes taken mid)
    mid_newest =
        record {
          client = later;
          found = get_set old.clients c.at c.client later c.stands;
          core_is = ap (λ (p : Piped). p.core) does.2.2;
          pair = pair;
          stands = ap (λ (l : List PipePair). slice_get l at) pairs_are ∙ get_pushed c.client.piped.pairs pair;
          many = many;
          up_is = refl;
          down_is = refl;
          place = ap (slice_get (old.connections ++ stands_at ∷ [])) (let e : suc (length old.connections) - 1 ≡ length old.connections = omega arith in e)
              ∙ get_pushed old.connections stands_at;
          last = last;
        }

    mid_housed : SlotsAreValid (targets_of_clients mid.clients) mid.connections
    mid_housed =
        housed_opened old.clients old.connections c.at c.client piped (suc place - 1) number stands_at core c.stands does.2.2 refl refl refl
        (let e : suc (suc place - 1) ≡ suc place = omega arith in e) housed

    gathers : Gathers true (suc place) (with_nodes taken mid) after
    gathers = subst (λ (n : NodesState). Gathers true (suc place) (with_nodes n mid) after) (takes_at place item old.nodes does.3.0 node possible.stands does.3.1) does.3.2

    passes : Passes [] (with_nodes taken mid) after
    passes = gathers_passes (suc place) (with_nodes taken mid) after gathers mid_housed

    opened_by : (n : NodesState) → Come taken [] n → IsOpened a n ballot place os log (port_at_node number)
    opened_by n comes = connections_open_first a old.nodes n ballot place node os log (port_at_node number) 0 possible comes

    pub has_opened : HasOpened name before.state a ballot place os log number old after
    has_opened =
        let o = opened_by taken none_comes in
        record {
          awaits = opened_by after.nodes passes.come;
          i = c.at;
          at = at;
          core = (let k : Core = record core { out = [] } in k);
          up = core.out;
          newest = own_waits c.at at number place (record core { out = [] }) core.out (first_of ballot) (with_nodes taken mid) after o.node
              (let e : 0 < suc (length old.connections) = omega arith in e) o.stands o.awaits.waits gathers mid_housed mid_newest;
          stage = ap (λ (s : ClientState). s.stage) does.2.1.0;
          unread = does.2.1.2;
          written = subst (λ (k : Core). AppendsAll [] core.out (opened k.state).writes) mine does.2.1.1;
          first = position_kept name after.clients old.clients
              (names_seen after.clients mid.clients passes.clients ∙ names_set old.clients c.at c.client later c.stands refl) ∙ c.first;
          housed = passes.housed;
          nodes = nodes_go_join old.nodes taken after.nodes
              (acts_go (let node_call : Option (ℕ × NodeCall) = Some (place, takes item) in node_call) old.nodes taken (acts old.nodes place node (takes item) possible.stands (λ g s. tt)))
              passes.nodes;
        }

  -- so a run continues from there
  pub record OpenedTo (more : List Event) (new : WorldState) : Type 0 where
    pub after : WorldState
    pub has : HasOpened name before.state a ballot place os log (next_connection_number old) old after
    pub rest : EventsHappen more after new
    pub whole : WorldLosesNothing after new

  pub opens_out : (more : List Event) (new : WorldState) → is_open before.state.stage ≡ false → EventsHappen (events.Open name (suc place) ∷ more) old new → WorldLosesNothing old new → OpenedTo more new
  opens_out more new closed run none =
      let f = first_done (events.Open name (suc place)) more old new run none (can_open_there closed) in
      let does = subst (λ (full : Bool). OpensUnless full true name (suc place) old f.after) has_name f.does in
      record { after = f.after; has = has_opened f.after does; rest = f.rest; whole = f.whole }
