-- Handed.antt: when bytes are handed over, or come to a node, the world continues.
use Rattle.std.proofs.Common.{◌≡◌, inl, inr, ◌<◌, ◌-◌, ℕ, Bool, true, false, List, Some, Result, Ok, Err, OnErr, slice_get, refl, sym, ap, ◌∙◌, subst, arith}
use Rattle.std.specs.Prelude.{IfOk}
use Rattle.std.proofs.lemmas.Option.{same_Some}
use Rattle.master.specs.declared.event.Idle.{Idle}
use Rattle.world_nodes.specs.Nodes.{NodesState}
use Rattle.world_pipes.specs.declared.pair.PipePair.{PipePair}
use Rattle.world_pipes.specs.Piped.{Piped}
use Rattle.world_pipes.specs.declared.clients.connection_slot.ConnectionSlot.{ConnectionSlot}
use Rattle.world_pipes.specs.declared.clients.world_client.WorldClient.{WorldClient}
use Rattle.world_pipes.specs.clients.NodesGoOn.{NodesGoOn}
use Rattle.world_pipes.specs.clients.SlotsAreValid.{SlotsAreValid, targets_of_clients}
use Rattle.world.specs.Found.{port_at_node}
use Rattle.world_pipes.specs.clients.NodeOutput.{with_down, BytesDownOrLost, MayPutDown, PipeBytesDownOrLost}
use Rattle.world_pipes.specs.clients.Transport.{CannotCarryUp, CarriesUpWhere}
use Rattle.world.specs.Inside.Transport.{CannotCarryUpOn, CarriesUpOnWhere}
use Rattle.world.specs.Inside.Steps.{IsTrace}
use Rattle.world.specs.Inside.PortOutput.{GatheringOrLost}
use Rattle.world.specs.World.{WorldState}
use Rattle.world.proofs.ComesUp.{takes_up}
use Rattle.world.proofs.GoesDown.{put_down, puts_down}
use Rattle.world.proofs.Joined.{goes_on_rest}
use Rattle.world_pipes.proofs.of_clients.LeadsKept.{led_there}
use Rattle.world_pipes.proofs.of_clients.Turned.{set_itself}

-- nothing is changed but the nodes
same_client : (old : WorldState) (i : ℕ) (client : WorldClient) (new : NodesState) (later : Piped) → slice_get old.clients i ≡ Some client → later ≡ client.piped
    → put_down i client later new old ≡ record old { nodes = new }
same_client old i client new later found still =
    ap (λ (p : Piped). put_down i client p new old) still ∙ ap (λ (l : List WorldClient). record old { nodes = new; clients = l }) (set_itself old.clients i client found)

-- what is known about the end, and what went down; or nothing went down
pub gathers_on : (old : WorldState) (number : ℕ) (place : ConnectionSlot) (client : WorldClient) (pair : PipePair) (is_open : Bool) (new : NodesState) (later : Piped) → slice_get old.clients place.client ≡ Some client
    → slice_get client.piped.pairs place.at ≡ Some pair → PipeBytesDownOrLost place.at place.node (port_at_node number) old.nodes client.piped new later is_open
    → GatheringOrLost number place old is_open (put_down place.client client later new old)
gathers_on old number place client pair is_open new later owned stands puts = by (puts pair stands)
  where
    same_bytes : (bytes : List ℕ) → bytes ≡ pair.down → with_down place.at pair bytes client.piped ≡ client.piped
    same_bytes bytes same =
        ap (λ (b : List ℕ). with_down place.at pair b client.piped) same
        ∙ ap (λ (l : List PipePair). let p : Piped = record client.piped { pairs = l } in p) (set_itself client.piped.pairs place.at pair stands)

    by : (bytes : List ℕ) × BytesDownOrLost place.node (port_at_node number) old.nodes pair.down new bytes is_open × (later ≡ with_down place.at pair bytes client.piped)
        → GatheringOrLost number place old is_open (put_down place.client client later new old)
    by (bytes, inl p, is) =
        inl (record {
          client = client;
          owned = owned;
          pair = pair;
          stands = stands;
          between = new;
          gives = p.0;
          reported = p.2;
          is = ap (λ (l : Piped). put_down place.client client l new old) (is ∙ ap (λ (b : List ℕ). with_down place.at pair b client.piped) p.1);
        })
    by (bytes, inr p, is) =
        inr (
          p.2,
          same_client old place.client client new later owned (is ∙ same_bytes bytes p.1) ∙ ap (λ (n : NodesState). let w : WorldState = record old { nodes = n } in w) p.0,
        )

pub gathering_goes : (old : WorldState) (number : ℕ) (place : ConnectionSlot) (client : WorldClient) (new : NodesState) (later : Piped) → SlotsAreValid (targets_of_clients old.clients) old.connections
    → slice_get old.connections (number - 1) ≡ Some place → 0 < number → slice_get old.clients place.client ≡ Some client → NodesGoOn old.nodes new
    → MayPutDown place.at place.node (record { 0 = number }) old.nodes client.piped new later → IsTrace old (put_down place.client client later new old)
gathering_goes old number place client new later housed at positive found nodes puts =
    record {
      rises = omega arith;
      nodes = nodes;
      goes = puts_down old number place client new later (led_there (targets_of_clients old.clients) old.connections number place housed at positive) found puts;
    }

-- nothing is changed
unchanged : (old : WorldState) (i : ℕ) (client : WorldClient) (new : NodesState) (later : Piped) → slice_get old.clients i ≡ Some client → new ≡ old.nodes → later ≡ client.piped
    → put_down i client later new old ≡ old
unchanged old i client new later found same still =
    same_client old i client new later found still ∙ ap (λ (n : NodesState). let w : WorldState = record old { nodes = n } in w) same

pub takes_nothing : (old : WorldState) (i : ℕ) (client : WorldClient) (new : NodesState) (later : Piped) → slice_get old.clients i ≡ Some client → new ≡ old.nodes → later ≡ client.piped
    → IsTrace old (put_down i client later new old)
takes_nothing old i client new later found same still = goes_on_rest old (put_down i client later new old) (unchanged old i client new later found same still)

-- bytes come, or there is no memory for them
pub takes_on : {E : Type 0} (r : Result Bool E) (old : WorldState) (number count : ℕ) (place : ConnectionSlot) (client : WorldClient) (new : NodesState) (later : Piped)
    → SlotsAreValid (targets_of_clients old.clients) old.connections → slice_get old.connections (number - 1) ≡ Some place → 0 < number → slice_get old.clients place.client ≡ Some client
    → NodesGoOn old.nodes new → IfOk r (λ had. CarriesUpWhere had place (record { 0 = number }) count old.nodes client.piped new later)
    → OnErr r (new ≡ old.nodes) → OnErr r (later ≡ client.piped) → IsTrace old (put_down place.client client later new old)
takes_on (Ok true) old number count place client new later housed at positive found nodes took same still =
    record {
      rises = omega arith;
      nodes = nodes;
      goes = takes_up old number count place client new later (led_there (targets_of_clients old.clients) old.connections number place housed at positive) found took;
    }
takes_on (Ok false) old number count place client new later housed at positive found nodes took same still = takes_nothing old place.client client new later found took.0 took.1
takes_on (Err e) old number count place client new later housed at positive found nodes took same still = takes_nothing old place.client client new later found same still

-- the same in a world: they come, or they cannot
pub takes_up_on : {E : Type 0} (r : Result Bool E) (old : WorldState) (number count : ℕ) (place : ConnectionSlot) (client : WorldClient) (new : NodesState) (later : Piped)
    → slice_get old.clients place.client ≡ Some client → IfOk r (λ had. CarriesUpWhere had place (port_at_node number) count old.nodes client.piped new later)
    → IfOk r (λ had. CarriesUpOnWhere had number place count old (put_down place.client client later new old))
takes_up_on (Ok true) old number count place client new later owned taken = record { client = client; owned = owned; between = new; piped = later; carries = taken; is = refl }
takes_up_on (Ok false) old number count place client new later owned taken = (unchanged old place.client client new later owned taken.0 taken.1, client, owned, taken.2)
takes_up_on (Err e) old number count place client new later owned taken = tt

-- and if they cannot, nothing is changed
pub takes_none : {X E : Type 0} (r : Result X E) (old : WorldState) (place : ConnectionSlot) (client : WorldClient) (new : NodesState) (later : Piped) → slice_get old.clients place.client ≡ Some client
    → OnErr r (new ≡ old.nodes) → OnErr r (later ≡ client.piped) → OnErr r (put_down place.client client later new old ≡ old)
takes_none (Ok x) old place client new later owned same still = tt
takes_none (Err e) old place client new later owned same still = unchanged old place.client client new later owned same still

pub takes_nothing_on : {X : Type 0} (r : Result X Idle) (w : WorldState) (count : ℕ) (place : ConnectionSlot) (client : WorldClient) → slice_get w.clients place.client ≡ Some client
    → OnErr r (CannotCarryUp place count w.nodes client.piped) → OnErr r (CannotCarryUpOn place count w)
takes_nothing_on (Ok x) w count place client owned cannot = tt
takes_nothing_on (Err e) w count place client owned cannot = λ other there. subst (λ (k : WorldClient). CannotCarryUp place count w.nodes k.piped) (same_Some client other (sym owned ∙ there)) cannot
