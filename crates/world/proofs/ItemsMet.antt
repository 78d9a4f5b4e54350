-- ItemsMet.antt: what an event asks of a node, of the master or of a connection is done, or it cannot happen.
use Rattle.std.proofs.Common.{◌≡◌, ◌⊎◌, inl, inr, ◌↔◌, ◌<◌, ◌≤◌, ◌^◌, ◌-◌, ◌+◌, ℕ, suc, Bool, true, false, List, [], ◌∷◌, ◌++◌, Option, Some, None, Result, Ok, Err, IsErr, OnOk, OnErr, is_some, not, length, slice_get, take, refl, sym, ap, ◌∙◌, subst, arith}
use Rattle.std.specs.Prelude.{◌&&◌, ◌==◌, if◌then◌else◌, get_or}
use Rattle.std.specs.List.{position}
use Rattle.std.proofs.lemmas.List.{take_more}
use Rattle.std.proofs.lemmas.Bool.{both_ways}
use Rattle.std.proofs.lemmas.Option.{same_Some}
use Rattle.agreement.specs.MasterState.{refusal}
use Rattle.ballot_base.specs.declared.config.Config.{Config}
use Rattle.ballot_base.specs.Losses.{one_more}
use Rattle.master.specs.declared.event.Idle.{Idle}
use Rattle.world_base.specs.declared.node_core.item.Item.{Item}
use Rattle.world_base.specs.declared.node_core.item.Item.TheVariants.{Bytes, Crash, Ended, Expel, Tick}
use Rattle.world_nodes.specs.ExactSteps.{MessageArrives, ComesToNobody, CutsExactly, TakesExactly}
use Rattle.world_nodes.specs.RunningNodes.{cutting, proposing, running}
use Rattle.world_nodes.specs.Nodes.{NodesState}
use Rattle.world_nodes.specs.Steps.{DeliveryOrLost, NewBallotOrLost, NodeCutOrLost, NodeExpelOrLost, NodeItemOrLost, NodesLoseNothing}
use Rattle.world_pipes.specs.declared.pair.PipePair.{PipePair}
use Rattle.world_pipes.specs.Piped.{Piped, is_holding}
use Rattle.world_pipes.specs.declared.events.event.Event.{Event}
use Rattle.world_pipes.specs.declared.events.event.Event.TheVariants as events
use Rattle.world_pipes.specs.declared.clients.connection_slot.ConnectionSlot.{ConnectionSlot}
use Rattle.world_pipes.specs.declared.clients.world_client.WorldClient.{WorldClient}
use Rattle.world.specs.Found.{Connected, slot_numbered, port_at_node, with_piped}
use Rattle.world_pipes.specs.clients.Clients.{is_named}
use Rattle.world_pipes.specs.clients.Transport.{with_less}
use Rattle.world.specs.NodeOutput.{Gathers, TakesItem}
use Rattle.world.specs.Cannot.{CannotHappen, IsClosed, down_of, is_held, is_held_by, up_of}
use Rattle.world_pipes.specs.clients.Transport.{IsNoPart}
use Rattle.world.specs.EventSteps.{DoesEvent, LosesAtClient, receiver_of}
use Rattle.world_pipes.specs.clients.Transport.{CarriesDownWhere}
use Rattle.world.specs.Events.{EventHappens, HappensExactly, HappensLosing, EventsHappen}
use Rattle.world_pipes.specs.clients.SlotsAreValid.{SlotsAreValid, targets_of_clients}
use Rattle.world.specs.Quiet.{EventTakesNoMemory}
use Rattle.world_pipes.specs.clients.Transport.{CanCarryUp, CannotCarryDown, CarriesDownOn}
use Rattle.world.specs.Inside.Transport.{CannotCarryUpOn, CarriesUpOn}
use Rattle.world.specs.Inside.Steps.{IsCounted, EventIsDone, EventResultOrLost}
use Rattle.world.specs.Inside.ClientCalls.{with_one_loss}
use Rattle.world.specs.World.{WorldState}
use Rattle.world.proofs.GroupGoes.{with_nodes}
use Rattle.world.proofs.NothingLost.{assigns_exactly, comes_rises, cuts_rises, expels_rises, gathers_exactly, gathers_rises, rises_split, takes_exactly}
use Rattle.world.proofs.StandsThere.{connected, numbered_at, pair_found}

-- ---- the master

pub assign_meets : (r : Result (Unit {0}) Idle) (config : Config) (old : WorldState) (new : NodesState) → OnOk r (NewBallotOrLost config old.nodes new)
    → IsErr r ↔ (refusal old.nodes.master config ≡ None → ⊥) → OnErr r (new ≡ old.nodes) → EventResultOrLost (events.Assign config) old r (with_nodes new old)
assign_meets (Ok x) config old new gives idle same =
    inl (record {
      possible = λ refused. both_ways false refl (idle.1 refused);
      does = inr (new, gives, refl);
      exact = λ none. (new, assigns_exactly config old.nodes new gives none, refl);
      uncounted = refl;
    })
assign_meets (Err e) config old new acts idle same = (idle.0 refl, ap (λ (n : NodesState). with_nodes n old) same)

-- ---- a node

-- a message comes to its receiver
pub delivered : (number receiver : ℕ) (old : WorldState) (between : NodesState) (new : WorldState) → receiver ≡ receiver_of (slice_get old.nodes.sent number)
    → (ComesToNobody (slice_get old.nodes.sent number) old.nodes → ⊥) → DeliveryOrLost (slice_get old.nodes.sent number) old.nodes between
    → (NodesLoseNothing old.nodes between → MessageArrives (slice_get old.nodes.sent number) old.nodes between) → Gathers false receiver (with_nodes between old) new → new.losses ≡ old.losses
    → EventIsDone (events.Deliver number) old new
delivered number receiver old between new is possible comes exact gathers still =
    let all = subst (λ (k : ℕ). Gathers false k (with_nodes between old) new) is gathers in
    record {
      possible = possible;
      does = inr (between, comes, all);
      exact = λ none.
          let to = receiver_of (slice_get old.nodes.sent number) in
          let s = rises_split old.nodes between new.nodes (comes_rises (slice_get old.nodes.sent number) old.nodes between comes) (gathers_rises to (with_nodes between old) new all) none in
          (between, exact s.0, gathers_exactly to (with_nodes between old) new all s.1);
      uncounted = still;
    }

-- time passes at it, or it crashes
pub ticked : (node : ℕ) (old : WorldState) (between : NodesState) (new : WorldState) → (running old.nodes.nodes node ≡ None → ⊥) → NodeItemOrLost node (Tick 0) old.nodes between
    → Gathers false node (with_nodes between old) new → new.losses ≡ old.losses → EventIsDone (events.Tick node) old new
ticked node old between new possible takes gathers still =
    let item : TakesItem false node (Tick 0) old new = (between, takes, gathers) in
    record { possible = possible; does = inr item; exact = λ none. takes_exactly node (Tick 0) old new item none; uncounted = still }

pub crashed : (node : ℕ) (old : WorldState) (between : NodesState) (new : WorldState) → (running old.nodes.nodes node ≡ None → ⊥) → NodeItemOrLost node Crash old.nodes between
    → Gathers false node (with_nodes between old) new → new.losses ≡ old.losses → EventIsDone (events.Crash node) old new
crashed node old between new possible takes gathers still =
    let item : TakesItem false node Crash old new = (between, takes, gathers) in
    record { possible = possible; does = inr item; exact = λ none. takes_exactly node Crash old new item none; uncounted = still }

-- it cuts its log
pub cut_done : (node : ℕ) (old : WorldState) (between : NodesState) (new : WorldState) → (cutting old.nodes.nodes node ≡ None → ⊥) → NodeCutOrLost node old.nodes between
    → (NodesLoseNothing old.nodes between → CutsExactly node old.nodes between) → Gathers false node (with_nodes between old) new → new.losses ≡ old.losses → EventIsDone (events.Cut node) old new
cut_done node old between new possible cuts exact gathers still =
    record {
      possible = possible;
      does = inr (between, cuts, gathers);
      exact = λ none.
          let s = rises_split old.nodes between new.nodes (cuts_rises node old.nodes between cuts) (gathers_rises node (with_nodes between old) new gathers) none in
          (between, exact s.0, gathers_exactly node (with_nodes between old) new gathers s.1);
      uncounted = still;
    }

-- it proposes that the session of a client ends
pub expelled : (name : List ℕ) (node : ℕ) (old : WorldState) (between : NodesState) (new : WorldState) → (CannotHappen (events.Expel name node) old → ⊥) → NodeExpelOrLost name node old.nodes between
    → (NodesLoseNothing old.nodes between → TakesExactly node (Expel name) old.nodes between) → Gathers false node (with_nodes between old) new → new.losses ≡ old.losses
    → EventIsDone (events.Expel name node) old new
expelled name node old between new possible expels exact gathers still =
    record {
      possible = possible;
      does = inr (between, expels, gathers);
      exact = λ none.
          let s = rises_split old.nodes between new.nodes (expels_rises name node old.nodes between expels) (gathers_rises node (with_nodes between old) new gathers) none in
          (between, exact s.0, gathers_exactly node (with_nodes between old) new gathers s.1);
      uncounted = still;
    }

-- no client has this name
pub no_client : (name : List ℕ) (clients : List WorldClient) (place : Option ℕ) (none : Bool) → place ≡ position (is_named name) clients → is_some place ≡ not none → none ≡ true
    → position (is_named name) clients ≡ None
no_client name clients None none at is e = sym at
no_client name clients (Some i) true at is e = cc
no_client name clients (Some i) false at is e = cc

-- a client has it, and the node takes a proposal
pub may_expel : (name : List ℕ) (node : ℕ) (w : WorldState) (place : Option ℕ) (none : Bool) → place ≡ position (is_named name) w.clients → is_some place ≡ not none → none ≡ false
    → (proposing w.nodes.nodes node ≡ None → ⊥) → CannotHappen (events.Expel name node) w → ⊥
may_expel name node w None true at is e proposes cannot = cc
may_expel name node w None false at is e proposes cannot = cc
may_expel name node w (Some i) none at is e proposes (inl nobody) = let f : Some i ≡ None = at ∙ nobody in cc
may_expel name node w (Some i) none at is e proposes (inr full) = proposes full

-- ---- a connection's end at its node

-- it sees the end of a connection
pub noticed : (number : ℕ) (old : WorldState) (c : Connected number old) (between : NodesState) (new : WorldState) → (CannotHappen (events.Notice number) old → ⊥)
    → NodeItemOrLost c.slot.node (Ended (port_at_node number)) old.nodes between → Gathers false c.slot.node (with_nodes between old) new → new.losses ≡ old.losses → EventIsDone (events.Notice number) old new
noticed number old c between new possible takes gathers still =
    let item : TakesItem false c.slot.node (Ended (port_at_node number)) old new = (between, takes, gathers) in
    record { possible = possible; does = inr (c, item); exact = λ none. (c, takes_exactly c.slot.node (Ended (port_at_node number)) old new item none); uncounted = still }

pub closed_none : (number : ℕ) (w : WorldState) → slot_numbered number w.connections ≡ None → IsClosed (slot_numbered number w.connections) w.nodes.nodes
closed_none number w none = subst (λ (o : Option ConnectionSlot). IsClosed o w.nodes.nodes) (sym none) tt

pub closed_some : (number : ℕ) (w : WorldState) (place : ConnectionSlot) → slot_numbered number w.connections ≡ Some place → (place.is_open ≡ false) ⊎ (running w.nodes.nodes place.node ≡ None)
    → IsClosed (slot_numbered number w.connections) w.nodes.nodes
closed_some number w place is why = subst (λ (o : Option ConnectionSlot). IsClosed o w.nodes.nodes) (sym is) why

pub not_closed : (number : ℕ) (w : WorldState) (place : ConnectionSlot) → slice_get w.connections (number - 1) ≡ Some place → 0 < number → place.is_open ≡ true → (running w.nodes.nodes place.node ≡ None → ⊥)
    → IsClosed (slot_numbered number w.connections) w.nodes.nodes → ⊥
not_closed number w place at positive up runs closed =
    by (subst (λ (o : Option ConnectionSlot). IsClosed o w.nodes.nodes) (numbered_at number w.connections (Some place) positive at) closed)
  where
    by : (place.is_open ≡ false) ⊎ (running w.nodes.nodes place.node ≡ None) → ⊥
    by (inl shut) = both_ways _ shut up
    by (inr stopped) = runs stopped

no_part : (count : ℕ) (waiting : List ℕ) → 0 < count → count ≤ length waiting → IsNoPart count waiting → ⊥
no_part count waiting some part (inl zero_is) = omega (arith, some, zero_is)
no_part count waiting some part (inr more) = omega (arith, part, more)

-- ---- bytes come up

pub carries_up : (number : ℕ) (place : ConnectionSlot) (count : ℕ) (old mid new : WorldState) → slice_get old.connections (number - 1) ≡ Some place → 0 < number → place.is_open ≡ true
    → CarriesUpOn number place count old mid → Gathers false place.node mid new → new.losses ≡ old.losses → EventIsDone (events.CarryUp number count) old new
carries_up number place count old mid new at positive up t gathers still =
    record { possible = possible; does = inr (c, item); exact = λ none. (c, takes_exactly place.node piece less new item none); uncounted = still }
  where
    c : Connected number old
    c = record {
      slot = place;
      numbered = numbered_at number old.connections (Some place) positive at;
      client = t.client;
      owned = t.owned;
      pair = t.carries.pair;
      stands = t.carries.found;
    }

    possible : CannotHappen (events.CarryUp number count) old → ⊥
    possible (inl closed) = not_closed number old place at positive up t.carries.runs closed
    possible (inr few) = no_part count t.carries.pair.up t.carries.some t.carries.part (subst (λ (o : Option PipePair). IsNoPart count (up_of o)) (pair_found number old c) few)

    piece : Item
    piece = Bytes (port_at_node number) (take count t.carries.pair.up) 0

    less : WorldState
    less = with_piped place.client t.client (with_less place.at count t.carries.pair t.client.piped) old

    item : TakesItem false place.node piece less new
    item = (
      t.between,
      t.carries.step,
      subst (λ (w : WorldState). Gathers false place.node w new)
          (t.is ∙ ap (λ (p : Piped). let w : WorldState = record (with_piped place.client t.client p old) { nodes = t.between } in w) t.carries.is) gathers,
    )

-- there was no memory for them, and that is counted
pub lost_up : (number : ℕ) (place : ConnectionSlot) (count : ℕ) (old mid new : WorldState) → slice_get old.connections (number - 1) ≡ Some place → 0 < number → place.is_open ≡ true
    → (mid ≡ old) × (client : WorldClient) × (slice_get old.clients place.client ≡ Some client) × CanCarryUp place count old.nodes client.piped → new ≡ with_one_loss mid
    → HappensLosing (events.CarryUp number count) old new
lost_up number place count old mid new at positive up (same, client, owned, t) forgot =
    record { possible = possible; takes_memory = λ none low. none; done = old; does = inl refl; lost = inl refl; counted = forgot ∙ ap with_one_loss same }
  where
    c : Connected number old
    c = record {
      slot = place;
      numbered = numbered_at number old.connections (Some place) positive at;
      client = client;
      owned = owned;
      pair = t.pair;
      stands = t.found;
    }

    possible : CannotHappen (events.CarryUp number count) old → ⊥
    possible (inl closed) = not_closed number old place at positive up t.runs closed
    possible (inr few) = no_part count t.pair.up t.some t.part (subst (λ (o : Option PipePair). IsNoPart count (up_of o)) (pair_found number old c) few)

pub carries_nothing : (number : ℕ) (place : ConnectionSlot) (count : ℕ) (old : WorldState) → SlotsAreValid (targets_of_clients old.clients) old.connections → slice_get old.connections (number - 1) ≡ Some place → 0 < number
    → CannotCarryUpOn place count old → CannotHappen (events.CarryUp number count) old
carries_nothing number place count old housed at positive cannot = by (cannot c.client c.owned c.pair c.stands)
  where
    c : Connected number old
    c = connected old number place housed at positive

    by : (running old.nodes.nodes place.node ≡ None) ⊎ IsNoPart count c.pair.up → CannotHappen (events.CarryUp number count) old
    by (inl stopped) = inl (closed_some number old place c.numbered (inr stopped))
    by (inr few) = inr (subst (λ (o : Option PipePair). IsNoPart count (up_of o)) (sym (pair_found number old c)) few)

-- ---- bytes come down

held_there : (number : ℕ) (w : WorldState) (c : Connected number w) → is_held (slot_numbered number w.connections) w.clients ≡ (is_holding c.client.piped && (suc c.slot.at == length c.client.piped.pairs))
held_there number w c = ap (λ (o : Option ConnectionSlot). is_held o w.clients) c.numbered ∙ ap (λ (o : Option WorldClient). is_held_by o c.slot.at) c.owned

pub carries_down : (number : ℕ) (place : ConnectionSlot) (count : ℕ) (had : Bool) (old : WorldState) (client : WorldClient) (piped : Piped) → SlotsAreValid (targets_of_clients old.clients) old.connections
    → slice_get old.connections (number - 1) ≡ Some place → 0 < number → slice_get old.clients place.client ≡ Some client → CarriesDownOn had place.at count client.piped piped
    → (CannotHappen (events.CarryDown number count) old → ⊥) × DoesEvent had (events.CarryDown number count) old (with_piped place.client client piped old)
    × (had ≡ false → LosesAtClient (events.CarryDown number count) old (with_piped place.client client piped old))
carries_down number place count had old client piped housed at positive owned carries = (possible, (c, piped, carries.carries, refl), (λ lost. (c, piped, carries.lost lost, refl)))
  where
    found : Connected number old
    found = connected old number place housed at positive

    c : Connected number old
    c = with_client client owned
      where
        with_client : (k : WorldClient) → slice_get old.clients place.client ≡ Some k → Connected number old
        with_client k there =
            let same : found.client ≡ k = same_Some found.client k (sym found.owned ∙ there) in
            record {
              slot = place;
              numbered = found.numbered;
              client = k;
              owned = there;
              pair = found.pair;
              stands = ap (λ (z : WorldClient). slice_get z.piped.pairs place.at) (sym same) ∙ found.stands;
            }

    possible : CannotHappen (events.CarryDown number count) old → ⊥
    possible (inl other) = both_ways _ (sym (held_there number old c) ∙ other) carries.held
    possible (inr few) = carries.some c.pair c.stands (subst (λ (o : Option PipePair). IsNoPart count (down_of o)) (pair_found number old c) few)

pub carries_none_down : (number : ℕ) (place : ConnectionSlot) (count : ℕ) (old : WorldState) (client : WorldClient) → SlotsAreValid (targets_of_clients old.clients) old.connections → slice_get old.connections (number - 1) ≡ Some place
    → 0 < number → slice_get old.clients place.client ≡ Some client → CannotCarryDown place.at count client.piped → CannotHappen (events.CarryDown number count) old
carries_none_down number place count old client housed at positive owned cannot =
    by (subst (λ (k : WorldClient). CannotCarryDown place.at count k.piped) (same_Some client c.client (sym owned ∙ c.owned)) cannot c.pair c.stands)
  where
    c : Connected number old
    c = connected old number place housed at positive

    by : ((is_holding c.client.piped && (suc c.slot.at == length c.client.piped.pairs)) ≡ false) ⊎ IsNoPart count c.pair.down → CannotHappen (events.CarryDown number count) old
    by (inl other) = inl (held_there number old c ∙ other)
    by (inr few) = inr (subst (λ (o : Option PipePair). IsNoPart count (down_of o)) (sym (pair_found number old c)) few)

-- what is received exactly is received
carries_down_less : (count : ℕ) (old new : Piped) → CarriesDownWhere true count old new → CarriesDownWhere false count old new
carries_down_less count old new h = (h.0, λ yes. absurd (both_ways false refl yes), h.2)

does_less : (number count : ℕ) (old new : WorldState) → DoesEvent true (events.CarryDown number count) old new → DoesEvent false (events.CarryDown number count) old new
does_less number count old new d = (d.0, d.1, carries_down_less count d.0.client.piped d.1 d.2, d.3)

-- running out of memory is counted
pub carried_down_meets : (number : ℕ) (place : ConnectionSlot) (count : ℕ) (had : Bool) (old : WorldState) (client : WorldClient) (piped : Piped) (new : WorldState) → SlotsAreValid (targets_of_clients old.clients) old.connections
    → slice_get old.connections (number - 1) ≡ Some place → 0 < number → slice_get old.clients place.client ≡ Some client → CarriesDownOn had place.at count client.piped piped
    → new ≡ (if had then with_piped place.client client piped old else with_one_loss (with_piped place.client client piped old))
    → EventIsDone (events.CarryDown number count) old new ⊎ HappensLosing (events.CarryDown number count) old new
carried_down_meets number place count true old client piped new housed at positive owned carries is =
    let carried = with_piped place.client client piped old in
    let d = carries_down number place count true old client piped housed at positive owned carries in
    inl (subst (λ (w : WorldState). EventIsDone (events.CarryDown number count) old w) (sym is)
    (record { possible = d.0; does = inr (does_less number count old carried d.1); exact = λ none. d.1; uncounted = refl }))
carried_down_meets number place count false old client piped new housed at positive owned carries is =
    let d = carries_down number place count false old client piped housed at positive owned carries in
    inr (record { possible = d.0; takes_memory = λ none low. none; done = with_piped place.client client piped old; does = inr d.1; lost = inr (inl (d.2 refl)); counted = is })

pub never_opened : (number count : ℕ) (w : WorldState) → slot_numbered number w.connections ≡ None → CannotHappen (events.CarryDown number count) w
never_opened number count w none = inl (ap (λ (o : Option ConnectionSlot). is_held o w.clients) none)

-- ---- whole steps

-- an event that was done is counted if its nodes counted a loss, and one that is counted already is
-- not counted again
pub step_happens : (event : Event) (old mid new : WorldState) (before counted : ℕ) → before ≡ old.nodes.losses → counted ≡ old.losses → EventResultOrLost event old (Ok tt) mid
    → (EventTakesNoMemory event old → mid.nodes.losses ≡ old.nodes.losses) → IsCounted before counted mid new → EventHappens event old (Ok tt) new
step_happens event old mid new before counted is so_many (inl d) quiet (inl none) =
    let w = none.1 (d.uncounted ∙ sym so_many) in let kept = w.0 in let below = w.1 in
    let nodes : NodesLoseNothing old.nodes mid.nodes =
    ((let e : mid.nodes.losses ≡ old.nodes.losses = omega (arith, kept, is) in e), (let l : old.nodes.losses < 2 ^ 64 - 1 = omega (arith, is, below) in l)) in
    inl (subst (λ (w : WorldState). HappensExactly event old w) (sym none.0) (record { possible = d.possible; does = d.exact nodes; uncounted = d.uncounted }))
step_happens event old mid new before counted is so_many (inl d) quiet (inr one) =
    inr (record {
      possible = d.possible;
      takes_memory = λ none low. one.2 (quiet none ∙ sym is, subst (λ (k : ℕ). k < 2 ^ 64 - 1) (sym is) low);
      done = mid;
      does = d.does;
      lost = inr (inr (λ whole. one.2 (whole.0 ∙ sym is, subst (λ (k : ℕ). k < 2 ^ 64 - 1) (sym is) whole.1)));
      counted = one.0 ∙ ap (λ (k : ℕ). record mid { losses = one_more k }) d.uncounted;
    })
step_happens event old mid new before counted is so_many (inr l) quiet (inl none) = inr (subst (λ (w : WorldState). HappensLosing event old w) (sym none.0) l)
step_happens event old mid new before counted is so_many (inr l) quiet (inr one) =
    inr (record {
      possible = l.possible;
      takes_memory = l.takes_memory;
      done = l.done;
      does = l.does;
      lost = l.lost;
      counted = one.0 ∙ ap (λ (k : ℕ). record mid { losses = one_more k }) (one.1 ∙ so_many) ∙ ap (λ (w : WorldState). record w { losses = one_more old.losses }) l.counted;
    })

-- one more event
pub run_more : (events : List Event) (event : Event) (old mid new : WorldState) (result : Result (Unit {0}) Idle) → EventsHappen events old mid → EventHappens event mid result new → EventsHappen (events ++ event ∷ []) old new
run_more [] event old mid new result run happens = (new, result, subst (λ (w : WorldState). EventHappens event w result new) run happens, refl)
run_more (e ∷ es) event old mid new result run happens = (run.0, run.1, run.2, run_more es event run.0 mid new result run.3 happens)

pub run_on : (events : List Event) (i : ℕ) (event : Event) (old mid new : WorldState) (result : Result (Unit {0}) Idle) → i < length events → event ≡ get_or events i event → EventsHappen (take i events) old mid
    → EventHappens event mid result new → EventsHappen (take (i + 1) events) old new
run_on events i event old mid new result below is run happens =
    subst (λ (l : List Event). EventsHappen l old new) (sym (take_more events i event below ∙ ap (λ (e : Event). take i events ++ e ∷ []) (sym is))) (run_more (take i events) event old mid new result run happens)
