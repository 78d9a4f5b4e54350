-- Each step of a world but an opening keeps what holds for its connections.
use Rattle.std.proofs.Common.{◌≡◌, ◌⊎◌, inl, inr, ℕ, Bool, true, false, if◌then◌else◌, List, [], ◌∷◌, ◌++◌, Option, Some, None, Ok, slice_get, refl, sym, ap, ◌∙◌, subst}
use Rattle.std.proofs.lemmas.Bool.{both_ways}
use Rattle.std.proofs.lemmas.List.{append-nil}
use Rattle.packet.specs.Spelling.{IsPacket}
use Rattle.packet.specs.declared.packet.Packet.{Packet}
use Rattle.packet.specs.declared.packet.Packet.TheVariants as packets
use Rattle.ballot_base.specs.declared.config.Config.{Config}
use Rattle.broker_spec.specs.Connection.{ConnectionName, same_connection}
use Rattle.broker_spec.specs.Place.{Limits}
use Rattle.broker_spec.proofs.ConnectionNames.{same_name}
use Rattle.client_base.specs.Called.{written_for}
use Rattle.client_base.specs.Handled.{packet_handled}
use Rattle.client_base.specs.Keeper.{Keeper, Written}
use Rattle.client_base.specs.Written.{plain, writes, writes_first}
use Rattle.cutter.specs.Stream.{Stream, Takes}
use Rattle.lists.specs.Lists.{Each, In}
use Rattle.lists.proofs.Places.{get_set_other}
use Rattle.headline.proofs.of_packet_world.Lists.{same_or_other, set_get}
use Rattle.world_base.specs.declared.node_connections.port.Port.{Port}
use Rattle.headline.specs.packet_world.Steps.{is_call}
use Rattle.exactly_once.specs.Sides.{ClientConnection, Side}
use Rattle.exactly_once.specs.Story.{StoryStep, Story}
use Rattle.exactly_once.specs.Story.StoryStep.{takes as takes_next, others_take, receives, opens_anew, loses, disconnects, publishes_one, subscribes, unsubscribes}
use Rattle.exactly_once.proofs.Takes.{same_name_self}
use Rattle.exactly_once.proofs.publishing.Grown.{handled_grows}
use Rattle.world_base.specs.declared.node_connections.connection.Connection.{Connection as NodesEnd}
use Rattle.world_base.specs.declared.node_core.item.Item.TheVariants.{Peer, Tick, Opened, Bytes, Ended, Expel, Cut, Crash}
use Rattle.world_base.specs.node_core.Core.{CoreState}
use Rattle.headline.specs.node_moves.Moves.{NodeCall}
use Rattle.headline.specs.node_moves.Moves.NodeCall.{takes, hands_out}
use Rattle.headline.specs.node_moves.Puts.{spelled}
use Rattle.headline.specs.node_group.Group.{Group}
use Rattle.headline.specs.node_group.Steps.{GroupStep, GroupTrace}
use Rattle.headline.specs.node_group.Steps.GroupTrace.{then_went}
use Rattle.headline.specs.node_group.Streams.{comes_up, goes_down, went_down}
use Rattle.headline.specs.byte_world.Steps.{DoesCall, node_call_of, is_apart}
use Rattle.headline.specs.byte_world.ClientSteps.{WritesCanBeSpelled, after_packet}
use Rattle.headline.specs.byte_world.World.{ClientPipes, HasPipe, Pipe, ByteWorld, after_writing, newly_written, packets_of, sent_up, with_client, with_pipe}
use Rattle.headline.proofs.of_byte_world.NodesGoOn.{IsOpened, carries_with, is_quiet, stood_as}
use Rattle.headline.proofs.of_byte_world.OnTheWay.{IsHandled, more_down, newly_is, one_handled}
use Rattle.headline.proofs.of_byte_world.PipesHold.{PipeHolds, apart_on, none_opens, opens_in, others_down, others_up, placed_on, up_on, up_piece}
use Rattle.headline.proofs.of_byte_world.PortsKept.{IsOfOld}
use Rattle.headline.proofs.of_byte_world.WorldsHold.{Came, ChangedAt, Holds, IsKnown, IsUnheard, LeadsToPort, Place, Stays, client_holds, does_holds, first_at, holds_on, place_back, place_forth, set_at}
use Rattle.headline.proofs.of_byte_world.WorldsHold.Place.{mine, another}

-- ---- a client calls

writes_none : (connections : List ClientConnection) → connections ≡ writes_first [] connections
writes_none [] = refl
writes_none (κ ∷ others) = ap (λ (l : List Written). record κ { written = l } ∷ others) (sym (append-nil κ.written))

-- it writes only on the newest connection
pub call_writes : {limits : Limits} {s t : Story} (h : StoryStep limits s t) → is_call h ≡ true → (new : List Written) × (t.connections ≡ writes_first new s.connections)
call_writes (takes_next i κ w stands next) e = absurd (both_ways false refl e)
call_writes (others_take command other none) e = absurd (both_ways false refl e)
call_writes (receives κ others packet are opened next) e = absurd (both_ways false refl e)
call_writes (opens_anew x fresh none uncounted) e = absurd (both_ways false refl e)
call_writes {s = s} loses e = ([], writes_none s.connections)
call_writes {s = s} disconnects e = by s.keeper.is_online
  where
    by : (b : Bool) → (new : List Written) × ((if b then writes_first (plain packets.Disconnect ∷ []) s.connections else s.connections) ≡ writes_first new s.connections)
    by true = (plain packets.Disconnect ∷ [], refl)
    by false = ([], writes_none s.connections)
call_writes {s = s} (publishes_one p needs) e = (written_for p s.keeper, refl)
call_writes (subscribes p on id) e = (plain (packets.Subscribe p) ∷ [], refl)
call_writes (unsubscribes p on id) e = (plain (packets.Unsubscribe p) ∷ [], refl)

-- a client that has no connection with a pipe changes no pipe
no_pipe_holds : {nodes : ℕ} {config : Config} (v : ByteWorld) (went : GroupTrace nodes config v.group) (i : ℕ) (c later : ClientPipes) → slice_get v.clients i ≡ Some c
    → ((j : ℕ) (κ : ClientConnection) (p : Pipe) → slice_get c.connections j ≡ Some κ → slice_get c.pipes j ≡ Some p → ⊥)
    → ((j : ℕ) (κ : ClientConnection) (p : Pipe) → slice_get later.connections j ≡ Some κ → slice_get later.pipes j ≡ Some p → ⊥) → Holds v went → Holds (with_client i later v) went
no_pipe_holds v went i c later at none none_later h = holds_on v (with_client i later v) went went h back forth h.used h.known
  where
    back : (k : ℕ) (d : ClientPipes) (l : ℕ) (κ : ClientConnection) (p : Pipe) → HasPipe (with_client i later v) k d l κ p → Came v went k l κ p
    back k d l κ p has = by (set_get v.clients i k c later d at has.client)
      where
        by : ((k ≡ i) × (later ≡ d)) ⊎ ((k ≡ i → ⊥) × (slice_get v.clients k ≡ Some d)) → Came v went k l κ p
        by (inl (same, is)) =
            absurd (none_later l κ p (ap (λ (z : ClientPipes). slice_get z.connections l) is ∙ has.connection) (ap (λ (z : ClientPipes). slice_get z.pipes l) is ∙ has.pipe))
        by (inr (apart, was)) =
            let old : HasPipe v k d l κ p = record { client = was; connection = has.connection; pipe = has.pipe } in
            record { c = d; κ = κ; p = p; has = old; name = refl; holds = h.each k d l κ p old }

    forth : (k : ℕ) (d : ClientPipes) (l : ℕ) (κ : ClientConnection) (p : Pipe) → HasPipe v k d l κ p → Stays (with_client i later v) k l κ p
    forth k d l κ p has = by (same_or_other k i)
      where
        one : (a b : ClientPipes) → (let o : Option ClientPipes = Some a in o) ≡ Some b → a ≡ b
        one a b e = cc

        by : (k ≡ i) ⊎ (k ≡ i → ⊥) → Stays (with_client i later v) k l κ p
        by (inl same) =
            let is : c ≡ d = one c d (sym at ∙ ap (slice_get v.clients) (sym same) ∙ has.client) in
            absurd (none l κ p (ap (λ (z : ClientPipes). slice_get z.connections l) is ∙ has.connection) (ap (λ (z : ClientPipes). slice_get z.pipes l) is ∙ has.pipe))
        by (inr apart) =
            record {
              c = d;
              later = κ;
              q = p;
              has = record { client = get_set_other v.clients i k later apart ∙ has.client; connection = has.connection; pipe = has.pipe };
              name = refl;
              node = refl;
              port = refl;
            }

no_place : {X : Type 0} (xs : List X) (j : ℕ) (x : X) → xs ≡ [] → slice_get xs j ≡ Some x → ⊥
no_place xs j x none at = nowhere j (sym (ap (λ l. slice_get l j) none) ∙ at)
  where
    nowhere : (k : ℕ) → slice_get (let l : List _ = [] in l) k ≡ Some x → ⊥
    nowhere k e = cc

pub calls_hold : {nodes : ℕ} {config : Config} (v : ByteWorld) (went : GroupTrace nodes config v.group) (i : ℕ) (c : ClientPipes) (keeper : Keeper) (connections : List ClientConnection) (new : List Written)
    → slice_get v.clients i ≡ Some c → connections ≡ writes_first new c.connections → WritesCanBeSpelled c.connections connections → Holds v went
    → Holds (with_client i (after_writing keeper connections c) v) went
calls_hold v went i c keeper connections new at is whole h = by c.connections c.pipes refl refl
  where
    later : ClientPipes
    later = after_writing keeper connections c

    by : (cs : List ClientConnection) (ps : List Pipe) → c.connections ≡ cs → c.pipes ≡ ps → Holds (with_client i later v) went
    by [] ps are piped =
        no_pipe_holds v went i c later at (λ j κ p e f. no_place c.connections j κ are e)
        (λ j κ p e f. no_place connections j κ (is ∙ ap (writes_first new) are) e) h
    by (κ ∷ others) [] are piped =
        no_pipe_holds v went i c later at (λ j μ p e f. no_place c.pipes j p piped f)
        (λ j μ p e f. no_place later.pipes j p (ap (sent_up (newly_written c.connections connections)) piped) f) h
    by (κ ∷ others) (p ∷ pipes) are piped =
        let now : connections ≡ writes new κ ∷ others = is ∙ ap (writes_first new) are in
        let more : newly_written c.connections connections ≡ packets_of new =
        ap (λ l. newly_written l connections) are ∙ ap (newly_written (κ ∷ others)) now ∙ newly_is κ (writes new κ) others others new refl in
        let q : Pipe = record p { up = p.up ++ spelled (packets_of new) } in
        let has : HasPipe v i c 0 κ p = record { client = at; connection = ap (λ l. slice_get l 0) are; pipe = ap (λ l. slice_get l 0) piped } in
        let old = h.each i c 0 κ p has in
        client_holds v went i 0 c later κ (writes new κ) p q has
        (first_at c later κ (writes new κ) others p q pipes are piped now
        (ap (sent_up (newly_written c.connections connections)) piped ∙ ap (λ l. sent_up l (p ∷ pipes)) more) refl refl refl)
        (does_holds went κ (writes new κ) p p.came new refl refl (subst (Each IsPacket) more whole) old.down old) h

-- ---- a client handles a packet

pub handles_hold : {nodes : ℕ} {config : Config} (v : ByteWorld) (went : GroupTrace nodes config v.group) (i : ℕ) (c : ClientPipes) (κ : ClientConnection) (others : List ClientConnection) (p : Pipe)
    (pipes : List Pipe) (packet : Packet) (left : Stream) → slice_get v.clients i ≡ Some c → c.connections ≡ κ ∷ others → c.pipes ≡ p ∷ pipes → Takes p.came (Ok (Some packet)) left
    → WritesCanBeSpelled c.connections ((packet_handled packet (record { keeper = c.keeper; connection = κ })).connection ∷ others) → Holds v went
    → Holds (with_client i (after_packet others pipes p left (packet_handled packet (record { keeper = c.keeper; connection = κ })) c) v) went
handles_hold v went i c κ others p pipes packet left at are piped cut whole h =
    let side : Side = packet_handled packet (record { keeper = c.keeper; connection = κ }) in
    let grown = handled_grows κ c.keeper packet in
    let more : newly_written c.connections (side.connection ∷ others) ≡ packets_of grown.more =
    ap (λ l. newly_written l (side.connection ∷ others)) are ∙ newly_is κ side.connection others others grown.more grown.written in
    let q : Pipe = record p { up = p.up ++ spelled (packets_of grown.more); came = left } in
    let has : HasPipe v i c 0 κ p = record { client = at; connection = ap (λ l. slice_get l 0) are; pipe = ap (λ l. slice_get l 0) piped } in
    let old = h.each i c 0 κ p has in
    client_holds v went i 0 c (after_packet others pipes p left side c) κ side.connection p q has
    (first_at c (after_packet others pipes p left side c) κ side.connection others p q pipes are piped refl
    (ap (λ l. sent_up l (record p { came = left } ∷ pipes)) more) grown.name refl refl)
    (does_holds went κ side.connection p left grown.more grown.name grown.written (subst (Each IsPacket) more whole)
    (subst (λ n. IsHandled n left p.down (went_down κ.name went)) (sym grown.handled) (one_handled κ.handled p.came left p.down (went_down κ.name went) packet cut.2 cut.3 old.down)) old) h

-- ---- the group continues

-- after a step that opens nothing each connection of a node has a pipe
still_used : {nodes : ℕ} {config : Config} (v : ByteWorld) (g : Group) (went : GroupTrace nodes config v.group) (step : GroupStep v.group g) → opens_in (node_call_of step) ≡ false → Holds v went
    → (n : ℕ) (core : CoreState) (d : NodesEnd) → slice_get g.nodes n ≡ Some core → In d core.connections → LeadsToPort v n d.port
still_used v g went step none h n core d at i = by (stood_as v.group g went step n core at).core (stood_as v.group g went step n core at).stands ((stood_as v.group g went step n core at).after.was d i)
  where
    by : (old : CoreState) → slice_get v.group.nodes n ≡ Some old → IsOfOld old.connections d ⊎ IsOpened (node_call_of step) n old d → LeadsToPort v n d.port
    by old stood (inl o) =
        let l = h.used n old o.was stood o.among in
        record { index = l.index; client = l.client; nth = l.nth; connection = l.connection; pipe = l.pipe; has = l.has; node = l.node; at = l.at ∙ sym (ap (λ (z : Port). z.0) o.later.port) }
    by old stood (inr opened) = absurd (both_ways (opens_in (node_call_of step)) none (ap opens_in opened.is))

apart_opens_none : (o : Option (ℕ × NodeCall)) → is_apart o ≡ true → opens_in o ≡ false
apart_opens_none None e = refl
apart_opens_none (Some (n, takes (Peer message))) e = refl
apart_opens_none (Some (n, takes (Tick now))) e = refl
apart_opens_none (Some (n, takes (Ended port))) e = refl
apart_opens_none (Some (n, takes (Expel client))) e = refl
apart_opens_none (Some (n, takes Cut)) e = refl
apart_opens_none (Some (n, takes Crash)) e = refl
apart_opens_none (Some (n, takes (Opened port now))) e = absurd (both_ways false refl e)
apart_opens_none (Some (n, takes (Bytes port piece now))) e = refl
apart_opens_none (Some (n, hands_out port)) e = refl

unheard_on : {nodes : ℕ} {config : Config} {g h : Group} (went : GroupTrace nodes config g) (step : GroupStep g h) (x : ConnectionName) → (comes_up x step ≡ []) × (goes_down x step ≡ [])
    → IsUnheard went x → IsUnheard (then_went went step) x
unheard_on went step x quiet none = (ap (λ l. l ++ comes_up x step) none.0 ∙ quiet.0, ap (λ l. l ++ goes_down x step) none.1 ∙ quiet.1)

pub group_holds : {nodes : ℕ} {config : Config} (v : ByteWorld) (went : GroupTrace nodes config v.group) (node_call : Option (ℕ × NodeCall)) (d : DoesCall v.group node_call) → is_apart node_call ≡ true → Holds v went
    → Holds (record v { group = d.after }) (then_went went d.step)
group_holds v went node_call d apart h =
    let quiet = is_quiet v.group d.after d.step d.faithful (ap is_apart d.is ∙ apart) in
    let none = apart_opens_none (node_call_of d.step) (ap is_apart d.is ∙ apart) in
    holds_on v (record v { group = d.after }) went (then_went went d.step) h
    (λ k c l κ p has.
    let old : HasPipe v k c l κ p = record { client = has.client; connection = has.connection; pipe = has.pipe } in
    record {
      c = c;
      κ = κ;
      p = p;
      has = old;
      name = refl;
      holds = apart_on went d.step κ p (none_opens d.step p.node p.port none) (quiet κ.name).0 (quiet κ.name).1 (h.each k c l κ p old);
    })
    (λ k c l κ p has.
    record { c = c; later = κ; q = p; has = record { client = has.client; connection = has.connection; pipe = has.pipe }; name = refl; node = refl; port = refl })
    (still_used v d.after went d.step none h) (λ x. by x (quiet x) (h.known x))
  where
    by : (x : ConnectionName) → (comes_up x d.step ≡ []) × (goes_down x d.step ≡ []) → IsUnheard went x ⊎ IsKnown v x → IsUnheard (then_went went d.step) x ⊎ IsKnown v x
    by x quiet (inl none) = inl (unheard_on went d.step x quiet none)
    by x quiet (inr k) = inr k

-- ---- bytes of one connection are carried

port_holds : {nodes : ℕ} {config : Config} (v : ByteWorld) (g : Group) (went : GroupTrace nodes config v.group) (step : GroupStep v.group g) (i j : ℕ) (c later : ClientPipes) (κ : ClientConnection) (p q : Pipe)
    → HasPipe v i c j κ p → ChangedAt c later j κ κ p q → opens_in (node_call_of step) ≡ false
    → ((y : ConnectionName) → (κ.name ≡ y → ⊥) → (comes_up y step ≡ []) × (goes_down y step ≡ [])) → PipeHolds (then_went went step) κ q → Holds v went
    → Holds (with_client i later (record v { group = g })) (then_went went step)
port_holds v g went step i j c later κ p q has change none quiet holds h =
    holds_on v (with_client i later (record v { group = g })) went (then_went went step) h
    (λ k d l ν r now. back k d l ν r (place_back v g i j c later κ κ p q has change k d l ν r now))
    (place_forth v g i j c later κ κ p q has change) (still_used v g went step none h) (λ x. by x (same_connection κ.name x) refl (h.known x))
  where
    back : (k : ℕ) (d : ClientPipes) (l : ℕ) (ν : ClientConnection) (r : Pipe) → Place v i j κ q k l ν r → Came v (then_went went step) k l ν r
    back k d l ν r (mine same at one two) =
        record {
          c = c;
          κ = κ;
          p = p;
          has = record {
            client = ap (slice_get v.clients) same ∙ has.client;
            connection = ap (slice_get c.connections) at ∙ has.connection;
            pipe = ap (slice_get c.pipes) at ∙ has.pipe;
          };
          name = ap (λ (z : ClientConnection). z.name) one;
          holds = subst (λ (z : ClientConnection). PipeHolds (then_went went step) z r) (sym one) (subst (λ (z : Pipe). PipeHolds (then_went went step) κ z) (sym two) holds);
        }
    back k d l ν r (another apart e was) =
        let other : κ.name ≡ ν.name → ⊥ = λ same. let at = h.one i c j κ p k e l ν r has was same in apart (sym at.0, sym at.1) in
        let silent = quiet ν.name other in
        record {
          c = e;
          κ = ν;
          p = r;
          has = was;
          name = refl;
          holds = apart_on went step ν r (none_opens step r.node r.port none) silent.0 silent.1 (h.each k e l ν r was);
        }

    by : (x : ConnectionName) (b : Bool) → same_connection κ.name x ≡ b → IsUnheard went x ⊎ IsKnown v x → IsUnheard (then_went went step) x ⊎ IsKnown v x
    by x b e (inr k) = inr k
    by x true e (inl silent) = inr (record { i = i; c = c; j = j; κ = κ; p = p; has = has; name = same_name κ.name x e })
    by x false e (inl silent) =
        inl (unheard_on went step x (quiet x (λ same. both_ways (same_connection κ.name x) e (ap (same_connection κ.name) (sym same) ∙ same_name_self κ.name))) silent)

same_core : (a b : CoreState) → (let o : Option CoreState = Some a in o) ≡ Some b → a ≡ b
same_core a b e = cc

pub comes_holds : {nodes : ℕ} {config : Config} (v : ByteWorld) (went : GroupTrace nodes config v.group) (i j : ℕ) (c : ClientPipes) (κ : ClientConnection) (p : Pipe) (piece rest : List ℕ) (now : ℕ)
    (d : DoesCall v.group (Some (p.node, takes (Bytes p.port piece now)))) → HasPipe v i c j κ p → p.up ≡ piece ++ rest → Holds v went
    → Holds (with_client i (with_pipe j (record p { up = rest }) c) (record v { group = d.after })) (then_went went d.step)
comes_holds v went i j c κ p piece rest now d has cut h =
    let carried = carries_with v.group d.after d.step p.node (takes (Bytes p.port piece now)) d.faithful d.is in
    let old = h.each i c j κ p has in
    let one = same_core old.placed.core carried.core (sym old.placed.stands ∙ carried.stands) in
    let none : opens_in (node_call_of d.step) ≡ false = ap opens_in d.is in
    port_holds v d.after went d.step i j c (with_pipe j (record p { up = rest }) c) κ p (record p { up = rest }) has
    (set_at c j κ p (record p { up = rest }) has.connection has.pipe refl refl) none
    (λ y other. (carried.up y ∙ others_up κ.name p.port piece now carried.core y (λ e i. old.placed.ports e (subst (λ (k : CoreState). In e k.connections) (sym one) i)) other, carried.down y))
    (record {
      placed = placed_on went d.step κ.name p.node p.port (none_opens d.step p.node p.port none) old.placed;
      up = up_piece went d.step κ.name p.node p.port now piece rest d.is carried old.placed cut old.up;
      down = subst (IsHandled κ.handled p.came p.down) (sym (ap (λ l. went_down κ.name went ++ l) (carried.down κ.name) ∙ append-nil (went_down κ.name went))) old.down;
    }) h

pub goes_holds : {nodes : ℕ} {config : Config} (v : ByteWorld) (went : GroupTrace nodes config v.group) (i j : ℕ) (c : ClientPipes) (κ : ClientConnection) (p : Pipe)
    (d : DoesCall v.group (Some (p.node, hands_out p.port))) → HasPipe v i c j κ p → Holds v went
    → Holds (with_client i (with_pipe j (record p { down = p.down ++ goes_down κ.name d.step }) c) (record v { group = d.after })) (then_went went d.step)
goes_holds v went i j c κ p d has h =
    let carried = carries_with v.group d.after d.step p.node (hands_out p.port) d.faithful d.is in
    let old = h.each i c j κ p has in
    let one = same_core old.placed.core carried.core (sym old.placed.stands ∙ carried.stands) in
    let none : opens_in (node_call_of d.step) ≡ false = ap opens_in d.is in
    let q : Pipe = record p { down = p.down ++ goes_down κ.name d.step } in
    port_holds v d.after went d.step i j c (with_pipe j q c) κ p q has (set_at c j κ p q has.connection has.pipe refl refl) none
    (λ y other. (carried.up y, carried.down y ∙ others_down κ.name p.port carried.core y (λ e i. old.placed.ports e (subst (λ (k : CoreState). In e k.connections) (sym one) i)) other))
    (record {
      placed = placed_on went d.step κ.name p.node p.port (none_opens d.step p.node p.port none) old.placed;
      up = up_on went d.step p.node p.port (comes_up κ.name d.step) (none_opens d.step p.node p.port none) (carried.up κ.name) old.up;
      down = more_down κ.handled p.came p.down (went_down κ.name went) (goes_down κ.name d.step) old.down;
    }) h
