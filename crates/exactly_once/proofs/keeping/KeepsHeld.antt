-- The row of shape of the connection that the client holds is kept by every event: it is confirmed
-- if the client is online, and if it is not yet, no CONNACK 0 on it says that a session that was
-- there is gone.
use Rattle.std.proofs.Common.{◌≡◌, ℕ, zero, suc, Bool, true, false, not, if◌then◌else◌, List, [], ◌∷◌, Some, refl, ap, ap₂, sym, ◌∙◌, subst, inl, inr}
use Rattle.std.proofs.lemmas.Bool.{both_ways}
use Rattle.packet.specs.declared.connack.Connack.TheVariants as connacks
use Rattle.packet.specs.declared.packet.Packet.{Packet}
use Rattle.packet.specs.declared.packet.Packet.TheVariants as packets
use Rattle.broker_spec.specs.Connection.{ConnectionName}
use Rattle.broker_spec.specs.Place.{Client, Mark, Place, Past, Limits, only_if}
use Rattle.broker_spec.specs.Sessions.{accepts, clean_session_of, is_beginning, begins}
use Rattle.broker_spec.specs.AnswersInOrder.{answers_at}
use Rattle.broker_spec.specs.Commands.{place_of}
use Rattle.broker_spec.specs.declared.command.Command.TheVariants as commands
use Rattle.broker_spec.proofs.ClientsInOrder.{same_self}
use Rattle.lists.specs.Lists.{Each}
use Rattle.lists.proofs.Tests.{or_none}
use Rattle.exactly_once.specs.Sends.{sends_to}
use Rattle.client_base.specs.Keeper.{Own, Written, Keeper}
use Rattle.client_base.specs.declared.request.Request.{Request}
use Rattle.exactly_once.specs.Sides.{ClientConnection, Side}
use Rattle.client_base.specs.Written.{plain}
use Rattle.client_base.specs.Handled.{packet_handled, lost}
use Rattle.exactly_once.specs.Story.{Story, StoryStep}
use Rattle.exactly_once.specs.StoryCommands.{any_named, is_packet_of, command_of, with_one_counted}
use Rattle.client_base.specs.Written.{writes_first}
use Rattle.client_base.specs.Called.{written_for, adds_own}
use Rattle.exactly_once.specs.Story.StoryStep.{takes, others_take, receives, opens_anew, loses, disconnects, publishes_one, subscribes, unsubscribes}
use Rattle.exactly_once.specs.Inside.Shape.{HeldInShape, IsSoundStory}
use Rattle.exactly_once.specs.Inside.ConnectionShape.{is_connack, ConnectionInShape}
use Rattle.exactly_once.proofs.publishing.Last.{each_there}
use Rattle.exactly_once.proofs.subscribing.events.OtherConnects.{at_connect}
use Rattle.exactly_once.proofs.keeping.Connacks.{IsAsked, own_sends, other_sends, put_each}
use Rattle.exactly_once.proofs.keeping.Settled.{IsSettled, settled_handled}

-- no CONNACK 0 that says that no session was there
abbrev pub IsPresent : Packet → Type 0
IsPresent packet = (packet ≡ packets.Connack (connacks.Accepted false)) → ⊥

-- a packet that is no CONNACK 0
asks_present : IsAsked (λ (place : Place) (packet : Packet). IsPresent packet)
asks_present =
    record {
      quiet = λ place packet q e. absurd (both_ways (is_connack packet) q (ap is_connack e));
      refused = λ place e. absurd (cc);
    }

-- an accepted Connect of a client with a session that is not clean says that it was there
says_present : (past : Past) (x : ConnectionName) (c : Client) (mark : Mark) → clean_session_of past c ≡ Some false → mark ≡ Mark.Accepted
    → IsPresent (packets.Connack (connacks.Accepted (not (begins (at_connect x c false mark) past c))))
says_present past x c mark there e f =
    let opened : accepts (commands.Connect x c false) mark c ≡ Some (x, false) =
    ap (λ (m : Mark). accepts (commands.Connect x c false) m c) e ∙ ap (λ b. only_if b (Some (x, false))) (same_self c) in
    let none : begins (at_connect x c false mark) past c ≡ false = ap₂ is_beginning opened there in
    let wrong : packets.Connack (connacks.Accepted true) ≡ packets.Connack (connacks.Accepted false) = sym (ap (λ b. packets.Connack (connacks.Accepted (not b))) none) ∙ f in
    absurd (cc)

-- ---- places

-- if what the first one is sent then is in order
held_placed : (limits : Limits) (place : Place) (past : Past) (keeper : Keeper) (connections : List ClientConnection)
    → (keeper.was_served ≡ true → Each (λ (κ : ClientConnection). Each IsPresent (sends_to κ.name (answers_at limits place past))) connections)
    → HeldInShape limits past keeper connections → HeldInShape limits (place ∷ past) keeper connections
held_placed limits place past keeper [] sends h = h
held_placed limits place past keeper (κ ∷ others) sends h =
    (h.0, h.1, λ opened off served. put_each IsPresent limits place past κ.name (h.2 opened off served) (sends served).0)

-- one more is taken of one
held_counted : (limits : Limits) (past : Past) (keeper : Keeper) (i : ℕ) (connections : List ClientConnection) → HeldInShape limits past keeper connections → HeldInShape limits past keeper (with_one_counted i connections)
held_counted limits past keeper i [] h = h
held_counted limits past keeper zero (κ ∷ others) h = h
held_counted limits past keeper (suc i) (κ ∷ others) h = h

-- of all connections
of_all : (P : ClientConnection → Type 0) (connections : List ClientConnection) → ((κ : ClientConnection) → P κ) → Each P connections
of_all P [] h = tt
of_all P (κ ∷ others) h = (h κ, of_all P others h)

-- of those that a test leaves out
of_others : (P : ClientConnection → Type 0) (test : ConnectionName → Bool) (connections : List ClientConnection) → any_named test connections ≡ false → ((κ : ClientConnection) → test κ.name ≡ false → P κ) → Each P connections
of_others P test [] none h = tt
of_others P test (κ ∷ others) none h = let two = or_none (test κ.name) (any_named test others) none in (h κ two.0, of_others P test others two.1 h)

-- ---- the client

-- it leaves
held_lost : (limits : Limits) (past : Past) (keeper : Keeper) (connections : List ClientConnection) → HeldInShape limits past (lost keeper) connections
held_lost limits past keeper [] = refl
held_lost limits past keeper (κ ∷ others) = (λ e. absurd (both_ways false refl e), λ e. absurd (both_ways false refl e), λ e off served. absurd (both_ways false refl e))

-- it writes more, and keeps other publications and requests
held_written : (limits : Limits) (past : Past) (keeper : Keeper) (own : List Own) (requests : List Request) (more : List Written) (connections : List ClientConnection)
    → HeldInShape limits past keeper connections → HeldInShape limits past (record keeper { own = own; requests = requests }) (writes_first more connections)
held_written limits past keeper own requests more [] h = h
held_written limits past keeper own requests more (κ ∷ others) h = h

-- it handled a packet
held_settled : (limits : Limits) (past : Past) (side : Side) (others : List ClientConnection) → IsSettled side → HeldInShape limits past side.keeper (side.connection ∷ others)
held_settled limits past side others (inl h) = (λ e. h.2 ∙ sym h.1, λ e. h.0, λ e off served. absurd (both_ways side.keeper.is_online off h.1))
held_settled limits past side others (inr h) =
    (λ e. absurd (both_ways side.keeper.is_open h.0 e), λ e. absurd (both_ways side.keeper.is_online h.1 e), λ e off served. absurd (both_ways side.keeper.is_open h.0 e))

-- ---- the events

-- the row is kept
pub events_keep_held : (limits : Limits) (s t : Story) → IsSoundStory limits s → StoryStep limits s t → HeldInShape limits t.past t.keeper t.connections
events_keep_held limits s t sound (takes i κ w stands next) =
    let c = s.keeper.client in
    let place = place_of limits s.past (command_of κ.name κ.taken w.packet) in
    let this = each_there (ConnectionInShape limits s.past c) i s.connections κ stands sound.shape.connections in
    held_counted limits (place ∷ s.past) s.keeper i s.connections
    (held_placed limits place s.past s.keeper s.connections
    (λ served. of_all (λ (μ : ClientConnection). Each IsPresent (sends_to μ.name (answers_at limits place s.past))) s.connections
    (λ μ. own_sends (λ (place : Place) (packet : Packet). IsPresent packet) asks_present limits s.past c κ w μ.name this next
    (λ mark e. says_present s.past κ.name c mark (sound.shape.served served) e))) sound.shape.held)
events_keep_held limits s t sound (others_take command other none) =
    let place = place_of limits s.past command in
    held_placed limits place s.past s.keeper s.connections
    (λ served. of_others (λ (μ : ClientConnection). Each IsPresent (sends_to μ.name (answers_at limits place s.past))) (is_packet_of command) s.connections none
    (λ μ e. other_sends (λ (place : Place) (packet : Packet). IsPresent packet) asks_present limits s.past command μ.name e)) sound.shape.held
events_keep_held limits s t sound (receives κ others packet are opened next) =
    let side : Side = record { keeper = s.keeper; connection = κ } in
    let mine = subst (HeldInShape limits s.past s.keeper) are sound.shape.held in
    held_settled limits s.past (packet_handled packet side) others (settled_handled packet side opened (mine.0 opened))
events_keep_held limits s t sound (opens_anew x fresh none uncounted) =
    (λ e. refl, λ e. absurd (both_ways false refl e), λ e off served. subst (Each IsPresent) (sym none) tt)
events_keep_held limits s t sound loses = held_lost limits s.past s.keeper s.connections
events_keep_held limits s t sound disconnects =
    held_lost limits s.past s.keeper (if s.keeper.is_online then writes_first (plain packets.Disconnect ∷ []) s.connections else s.connections)
events_keep_held limits s t sound (publishes_one p needs) =
    held_written limits s.past s.keeper (adds_own p s.keeper).own s.keeper.requests (written_for p s.keeper) s.connections sound.shape.held
events_keep_held limits s t sound (subscribes p on id) =
    held_written limits s.past s.keeper s.keeper.own t.keeper.requests (plain (packets.Subscribe p) ∷ []) s.connections sound.shape.held
events_keep_held limits s t sound (unsubscribes p on id) =
    held_written limits s.past s.keeper s.keeper.own t.keeper.requests (plain (packets.Unsubscribe p) ∷ []) s.connections sound.shape.held
