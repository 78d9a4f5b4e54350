-- Each event keeps what is sent to a connection of the client: a CONNACK first, no other, and no PUBREC or PUBCOMP before a second packet is taken.
use Rattle.std.proofs.Common.{◌≡◌, ◌≤◌, ℕ, zero, suc, Bool, true, false, if◌then◌else◌, List, [], ◌∷◌, ◌++◌, Some, refl, ap, sym, ◌∙◌, subst, Option, None}
use Rattle.std.specs.Prelude.{slice_get}
use Rattle.std.proofs.lemmas.List.{append-nil}
use Rattle.packet.specs.declared.packet.Packet.{Packet}
use Rattle.packet.specs.declared.packet.Packet.TheVariants as packets
use Rattle.broker_spec.specs.Connection.{ConnectionName, same_connection}
use Rattle.broker_spec.specs.Place.{Place, Past, Limits}
use Rattle.broker_spec.specs.Answers.{answers_by, close_outputs}
use Rattle.broker_spec.specs.AnswersInOrder.{answers_at}
use Rattle.broker_spec.specs.Commands.{place_of}
use Rattle.broker_spec.specs.declared.command.Command.{Command}
use Rattle.broker_spec.specs.declared.command.Command.TheVariants as commands
use Rattle.broker_base.proofs.ConnectionsOfSessions.{same_turned}
use Rattle.lists.specs.Lists.{Each}
use Rattle.lists.proofs.OfEach.{each_then}
use Rattle.exactly_once.specs.Sends.{sends_to, put_to}
use Rattle.client_base.specs.Keeper.{Written}
use Rattle.exactly_once.specs.Sides.{ClientConnection}
use Rattle.client_base.specs.Written.{plain}
use Rattle.client_base.specs.Handled.{packet_handled}
use Rattle.exactly_once.specs.Story.{Story, StoryStep}
use Rattle.exactly_once.specs.StoryCommands.{is_packet_of, packet_count, command_of, with_one_counted, any_named}
use Rattle.client_base.specs.Written.{writes_first}
use Rattle.client_base.specs.Called.{written_for}
use Rattle.exactly_once.specs.Story.StoryStep.{takes, others_take, receives, opens_anew, loses, disconnects, publishes_one, subscribes, unsubscribes}
use Rattle.exactly_once.specs.Inside.Projections.{backward_of_own}
use Rattle.exactly_once.specs.Inside.Shape.{NamesApart, HasShape}
use Rattle.exactly_once.specs.Inside.ConnectionShape.{ConnackFirst, ConnectionInShape}
use Rattle.exactly_once.proofs.publishing.AtPlaces.{put_more}
use Rattle.exactly_once.proofs.publishing.Elsewhere.{NoneSent, connect_none}
use Rattle.exactly_once.proofs.publishing.PacketAnswers.{packet_none}
use Rattle.exactly_once.proofs.publishing.Written.{backward_both}
use Rattle.exactly_once.proofs.publishing.Last.{each_there, none_named, taken_more}
use Rattle.exactly_once.proofs.publishing.Grown.{handled_grows}
use Rattle.exactly_once.proofs.connections.GoRight.{not_its_connect, place_no_connack, place_nothing}
use Rattle.exactly_once.proofs.connections.Opens.{FirstOf, connack_more, own_first}
use Rattle.broker_spec.specs.Sessions.{current_connection}

-- ---- a place of another connection

-- it sends nothing of the handshake here
place_none : (limits : Limits) (place : Place) (past : Past) (y : ConnectionName) → is_packet_of place.command y ≡ false → NoneSent y (answers_at limits place past)
place_none limits place past y = by place.command
  where
    by : (command : Command) → is_packet_of command y ≡ false → NoneSent y (answers_by limits place past command place.mark)
    by (commands.Packet x packet) e = packet_none y limits place past x packet place.mark (λ h. same_turned y x ∙ e)
    by (commands.Connect x c clean) e = connect_none y limits place past x c place.mark
    by (commands.Lost x) e = refl
    by (commands.Start b) e = refl
    by (commands.Expel d) e = closes (current_connection past d)
      where
        closes : (o : Option ConnectionName) → NoneSent y (close_outputs o)
        closes None = refl
        closes (Some x) = refl

-- what a connection keeps
abbrev pub KeptFirst : Limits → Past → ClientConnection → Type 0
KeptFirst limits past κ = (packet_count κ.name past ≡ κ.taken) × FirstOf limits past κ

-- so it keeps its rows
first_other : (limits : Limits) (place : Place) (past : Past) (κ : ClientConnection) → is_packet_of place.command κ.name ≡ false → KeptFirst limits past κ → FirstOf limits (place ∷ past) κ
first_other limits place past κ other r =
    record {
      connack_first = subst (ConnackFirst κ.taken) (sym (put_more limits place past κ.name)) (by κ.taken r.0 r.1.connack_first);
      asks_first = λ few. ap backward_of_own (put_more limits place past κ.name) ∙ backward_both put sends ∙ ap (λ l. l ++ backward_of_own sends) (r.1.asks_first few)
          ∙ place_none limits place past κ.name other;
    }
  where
    put : List Packet
    put = put_to limits past κ.name

    sends : List Packet
    sends = sends_to κ.name (answers_at limits place past)

    by : (n : ℕ) → packet_count κ.name past ≡ n → ConnackFirst n put → ConnackFirst n (put ++ sends)
    by zero e h = ap (λ l. put ++ l) (place_nothing limits place past κ.name other e) ∙ append-nil put ∙ h
    by (suc n) e h = connack_more n n put sends h (place_no_connack limits place past κ.name (not_its_connect place.command κ.name other))

-- and each does
each_other : (limits : Limits) (place : Place) (past : Past) (connections : List ClientConnection) → any_named (is_packet_of place.command) connections ≡ false → Each (KeptFirst limits past) connections
    → Each (FirstOf limits (place ∷ past)) connections
each_other limits place past connections e rows = both connections (none_named (is_packet_of place.command) connections e) rows
  where
    both : (cs : List ClientConnection) → Each (λ (κ : ClientConnection). is_packet_of place.command κ.name ≡ false) cs → Each (KeptFirst limits past) cs → Each (FirstOf limits (place ∷ past)) cs
    both [] n r = tt
    both (κ ∷ cs) n r = (first_other limits place past κ n.0 r.0, both cs n.1 r.1)

-- ---- the next packet of one of them

-- it is one of them, and the place is not of one of the others
first_taken : (limits : Limits) (place : Place) (past : Past) (i : ℕ) (connections : List ClientConnection) (κ : ClientConnection) → ((y : ConnectionName) → is_packet_of place.command y ≡ same_connection κ.name y)
    → NamesApart connections → slice_get connections i ≡ Some κ → FirstOf limits (place ∷ past) (taken_more κ) → Each (KeptFirst limits past) connections
    → Each (FirstOf limits (place ∷ past)) (with_one_counted i connections)
first_taken limits place past i [] κ is apart stands own rows = tt
first_taken limits place past zero (μ ∷ connections) κ is apart stands own rows =
    let same : κ ≡ μ = cc in (
      subst (λ (ν : ClientConnection). FirstOf limits (place ∷ past) (taken_more ν)) same own,
      each_other limits place past connections
          (ap (λ (test : ConnectionName → Bool). any_named test connections) (λ j y. (is y ∙ ap (λ (ν : ClientConnection). same_connection ν.name y) same) j) ∙ apart.0) rows.1,
    )
first_taken limits place past (suc i) (μ ∷ connections) κ is apart stands own rows =
    let other = each_there (λ (ν : ClientConnection). same_connection μ.name ν.name ≡ false) i connections κ stands (none_named (same_connection μ.name) connections apart.0) in
    (first_other limits place past μ (is μ.name ∙ same_turned κ.name μ.name ∙ other) rows.0, first_taken limits place past i connections κ is apart.1 stands own rows.1)

-- its command is of its connection
command_named : (x y : ConnectionName) (n : ℕ) (packet : Packet) → is_packet_of (command_of x n packet) y ≡ same_connection x y
command_named x y zero (packets.Connect q) = refl
command_named x y zero _ = refl
command_named x y (suc n) packet = refl

-- ---- every event

-- of a sound story
first_of : (limits : Limits) (s : Story) → HasShape limits s → Each (FirstOf limits s.past) s.connections
first_of limits s shape =
    each_then (ConnectionInShape limits s.past s.keeper.client) (FirstOf limits s.past) s.connections (λ κ r. record { connack_first = r.connack_first; asks_first = r.asks_first }) shape.connections

-- with how many packets of it are taken
kept_of : (limits : Limits) (s : Story) → HasShape limits s → Each (KeptFirst limits s.past) s.connections
kept_of limits s shape =
    each_then (ConnectionInShape limits s.past s.keeper.client) (KeptFirst limits s.past) s.connections (λ κ r. (r.counted, record { connack_first = r.connack_first; asks_first = r.asks_first })) shape.connections

-- what is written is no matter
first_written : (limits : Limits) (past : Past) (more : List Written) (connections : List ClientConnection) → Each (FirstOf limits past) connections → Each (FirstOf limits past) (writes_first more connections)
first_written limits past more [] rows = tt
first_written limits past more (κ ∷ connections) rows = (record { connack_first = rows.0.connack_first; asks_first = rows.0.asks_first }, rows.1)

-- nor what is handled
first_same : (limits : Limits) (past : Past) (κ after : ClientConnection) → after.name ≡ κ.name → after.taken ≡ κ.taken → FirstOf limits past κ → FirstOf limits past after
first_same limits past κ after name taken r =
    record {
      connack_first = subst (λ (x : ConnectionName). ConnackFirst after.taken (put_to limits past x)) (sym name) (subst (λ (n : ℕ). ConnackFirst n (put_to limits past κ.name)) (sym taken) r.connack_first);
      asks_first = λ few. ap (λ x. backward_of_own (put_to limits past x)) name ∙ r.asks_first (subst (λ (n : ℕ). n ≤ 1) taken few);
    }

-- the rows are kept by every event
pub events_keep_first : (limits : Limits) (s t : Story) → HasShape limits s → StoryStep limits s t → Each (FirstOf limits t.past) t.connections
events_keep_first limits s t shape (takes i κ w stands next) =
    let this = each_there (ConnectionInShape limits s.past s.keeper.client) i s.connections κ stands shape.connections in
    first_taken limits (place_of limits s.past (command_of κ.name κ.taken w.packet)) s.past i s.connections κ (λ y. command_named κ.name y κ.taken w.packet) shape.names_apart stands
    (own_first limits s.past s.keeper.client κ w this next) (kept_of limits s shape)
events_keep_first limits s t shape (others_take command other none) = each_other limits (place_of limits s.past command) s.past s.connections none (kept_of limits s shape)
events_keep_first limits s t shape (receives κ others packet are opened next) =
    let mine = subst (Each (FirstOf limits s.past)) are (first_of limits s shape) in
    let grown = handled_grows κ s.keeper packet in
    (first_same limits s.past κ (packet_handled packet (record { keeper = s.keeper; connection = κ })).connection grown.name grown.taken mine.0, mine.1)
events_keep_first limits s t shape (opens_anew x fresh none uncounted) = (record { connack_first = none; asks_first = λ few. ap backward_of_own none }, first_of limits s shape)
events_keep_first limits s t shape loses = first_of limits s shape
events_keep_first limits s t shape disconnects = by s.keeper.is_online
  where
    by : (b : Bool) → Each (FirstOf limits s.past) (if b then writes_first (plain packets.Disconnect ∷ []) s.connections else s.connections)
    by true = first_written limits s.past (plain packets.Disconnect ∷ []) s.connections (first_of limits s shape)
    by false = first_of limits s shape
events_keep_first limits s t shape (publishes_one p needs) = first_written limits s.past (written_for p s.keeper) s.connections (first_of limits s shape)
events_keep_first limits s t shape (subscribes p on id) = first_written limits s.past (plain (packets.Subscribe p) ∷ []) s.connections (first_of limits s shape)
events_keep_first limits s t shape (unsubscribes p on id) = first_written limits s.past (plain (packets.Unsubscribe p) ∷ []) s.connections (first_of limits s shape)
