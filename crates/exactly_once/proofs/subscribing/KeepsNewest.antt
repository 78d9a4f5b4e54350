-- The row of shape that the newest connection is served, if its Connect is taken, is kept by every
-- event.
use Rattle.std.proofs.Common.{◌≡◌, ◌≤◌, ℕ, zero, suc, Bool, true, false, ◌||◌, nat_lt, if◌then◌else◌, List, [], ◌∷◌, length, Option, Some, None, is_some, refl, ap, sym, ◌∙◌, subst, ◌⊎◌, inl, inr, arith}
use Rattle.std.specs.Prelude.{slice_get}
use Rattle.std.proofs.lemmas.Bool.{both_ways, cases_Bool}
use Rattle.packet.specs.declared.packet.Packet.TheVariants as packets
use Rattle.broker_spec.specs.Connection.{ConnectionName, same_connection}
use Rattle.broker_spec.specs.Place.{Client, same_client, Mark, Past, Limits}
use Rattle.broker_spec.specs.Sessions.{accepts, current_connection, clean_session_of}
use Rattle.broker_spec.specs.Owner.{clients, owner_of}
use Rattle.broker_spec.specs.Marks.{mark_of, connect_mark}
use Rattle.broker_spec.specs.Commands.{place_of}
use Rattle.broker_spec.specs.declared.command.Command.{Command}
use Rattle.broker_spec.specs.declared.command.Command.TheVariants as commands
use Rattle.broker_spec.proofs.ClientsInOrder.{same_is}
use Rattle.broker_base.proofs.QuietPasts.{no_connection}
use Rattle.client_base.specs.Keeper.{Written}
use Rattle.exactly_once.specs.Sides.{ClientConnection, Side}
use Rattle.client_base.specs.Written.{plain}
use Rattle.client_base.specs.Handled.{packet_handled}
use Rattle.exactly_once.specs.Story.{Story, StoryStep}
use Rattle.exactly_once.specs.StoryCommands.{names_client, command_of, packet_count, with_one_counted}
use Rattle.client_base.specs.Called.{written_for}
use Rattle.client_base.specs.Connected.{new_connection}
use Rattle.client_base.specs.Written.{writes_first}
use Rattle.exactly_once.specs.Story.StoryStep.{takes, others_take, receives, opens_anew, loses, disconnects, publishes_one, subscribes, unsubscribes}
use Rattle.exactly_once.specs.Inside.Shape.{NewestIsServed, HasShape}
use Rattle.exactly_once.specs.Inside.ConnectionShape.{ConnectionInShape}
use Rattle.exactly_once.proofs.subscribing.Counted.{each_at}
use Rattle.exactly_once.proofs.subscribing.Given.{stays_handled}
use Rattle.exactly_once.proofs.subscribing.Newest.{stays_or_none, newest_stays, newest_counted, newest_opened}
use Rattle.exactly_once.proofs.subscribing.events.Opening.{is_new_one}
use Rattle.exactly_once.proofs.subscribing.events.OtherConnects.{at_connect, not_accepted}
use Rattle.exactly_once.proofs.subscribing.places.Owners.{owner_is}
use Rattle.exactly_once.proofs.subscribing.places.Accepted.{accepted_current, served_counted}

-- the row, of a story
abbrev pub IsServed : Story → Type 0
IsServed s = NewestIsServed (current_connection s.past s.keeper.client) s.connections

-- another command opens no connection of the client
not_opened : (limits : Limits) (past : Past) (c : Client) (command : Command) → (names_client past c command → ⊥) → accepts command (mark_of limits past command) c ≡ None
not_opened limits past c (commands.Packet x packet) other = refl
not_opened limits past c (commands.Lost x) other = refl
not_opened limits past c (commands.Start b) other = refl
not_opened limits past c (commands.Expel d) other = refl
not_opened limits past c (commands.Connect x d clean) other = not_accepted x d c clean (mark_of limits past (commands.Connect x d clean)) (by (cases_Bool (same_client d c)))
  where
    by : (same_client d c ≡ true) ⊎ (same_client d c ≡ false) → same_client d c ≡ false
    by (inl e) = absurd (other (same_is d c e))
    by (inr e) = e

-- the first connection with its name and what is taken of it, and the others as they were
newest_first : (current : Option ConnectionName) (κ κ' : ClientConnection) (others : List ClientConnection) → κ'.name ≡ κ.name → κ'.taken ≡ κ.taken → NewestIsServed current (κ ∷ others) → NewestIsServed current (κ' ∷ others)
newest_first None κ κ' others n t h = tt
newest_first (Some x) κ κ' others n t h = λ l e. h (subst (λ (k : ℕ). 1 ≤ k) t l) (ap (same_connection x) (sym n) ∙ e)

-- more is written
newest_writes : (current : Option ConnectionName) (more : List Written) (connections : List ClientConnection) → NewestIsServed current connections → NewestIsServed current (writes_first more connections)
newest_writes None more connections h = tt
newest_writes (Some x) more [] h = h
newest_writes (Some x) more (κ ∷ others) h = h

-- a new connection
newest_new : (current : Option ConnectionName) (κ : ClientConnection) (connections : List ClientConnection) → κ.taken ≡ 0 → NewestIsServed current (κ ∷ connections)
newest_new None κ connections t = tt
newest_new (Some x) κ connections t = λ l e. absurd (omega (arith, l, t))

-- a CONNECT of the client
newest_connect : (limits : Limits) (s : Story) (i : ℕ) (κ : ClientConnection) → HasShape limits s → slice_get s.connections i ≡ Some κ → κ.taken ≡ 0 → κ.confirmed ≡ false
    → NewestIsServed (current_connection (at_connect κ.name s.keeper.client false (connect_mark limits s.past s.keeper.client (owner_of s.past κ.name)) ∷ s.past) s.keeper.client) (with_one_counted i s.connections)
newest_connect limits s i κ shape at taken unconfirmed = by (owner_of s.past κ.name) refl
  where
    goal : Mark → Type 0
    goal mark = NewestIsServed (current_connection (at_connect κ.name s.keeper.client false mark ∷ s.past) s.keeper.client) (with_one_counted i s.connections)

    accepted : goal Mark.Accepted
    accepted = subst (λ (o : Option ConnectionName). NewestIsServed o (with_one_counted i s.connections)) (sym (accepted_current s.past κ.name s.keeper.client)) (newest_opened s.connections i κ shape.names_apart at unconfirmed)

    none_now : current_connection s.past s.keeper.client ≡ None → current_connection (at_connect κ.name s.keeper.client false Mark.Full ∷ s.past) s.keeper.client ≡ None
    none_now e = two (stays_or_none (at_connect κ.name s.keeper.client false Mark.Full) s.past s.keeper.client refl)
      where
        two : (current_connection (at_connect κ.name s.keeper.client false Mark.Full ∷ s.past) s.keeper.client ≡ current_connection s.past s.keeper.client)
            ⊎ (current_connection (at_connect κ.name s.keeper.client false Mark.Full ∷ s.past) s.keeper.client ≡ None)
            → current_connection (at_connect κ.name s.keeper.client false Mark.Full ∷ s.past) s.keeper.client ≡ None
        two (inl f) = f ∙ e
        two (inr f) = f

    turned : (session : Option Bool) → clean_session_of s.past s.keeper.client ≡ session → is_some (clean_session_of s.past s.keeper.client) ≡ false → goal Mark.Full
    turned None e f = subst (λ (o : Option ConnectionName). NewestIsServed o (with_one_counted i s.connections)) (sym (none_now (no_connection s.past s.keeper.client e))) tt
    turned (Some clean) e f = absurd (both_ways true (sym (ap is_some e) ∙ f) refl)

    room : (a b : Bool) → is_some (clean_session_of s.past s.keeper.client) ≡ a → goal (if a || b then Mark.Accepted else Mark.Full)
    room true b e = accepted
    room false true e = accepted
    room false false e = turned (clean_session_of s.past s.keeper.client) refl e

    by : (owner : Option Client) → owner_of s.past κ.name ≡ owner → goal (connect_mark limits s.past s.keeper.client owner)
    by (Some d) e =
        let f = served_counted s.past d κ.name (owner_is s.past κ.name d e) in
        let g : packet_count κ.name s.past ≡ 0 = (each_at (ConnectionInShape limits s.past s.keeper.client) s.connections i κ shape.connections at).counted ∙ taken in
        absurd (omega (arith, f, g))
    by None e = room (is_some (clean_session_of s.past s.keeper.client)) (nat_lt (length (clients s.past)) limits.sessions) refl

-- the next written packet is taken
newest_taken : (limits : Limits) (s : Story) → HasShape limits s → (i : ℕ) (κ : ClientConnection) (w : Written) → slice_get s.connections i ≡ Some κ → slice_get κ.written κ.taken ≡ Some w
    → NewestIsServed (current_connection (place_of limits s.past (command_of κ.name κ.taken w.packet) ∷ s.past) s.keeper.client) (with_one_counted i s.connections)
newest_taken limits s shape i κ w at next = by κ.taken refl
  where
    goal : Command → Type 0
    goal command = NewestIsServed (current_connection (place_of limits s.past command ∷ s.past) s.keeper.client) (with_one_counted i s.connections)

    in_shape : ConnectionInShape limits s.past s.keeper.client κ
    in_shape = each_at (ConnectionInShape limits s.past s.keeper.client) s.connections i κ shape.connections at

    by : (taken : ℕ) → κ.taken ≡ taken → goal (command_of κ.name taken w.packet)
    by zero e =
        let new = is_new_one limits s.past s.keeper.client κ w in_shape e next in
        subst (λ (z : Written). goal (command_of κ.name zero z.packet)) (sym new.first) (newest_connect limits s i κ shape at e new.unconfirmed)
    by (suc n) e =
        newest_stays (current_connection s.past s.keeper.client) (current_connection (place_of limits s.past (commands.Packet κ.name w.packet) ∷ s.past) s.keeper.client) (with_one_counted i s.connections)
        (newest_counted (current_connection s.past s.keeper.client) s.connections i n κ at e shape.newest_is_served)
        (stays_or_none (place_of limits s.past (commands.Packet κ.name w.packet)) s.past s.keeper.client refl)

-- the row is kept
pub keeps_newest : (limits : Limits) (s t : Story) → HasShape limits s → StoryStep limits s t → IsServed t
keeps_newest limits s t shape (takes i κ w at next) = newest_taken limits s shape i κ w at next
keeps_newest limits s t shape (others_take command other fresh) =
    newest_stays (current_connection s.past s.keeper.client) (current_connection (place_of limits s.past command ∷ s.past) s.keeper.client) s.connections shape.newest_is_served
    (stays_or_none (place_of limits s.past command) s.past s.keeper.client (not_opened limits s.past s.keeper.client command other))
keeps_newest limits s t shape (receives κ others packet e is_open next) =
    let side : Side = record { keeper = s.keeper; connection = κ } in
    let st = stays_handled packet side in
    subst (λ (c : Client). NewestIsServed (current_connection s.past c) ((packet_handled packet side).connection ∷ others)) (sym st.client)
    (newest_first (current_connection s.past s.keeper.client) κ (packet_handled packet side).connection others st.name st.taken (subst (NewestIsServed (current_connection s.past s.keeper.client)) e shape.newest_is_served))
keeps_newest limits s t shape (opens_anew x fresh put count) =
    newest_new (current_connection s.past s.keeper.client) (new_connection s.keeper.client x) s.connections refl
keeps_newest limits s t shape loses = shape.newest_is_served
keeps_newest limits s t shape disconnects = by s.keeper.is_online
  where
    by : (b : Bool) → NewestIsServed (current_connection s.past s.keeper.client) (if b then writes_first (plain packets.Disconnect ∷ []) s.connections else s.connections)
    by true = newest_writes (current_connection s.past s.keeper.client) (plain packets.Disconnect ∷ []) s.connections shape.newest_is_served
    by false = shape.newest_is_served
keeps_newest limits s t shape (publishes_one p h) = newest_writes (current_connection s.past s.keeper.client) (written_for p s.keeper) s.connections shape.newest_is_served
keeps_newest limits s t shape (subscribes p on e) = newest_writes (current_connection s.past s.keeper.client) (plain (packets.Subscribe p) ∷ []) s.connections shape.newest_is_served
keeps_newest limits s t shape (unsubscribes p on e) = newest_writes (current_connection s.past s.keeper.client) (plain (packets.Unsubscribe p) ∷ []) s.connections shape.newest_is_served
