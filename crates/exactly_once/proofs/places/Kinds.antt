-- A client's connection and received identifiers after one more place, for each kind of command.
use Rattle.std.proofs.Common.{◌≡◌, ℕ, Bool, true, false, ◌&&◌, if◌then◌else◌, List, ◌∷◌, Option, Some, None, refl, ap, ◌∙◌, inr}
use Rattle.packet.specs.declared.publish.Publish.{Publish}
use Rattle.packet.specs.declared.packet.Packet.{Packet}
use Rattle.packet.specs.declared.packet.Packet.TheVariants as packets
use Rattle.broker_spec.specs.Connection.{ConnectionName, same_connection}
use Rattle.broker_spec.specs.Place.{Client, Mark, Place, Past, Limits, only_if}
use Rattle.broker_spec.specs.Sessions.{accepts, any_connection, expels, ends_any, is_leaving, current_connection, clean_session_of}
use Rattle.broker_spec.specs.Received.{receives, received_by, received_of}
use Rattle.session_base.specs.Identifiers.{without_id}
use Rattle.broker_spec.specs.Marks.{packet_mark, packet_mark_of}
use Rattle.broker_spec.specs.Commands.{place_of}
use Rattle.broker_spec.specs.declared.command.Command.TheVariants as commands
use Rattle.broker_spec.proofs.ClientsInOrder.{same_self}
use Rattle.exactly_once.specs.Sides.{ClientConnection}
use Rattle.exactly_once.specs.StoryCommands.{any_named}
use Rattle.exactly_once.proofs.Packets.{at_packet}
use Rattle.broker_spec.proofs.ConnectionNames.{same_itself}
use Rattle.exactly_once.proofs.places.After.{IsKeptSession, current_stays, current_ends, current_opens, session_stays, session_opens, received_live, received_stays, received_opens}
use Rattle.exactly_once.proofs.places.Owned.{NobodyElse, none_owns, own_owner}

-- what comes after a place
pub record Behind (place : Place) (past : Past) (c : Client) (connection : Option ConnectionName) (session : Option Bool) (received : List ℕ) : Type 0 where
  pub connection_is : current_connection (place ∷ past) c ≡ connection
  pub session_is : clean_session_of (place ∷ past) c ≡ session
  pub received_is : received_of (place ∷ past) c ≡ received

-- all is as it was
abbrev pub IsAsBefore : Place → Past → Client → Type 0
IsAsBefore place past c = Behind place past c (current_connection past c) (clean_session_of past c) (received_of past c)

-- the connection is over, the rest as it was
abbrev pub IsOver : Place → Past → Client → Type 0
IsOver place past c = Behind place past c None (clean_session_of past c) (received_of past c)

-- ---- any command

-- one that opens nothing for the client, and receives nothing
pub as_before : (place : Place) (past : Past) (c : Client) → accepts place.command place.mark c ≡ None → expels place.command c ≡ false → IsKeptSession (clean_session_of past c)
    → received_by place.command place.mark c (received_of past c) ≡ received_of past c → ends_any place c (current_connection past c) ≡ false → IsAsBefore place past c
as_before place past c opens spared kept same on =
    record { connection_is = current_stays place past c opens on; session_is = session_stays place past c opens spared kept; received_is = received_stays place past c opens spared kept same }

pub is_over : (place : Place) (past : Past) (c : Client) → accepts place.command place.mark c ≡ None → expels place.command c ≡ false → IsKeptSession (clean_session_of past c)
    → received_by place.command place.mark c (received_of past c) ≡ received_of past c → ends_any place c (current_connection past c) ≡ true → IsOver place past c
is_over place past c opens spared kept same over =
    record { connection_is = current_ends place past c opens over; session_is = session_stays place past c opens spared kept; received_is = received_stays place past c opens spared kept same }

-- ---- the client's own Connect

-- accepted
pub after_connect : (past : Past) (c : Client) (x : ConnectionName) → IsKeptSession (clean_session_of past c)
    → Behind (record { command = commands.Connect x c false; mark = Mark.Accepted }) past c (Some x) (Some false) (received_of past c)
after_connect past c x kept =
    let place : Place = record { command = commands.Connect x c false; mark = Mark.Accepted } in
    let opened = ap (λ b. only_if b (Some (x, false))) (same_self c) in
    record {
      connection_is = current_opens place past c (x, false) opened;
      session_is = session_opens place past c (x, false) opened;
      received_is = received_opens place past c x opened kept refl;
    }

-- ---- a packet on the client's current connection

-- its mark
pub own_mark : (limits : Limits) (past : Past) (c : Client) (connections : List ClientConnection) (x : ConnectionName) (packet : Packet) → NobodyElse past c connections
    → any_named (same_connection x) connections ≡ true → current_connection past c ≡ Some x
    → place_of limits past (commands.Packet x packet) ≡ at_packet x packet (packet_mark limits past c packet)
own_mark limits past c connections x packet nobody named current =
    ap (λ o. at_packet x packet (packet_mark_of limits past packet o)) (own_owner past c connections x nobody named current)

-- and of one that is not current
pub nobodys_mark : (limits : Limits) (past : Past) (c : Client) (connections : List ClientConnection) (x : ConnectionName) (packet : Packet) → NobodyElse past c connections
    → any_named (same_connection x) connections ≡ true → (current_connection past c ≡ Some x → ⊥) → place_of limits past (commands.Packet x packet) ≡ at_packet x packet Mark.Unmarked
nobodys_mark limits past c connections x packet nobody named not =
    ap (λ o. at_packet x packet (packet_mark_of limits past packet o)) (none_owns past c connections x nobody named not)

-- whether it ends the connection
pub own_ends : (past : Past) (c : Client) (x : ConnectionName) (packet : Packet) (mark : Mark) → current_connection past c ≡ Some x
    → ends_any (at_packet x packet mark) c (current_connection past c) ≡ is_leaving mark
own_ends past c x packet mark current =
    ap (any_connection (λ y. same_connection x y && is_leaving mark)) current ∙ ap (λ b. b && is_leaving mark) (same_itself x)

-- a packet that stays
pub after_packet : (past : Past) (c : Client) (x : ConnectionName) (packet : Packet) (mark : Mark) → current_connection past c ≡ Some x → clean_session_of past c ≡ Some false → is_leaving mark ≡ false
    → Behind (at_packet x packet mark) past c (Some x) (Some false) (received_by (commands.Packet x packet) mark c (received_of past c))
after_packet past c x packet mark current live staying =
    let place = at_packet x packet mark in
    record {
      connection_is = current_stays place past c refl (own_ends past c x packet mark current ∙ staying) ∙ current;
      session_is = session_stays place past c refl refl (inr live) ∙ live;
      received_is = received_live place past c refl refl live;
    }

-- a new publication at QoS 2
pub after_taken : (past : Past) (c : Client) (x : ConnectionName) (p : Publish) → current_connection past c ≡ Some x → clean_session_of past c ≡ Some false
    → Behind (at_packet x (packets.Publish p) (Mark.Taken c)) past c (Some x) (Some false) (receives p.delivery (received_of past c))
after_taken past c x p current live =
    let b = after_packet past c x (packets.Publish p) (Mark.Taken c) current live refl in
    record {
      connection_is = b.connection_is;
      session_is = b.session_is;
      received_is = b.received_is ∙ ap (λ z. if z then receives p.delivery (received_of past c) else received_of past c) (same_self c);
    }

-- a PUBREL
pub after_pubrel : (past : Past) (c : Client) (x : ConnectionName) (id : ℕ) → current_connection past c ≡ Some x → clean_session_of past c ≡ Some false
    → Behind (at_packet x (packets.Pubrel id) (Mark.Handled c)) past c (Some x) (Some false) (without_id id (received_of past c))
after_pubrel past c x id current live =
    let b = after_packet past c x (packets.Pubrel id) (Mark.Handled c) current live refl in
    record {
      connection_is = b.connection_is;
      session_is = b.session_is;
      received_is = b.received_is ∙ ap (λ z. if z then without_id id (received_of past c) else received_of past c) (same_self c);
    }

-- ---- the connection is lost, and a new ballot

pub after_lost : (past : Past) (c : Client) (x : ConnectionName) → IsKeptSession (clean_session_of past c) → any_connection (same_connection x) (current_connection past c) ≡ true
    → IsOver (record { command = commands.Lost x; mark = Mark.Unmarked }) past c
after_lost past c x kept over = is_over (record { command = commands.Lost x; mark = Mark.Unmarked }) past c refl refl kept refl over

pub after_start : (past : Past) (c : Client) (ballot : ℕ) → IsKeptSession (clean_session_of past c) → IsOver (record { command = commands.Start ballot; mark = Mark.Unmarked }) past c
after_start past c ballot kept = by (current_connection past c) refl
  where
    place : Place
    place = record { command = commands.Start ballot; mark = Mark.Unmarked }

    by : (o : Option ConnectionName) → current_connection past c ≡ o → IsOver (record { command = commands.Start ballot; mark = Mark.Unmarked }) past c
    by (Some y) e = is_over place past c refl refl kept refl (ap (ends_any place c) e)
    by None e =
        record {
          connection_is = current_stays place past c refl (ap (ends_any place c) e) ∙ e;
          session_is = session_stays place past c refl refl kept;
          received_is = received_stays place past c refl refl kept refl;
        }
