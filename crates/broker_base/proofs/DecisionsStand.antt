-- What the state decides of a command is what the past decides.
use Rattle.std.proofs.Common.{◌≡◌, suc, Bool, true, false, ◌||◌, nat_lt, if◌then◌else◌, Option, Some, None, List, [], ◌∷◌, length, filter, refl, ap, ap₂, ◌∙◌}
use Rattle.std.specs.Prelude.{option_map, is_some}
use Rattle.packet.specs.declared.packet.Packet.{Packet}
use Rattle.packet.specs.declared.packet.Packet.TheVariants as packets
use Rattle.session_base.specs.Publication.{publication_of}
use Rattle.broker_spec.specs.Connection.{ConnectionName, same_connection}
use Rattle.broker_spec.specs.Place.{Client, Mark, Past, Limits}
use Rattle.broker_spec.specs.Sessions.{any_connection, current_connection, clean_session_of}
use Rattle.broker_spec.specs.Owner.{named, first_client}
use Rattle.broker_spec.specs.Subscriptions.{subscriptions_of}
use Rattle.broker_spec.specs.Retained.{retained_publications}
use Rattle.broker_spec.specs.Marks.{grants, packet_mark, packet_mark_of, connect_mark, mark_of}
use Rattle.broker_base.specs.ClientSession.{client_session}
use Rattle.broker_base.specs.State.{keyed, table, owner_in, state_of}
use Rattle.broker_base.specs.Decisions.{owned_mark, packet_mark_in, connect_mark_in, mark_in}
use Rattle.broker_spec.specs.declared.command.Command.{Command}
use Rattle.broker_spec.specs.declared.command.Command.TheVariants as commands
use Rattle.broker_base.proofs.KeptAfter.{kept_now}
use Rattle.broker_base.proofs.SessionsAfter.{session_is}
use Rattle.broker_base.proofs.RoomStands.{room_is, refuses_is, again_is}

-- ---- packets

owned_is : (limits : Limits) (past : Past) (c : Client) (clean : Bool) (packet : Packet) →
    owned_mark limits (state_of limits past) (c, kept_now limits past c clean) packet ≡ packet_mark limits past c packet
owned_is limits past c clean (packets.Publish p) =
    ap₂ (λ a b. if a then Mark.Repeat c else (if b then Mark.Refused c else Mark.Taken c)) (again_is limits past c clean p.delivery) (refuses_is limits past (publication_of p))
owned_is limits past c clean (packets.Subscribe s) =
    ap (λ k. Mark.Granted c (grants limits (retained_publications past) (subscriptions_of past c) k s.filters)) (room_is limits past c)
owned_is limits past c clean _ = refl

-- the test of an owner
abbrev pub is_current : Past → ConnectionName → Client → Bool
is_current past x c = any_connection (same_connection x) (current_connection past c)

packet_owner : (limits : Limits) (past : Past) (x : ConnectionName) (packet : Packet) (ds : List Client) →
    packet_mark_in limits (state_of limits past) packet (owner_in x (table (client_session limits past) ds))
    ≡ packet_mark_of limits past packet (first_client (is_current past x) (filter (λ c. is_some (clean_session_of past c)) ds))
packet_owner limits past x packet [] = refl
packet_owner limits past x packet (d ∷ ds) = by (clean_session_of past d) (packet_owner limits past x packet ds)
  where
    hit : (b : Bool) (clean : Bool) →
        packet_mark_in limits (state_of limits past) packet (owner_in x (table (client_session limits past) ds))
        ≡ packet_mark_of limits past packet (first_client (is_current past x) (filter (λ c. is_some (clean_session_of past c)) ds)) →
        packet_mark_in limits (state_of limits past) packet (if b then Some (d, kept_now limits past d clean) else owner_in x (table (client_session limits past) ds))
        ≡ packet_mark_of limits past packet (if b then Some d else first_client (is_current past x) (filter (λ c. is_some (clean_session_of past c)) ds))
    hit true clean e = owned_is limits past d clean packet
    hit false clean e = e

    by : (session : Option Bool) →
        packet_mark_in limits (state_of limits past) packet (owner_in x (table (client_session limits past) ds))
        ≡ packet_mark_of limits past packet (first_client (is_current past x) (filter (λ c. is_some (clean_session_of past c)) ds)) →
        packet_mark_in limits (state_of limits past) packet (owner_in x (keyed d (option_map (kept_now limits past d) session) (table (client_session limits past) ds)))
        ≡ packet_mark_of limits past packet (first_client (is_current past x) (if is_some session then d ∷ filter (λ c. is_some (clean_session_of past c)) ds else filter (λ c. is_some (clean_session_of past c)) ds))
    by None e = e
    by (Some clean) e = hit (is_current past x d) clean e

-- ---- a Connect

table_length : (limits : Limits) (past : Past) (ds : List Client) → length (table (client_session limits past) ds) ≡ length (filter (λ c. is_some (clean_session_of past c)) ds)
table_length limits past [] = refl
table_length limits past (d ∷ ds) = by (clean_session_of past d) (table_length limits past ds)
  where
    by : (session : Option Bool) → length (table (client_session limits past) ds) ≡ length (filter (λ c. is_some (clean_session_of past c)) ds) →
        length (keyed d (option_map (kept_now limits past d) session) (table (client_session limits past) ds))
        ≡ length (if is_some session then d ∷ filter (λ c. is_some (clean_session_of past c)) ds else filter (λ c. is_some (clean_session_of past c)) ds)
    by None e = e
    by (Some clean) e = ap suc e

has_session : (limits : Limits) (past : Past) (c : Client) → is_some (client_session limits past c) ≡ is_some (clean_session_of past c)
has_session limits past c = by (clean_session_of past c)
  where
    by : (session : Option Bool) → is_some (option_map (kept_now limits past c) session) ≡ is_some session
    by None = refl
    by (Some clean) = refl

connect_owner : (limits : Limits) (past : Past) (x : ConnectionName) (c : Client) (ds : List Client) →
    connect_mark_in limits (state_of limits past) c (owner_in x (table (client_session limits past) ds))
    ≡ connect_mark limits past c (first_client (is_current past x) (filter (λ c. is_some (clean_session_of past c)) ds))
connect_owner limits past x c [] =
    ap₂ (λ a k. if a || nat_lt k limits.sessions then Mark.Accepted else Mark.Full)
    (ap is_some (session_is limits past c) ∙ has_session limits past c) (table_length limits past (named past))
connect_owner limits past x c (d ∷ ds) = by (clean_session_of past d) (connect_owner limits past x c ds)
  where
    hit : (b : Bool) (clean : Bool) →
        connect_mark_in limits (state_of limits past) c (owner_in x (table (client_session limits past) ds))
        ≡ connect_mark limits past c (first_client (is_current past x) (filter (λ c. is_some (clean_session_of past c)) ds)) →
        connect_mark_in limits (state_of limits past) c (if b then Some (d, kept_now limits past d clean) else owner_in x (table (client_session limits past) ds))
        ≡ connect_mark limits past c (if b then Some d else first_client (is_current past x) (filter (λ c. is_some (clean_session_of past c)) ds))
    hit true clean e = refl
    hit false clean e = e

    by : (session : Option Bool) →
        connect_mark_in limits (state_of limits past) c (owner_in x (table (client_session limits past) ds))
        ≡ connect_mark limits past c (first_client (is_current past x) (filter (λ c. is_some (clean_session_of past c)) ds)) →
        connect_mark_in limits (state_of limits past) c (owner_in x (keyed d (option_map (kept_now limits past d) session) (table (client_session limits past) ds)))
        ≡ connect_mark limits past c (first_client (is_current past x) (if is_some session then d ∷ filter (λ c. is_some (clean_session_of past c)) ds else filter (λ c. is_some (clean_session_of past c)) ds))
    by None e = e
    by (Some clean) e = hit (is_current past x d) clean e

-- ---- every command

pub mark_is : (limits : Limits) (past : Past) (command : Command) → mark_in limits (state_of limits past) command ≡ mark_of limits past command
mark_is limits past (commands.Packet x packet) = packet_owner limits past x packet (named past)
mark_is limits past (commands.Connect x c clean) = connect_owner limits past x c (named past)
mark_is limits past (commands.Lost x) = refl
mark_is limits past (commands.Start ballot) = refl
mark_is limits past (commands.Expel c) = refl
