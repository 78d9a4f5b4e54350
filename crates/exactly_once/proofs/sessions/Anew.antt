-- A session that begins again: its story opens the connections of which nothing was taken, and begins there.
use Rattle.std.proofs.Common.{◌≡◌, ℕ, zero, suc, Bool, true, false, List, [], ◌∷◌, None, refl, sym, subst, length}
use Rattle.lists.specs.Lists.{Each, IsDistinct}
use Rattle.packet.specs.declared.connack.Connack.TheVariants as connacks
use Rattle.packet.specs.declared.packet.Packet.{Packet}
use Rattle.packet.specs.declared.packet.Packet.TheVariants as packets
use Rattle.broker_spec.specs.Connection.{same_connection}
use Rattle.broker_spec.specs.Place.{Client, Past, Limits}
use Rattle.broker_spec.specs.Sessions.{clean_session_of}
use Rattle.broker_spec.specs.Commands.{past_of}
use Rattle.broker_spec.specs.declared.command.Command.{Command}
use Rattle.client_base.specs.Keeper.{Own, Keeper, ids_in_use, all_own}
use Rattle.client_base.specs.Connected.{new_connection}
use Rattle.client_base.specs.Handled.{packet_handled}
use Rattle.exactly_once.specs.Sides.{ClientConnection, Side}
use Rattle.exactly_once.specs.Sends.{put_to}
use Rattle.exactly_once.specs.StoryCommands.{packet_count, any_named}
use Rattle.exactly_once.specs.StoryTrace.{StoryTrace, AreQueued, unserved}
use Rattle.exactly_once.specs.StoryTrace.StoryTrace.{begins_at, goes_on}
use Rattle.exactly_once.specs.Story.StoryStep.{opens_anew, loses}
use Rattle.exactly_once.specs.Inside.Shape.{NamesApart}
use Rattle.exactly_once.proofs.sessions.Beside.{kept_of, with_connections, none_kept}
use Rattle.client_base.specs.OrderTheorems.{AreNumbered}

abbrev pub is_zero : ℕ → Bool
is_zero zero = true
is_zero (suc n) = false

-- the connections of which nothing was taken are kept
abbrev pub flags_of : List ClientConnection → List Bool
flags_of (κ ∷ connections) = is_zero κ.taken ∷ flags_of connections
flags_of [] = []

-- one of which nothing was taken is as it was opened
pub record IsUntouched (limits : Limits) (past : Past) (c : Client) (κ : ClientConnection) : Type 0 where
  pub is : κ ≡ new_connection c κ.name
  pub queued : put_to limits past κ.name ≡ []
  pub uncounted : packet_count κ.name past ≡ 0

abbrev pub AreUntouched : Limits → Past → Client → List ClientConnection → Type 0
AreUntouched limits past c = Each (λ (κ : ClientConnection). κ.taken ≡ 0 → IsUntouched limits past c κ)

-- a client that was never served, with a connection or without
abbrev pub waiting : Client → List Own → List Own → Bool → Keeper
waiting c earlier own open_now = record (unserved c earlier own) { is_open = open_now }

-- the story in which these are opened, the oldest first
abbrev Opened : Limits → Past → Client → List Own → List Own → List Bool → List ClientConnection → Type 0
Opened limits past c earlier own flags connections = (open_now : Bool) × StoryTrace limits c (with_connections past (waiting c earlier own open_now) (kept_of flags connections))

one_more : (limits : Limits) (past : Past) (c : Client) (earlier own : List Own) (κ : ClientConnection) (connections : List ClientConnection) → any_named (same_connection κ.name) connections ≡ false
    → IsUntouched limits past c κ → Opened limits past c earlier own (flags_of connections) connections
    → StoryTrace limits c (with_connections past (waiting c earlier own true) (κ ∷ kept_of (flags_of connections) connections))
one_more limits past c earlier own κ connections apart u before =
    subst (λ (z : ClientConnection). StoryTrace limits c (with_connections past (waiting c earlier own true) (z ∷ kept_of (flags_of connections) connections))) (sym u.is)
    (goes_on before.1 (opens_anew κ.name (none_kept (same_connection κ.name) (flags_of connections) connections apart) u.queued u.uncounted))

opens_all : (limits : Limits) (past : Past) (c : Client) (earlier own : List Own) → StoryTrace limits c (with_connections past (unserved c earlier own) []) → (connections : List ClientConnection)
    → AreUntouched limits past c connections → NamesApart connections → Opened limits past c earlier own (flags_of connections) connections
opens_all limits past c earlier own told [] fresh apart = (false, told)
opens_all limits past c earlier own told (κ ∷ connections) fresh apart = by κ.taken refl (opens_all limits past c earlier own told connections fresh.1 apart.1)
  where
    by : (n : ℕ) → κ.taken ≡ n → Opened limits past c earlier own (flags_of connections) connections → Opened limits past c earlier own (is_zero n ∷ flags_of connections) (κ ∷ connections)
    by zero e before = (true, one_more limits past c earlier own κ connections apart.0 (fresh.0 e) before)
    by (suc n) e before = before

-- a session may begin again at the newest connection, whether the client still holds it or not
pub opens_again : (limits : Limits) (list : List Command) (c : Client) (earlier own : List Own) (κ : ClientConnection) (others : List ClientConnection) (held : Bool) → clean_session_of (past_of limits list) c ≡ None → AreNumbered 0 earlier → AreQueued (length earlier) own
    → IsDistinct (ids_in_use (unserved c earlier own)) → AreUntouched limits (past_of limits list) c (κ ∷ others) → NamesApart (κ ∷ others) → κ.taken ≡ 0
    → StoryTrace limits c (with_connections (past_of limits list) (waiting c earlier own held) (κ ∷ kept_of (flags_of others) others))
opens_again limits list c earlier own κ others held none numbers queued apart fresh names new = by held
  where
    past : Past
    past = past_of limits list

    opened : StoryTrace limits c (with_connections past (waiting c earlier own true) (κ ∷ kept_of (flags_of others) others))
    opened = one_more limits past c earlier own κ others names.0 (fresh.0 new) (opens_all limits past c earlier own (begins_at list earlier own none numbers queued apart) others fresh.1 names.1)

    by : (b : Bool) → StoryTrace limits c (with_connections past (waiting c earlier own b) (κ ∷ kept_of (flags_of others) others))
    by true = opened
    by false = goes_on opened loses

-- ---- the CONNACK that says it

-- a CONNACK 0 without session present
abbrev pub session_lost : Packet
session_lost = packets.Connack (connacks.Accepted false)

-- what the client kept makes no difference from then on
pub settles : (keeper : Keeper) (κ : ClientConnection) → keeper.is_online ≡ false → keeper.was_served ≡ true → keeper.requests ≡ [] → keeper.is_open ≡ true
    → packet_handled session_lost (let side : Side = record { keeper = keeper; connection = κ } in side)
    ≡ packet_handled session_lost (let side : Side = record { keeper = waiting keeper.client (all_own keeper) [] true; connection = κ } in side)
settles keeper κ offline served unasked opened = rw (offline, served, unasked, opened) refl
