-- What every story keeps besides its two handshakes, and when it is sound.
use Rattle.std.specs.Prelude.{◌≡◌, ◌≤◌, ◌⊎◌, Bool, true, false, List, [], ◌∷◌, Option, Some, None}
use Rattle.packet.specs.declared.connack.Connack.TheVariants as connacks
use Rattle.packet.specs.declared.packet.Packet.{Packet}
use Rattle.packet.specs.declared.packet.Packet.TheVariants as packets
use Rattle.lists.specs.Lists.{Each}
use Rattle.broker_spec.specs.Connection.{ConnectionName, same_connection}
use Rattle.broker_spec.specs.Place.{Client, Past, Limits, same_client}
use Rattle.broker_spec.specs.Sessions.{current_connection, clean_session_of}
use Rattle.exactly_once.specs.HandshakeInvariant.{IsGood}
use Rattle.exactly_once.specs.Sends.{put_to}
use Rattle.client_base.specs.Keeper.{Keeper}
use Rattle.exactly_once.specs.Sides.{ClientConnection}
use Rattle.exactly_once.specs.Story.{Story}
use Rattle.exactly_once.specs.StoryCommands.{any_named}
use Rattle.exactly_once.specs.Inside.Projections.{last_confirmed, as_publisher}
use Rattle.exactly_once.specs.Inside.AsSubscriber.{as_subscriber}
use Rattle.exactly_once.specs.Inside.ConnectionShape.{ConnectionInShape}
use Rattle.exactly_once.specs.Inside.OwnShape.{OwnInShape}

-- no two connections have the same name
abbrev pub NamesApart : List ClientConnection → Type 0
NamesApart (connection ∷ connections) =
    (any_named (same_connection connection.name) connections ≡ false) × NamesApart connections
NamesApart [] = Unit {0}

-- a connection that was confirmed, and is not the last one, is not current
abbrev pub LastIsCurrent : Option ConnectionName → List ClientConnection → Type 0
LastIsCurrent None connections = Unit {0}
LastIsCurrent (Some name) connections =
    (any_named (same_connection name) connections ≡ true)
    × Each (λ (connection : ClientConnection). same_connection name connection.name ≡ true →
    connection.confirmed ≡ true → last_confirmed connections ≡ Some connection) connections

-- if the newest one's Connect is taken, no other confirmed one is current
abbrev pub NewestIsServed : Option ConnectionName → List ClientConnection → Type 0
NewestIsServed (Some name) (connection ∷ connections) =
    1 ≤ connection.taken → same_connection name connection.name ≡ false →
    Each (λ (other : ClientConnection). same_connection name other.name ≡ true →
    other.confirmed ≡ false) connections
NewestIsServed _ _ = Unit {0}

-- the first one is open if the client holds one
abbrev pub HeldInShape : Limits → Past → Keeper → List ClientConnection → Type 0
HeldInShape limits past keeper [] = keeper.is_open ≡ false
HeldInShape limits past keeper (connection ∷ connections) =
    (keeper.is_open ≡ true → connection.confirmed ≡ keeper.is_online)
    × (keeper.is_online ≡ true → keeper.is_open ≡ true)
    × (keeper.is_open ≡ true → keeper.is_online ≡ false → keeper.was_served ≡ true →
    Each (λ packet. (packet ≡ packets.Connack (connacks.Accepted false)) → ⊥)
    (put_to limits past connection.name))

-- a CONNACK 0 among the answers means that the client's session exists, and is not clean
abbrev pub IsMeant : Client → Past → Packet → Type 0
IsMeant client past packet =
    (present : Bool) → packet ≡ packets.Connack (connacks.Accepted present) →
    clean_session_of past client ≡ Some false

-- each that is sent to a connection of this name
abbrev pub IsWelcomed : Limits → Past → Client → ConnectionName → Type 0
IsWelcomed limits past client name = Each (IsMeant client past) (put_to limits past name)

-- each packet that is sent to one of these connections is meant for the client
abbrev pub AreWelcomed : Limits → Past → Client → List ClientConnection → Type 0
AreWelcomed limits past client connections =
    Each (λ (connection : ClientConnection). IsWelcomed limits past client connection.name)
    connections

-- all that a story keeps besides the two handshakes
pub record HasShape (limits : Limits) (story : Story) : Type 0 where
  pub own : OwnInShape story.keeper
  pub connections : Each (ConnectionInShape limits story.past story.keeper.client) story.connections
  pub names_apart : NamesApart story.connections
  pub last_is_current :
      LastIsCurrent (current_connection story.past story.keeper.client) story.connections
  pub newest_is_served :
      NewestIsServed (current_connection story.past story.keeper.client) story.connections
  pub nobody_else : (client : Client) (name : ConnectionName) →
      current_connection story.past client ≡ Some name →
      any_named (same_connection name) story.connections ≡ true →
      same_client client story.keeper.client ≡ true
  pub held : HeldInShape limits story.past story.keeper story.connections
  -- a keeper's session is not clean, and exists once it was served; so none of its sessions ends
  pub session : (clean_session_of story.past story.keeper.client ≡ None)
      ⊎ (clean_session_of story.past story.keeper.client ≡ Some false)
  pub welcomed : AreWelcomed limits story.past story.keeper.client story.connections
  pub served : story.keeper.was_served ≡ true →
      clean_session_of story.past story.keeper.client ≡ Some false

-- a story has this shape, and both its handshakes are good
pub record IsSoundStory (limits : Limits) (story : Story) : Type 0 where
  pub shape : HasShape limits story
  pub publisher : IsGood (as_publisher limits story)
  pub subscriber : IsGood (as_subscriber limits story)
