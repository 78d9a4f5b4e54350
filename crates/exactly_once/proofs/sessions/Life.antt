-- What holds for a client's life at any time, whichever of its sessions lasts.
use Rattle.std.proofs.Common.{◌≡◌, Bool, true, false, List, [], ◌∷◌, None, ◌≤◌, length}
use Rattle.packet.specs.declared.connack.Connack.TheVariants as connacks
use Rattle.packet.specs.declared.packet.Packet.{Packet}
use Rattle.packet.specs.declared.packet.Packet.TheVariants as packets
use Rattle.lists.specs.Lists.{Each, IsDistinct}
use Rattle.broker_spec.specs.Place.{Client, Past, Limits}
use Rattle.broker_spec.specs.Sessions.{clean_session_of}
use Rattle.broker_spec.specs.Commands.{past_of}
use Rattle.broker_spec.specs.declared.command.Command.{Command}
use Rattle.client_base.specs.Keeper.{Keeper, ids_in_use}
use Rattle.exactly_once.specs.Sides.{ClientConnection}
use Rattle.exactly_once.specs.Sends.{put_to}
use Rattle.exactly_once.specs.Story.{Story}
use Rattle.exactly_once.specs.StoryCommands.{packet_count}
use Rattle.exactly_once.specs.StoryTrace.{AreQueued, unserved}
use Rattle.client_base.specs.Connected.{opening_connect}
use Rattle.client_base.proofs.NumbersStay.{AreAllNumbered}
use Rattle.exactly_once.specs.InStep.{has_begun, opened_in}
use Rattle.exactly_once.specs.Inside.Shape.{NamesApart}
use Rattle.exactly_once.proofs.places.After.{IsKeptSession}
use Rattle.exactly_once.proofs.places.Owned.{NobodyElse}
use Rattle.exactly_once.proofs.sessions.Anew.{AreUntouched, waiting}

-- ---- what is sent

-- a CONNACK 0
abbrev pub is_welcome : Packet → Bool
is_welcome (packets.Connack (connacks.Accepted present)) = true
is_welcome _ = false

abbrev pub NoneWelcome : List Packet → Type 0
NoneWelcome = Each (λ packet. is_welcome packet ≡ false)

-- ---- connections

-- one whose Connect was not accepted is sent no CONNACK 0, so nothing is accepted on it
pub record IsShut (limits : Limits) (past : Past) (κ : ClientConnection) : Type 0 where
  pub unconfirmed : κ.confirmed ≡ false
  pub nothing : κ.accepted ≡ []
  pub unwelcome : NoneWelcome (put_to limits past κ.name)

abbrev pub IsShutUnopened : Limits → Past → Client → ClientConnection → Type 0
IsShutUnopened limits past c κ = opened_in past c κ.name ≡ None → IsShut limits past κ

abbrev pub AreShutUnopened : Limits → Past → Client → List ClientConnection → Type 0
AreShutUnopened limits past c = Each (IsShutUnopened limits past c)

-- as many of its packets are in the list as were taken of those that it wrote
pub record IsCounted (past : Past) (κ : ClientConnection) : Type 0 where
  pub counted : packet_count κ.name past ≡ κ.taken
  pub within : κ.taken ≤ length κ.written

-- the first one is open if the client holds one, and confirmed if it is online
abbrev pub IsHeld : Keeper → List ClientConnection → Type 0
IsHeld keeper [] = (keeper.is_open ≡ false) × (keeper.is_online ≡ false)
IsHeld keeper (κ ∷ connections) = (keeper.is_open ≡ true → κ.confirmed ≡ keeper.is_online) × (keeper.is_online ≡ true → keeper.is_open ≡ true)

-- ---- the client

-- one that was never served has only what it did not send
pub record IsUnserved (c : Client) (keeper : Keeper) : Type 0 where
  pub is : keeper ≡ waiting c [] keeper.own keeper.is_open
  pub queued : AreQueued 0 keeper.own
  pub apart : IsDistinct (ids_in_use (unserved c [] keeper.own))

-- of its connections
pub record HasConnections (limits : Limits) (c : Client) (past : Past) (connections : List ClientConnection) : Type 0 where
  pub names : NamesApart connections
  pub untouched : AreUntouched limits past c connections
  pub shut : AreShutUnopened limits past c connections
  pub nobody : NobodyElse past c connections
  pub counted : Each (IsCounted past) connections

-- of the client itself
pub record HasKeeper (c : Client) (past : Past) (keeper : Keeper) (connections : List ClientConnection) : Type 0 where
  pub client : keeper.client ≡ c
  pub held : IsHeld keeper connections
  pub unserved : keeper.was_served ≡ false → IsUnserved c keeper
  pub silent : keeper.was_served ≡ false → Each (λ (κ : ClientConnection). κ.written ≡ opening_connect c ∷ []) connections
  pub numbers : AreAllNumbered keeper
  pub unasked : keeper.is_online ≡ false → keeper.requests ≡ []
  pub begun : keeper.was_served ≡ true → has_begun past c ≡ true

pub record IsLife (limits : Limits) (c : Client) (s : Story) : Type 0 where
  pub list : List Command
  pub past_is : s.past ≡ past_of limits list
  pub session : IsKeptSession (clean_session_of s.past c)
  pub connections : HasConnections limits c s.past s.connections
  pub keeper : HasKeeper c s.past s.keeper s.connections
