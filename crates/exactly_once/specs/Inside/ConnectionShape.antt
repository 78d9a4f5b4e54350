-- What one connection of every story keeps, besides the two handshakes.
use Rattle.std.specs.Prelude.{◌≡◌, ◌≤◌, ℕ, zero, suc, Bool, true, false, List, [], ◌∷◌, length, Option, None}
use Rattle.packet.specs.declared.packet.Packet.{Packet}
use Rattle.packet.specs.declared.packet.Packet.TheVariants as packets
use Rattle.lists.specs.Lists.{Each}
use Rattle.broker_spec.specs.Place.{Client, Past, Limits}
use Rattle.broker_spec.specs.Received.{is_exactly_once}
use Rattle.exactly_once.specs.Sends.{put_to}
use Rattle.client_base.specs.Keeper.{Written}
use Rattle.exactly_once.specs.Sides.{ClientConnection}
use Rattle.exactly_once.specs.StoryCommands.{packet_count}
use Rattle.client_base.specs.Connected.{opening_connect}
use Rattle.exactly_once.specs.Inside.Projections.{backward_of_own}

-- whether a packet is a CONNACK
abbrev pub is_connack : Packet → Bool
is_connack (packets.Connack connack) = true
is_connack _ = false

-- none of these packets is a CONNACK
abbrev pub no_connacks : List Packet → Type 0
no_connacks = Each (λ packet. is_connack packet ≡ false)

-- its answers begin with a CONNACK, and have no other; before its Connect is taken there are none
abbrev pub ConnackFirst : ℕ → List Packet → Type 0
ConnackFirst zero put = put ≡ []
ConnackFirst (suc taken) [] = ⊥
ConnackFirst (suc taken) (first ∷ put) = (is_connack first ≡ true) × no_connacks put

-- whether a written packet is a CONNECT
abbrev pub is_connect : Written → Bool
is_connect written = by written.packet
  where
    by : Packet → Bool
    by (packets.Connect connect) = true
    by _ = false

-- a PUBLISH of QoS 2 for which it is not known which publication it carries
abbrev pub is_two_unnumbered : Packet → Option ℕ → Bool
is_two_unnumbered (packets.Publish publish) None = is_exactly_once publish.delivery
is_two_unnumbered _ _ = false

-- the counts, the order and the first packets of one connection are as they have to be
pub record ConnectionInShape (limits : Limits) (past : Past) (client : Client)
    (connection : ClientConnection) : Type 0 where
  pub more : List Written
  pub written : connection.written ≡ opening_connect client ∷ more
  pub one_connect : Each (λ one. is_connect one ≡ false) more
  pub silent : connection.confirmed ≡ false → more ≡ []
  pub counted : packet_count connection.name past ≡ connection.taken
  pub within : connection.taken ≤ length connection.written
  pub handled_within : connection.handled ≤ length (put_to limits past connection.name)
  pub numbers_known :
      Each (λ one. is_two_unnumbered one.packet one.number ≡ false) connection.written
  pub connack_first : ConnackFirst connection.taken (put_to limits past connection.name)
  pub asks_first : connection.taken ≤ 1 → backward_of_own (put_to limits past connection.name) ≡ []
  pub handled_some : connection.confirmed ≡ true → 1 ≤ connection.handled
