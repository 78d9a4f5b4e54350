-- What a client does to a packet does not depend on how much of what it wrote is counted as taken.
use Rattle.std.proofs.Common.{◌≡◌, ℕ, suc, Bool, true, false, not, ◌&&◌, if◌then◌else◌, [], ◌∷◌, ◌++◌, map, refl, ap, sym, ◌∙◌}
use Rattle.packet.specs.declared.connack.Connack.TheVariants as connacks
use Rattle.packet.specs.declared.delivery.Delivery.{Delivery}
use Rattle.packet.specs.declared.delivery.Delivery.TheVariants as deliveries
use Rattle.packet.specs.declared.packet.Packet.{Packet}
use Rattle.packet.specs.declared.packet.Packet.TheVariants as packets
use Rattle.session_base.specs.declared.publication.Publication.{Publication}
use Rattle.session_base.specs.Publication.{publication_of}
use Rattle.lists.specs.Lists.{has_id}
use Rattle.client_base.specs.Handled.{confirmed, discarded, packet_handled, handled_first, handled_online}
use Rattle.client_base.specs.Handshakes.{own_at_pubrec, is_sent_with, pubrec_answered, takes_in}
use Rattle.client_base.specs.Keeper.{Keeper}
use Rattle.client_base.specs.Written.{plain, resent_written, sent_all, writing}
use Rattle.exactly_once.specs.Sides.{ClientConnection, Side}
use Rattle.headline.proofs.Untaken.{untaken_connection}

abbrev pub untaken_side : Side → Side
untaken_side side = record side { connection = untaken_connection side.connection }

-- ---- a PUBREC

abbrev releases : ℕ → Side → Side
releases id side =
    writing (plain (packets.Pubrel id) ∷ [])
    (record side { keeper = record side.keeper { own = map (own_at_pubrec id) side.keeper.own; releases = side.keeper.releases ++ id ∷ [] } })

abbrev releasing_by : Bool → Bool → ℕ → Side → Side
releasing_by sent kept id side = if sent then releases id side else if kept then writing (plain (packets.Pubrel id) ∷ []) side else side

releasing_untaken : (id : ℕ) (side : Side) → untaken_side (pubrec_answered id side) ≡ pubrec_answered id (untaken_side side)
releasing_untaken id side = by (is_sent_with id side.keeper.own) (has_id id side.keeper.releases)
  where
    by : (sent kept : Bool) → untaken_side (releasing_by sent kept id side) ≡ releasing_by sent kept id (untaken_side side)
    by true kept = refl
    by false true = refl
    by false false = refl

-- ---- a PUBLISH

abbrev accepting_by : Bool → ℕ → Publication → Side → Side
accepting_by is_kept id p side =
    writing (plain (packets.Pubrec id) ∷ [])
    (if is_kept then side
    else record {
      keeper = record side.keeper { received = id ∷ side.keeper.received };
      connection = record side.connection { accepted = side.connection.accepted ++ p ∷ [] };
    })

taking_untaken : (d : Delivery) (p : Publication) (side : Side) → untaken_side (takes_in d p side) ≡ takes_in d p (untaken_side side)
taking_untaken deliveries.AtMostOnce p side = refl
taking_untaken (deliveries.AtLeastOnce dup id) p side = refl
taking_untaken (deliveries.ExactlyOnce dup id) p side = by (has_id id side.keeper.received)
  where
    by : (is_kept : Bool) → untaken_side (accepting_by is_kept id p side) ≡ accepting_by is_kept id p (untaken_side side)
    by true = refl
    by false = refl

-- ---- a CONNACK

abbrev confirming_by : Keeper → Side → Side
confirming_by kept side =
    record {
      keeper = record kept { own = sent_all kept.own; is_online = true; was_served = true };
      connection = record side.connection { written = side.connection.written ++ resent_written kept; confirmed = true };
    }

confirmed_untaken : (present : Bool) (side : Side) → untaken_side (confirmed present side) ≡ confirmed present (untaken_side side)
confirmed_untaken present side = by (not present && side.keeper.was_served)
  where
    by : (gone : Bool) → untaken_side (confirming_by (if gone then discarded side.keeper else side.keeper) side)
        ≡ confirming_by (if gone then discarded side.keeper else side.keeper) (untaken_side side)
    by true = refl
    by false = refl

-- ---- each packet

online_untaken : (packet : Packet) (side : Side) → untaken_side (handled_online packet side) ≡ handled_online packet (untaken_side side)
online_untaken (packets.Publish p) side = taking_untaken p.delivery (publication_of p) side
online_untaken (packets.Pubrec id) side = releasing_untaken id side
online_untaken _ side = refl

first_untaken : (packet : Packet) (side : Side) → untaken_side (handled_first packet side) ≡ handled_first packet (untaken_side side)
first_untaken (packets.Connack (connacks.Accepted present)) side = confirmed_untaken present side
first_untaken _ side = refl

abbrev counted : Side → Side
counted side = record side { connection = record side.connection { handled = suc side.connection.handled } }

handled_untaken : (packet : Packet) (side : Side) → untaken_side (packet_handled packet side) ≡ packet_handled packet (untaken_side side)
handled_untaken packet side = by side.keeper.is_online
  where
    by : (online : Bool) → untaken_side (if online then handled_online packet (counted side) else handled_first packet (counted side))
        ≡ (if online then handled_online packet (counted (untaken_side side)) else handled_first packet (counted (untaken_side side)))
    by true = online_untaken packet (counted side)
    by false = first_untaken packet (counted side)

-- ---- two sides

-- sides with one keeper, whose connections are the same except what is counted as taken
pub record AreAlike (one other : Side) : Type 0 where
  pub keeper : one.keeper ≡ other.keeper
  pub connection : untaken_connection one.connection ≡ untaken_connection other.connection

pub same_handled : (packet : Packet) (one other : Side) → AreAlike one other → AreAlike (packet_handled packet one) (packet_handled packet other)
same_handled packet one other alike =
    record { keeper = ap (λ (side : Side). side.keeper) same; connection = ap (λ (side : Side). side.connection) same }
  where
    sides : (k l : Keeper) (κ μ : ClientConnection) → k ≡ l → κ ≡ μ → (let a : Side = record { keeper = k; connection = κ } in a) ≡ (let b : Side = record { keeper = l; connection = μ } in b)
    sides k l κ μ e f = rw (e, f) refl

    same : untaken_side (packet_handled packet one) ≡ untaken_side (packet_handled packet other)
    same =
        handled_untaken packet one
        ∙ ap (packet_handled packet) (sides one.keeper other.keeper (untaken_connection one.connection) (untaken_connection other.connection) alike.keeper alike.connection)
        ∙ sym (handled_untaken packet other)
