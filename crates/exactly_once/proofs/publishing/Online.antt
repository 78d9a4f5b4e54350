-- A packet that the client handles while it is online is a run of the handshake in which it publishes.
use Rattle.std.proofs.Common.{◌≡◌, suc, Bool, true, false, if◌then◌else◌, List, [], ◌∷◌, ◌++◌, map, filter, Some, refl, ap, sym, ◌∙◌}
use Rattle.std.specs.Prelude.{slice_get}
use Rattle.std.proofs.lemmas.List.{append-nil}
use Rattle.packet.specs.declared.delivery.Delivery.{Delivery}
use Rattle.packet.specs.declared.delivery.Delivery.TheVariants as deliveries
use Rattle.packet.specs.declared.packet.Packet.{Packet}
use Rattle.packet.specs.declared.packet.Packet.TheVariants as packets
use Rattle.session_base.specs.declared.publication.Publication.{Publication}
use Rattle.lists.specs.Lists.{has_id}
use Rattle.session_base.specs.Publication.{publication_of}
use Rattle.broker_spec.specs.Place.{Past, Limits}
use Rattle.exactly_once.specs.HandshakeInvariant.{IsGood}
use Rattle.exactly_once.specs.Sends.{put_to}
use Rattle.client_base.specs.Keeper.{Written, Keeper}
use Rattle.exactly_once.specs.Sides.{ClientConnection}
use Rattle.client_base.specs.Written.{plain, writing}
use Rattle.client_base.specs.Handled.{not_subscribes, not_unsubscribes, lost, handled_online}
use Rattle.client_base.specs.Handshakes.{own_at_puback, takes_in}
use Rattle.session_base.specs.Identifiers.{without_id}
use Rattle.exactly_once.specs.Story.{with_side}
use Rattle.exactly_once.specs.Inside.Projections.{items_of_own, forward_of_own, backward_of_own, as_publisher, GoesTo}
use Rattle.exactly_once.specs.Inside.ConnectionShape.{ConnectionInShape}
use Rattle.exactly_once.proofs.publishing.Own.{items_acknowledged}
use Rattle.exactly_once.proofs.publishing.Written.{dropped_next}
use Rattle.exactly_once.proofs.publishing.First.{story_by, after_by, quiet_first, leaves_first}
use Rattle.exactly_once.proofs.publishing.Answered.{counted_side, hears_pubrec, hears_pubcomp}

-- a packet that is not of the handshake
abbrev pub IsQuiet : Packet → Type 0
IsQuiet packet = (rest : List Packet) → backward_of_own (packet ∷ rest) ≡ backward_of_own rest

-- what all events of this page are given
pub record Comes (limits : Limits) (past : Past) (keeper : Keeper) (κ : ClientConnection) (packet : Packet) : Type 0 where
  pub shape : ConnectionInShape limits past keeper.client κ
  pub on : keeper.is_online ≡ true
  pub confirmed : κ.confirmed ≡ true
  pub next : slice_get (put_to limits past κ.name) κ.handled ≡ Some packet

-- it changes no publication, and nothing of the handshake is written
quiet : (limits : Limits) (past : Past) (keeper later : Keeper) (κ : ClientConnection) (others : List ClientConnection) (ws more : List Written) (accepted : List Publication) (packet : Packet)
    → Comes limits past keeper κ packet → keeper.client ≡ later.client → keeper.is_online ≡ later.is_online → ws ≡ κ.written ++ more → items_of_own keeper.own ≡ items_of_own later.own
    → forward_of_own more ≡ [] → IsQuiet packet
    → GoesTo (as_publisher limits (story_by past (κ ∷ others) keeper)) (as_publisher limits (story_by past (after_by κ ws (suc κ.handled) κ.confirmed accepted ∷ others) later))
quiet limits past keeper later κ others ws more accepted packet c client online written items none q =
    quiet_first limits past keeper later κ others ws more accepted packet c.shape client online c.confirmed written items none c.next q

-- the client leaves
leaves : (limits : Limits) (past : Past) (keeper : Keeper) (κ : ClientConnection) (others : List ClientConnection) (packet : Packet) → Comes limits past keeper κ packet → IsQuiet packet
    → GoesTo (as_publisher limits (story_by past (κ ∷ others) keeper))
    (as_publisher limits (story_by past (after_by κ κ.written (suc κ.handled) κ.confirmed κ.accepted ∷ others) (lost keeper)))
leaves limits past keeper κ others packet c q =
    leaves_first limits past keeper (lost keeper) κ others κ.written [] (suc κ.handled) κ.accepted c.shape refl refl c.confirmed (sym (append-nil κ.written)) refl refl
    (ap backward_of_own (dropped_next κ.handled (put_to limits past κ.name) packet c.next) ∙ q _)

-- a PUBLISH
takes_publish : (limits : Limits) (past : Past) (keeper : Keeper) (κ : ClientConnection) (others : List ClientConnection) (packet : Packet) (d : Delivery) (p : Publication)
    → Comes limits past keeper κ packet → IsQuiet packet
    → GoesTo (as_publisher limits (story_by past (κ ∷ others) keeper)) (as_publisher limits (with_side (story_by past (κ ∷ others) keeper) others (takes_in d p (counted_side keeper κ))))
takes_publish limits past keeper κ others packet deliveries.AtMostOnce p c q =
    quiet limits past keeper keeper κ others κ.written [] κ.accepted packet c refl refl (sym (append-nil κ.written)) refl refl q
takes_publish limits past keeper κ others packet (deliveries.AtLeastOnce dup id) p c q =
    quiet limits past keeper keeper κ others (κ.written ++ plain (packets.Puback id) ∷ []) (plain (packets.Puback id) ∷ []) κ.accepted packet c refl refl refl refl refl q
takes_publish limits past keeper κ others packet (deliveries.ExactlyOnce dup id) p c q = by (has_id id keeper.received)
  where
    by : (b : Bool) → GoesTo (as_publisher limits (story_by past (κ ∷ others) keeper))
        (as_publisher limits (with_side (story_by past (κ ∷ others) keeper) others
        (writing (plain (packets.Pubrec id) ∷ []) (if b then counted_side keeper κ else record {
          keeper = record keeper { received = id ∷ keeper.received };
          connection = record κ { handled = suc κ.handled; accepted = κ.accepted ++ p ∷ [] };
        }))))
    by true = quiet limits past keeper keeper κ others (κ.written ++ plain (packets.Pubrec id) ∷ []) (plain (packets.Pubrec id) ∷ []) κ.accepted packet c refl refl refl refl refl q
    by false =
        quiet limits past keeper (record keeper { received = id ∷ keeper.received }) κ others (κ.written ++ plain (packets.Pubrec id) ∷ []) (plain (packets.Pubrec id) ∷ [])
        (κ.accepted ++ p ∷ []) packet c refl refl refl refl refl q

pub handles_online : (limits : Limits) (past : Past) (keeper : Keeper) (κ : ClientConnection) (others : List ClientConnection) (packet : Packet) → Comes limits past keeper κ packet
    → IsGood (as_publisher limits (story_by past (κ ∷ others) keeper))
    → GoesTo (as_publisher limits (story_by past (κ ∷ others) keeper)) (as_publisher limits (with_side (story_by past (κ ∷ others) keeper) others (handled_online packet (counted_side keeper κ))))
handles_online limits past keeper κ others (packets.Publish p) c good = takes_publish limits past keeper κ others (packets.Publish p) p.delivery (publication_of p) c (λ rest. refl)
handles_online limits past keeper κ others (packets.Puback i) c good =
    quiet limits past keeper (record keeper { own = map (own_at_puback i) keeper.own }) κ others κ.written [] κ.accepted (packets.Puback i) c refl refl (sym (append-nil κ.written))
    (sym (items_acknowledged i keeper.own)) refl (λ rest. refl)
handles_online limits past keeper κ others (packets.Pubrec i) c good = hears_pubrec limits past keeper κ others i c.shape c.on c.confirmed c.next good
handles_online limits past keeper κ others (packets.Pubcomp i) c good = hears_pubcomp limits past keeper κ others i c.shape c.on c.confirmed c.next
handles_online limits past keeper κ others (packets.Pubrel i) c good =
    quiet limits past keeper (record keeper { received = without_id i keeper.received }) κ others (κ.written ++ plain (packets.Pubcomp i) ∷ []) (plain (packets.Pubcomp i) ∷ []) κ.accepted
    (packets.Pubrel i) c refl refl refl refl refl (λ rest. refl)
handles_online limits past keeper κ others (packets.Suback s) c good =
    quiet limits past keeper (record keeper { requests = filter (not_subscribes s.id) keeper.requests }) κ others κ.written [] κ.accepted (packets.Suback s) c refl refl
    (sym (append-nil κ.written)) refl refl (λ rest. refl)
handles_online limits past keeper κ others (packets.Unsuback i) c good =
    quiet limits past keeper (record keeper { requests = filter (not_unsubscribes i) keeper.requests }) κ others κ.written [] κ.accepted (packets.Unsuback i) c refl refl
    (sym (append-nil κ.written)) refl refl (λ rest. refl)
handles_online limits past keeper κ others packets.Pingresp c good =
    quiet limits past keeper keeper κ others κ.written [] κ.accepted packets.Pingresp c refl refl (sym (append-nil κ.written)) refl refl (λ rest. refl)
handles_online limits past keeper κ others (packets.Connect q) c good = leaves limits past keeper κ others (packets.Connect q) c (λ rest. refl)
handles_online limits past keeper κ others (packets.Connack q) c good = leaves limits past keeper κ others (packets.Connack q) c (λ rest. refl)
handles_online limits past keeper κ others (packets.Subscribe q) c good = leaves limits past keeper κ others (packets.Subscribe q) c (λ rest. refl)
handles_online limits past keeper κ others (packets.Unsubscribe q) c good = leaves limits past keeper κ others (packets.Unsubscribe q) c (λ rest. refl)
handles_online limits past keeper κ others packets.Pingreq c good = leaves limits past keeper κ others packets.Pingreq c (λ rest. refl)
handles_online limits past keeper κ others packets.Disconnect c good = leaves limits past keeper κ others packets.Disconnect c (λ rest. refl)
