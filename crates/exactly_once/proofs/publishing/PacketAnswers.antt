-- Which answers to a packet belong to the handshake in which a client publishes: only those to
-- PUBLISH and PUBREL on its own connection.
use Rattle.std.proofs.Common.{◌≡◌, suc, Bool, true, false, if◌then◌else◌, [], ◌∷◌, length, refl, ap, sym, ◌∙◌}
use Rattle.std.specs.Prelude.{flat_map}
use Rattle.std.proofs.lemmas.List.{append-nil}
use Rattle.packet.specs.declared.delivery.Delivery.{Delivery}
use Rattle.packet.specs.declared.delivery.Delivery.TheVariants as deliveries
use Rattle.packet.specs.declared.packet.Packet.{Packet}
use Rattle.packet.specs.declared.packet.Packet.TheVariants as packets
use Rattle.lists.specs.Lists.{has_id}
use Rattle.broker_spec.specs.Connection.{ConnectionName, same_connection}
use Rattle.broker_spec.specs.Place.{Client, Mark, Place, Past, Limits}
use Rattle.broker_spec.specs.Owner.{clients}
use Rattle.broker_spec.specs.Readings.{released_below}
use Rattle.broker_spec.specs.Times.{entries_of}
use Rattle.broker_spec.specs.Sends.{deliveries_to}
use Rattle.broker_spec.specs.Answers.{acknowledged, codes_of, other_answers, packet_answers}
use Rattle.broker_spec.specs.declared.command.Output.TheVariants.{Send}
use Rattle.exactly_once.specs.Sends.{sends_to}
use Rattle.exactly_once.specs.Inside.Projections.{backward_of_own}
use Rattle.exactly_once.proofs.Packets.{started_none, copies_none}
use Rattle.exactly_once.proofs.publishing.Elsewhere.{NoneSent, none_both, none_one, none_there}

acknowledged_none : (y x : ConnectionName) (d : Delivery) → same_connection y x ≡ false → NoneSent y (acknowledged x d)
acknowledged_none y x deliveries.AtMostOnce e = refl
acknowledged_none y x (deliveries.AtLeastOnce dup id) e = none_there y x (packets.Puback id) e
acknowledged_none y x (deliveries.ExactlyOnce dup id) e = none_there y x (packets.Pubrec id) e

-- a PUBREL that is handled is answered with PUBCOMP, and no other packet with anything of the handshake
abbrev pub IsNoPubrel : Packet → Type 0
IsNoPubrel (packets.Pubrel id) = ⊥
IsNoPubrel _ = Unit {0}

handled_none : (y : ConnectionName) (limits : Limits) (place : Place) (past : Past) (x : ConnectionName) (c : Client) (packet : Packet) → IsNoPubrel packet
    → NoneSent y (other_answers limits place past x c packet)
handled_none y limits place past x c (packets.Pubrel id) h = elim h [ ]
handled_none y limits place past x c (packets.Unsubscribe u) h = none_one y x (packets.Unsuback u.id) refl
handled_none y limits place past x c packets.Pingreq h = none_one y x packets.Pingresp refl
handled_none y limits place past x c (packets.Pubrec id) h = by (has_id id (released_below (suc (length past)) (entries_of limits (place ∷ past) c)))
  where
    by : (b : Bool) → NoneSent y (if b then Send x (packets.Pubrel id) ∷ [] else [])
    by true = none_one y x (packets.Pubrel id) refl
    by false = refl
handled_none y limits place past x c (packets.Puback id) h = started_none y x (length past) (entries_of limits (place ∷ past) c)
handled_none y limits place past x c (packets.Pubcomp id) h = started_none y x (length past) (entries_of limits (place ∷ past) c)
handled_none y limits place past x c _ h = refl

-- copies for one client
deliveries_none : (y : ConnectionName) (limits : Limits) (place : Place) (past : Past) (c : Client) → NoneSent y (deliveries_to limits place past c)
deliveries_none y limits place past c = ap (λ l. backward_of_own (sends_to y l)) (sym (append-nil (deliveries_to limits place past c))) ∙ copies_none limits place past y (c ∷ [])

-- packets whose answer on their own connection may be of the handshake
abbrev pub IsOfHandshake : Packet → Type 0
IsOfHandshake (packets.Publish p) = Unit {0}
IsOfHandshake (packets.Pubrel id) = Unit {0}
IsOfHandshake _ = ⊥

pub packet_none : (y : ConnectionName) (limits : Limits) (place : Place) (past : Past) (x : ConnectionName) (packet : Packet) (mark : Mark)
    → (IsOfHandshake packet → same_connection y x ≡ false) → NoneSent y (packet_answers limits place past x packet mark)
packet_none y limits place past x (packets.Publish p) (Mark.Taken c) e =
    none_both y (acknowledged x p.delivery) (flat_map (deliveries_to limits place past) (clients past)) (acknowledged_none y x p.delivery (e tt)) (copies_none limits place past y (clients past))
packet_none y limits place past x (packets.Publish p) (Mark.Repeat c) e = acknowledged_none y x p.delivery (e tt)
packet_none y limits place past x (packets.Subscribe s) (Mark.Granted c which) e =
    none_both y (Send x (packets.Suback (record { id = s.id; codes = codes_of s.filters which })) ∷ []) (deliveries_to limits place past c)
    (none_one y x (packets.Suback (record { id = s.id; codes = codes_of s.filters which })) refl) (deliveries_none y limits place past c)
packet_none y limits place past x (packets.Pubrel id) (Mark.Handled c) e = none_there y x (packets.Pubcomp id) (e tt)
packet_none y limits place past x packet (Mark.Handled c) e = handled_none y limits place past x c packet tt
packet_none y limits place past x _ (Mark.Leaves c) e = refl
packet_none y limits place past x _ (Mark.Refused c) e = refl
packet_none y limits place past x _ _ e = refl
