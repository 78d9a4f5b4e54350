-- A PUBLISH at QoS 2 is a repeat exactly if the last word on its identifier is a taken PUBLISH.
use Rattle.std.proofs.Common.{◌≡◌, ℕ, Bool, true, false, not, ◌&&◌, ◌||◌, ◌==◌, if◌then◌else◌, List, [], ◌∷◌, Option, Some, None, refl, ◌∙◌, ap}
use Rattle.packet.specs.declared.delivery.Delivery.{Delivery}
use Rattle.packet.specs.declared.delivery.Delivery.TheVariants as deliveries
use Rattle.packet.specs.declared.packet.Packet.TheVariants as packets
use Rattle.broker_spec.specs.Place.{Client, same_client, Mark}
use Rattle.broker_spec.specs.Sessions.{clean_session_of, begins, in_session}
use Rattle.lists.specs.Lists.{has_id}
use Rattle.session_base.specs.Identifiers.{without_id}
use Rattle.session_base.proofs.KeptIdentifiers.{has_with, has_without}
use Rattle.broker_spec.specs.Received.{receives, received_by, received_of}
use Rattle.broker_spec.specs.Theorems.{brings, says_of, newer_of_two, ends_in_publish, RepeatIsUnreleased}
use Rattle.broker_spec.specs.declared.command.Command.{Command}
use Rattle.broker_spec.specs.declared.command.Command.TheVariants as commands

publish-by : (b : Bool) (delivery : Delivery) (id : ℕ) (ids : List ℕ)
    → has_id id (if b then receives delivery ids else ids) ≡ newer_of_two (if b && brings id delivery then Some true else None) (has_id id ids)
publish-by true (deliveries.ExactlyOnce dup i) id ids = has_with id i ids ∙ comes (id == i)
  where
    comes : (x : Bool) → x || has_id id ids ≡ newer_of_two (if x then Some true else None) (has_id id ids)
    comes true = refl
    comes false = refl
publish-by true (deliveries.AtLeastOnce dup i) id ids = refl
publish-by true deliveries.AtMostOnce id ids = refl
publish-by false delivery id ids = refl

pubrel-by : (b : Bool) (i id : ℕ) (ids : List ℕ)
    → has_id id (if b then without_id i ids else ids) ≡ newer_of_two (if b && (id == i) then Some false else None) (has_id id ids)
pubrel-by true i id ids = has_without id i ids ∙ goes (id == i)
  where
    goes : (x : Bool) → not x && has_id id ids ≡ newer_of_two (if x then Some false else None) (has_id id ids)
    goes true = refl
    goes false = refl
pubrel-by false i id ids = refl

word-by : (k : Command) (m : Mark) (c : Client) (id : ℕ) (ids : List ℕ) → has_id id (received_by k m c ids) ≡ newer_of_two (says_of k m c id) (has_id id ids)
word-by (commands.Packet x (packets.Connect q)) m c id ids = refl
word-by (commands.Packet x (packets.Connack q)) m c id ids = refl
word-by (commands.Packet x (packets.Publish p)) Mark.Unmarked c id ids = refl
word-by (commands.Packet x (packets.Publish p)) Mark.Accepted c id ids = refl
word-by (commands.Packet x (packets.Publish p)) Mark.Full c id ids = refl
word-by (commands.Packet x (packets.Publish p)) (Mark.Leaves d) c id ids = refl
word-by (commands.Packet x (packets.Publish p)) (Mark.Refused d) c id ids = refl
word-by (commands.Packet x (packets.Publish p)) (Mark.Repeat d) c id ids = refl
word-by (commands.Packet x (packets.Publish p)) (Mark.Taken d) c id ids = publish-by (same_client d c) p.delivery id ids
word-by (commands.Packet x (packets.Publish p)) (Mark.Granted d which) c id ids = refl
word-by (commands.Packet x (packets.Publish p)) (Mark.Handled d) c id ids = refl
word-by (commands.Packet x (packets.Puback i)) m c id ids = refl
word-by (commands.Packet x (packets.Pubrec i)) m c id ids = refl
word-by (commands.Packet x (packets.Pubrel i)) Mark.Unmarked c id ids = refl
word-by (commands.Packet x (packets.Pubrel i)) Mark.Accepted c id ids = refl
word-by (commands.Packet x (packets.Pubrel i)) Mark.Full c id ids = refl
word-by (commands.Packet x (packets.Pubrel i)) (Mark.Leaves d) c id ids = refl
word-by (commands.Packet x (packets.Pubrel i)) (Mark.Refused d) c id ids = refl
word-by (commands.Packet x (packets.Pubrel i)) (Mark.Repeat d) c id ids = refl
word-by (commands.Packet x (packets.Pubrel i)) (Mark.Taken d) c id ids = refl
word-by (commands.Packet x (packets.Pubrel i)) (Mark.Granted d which) c id ids = refl
word-by (commands.Packet x (packets.Pubrel i)) (Mark.Handled d) c id ids = pubrel-by (same_client d c) i id ids
word-by (commands.Packet x (packets.Pubcomp i)) m c id ids = refl
word-by (commands.Packet x (packets.Subscribe s)) m c id ids = refl
word-by (commands.Packet x (packets.Suback q)) m c id ids = refl
word-by (commands.Packet x (packets.Unsubscribe u)) m c id ids = refl
word-by (commands.Packet x (packets.Unsuback i)) m c id ids = refl
word-by (commands.Packet x packets.Pingreq) m c id ids = refl
word-by (commands.Packet x packets.Pingresp) m c id ids = refl
word-by (commands.Packet x packets.Disconnect) m c id ids = refl
word-by (commands.Connect x d clean) m c id ids = refl
word-by (commands.Lost x) m c id ids = refl
word-by (commands.Start ballot) m c id ids = refl
word-by (commands.Expel d) m c id ids = refl

in-session : (session : Option Bool) (beginning : Bool) (id : ℕ) (ids : List ℕ) → has_id id (in_session session beginning [] ids) ≡ in_session session beginning false (has_id id ids)
in-session (Some clean) true id ids = refl
in-session (Some clean) false id ids = refl
in-session None b id ids = refl

pub repeat_is_unreleased : RepeatIsUnreleased
unfolding received_of ends_in_publish
repeat_is_unreleased [] c id = refl
repeat_is_unreleased (place ∷ past) c id =
    in-session (clean_session_of (place ∷ past) c) (begins place past c) id (received_by place.command place.mark c (received_of past c))
    ∙ ap (in_session (clean_session_of (place ∷ past) c) (begins place past c) false)
    (word-by place.command place.mark c id (received_of past c)
    ∙ ap (newer_of_two (says_of place.command place.mark c id)) (repeat_is_unreleased past c id))
