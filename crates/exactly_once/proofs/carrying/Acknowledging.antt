-- What answers a PUBLISH acknowledges it, and it is a repeat or taken.
use Rattle.std.proofs.Common.{◌≡◌, ℕ, true, false, List, [], ◌∷◌, ◌++◌, Option, Some, None, refl, subst, inl, inr, ◌⊎◌}
use Rattle.std.specs.Prelude.{flat_map}
use Rattle.std.specs.List.{AllByRecursion}
use Rattle.std.proofs.lemmas.Bool.{both_ways}
use Rattle.packet.specs.declared.delivery.Delivery.{Delivery}
use Rattle.packet.specs.declared.delivery.Delivery.TheVariants as deliveries
use Rattle.packet.specs.declared.publish.Publish.{Publish}
use Rattle.packet.specs.declared.packet.Packet.{Packet}
use Rattle.packet.specs.declared.packet.Packet.TheVariants as packets
use Rattle.session_base.specs.declared.publication.Publication.{Publication}
use Rattle.session_base.specs.Publication.{publication_of}
use Rattle.broker_spec.specs.Connection.{ConnectionName}
use Rattle.broker_spec.specs.Place.{Client, Mark, Place, Past, Limits}
use Rattle.broker_spec.specs.Received.{is_new, is_exactly_once, is_repeat}
use Rattle.broker_spec.specs.Owner.{clients}
use Rattle.broker_spec.specs.Marks.{is_refused, packet_mark_of}
use Rattle.broker_spec.specs.Sends.{deliveries_to}
use Rattle.broker_spec.specs.Answers.{acknowledged}
use Rattle.broker_spec.specs.AnswersInOrder.{answers_at}
use Rattle.broker_spec.specs.AnswerTheorems.{is_unasked}
use Rattle.broker_spec.specs.EndingTheorems.{StandsAt}
use Rattle.broker_spec.specs.declared.command.Command.{Command}
use Rattle.broker_spec.specs.declared.command.Command.TheVariants as commands
use Rattle.broker_spec.specs.declared.command.Output.{Output}
use Rattle.broker_spec.specs.declared.command.Output.TheVariants.{Send, Close}
use Rattle.broker_spec.proofs.CopiesAreUnasked.{AnswersNothing, copies_are_unasked}
use Rattle.lists.specs.Lists.{In}
use Rattle.lists.specs.Lists.In.{here, there}
use Rattle.lists.proofs.Members.{in_left, in_append}
use Rattle.exactly_once.specs.Sides.{ClientConnection}
use Rattle.exactly_once.specs.Carried.{carries, more_by, new_numbers}
use Rattle.exactly_once.proofs.Packets.{at_packet}
use Rattle.exactly_once.proofs.carrying.PlacesSay.{is_again, Says, PlacesSay}
use Rattle.exactly_once.proofs.carrying.SaysTaken.{only_again}

-- ---- a place of the list

-- what carries a publication is a PUBLISH
pub record IsPublish (command : Command) : Type 0 where
  pub on : ConnectionName
  pub publish : Publish
  pub is : command ≡ commands.Packet on (packets.Publish publish)

pub carried_publish : (connections : List ClientConnection) (command : Command) (past : Past) (k : ℕ) → carries connections command past ≡ Some k → IsPublish command
carried_publish connections (commands.Packet x (packets.Publish p)) past k e = record { on = x; publish = p; is = refl }
carried_publish connections (commands.Packet x _) past k e = cc
carried_publish connections (commands.Connect x d clean) past k e = cc
carried_publish connections (commands.Lost x) past k e = cc
carried_publish connections (commands.Start ballot) past k e = cc
carried_publish connections (commands.Expel d) past k e = cc

pub says_at : (c : Client) (ps : List Publication) (connections : List ClientConnection) (past : Past) (place : Place) (below : Past) → PlacesSay c ps connections past → StandsAt past place below
    → Says c ps connections place below
says_at c ps connections past place below all s = by s.later (subst (PlacesSay c ps connections) s.is all)
  where
    by : (later : Past) → PlacesSay c ps connections (later ++ place ∷ below) → Says c ps connections place below
    by [] h = h.0
    by (next ∷ later) h = by later h.1

-- what is new below is new in the whole
pub new_later : (connections : List ClientConnection) (k : ℕ) (later past : Past) → In k (new_numbers connections past) → In k (new_numbers connections (later ++ past))
new_later connections k [] past i = i
new_later connections k (next ∷ later) past i =
    in_left (more_by (is_new next.command next.mark) (carries connections next.command (later ++ past))) (new_later connections k later past i)

-- ---- answers to a PUBLISH

all_in : (xs : List Output) (x : Output) → AllByRecursion AnswersNothing xs → In x xs → is_unasked x ≡ true
all_in [] x all i = elim i [ ]
all_in (y ∷ xs) x all here = all.0
all_in (y ∷ xs) x all (there i) = all_in xs x all.1 i

no_packet : (x y : ConnectionName) (q : Packet) → In (Send x q) (Close y ∷ []) → ⊥
no_packet x y q (there i) = elim i [ ]

-- an answer to a PUBLISH acknowledges it, and it is a repeat or taken
abbrev pub Acknowledges : ConnectionName → Packet → ConnectionName → Publish → Mark → Type 0
Acknowledges x q y p mark = ((is_again mark ≡ true) ⊎ ((d : Client) × (mark ≡ Mark.Taken d))) × In (Send x q) (acknowledged y p.delivery)

pub acknowledges : (limits : Limits) (below : Past) (y : ConnectionName) (p : Publish) (mark : Mark) (x : ConnectionName) (q : Packet) → is_unasked (Send x q) ≡ false
    → In (Send x q) (answers_at limits (at_packet y (packets.Publish p) mark) below) → Acknowledges x q y p mark
acknowledges limits below y p (Mark.Repeat d) x q asked i = (inl refl, i)
acknowledges limits below y p (Mark.Taken d) x q asked i = (inr (d, refl), by (in_append (acknowledged y p.delivery) copies i))
  where
    copies : List Output
    copies = flat_map (deliveries_to limits (at_packet y (packets.Publish p) (Mark.Taken d)) below) (clients below)

    by : In (Send x q) (acknowledged y p.delivery) ⊎ In (Send x q) copies → In (Send x q) (acknowledged y p.delivery)
    by (inl own) = own
    by (inr copy) =
        absurd (both_ways (is_unasked (Send x q)) asked (all_in copies (Send x q) (copies_are_unasked limits (at_packet y (packets.Publish p) (Mark.Taken d)) below (clients below)) copy))
acknowledges limits below y p (Mark.Leaves d) x q asked i = absurd (no_packet x y q i)
acknowledges limits below y p (Mark.Refused d) x q asked i = absurd (no_packet x y q i)
acknowledges limits below y p Mark.Unmarked x q asked i = elim i [ ]
acknowledges limits below y p Mark.Accepted x q asked i = elim i [ ]
acknowledges limits below y p Mark.Full x q asked i = elim i [ ]
acknowledges limits below y p (Mark.Granted d which) x q asked i = elim i [ ]
acknowledges limits below y p (Mark.Handled d) x q asked i = elim i [ ]

-- PUBREC answers QoS 2, and PUBACK QoS 1
pub pubrec_two : (x y : ConnectionName) (id : ℕ) (d : Delivery) → In (Send x (packets.Pubrec id)) (acknowledged y d) → is_exactly_once d ≡ true
pubrec_two x y id deliveries.AtMostOnce i = elim i [ ]
pubrec_two x y id (deliveries.AtLeastOnce dup j) (there i) = elim i [ ]
pubrec_two x y id (deliveries.ExactlyOnce dup j) i = refl

pub puback_one : (x y : ConnectionName) (id : ℕ) (d : Delivery) → In (Send x (packets.Puback id)) (acknowledged y d) → is_exactly_once d ≡ false
puback_one x y id deliveries.AtMostOnce i = refl
puback_one x y id (deliveries.AtLeastOnce dup j) i = refl
puback_one x y id (deliveries.ExactlyOnce dup j) (there i) = elim i [ ]

-- only what is at QoS 2 is a repeat
repeat_two : (past : Past) (c : Client) (d : Delivery) → is_repeat past c d ≡ true → is_exactly_once d ≡ true
repeat_two past c (deliveries.ExactlyOnce dup id) e = refl
repeat_two past c deliveries.AtMostOnce e = e
repeat_two past c (deliveries.AtLeastOnce dup id) e = e

pub again_two : (limits : Limits) (past : Past) (p : Publish) (o : Option Client) → is_again (packet_mark_of limits past (packets.Publish p) o) ≡ true → is_exactly_once p.delivery ≡ true
again_two limits past p None e = absurd (both_ways false refl e)
again_two limits past p (Some c) e = repeat_two past c p.delivery (only_again (is_repeat past c p.delivery) (is_refused limits past (publication_of p)) c e)
