-- Each answer goes to the connection that the command names, or is a PUBLISH or a Close to a client's current one.
use Rattle.std.proofs.Common.{◌≡◌, ℕ, suc, Bool, true, false, not, ◌==◌, if◌then◌else◌, List, [], ◌∷◌, ◌++◌, length, map, take, drop, Option, Some, None, inl, inr, refl, sym, ◌∙◌, ap}
use Rattle.std.specs.Prelude.{flat_map}
use Rattle.std.specs.List.{AllByRecursion}
use Rattle.packet.specs.declared.delivery.Delivery.{Delivery}
use Rattle.packet.specs.declared.delivery.Delivery.TheVariants as deliveries
use Rattle.packet.specs.declared.packet.Packet.{Packet}
use Rattle.packet.specs.declared.packet.Packet.TheVariants as packets
use Rattle.broker_spec.specs.Connection.{ConnectionName}
use Rattle.broker_spec.specs.Place.{Client, Mark, Place, Past, Limits}
use Rattle.broker_spec.specs.Sessions.{current_connection, begins}
use Rattle.broker_spec.specs.Owner.{clients}
use Rattle.session_base.specs.declared.publication.Publication.{Publication}
use Rattle.session_base.specs.Publication.{is_answered}
use Rattle.lists.specs.Lists.{has_id}
use Rattle.broker_spec.specs.Entries.{Entry, copies_at}
use Rattle.broker_spec.specs.Readings.{made_at, released_below}
use Rattle.broker_spec.specs.Times.{entries_of}
use Rattle.broker_spec.specs.Marks.{mark_of}
use Rattle.broker_spec.specs.Commands.{place_of}
use Rattle.broker_spec.specs.Sends.{publish_output, first_output, repeated_output, all_started, resent_outputs, copy_outputs, handed_to, deliveries_to}
use Rattle.broker_spec.specs.Answers.{close_outputs, welcome, acknowledged, other_answers, packet_answers, connect_answers}
use Rattle.broker_spec.specs.AnswerTheorems.{goes_to, named_in, is_unasked, IsAddressed, AnswersAreAddressed}
use Rattle.broker_spec.specs.declared.command.Command.{Command}
use Rattle.broker_spec.specs.declared.command.Command.TheVariants as commands
use Rattle.broker_spec.specs.declared.command.Output.{Output}
use Rattle.broker_spec.specs.declared.command.Output.TheVariants.{Send}

-- ---- all of a list

abbrev pub Each : (Output → Type 0) → List Output → Type 0
Each P = AllByRecursion P

joined : (P : Output → Type 0) (xs ys : List Output) → Each P xs → Each P ys → Each P (xs ++ ys)
joined P [] ys a b = b
joined P (x ∷ xs) ys a b = (a.0, joined P xs ys a.1 b)

pub of-each : {X : Type 0} (P : Output → Type 0) (f : X → List Output) (xs : List X) → ((x : X) → Each P (f x)) → Each P (flat_map f xs)
of-each P f [] h = tt
of-each P f (x ∷ xs) h = joined P (f x) (flat_map f xs) (h x) (of-each P f xs h)

pub weaker : (P Q : Output → Type 0) → ((answer : Output) → P answer → Q answer) → (xs : List Output) → Each P xs → Each Q xs
weaker P Q h [] a = tt
weaker P Q h (x ∷ xs) a = (h x a.0, weaker P Q h xs a.1)

-- ---- what is sent of entries is a PUBLISH to the client's connection

abbrev pub Unasked : ConnectionName → Output → Type 0
Unasked x answer = (goes_to answer ≡ x) × (is_unasked answer ≡ true)

first-by : (x : ConnectionName) (n id : ℕ) (p : Publication) (made start : ℕ) → Each (Unasked x) (first_output x n (Entry.Sent made p id start))
first-by x n id p made start = by (start == n)
  where
    by : (b : Bool) → Each (Unasked x) (if b then publish_output x false id p ∷ [] else [])
    by true = ((refl, refl), tt)
    by false = tt

first-unasked : (x : ConnectionName) (n : ℕ) (e : Entry) → Each (Unasked x) (first_output x n e)
first-unasked x n (Entry.Queued made p) = tt
first-unasked x n (Entry.Sent made p id start) = first-by x n id p made start
first-unasked x n (Entry.Released made p id start release) = tt
first-unasked x n (Entry.Done made p id start release finish) = tt

started-unasked : (x : ConnectionName) (n : ℕ) (es : List Entry) → Each (Unasked x) (all_started x n es)
started-unasked x n es = of-each (Unasked x) (first_output x n) es (first-unasked x n)

handed-by : (x : ConnectionName) (n : ℕ) (p : Publication) (copies : List Publication) (es : List Entry)
    → ((rest : List Entry) → Each (Unasked x) (copy_outputs x n copies rest)) → (b : Bool)
    → Each (Unasked x) (if b then all_started x n (take 1 es) ++ copy_outputs x n copies (drop 1 es) else publish_output x false 0 p ∷ copy_outputs x n copies es)
handed-by x n p copies es ih true = joined (Unasked x) (all_started x n (take 1 es)) (copy_outputs x n copies (drop 1 es)) (started-unasked x n (take 1 es)) (ih (drop 1 es))
handed-by x n p copies es ih false = ((refl, refl), ih es)

pub handed-unasked : (x : ConnectionName) (n : ℕ) (copies : List Publication) (es : List Entry) → Each (Unasked x) (copy_outputs x n copies es)
handed-unasked x n [] es = tt
handed-unasked x n (p ∷ copies) es = handed-by x n p copies es (λ rest. handed-unasked x n copies rest) (is_answered p.qos)

-- ---- to the command's own connection

abbrev pub To : ConnectionName → Output → Type 0
To x answer = goes_to answer ≡ x

to-them : (x : ConnectionName) (xs : List Output) → Each (Unasked x) xs → Each (To x) xs
to-them x xs a = weaker (Unasked x) (To x) (λ answer h. h.0) xs a

again-to : (x : ConnectionName) (n : ℕ) (e : Entry) → Each (To x) (repeated_output x n e)
again-to x n (Entry.Queued made p) = tt
again-to x n (Entry.Sent made p id start) = by (start == n)
  where
    by : (b : Bool) → Each (To x) (if b then [] else publish_output x true id p ∷ [])
    by true = tt
    by false = (refl, tt)
again-to x n (Entry.Released made p id start release) = tt
again-to x n (Entry.Done made p id start release finish) = tt

pubrels-to : (x : ConnectionName) (ids : List ℕ) → Each (To x) (map (λ id. Send x (packets.Pubrel id)) ids)
pubrels-to x [] = tt
pubrels-to x (id ∷ ids) = (refl, pubrels-to x ids)

pub resent-to : (x : ConnectionName) (n : ℕ) (es : List Entry) → Each (To x) (resent_outputs x n es)
resent-to x n es =
    joined (To x) (map (λ id. Send x (packets.Pubrel id)) (released_below n es) ++ flat_map (repeated_output x n) es) (all_started x n es)
    (joined (To x) (map (λ id. Send x (packets.Pubrel id)) (released_below n es)) (flat_map (repeated_output x n) es)
    (pubrels-to x (released_below n es)) (of-each (To x) (repeated_output x n) es (again-to x n)))
    (to-them x (all_started x n es) (started-unasked x n es))

acknowledged-to : (x : ConnectionName) (delivery : Delivery) → Each (To x) (acknowledged x delivery)
acknowledged-to x deliveries.AtMostOnce = tt
acknowledged-to x (deliveries.AtLeastOnce dup id) = (refl, tt)
acknowledged-to x (deliveries.ExactlyOnce dup id) = (refl, tt)

pubrec-to : (x : ConnectionName) (id : ℕ) (b : Bool) → Each (To x) (if b then Send x (packets.Pubrel id) ∷ [] else [])
pubrec-to x id true = (refl, tt)
pubrec-to x id false = tt

handled-to : (packet : Packet) (limits : Limits) (place : Place) (past : Past) (x : ConnectionName) (c : Client) → Each (To x) (other_answers limits place past x c packet)
handled-to (packets.Connect q) limits place past x c = tt
handled-to (packets.Connack q) limits place past x c = tt
handled-to (packets.Publish p) limits place past x c = tt
handled-to (packets.Puback i) limits place past x c = to-them x _ (started-unasked x (length past) (entries_of limits (place ∷ past) c))
handled-to (packets.Pubrec i) limits place past x c = pubrec-to x i (has_id i (released_below (suc (length past)) (entries_of limits (place ∷ past) c)))
handled-to (packets.Pubrel i) limits place past x c = (refl, tt)
handled-to (packets.Pubcomp i) limits place past x c = to-them x _ (started-unasked x (length past) (entries_of limits (place ∷ past) c))
handled-to (packets.Subscribe s) limits place past x c = tt
handled-to (packets.Suback q) limits place past x c = tt
handled-to (packets.Unsubscribe u) limits place past x c = (refl, tt)
handled-to (packets.Unsuback i) limits place past x c = tt
handled-to packets.Pingreq limits place past x c = (refl, tt)
handled-to packets.Pingresp limits place past x c = tt
handled-to packets.Disconnect limits place past x c = tt

-- ---- the law

own : (past : Past) (k : Command) (x : ConnectionName) → named_in k ≡ Some x → (xs : List Output) → Each (To x) xs → Each (IsAddressed past k) xs
own past k x e xs a = weaker (To x) (IsAddressed past k) (λ answer h. inl (e ∙ ap (λ z. Some z) (sym h))) xs a

others : (past : Past) (k : Command) (c : Client) (x : ConnectionName) → current_connection past c ≡ Some x → (xs : List Output) → Each (Unasked x) xs → Each (IsAddressed past k) xs
others past k c x e xs a = weaker (Unasked x) (IsAddressed past k) (λ answer h. inr ((c, e ∙ ap (λ z. Some z) (sym h.0)), h.1)) xs a

delivered : (past : Past) (k : Command) (c : Client) (n : ℕ) (copies : List Publication) (es : List Entry) (current : Option ConnectionName) → current_connection past c ≡ current
    → Each (IsAddressed past k) (handed_to current n copies es)
delivered past k c n copies es None e = tt
delivered past k c n copies es (Some x) e = others past k c x e (copy_outputs x n copies es) (handed-unasked x n copies es)

deliveries-addressed : (limits : Limits) (place : Place) (past : Past) (k : Command) (c : Client) → Each (IsAddressed past k) (deliveries_to limits place past c)
deliveries-addressed limits place past k c =
    delivered past k c (length past) (copies_at place past c) (made_at (length past) (entries_of limits (place ∷ past) c)) (current_connection past c) refl

closed-addressed : (past : Past) (k : Command) (c : Client) (current : Option ConnectionName) → current_connection past c ≡ current → Each (IsAddressed past k) (close_outputs current)
closed-addressed past k c None e = tt
closed-addressed past k c (Some x) e = (inr ((c, e), refl), tt)

published : (limits : Limits) (place : Place) (past : Past) (k : Command) (x : ConnectionName) (delivery : Delivery) → named_in k ≡ Some x
    → Each (IsAddressed past k) (acknowledged x delivery ++ flat_map (deliveries_to limits place past) (clients past))
published limits place past k x delivery e =
    joined (IsAddressed past k) (acknowledged x delivery) (flat_map (deliveries_to limits place past) (clients past))
    (own past k x e (acknowledged x delivery) (acknowledged-to x delivery))
    (of-each (IsAddressed past k) (deliveries_to limits place past) (clients past) (deliveries-addressed limits place past k))

packet-addressed : (packet : Packet) (mark : Mark) (limits : Limits) (place : Place) (past : Past) (k : Command) (x : ConnectionName) → named_in k ≡ Some x
    → Each (IsAddressed past k) (packet_answers limits place past x packet mark)
packet-addressed (packets.Connect q) Mark.Unmarked limits place past k x e = tt
packet-addressed (packets.Connect q) Mark.Accepted limits place past k x e = tt
packet-addressed (packets.Connect q) Mark.Full limits place past k x e = tt
packet-addressed (packets.Connect q) (Mark.Leaves d) limits place past k x e = (inl e, tt)
packet-addressed (packets.Connect q) (Mark.Refused d) limits place past k x e = (inl e, tt)
packet-addressed (packets.Connect q) (Mark.Repeat d) limits place past k x e = tt
packet-addressed (packets.Connect q) (Mark.Taken d) limits place past k x e = tt
packet-addressed (packets.Connect q) (Mark.Granted d which) limits place past k x e = tt
packet-addressed (packets.Connect q) (Mark.Handled d) limits place past k x e = own past k x e (other_answers limits place past x d (packets.Connect q)) (handled-to (packets.Connect q) limits place past x d)
packet-addressed (packets.Connack q) Mark.Unmarked limits place past k x e = tt
packet-addressed (packets.Connack q) Mark.Accepted limits place past k x e = tt
packet-addressed (packets.Connack q) Mark.Full limits place past k x e = tt
packet-addressed (packets.Connack q) (Mark.Leaves d) limits place past k x e = (inl e, tt)
packet-addressed (packets.Connack q) (Mark.Refused d) limits place past k x e = (inl e, tt)
packet-addressed (packets.Connack q) (Mark.Repeat d) limits place past k x e = tt
packet-addressed (packets.Connack q) (Mark.Taken d) limits place past k x e = tt
packet-addressed (packets.Connack q) (Mark.Granted d which) limits place past k x e = tt
packet-addressed (packets.Connack q) (Mark.Handled d) limits place past k x e = own past k x e (other_answers limits place past x d (packets.Connack q)) (handled-to (packets.Connack q) limits place past x d)
packet-addressed (packets.Publish p) Mark.Unmarked limits place past k x e = tt
packet-addressed (packets.Publish p) Mark.Accepted limits place past k x e = tt
packet-addressed (packets.Publish p) Mark.Full limits place past k x e = tt
packet-addressed (packets.Publish p) (Mark.Leaves d) limits place past k x e = (inl e, tt)
packet-addressed (packets.Publish p) (Mark.Refused d) limits place past k x e = (inl e, tt)
packet-addressed (packets.Publish p) (Mark.Repeat d) limits place past k x e = own past k x e (acknowledged x p.delivery) (acknowledged-to x p.delivery)
packet-addressed (packets.Publish p) (Mark.Taken d) limits place past k x e = published limits place past k x p.delivery e
packet-addressed (packets.Publish p) (Mark.Granted d which) limits place past k x e = tt
packet-addressed (packets.Publish p) (Mark.Handled d) limits place past k x e = own past k x e (other_answers limits place past x d (packets.Publish p)) (handled-to (packets.Publish p) limits place past x d)
packet-addressed (packets.Puback i) Mark.Unmarked limits place past k x e = tt
packet-addressed (packets.Puback i) Mark.Accepted limits place past k x e = tt
packet-addressed (packets.Puback i) Mark.Full limits place past k x e = tt
packet-addressed (packets.Puback i) (Mark.Leaves d) limits place past k x e = (inl e, tt)
packet-addressed (packets.Puback i) (Mark.Refused d) limits place past k x e = (inl e, tt)
packet-addressed (packets.Puback i) (Mark.Repeat d) limits place past k x e = tt
packet-addressed (packets.Puback i) (Mark.Taken d) limits place past k x e = tt
packet-addressed (packets.Puback i) (Mark.Granted d which) limits place past k x e = tt
packet-addressed (packets.Puback i) (Mark.Handled d) limits place past k x e = own past k x e (other_answers limits place past x d (packets.Puback i)) (handled-to (packets.Puback i) limits place past x d)
packet-addressed (packets.Pubrec i) Mark.Unmarked limits place past k x e = tt
packet-addressed (packets.Pubrec i) Mark.Accepted limits place past k x e = tt
packet-addressed (packets.Pubrec i) Mark.Full limits place past k x e = tt
packet-addressed (packets.Pubrec i) (Mark.Leaves d) limits place past k x e = (inl e, tt)
packet-addressed (packets.Pubrec i) (Mark.Refused d) limits place past k x e = (inl e, tt)
packet-addressed (packets.Pubrec i) (Mark.Repeat d) limits place past k x e = tt
packet-addressed (packets.Pubrec i) (Mark.Taken d) limits place past k x e = tt
packet-addressed (packets.Pubrec i) (Mark.Granted d which) limits place past k x e = tt
packet-addressed (packets.Pubrec i) (Mark.Handled d) limits place past k x e = own past k x e (other_answers limits place past x d (packets.Pubrec i)) (handled-to (packets.Pubrec i) limits place past x d)
packet-addressed (packets.Pubrel i) Mark.Unmarked limits place past k x e = tt
packet-addressed (packets.Pubrel i) Mark.Accepted limits place past k x e = tt
packet-addressed (packets.Pubrel i) Mark.Full limits place past k x e = tt
packet-addressed (packets.Pubrel i) (Mark.Leaves d) limits place past k x e = (inl e, tt)
packet-addressed (packets.Pubrel i) (Mark.Refused d) limits place past k x e = (inl e, tt)
packet-addressed (packets.Pubrel i) (Mark.Repeat d) limits place past k x e = tt
packet-addressed (packets.Pubrel i) (Mark.Taken d) limits place past k x e = tt
packet-addressed (packets.Pubrel i) (Mark.Granted d which) limits place past k x e = tt
packet-addressed (packets.Pubrel i) (Mark.Handled d) limits place past k x e = own past k x e (other_answers limits place past x d (packets.Pubrel i)) (handled-to (packets.Pubrel i) limits place past x d)
packet-addressed (packets.Pubcomp i) Mark.Unmarked limits place past k x e = tt
packet-addressed (packets.Pubcomp i) Mark.Accepted limits place past k x e = tt
packet-addressed (packets.Pubcomp i) Mark.Full limits place past k x e = tt
packet-addressed (packets.Pubcomp i) (Mark.Leaves d) limits place past k x e = (inl e, tt)
packet-addressed (packets.Pubcomp i) (Mark.Refused d) limits place past k x e = (inl e, tt)
packet-addressed (packets.Pubcomp i) (Mark.Repeat d) limits place past k x e = tt
packet-addressed (packets.Pubcomp i) (Mark.Taken d) limits place past k x e = tt
packet-addressed (packets.Pubcomp i) (Mark.Granted d which) limits place past k x e = tt
packet-addressed (packets.Pubcomp i) (Mark.Handled d) limits place past k x e = own past k x e (other_answers limits place past x d (packets.Pubcomp i)) (handled-to (packets.Pubcomp i) limits place past x d)
packet-addressed (packets.Subscribe s) Mark.Unmarked limits place past k x e = tt
packet-addressed (packets.Subscribe s) Mark.Accepted limits place past k x e = tt
packet-addressed (packets.Subscribe s) Mark.Full limits place past k x e = tt
packet-addressed (packets.Subscribe s) (Mark.Leaves d) limits place past k x e = (inl e, tt)
packet-addressed (packets.Subscribe s) (Mark.Refused d) limits place past k x e = (inl e, tt)
packet-addressed (packets.Subscribe s) (Mark.Repeat d) limits place past k x e = tt
packet-addressed (packets.Subscribe s) (Mark.Taken d) limits place past k x e = tt
packet-addressed (packets.Subscribe s) (Mark.Granted d which) limits place past k x e = (inl e, deliveries-addressed limits place past k d)
packet-addressed (packets.Subscribe s) (Mark.Handled d) limits place past k x e = own past k x e (other_answers limits place past x d (packets.Subscribe s)) (handled-to (packets.Subscribe s) limits place past x d)
packet-addressed (packets.Suback q) Mark.Unmarked limits place past k x e = tt
packet-addressed (packets.Suback q) Mark.Accepted limits place past k x e = tt
packet-addressed (packets.Suback q) Mark.Full limits place past k x e = tt
packet-addressed (packets.Suback q) (Mark.Leaves d) limits place past k x e = (inl e, tt)
packet-addressed (packets.Suback q) (Mark.Refused d) limits place past k x e = (inl e, tt)
packet-addressed (packets.Suback q) (Mark.Repeat d) limits place past k x e = tt
packet-addressed (packets.Suback q) (Mark.Taken d) limits place past k x e = tt
packet-addressed (packets.Suback q) (Mark.Granted d which) limits place past k x e = tt
packet-addressed (packets.Suback q) (Mark.Handled d) limits place past k x e = own past k x e (other_answers limits place past x d (packets.Suback q)) (handled-to (packets.Suback q) limits place past x d)
packet-addressed (packets.Unsubscribe u) Mark.Unmarked limits place past k x e = tt
packet-addressed (packets.Unsubscribe u) Mark.Accepted limits place past k x e = tt
packet-addressed (packets.Unsubscribe u) Mark.Full limits place past k x e = tt
packet-addressed (packets.Unsubscribe u) (Mark.Leaves d) limits place past k x e = (inl e, tt)
packet-addressed (packets.Unsubscribe u) (Mark.Refused d) limits place past k x e = (inl e, tt)
packet-addressed (packets.Unsubscribe u) (Mark.Repeat d) limits place past k x e = tt
packet-addressed (packets.Unsubscribe u) (Mark.Taken d) limits place past k x e = tt
packet-addressed (packets.Unsubscribe u) (Mark.Granted d which) limits place past k x e = tt
packet-addressed (packets.Unsubscribe u) (Mark.Handled d) limits place past k x e = own past k x e (other_answers limits place past x d (packets.Unsubscribe u)) (handled-to (packets.Unsubscribe u) limits place past x d)
packet-addressed (packets.Unsuback i) Mark.Unmarked limits place past k x e = tt
packet-addressed (packets.Unsuback i) Mark.Accepted limits place past k x e = tt
packet-addressed (packets.Unsuback i) Mark.Full limits place past k x e = tt
packet-addressed (packets.Unsuback i) (Mark.Leaves d) limits place past k x e = (inl e, tt)
packet-addressed (packets.Unsuback i) (Mark.Refused d) limits place past k x e = (inl e, tt)
packet-addressed (packets.Unsuback i) (Mark.Repeat d) limits place past k x e = tt
packet-addressed (packets.Unsuback i) (Mark.Taken d) limits place past k x e = tt
packet-addressed (packets.Unsuback i) (Mark.Granted d which) limits place past k x e = tt
packet-addressed (packets.Unsuback i) (Mark.Handled d) limits place past k x e = own past k x e (other_answers limits place past x d (packets.Unsuback i)) (handled-to (packets.Unsuback i) limits place past x d)
packet-addressed packets.Pingreq Mark.Unmarked limits place past k x e = tt
packet-addressed packets.Pingreq Mark.Accepted limits place past k x e = tt
packet-addressed packets.Pingreq Mark.Full limits place past k x e = tt
packet-addressed packets.Pingreq (Mark.Leaves d) limits place past k x e = (inl e, tt)
packet-addressed packets.Pingreq (Mark.Refused d) limits place past k x e = (inl e, tt)
packet-addressed packets.Pingreq (Mark.Repeat d) limits place past k x e = tt
packet-addressed packets.Pingreq (Mark.Taken d) limits place past k x e = tt
packet-addressed packets.Pingreq (Mark.Granted d which) limits place past k x e = tt
packet-addressed packets.Pingreq (Mark.Handled d) limits place past k x e = own past k x e (other_answers limits place past x d packets.Pingreq) (handled-to packets.Pingreq limits place past x d)
packet-addressed packets.Pingresp Mark.Unmarked limits place past k x e = tt
packet-addressed packets.Pingresp Mark.Accepted limits place past k x e = tt
packet-addressed packets.Pingresp Mark.Full limits place past k x e = tt
packet-addressed packets.Pingresp (Mark.Leaves d) limits place past k x e = (inl e, tt)
packet-addressed packets.Pingresp (Mark.Refused d) limits place past k x e = (inl e, tt)
packet-addressed packets.Pingresp (Mark.Repeat d) limits place past k x e = tt
packet-addressed packets.Pingresp (Mark.Taken d) limits place past k x e = tt
packet-addressed packets.Pingresp (Mark.Granted d which) limits place past k x e = tt
packet-addressed packets.Pingresp (Mark.Handled d) limits place past k x e = own past k x e (other_answers limits place past x d packets.Pingresp) (handled-to packets.Pingresp limits place past x d)
packet-addressed packets.Disconnect Mark.Unmarked limits place past k x e = tt
packet-addressed packets.Disconnect Mark.Accepted limits place past k x e = tt
packet-addressed packets.Disconnect Mark.Full limits place past k x e = tt
packet-addressed packets.Disconnect (Mark.Leaves d) limits place past k x e = (inl e, tt)
packet-addressed packets.Disconnect (Mark.Refused d) limits place past k x e = (inl e, tt)
packet-addressed packets.Disconnect (Mark.Repeat d) limits place past k x e = tt
packet-addressed packets.Disconnect (Mark.Taken d) limits place past k x e = tt
packet-addressed packets.Disconnect (Mark.Granted d which) limits place past k x e = tt
packet-addressed packets.Disconnect (Mark.Handled d) limits place past k x e = own past k x e (other_answers limits place past x d packets.Disconnect) (handled-to packets.Disconnect limits place past x d)

accepted-addressed : (limits : Limits) (place : Place) (past : Past) (k : Command) (x : ConnectionName) (c : Client) → named_in k ≡ Some x
    → Each (IsAddressed past k) (connect_answers limits place past x c Mark.Accepted)
accepted-addressed limits place past k x c e =
    joined (IsAddressed past k) (close_outputs (current_connection past c)) (welcome x (not (begins place past c)) ∷ resent_outputs x (length past) (entries_of limits (place ∷ past) c))
    (closed-addressed past k c (current_connection past c) refl)
    (inl e, own past k x e (resent_outputs x (length past) (entries_of limits (place ∷ past) c)) (resent-to x (length past) (entries_of limits (place ∷ past) c)))

connect-addressed : (mark : Mark) (limits : Limits) (place : Place) (past : Past) (k : Command) (x : ConnectionName) (c : Client) → named_in k ≡ Some x
    → Each (IsAddressed past k) (connect_answers limits place past x c mark)
connect-addressed Mark.Accepted limits place past k x c e = accepted-addressed limits place past k x c e
connect-addressed Mark.Full limits place past k x c e = (inl e, (inl e, tt))
connect-addressed Mark.Unmarked limits place past k x c e = (inl e, tt)
connect-addressed (Mark.Leaves d) limits place past k x c e = (inl e, tt)
connect-addressed (Mark.Refused d) limits place past k x c e = (inl e, tt)
connect-addressed (Mark.Repeat d) limits place past k x c e = (inl e, tt)
connect-addressed (Mark.Taken d) limits place past k x c e = (inl e, tt)
connect-addressed (Mark.Granted d which) limits place past k x c e = (inl e, tt)
connect-addressed (Mark.Handled d) limits place past k x c e = (inl e, tt)

pub answers_are_addressed : AnswersAreAddressed
answers_are_addressed limits past (commands.Connect x c clean) =
    connect-addressed (mark_of limits past (commands.Connect x c clean)) limits (place_of limits past (commands.Connect x c clean)) past (commands.Connect x c clean) x c refl
answers_are_addressed limits past (commands.Packet x packet) =
    packet-addressed packet (mark_of limits past (commands.Packet x packet)) limits (place_of limits past (commands.Packet x packet)) past (commands.Packet x packet) x refl
answers_are_addressed limits past (commands.Lost x) = tt
answers_are_addressed limits past (commands.Start ballot) = tt
answers_are_addressed limits past (commands.Expel c) = closed-addressed past (commands.Expel c) c (current_connection past c) refl
