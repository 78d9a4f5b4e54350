-- A connection that is sent a packet is some client's current one, or the place is its Connect.
use Rattle.std.proofs.Common.{◌≡◌, Bool, true, false, not, ◌&&◌, List, [], ◌∷◌, ◌++◌, length, Option, Some, None, refl, sym, ◌∙◌, ap, subst, inl, inr, ◌⊎◌}
use Rattle.std.specs.List.{AllByRecursion}
use Rattle.std.proofs.lemmas.Bool.{both_ways}
use Rattle.packet.specs.declared.packet.Packet.{Packet}
use Rattle.packet.specs.declared.packet.Packet.TheVariants as packets
use Rattle.lists.specs.Lists.{In}
use Rattle.lists.specs.Lists.In.{here, there}
use Rattle.broker_spec.specs.Connection.{ConnectionName, same_connection}
use Rattle.broker_spec.specs.Place.{Client, Mark, Place, Past, Limits}
use Rattle.broker_spec.specs.Sessions.{is_leaving, ends, expels, accepts, current_connection, begins}
use Rattle.broker_spec.specs.Owner.{owner_of}
use Rattle.broker_spec.specs.Marks.{mark_of, packet_mark_of}
use Rattle.broker_spec.specs.Times.{entries_of}
use Rattle.broker_spec.specs.Commands.{place_of}
use Rattle.broker_spec.specs.Sends.{resent_outputs}
use Rattle.broker_spec.specs.Answers.{close_outputs, welcome, packet_answers, connect_answers}
use Rattle.broker_spec.specs.AnswersInOrder.{answers_of}
use Rattle.broker_spec.specs.AnswerTheorems.{IsAddressed}
use Rattle.broker_spec.specs.declared.command.Command.{Command}
use Rattle.broker_spec.specs.declared.command.Command.TheVariants as commands
use Rattle.broker_spec.specs.declared.command.Output.{Output}
use Rattle.broker_spec.specs.declared.command.Output.TheVariants.{Send, Close}
use Rattle.broker_spec.proofs.AnswersAreAddressed.{To, resent-to, answers_are_addressed}
use Rattle.broker_spec.proofs.OwnersAreServed.{owner_is_served}
use Rattle.broker_spec.proofs.PacketOfNobody.{no-answer}

-- ---- all of a list

all_in : {X : Type 0} (P : X → Type 0) (xs : List X) (x : X) → AllByRecursion P xs → In x xs → P x
all_in P [] x all i = elim i [ ]
all_in P (y ∷ xs) x all here = all.0
all_in P (y ∷ xs) x all (there i) = all_in P xs x all.1 i

joined : {X : Type 0} (P : X → Type 0) (xs ys : List X) → AllByRecursion P xs → AllByRecursion P ys → AllByRecursion P (xs ++ ys)
joined P [] ys a b = b
joined P (x ∷ xs) ys a b = (a.0, joined P xs ys a.1 b)

-- ---- a Connect sends to its own connection

abbrev SentTo : ConnectionName → Output → Type 0
SentTo x (Send y packet) = y ≡ x
SentTo x (Close y) = Unit {0}

to_sent : (x : ConnectionName) (xs : List Output) → AllByRecursion (To x) xs → AllByRecursion (SentTo x) xs
to_sent x [] h = tt
to_sent x (Send y packet ∷ xs) h = (h.0, to_sent x xs h.1)
to_sent x (Close y ∷ xs) h = (tt, to_sent x xs h.1)

closed_sends : (x : ConnectionName) (current : Option ConnectionName) → AllByRecursion (SentTo x) (close_outputs current)
closed_sends x None = tt
closed_sends x (Some y) = (tt, tt)

connect_sends : (limits : Limits) (place : Place) (past : Past) (x : ConnectionName) (c : Client) (mark : Mark) → AllByRecursion (SentTo x) (connect_answers limits place past x c mark)
connect_sends limits place past x c Mark.Accepted =
    joined (SentTo x) (close_outputs (current_connection past c)) (welcome x (not (begins place past c)) ∷ resent_outputs x (length past) (entries_of limits (place ∷ past) c))
    (closed_sends x (current_connection past c))
    (refl, to_sent x (resent_outputs x (length past) (entries_of limits (place ∷ past) c)) (resent-to x (length past) (entries_of limits (place ∷ past) c)))
connect_sends limits place past x c Mark.Full = (refl, (tt, tt))
connect_sends limits place past x c Mark.Unmarked = (tt, tt)
connect_sends limits place past x c (Mark.Leaves d) = (tt, tt)
connect_sends limits place past x c (Mark.Refused d) = (tt, tt)
connect_sends limits place past x c (Mark.Repeat d) = (tt, tt)
connect_sends limits place past x c (Mark.Taken d) = (tt, tt)
connect_sends limits place past x c (Mark.Granted d which) = (tt, tt)
connect_sends limits place past x c (Mark.Handled d) = (tt, tt)

-- ---- a packet that leaves sends nothing

leaving_by : (packet : Packet) (mark : Mark) (limits : Limits) (place : Place) (past : Past) (x : ConnectionName) → is_leaving mark ≡ true → packet_answers limits place past x packet mark ≡ Close x ∷ []
leaving_by packet Mark.Unmarked limits place past x e = absurd (both_ways false refl e)
leaving_by packet Mark.Accepted limits place past x e = absurd (both_ways false refl e)
leaving_by packet Mark.Full limits place past x e = absurd (both_ways false refl e)
leaving_by packet (Mark.Repeat d) limits place past x e = absurd (both_ways false refl e)
leaving_by packet (Mark.Taken d) limits place past x e = absurd (both_ways false refl e)
leaving_by packet (Mark.Granted d which) limits place past x e = absurd (both_ways false refl e)
leaving_by packet (Mark.Handled d) limits place past x e = absurd (both_ways false refl e)
leaving_by (packets.Connect q) (Mark.Leaves d) limits place past x e = refl
leaving_by (packets.Connack q) (Mark.Leaves d) limits place past x e = refl
leaving_by (packets.Publish p) (Mark.Leaves d) limits place past x e = refl
leaving_by (packets.Puback i) (Mark.Leaves d) limits place past x e = refl
leaving_by (packets.Pubrec i) (Mark.Leaves d) limits place past x e = refl
leaving_by (packets.Pubrel i) (Mark.Leaves d) limits place past x e = refl
leaving_by (packets.Pubcomp i) (Mark.Leaves d) limits place past x e = refl
leaving_by (packets.Subscribe s) (Mark.Leaves d) limits place past x e = refl
leaving_by (packets.Suback q) (Mark.Leaves d) limits place past x e = refl
leaving_by (packets.Unsubscribe u) (Mark.Leaves d) limits place past x e = refl
leaving_by (packets.Unsuback i) (Mark.Leaves d) limits place past x e = refl
leaving_by packets.Pingreq (Mark.Leaves d) limits place past x e = refl
leaving_by packets.Pingresp (Mark.Leaves d) limits place past x e = refl
leaving_by packets.Disconnect (Mark.Leaves d) limits place past x e = refl
leaving_by (packets.Connect q) (Mark.Refused d) limits place past x e = refl
leaving_by (packets.Connack q) (Mark.Refused d) limits place past x e = refl
leaving_by (packets.Publish p) (Mark.Refused d) limits place past x e = refl
leaving_by (packets.Puback i) (Mark.Refused d) limits place past x e = refl
leaving_by (packets.Pubrec i) (Mark.Refused d) limits place past x e = refl
leaving_by (packets.Pubrel i) (Mark.Refused d) limits place past x e = refl
leaving_by (packets.Pubcomp i) (Mark.Refused d) limits place past x e = refl
leaving_by (packets.Subscribe s) (Mark.Refused d) limits place past x e = refl
leaving_by (packets.Suback q) (Mark.Refused d) limits place past x e = refl
leaving_by (packets.Unsubscribe u) (Mark.Refused d) limits place past x e = refl
leaving_by (packets.Unsuback i) (Mark.Refused d) limits place past x e = refl
leaving_by packets.Pingreq (Mark.Refused d) limits place past x e = refl
leaving_by packets.Pingresp (Mark.Refused d) limits place past x e = refl
leaving_by packets.Disconnect (Mark.Refused d) limits place past x e = refl

no_send : (x y : ConnectionName) (packet : Packet) → In (Send y packet) (Close x ∷ []) → ⊥
no_send x y packet (there i) = elim i [ ]

-- ---- the connection that is sent a packet

-- a place that opens and ends nothing
abbrev pub IsQuiet : Place → Type 0
IsQuiet place =
    ((c : Client) → accepts place.command place.mark c ≡ None) × ((z : ConnectionName) → ends place.command place.mark z ≡ false)
    × ((c : Client) → expels place.command c ≡ false)

-- the place is its Connect, or it is a client's current one and the place opens and ends nothing
abbrev pub SentAt : Past → Place → ConnectionName → Type 0
SentAt below place y =
    ((c : Client) × (clean : Bool) × (place.command ≡ commands.Connect y c clean)) ⊎ ((d : Client) × (current_connection below d ≡ Some y) × IsQuiet place)

no_and : (b m : Bool) → m ≡ false → (b && m) ≡ false
no_and true m e = e
no_and false m e = refl

quiet_packet : (x : ConnectionName) (packet : Packet) (mark : Mark) → is_leaving mark ≡ false → IsQuiet (record { command = commands.Packet x packet; mark = mark })
quiet_packet x packet mark e = (λ c. refl, λ z. no_and (same_connection x z) (is_leaving mark) e, λ c. refl)

some_name : (x y : ConnectionName) → Some x ≡ Some y → x ≡ y
some_name x y e = cc

-- a packet of a connection
packet_sent : (limits : Limits) (below : Past) (x : ConnectionName) (packet : Packet) (y : ConnectionName) (q : Packet)
    → In (Send y q) (answers_of limits below (commands.Packet x packet)) → SentAt below (place_of limits below (commands.Packet x packet)) y
packet_sent limits below x packet y q i =
    let all = all_in (IsAddressed below (commands.Packet x packet)) (answers_of limits below (commands.Packet x packet)) (Send y q) (answers_are_addressed limits below (commands.Packet x packet)) i in
    by (is_leaving mark) refl all
  where
    mark : Mark
    mark = mark_of limits below (commands.Packet x packet)

    owned : (o : Option Client) → owner_of below x ≡ o → (d : Client) × (owner_of below x ≡ Some d)
    owned (Some d) e = (d, e)
    owned None e =
        let none : mark ≡ Mark.Unmarked = ap (packet_mark_of limits below packet) e in
        let place = place_of limits below (commands.Packet x packet) in
        let nothing : packet_answers limits place below x packet mark ≡ [] = ap (packet_answers limits place below x packet) none ∙ no-answer packet limits place below x in
        absurd (elim (subst (In (Send y q)) nothing i) [ ])

    by : (b : Bool) → is_leaving mark ≡ b → IsAddressed below (commands.Packet x packet) (Send y q) → SentAt below (place_of limits below (commands.Packet x packet)) y
    by true e a =
        let one = leaving_by packet mark limits (place_of limits below (commands.Packet x packet)) below x e in
        absurd (no_send x y q (subst (In (Send y q)) one i))
    by false e (inr others) = inr (others.0.0, others.0.1, quiet_packet x packet mark e)
    by false e (inl own) =
        let same : x ≡ y = some_name x y own in
        let owner = owned (owner_of below x) refl in
        inr (owner.0, subst (λ (z : ConnectionName). current_connection below owner.0 ≡ Some z) same (owner_is_served below x owner.0 owner.1), quiet_packet x packet mark e)

pub sent_at : (limits : Limits) (below : Past) (command : Command) (y : ConnectionName) (q : Packet) → In (Send y q) (answers_of limits below command) → SentAt below (place_of limits below command) y
sent_at limits below (commands.Packet x packet) y q i = packet_sent limits below x packet y q i
sent_at limits below (commands.Connect x c clean) y q i =
    let place = place_of limits below (commands.Connect x c clean) in
    let to : y ≡ x = all_in (SentTo x) (answers_of limits below (commands.Connect x c clean)) (Send y q) (connect_sends limits place below x c (mark_of limits below (commands.Connect x c clean))) i in
    inl (c, clean, ap (λ z. commands.Connect z c clean) (sym to))
sent_at limits below (commands.Lost x) y q i = elim i [ ]
sent_at limits below (commands.Start ballot) y q i = elim i [ ]
sent_at limits below (commands.Expel c) y q i = absurd (close_only (current_connection below c) i)
  where
    close_only : (o : Option ConnectionName) → In (Send y q) (close_outputs o) → ⊥
    close_only None i = elim i [ ]
    close_only (Some x) i = no_send x y q i
