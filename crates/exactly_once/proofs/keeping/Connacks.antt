-- What a connection is sent at one more place: a CONNACK is there only at a Connect of its own.
use Rattle.std.proofs.Common.{◌≡◌, ℕ, zero, suc, Bool, true, false, not, if◌then◌else◌, List, [], ◌∷◌, length, Some, refl, sym, ◌∙◌, subst, Option, None}
use Rattle.std.specs.Prelude.{slice_get}
use Rattle.packet_base.specs.declared.refusal_code.RefusalCode.TheVariants as refusals
use Rattle.packet.specs.declared.connack.Connack.TheVariants as connacks
use Rattle.packet.specs.declared.packet.Packet.{Packet}
use Rattle.packet.specs.declared.packet.Packet.TheVariants as packets
use Rattle.broker_spec.specs.Connection.{ConnectionName, same_connection}
use Rattle.broker_spec.specs.Place.{Client, Mark, Place, Past, Limits}
use Rattle.broker_spec.specs.Sessions.{current_connection, begins}
use Rattle.broker_spec.specs.Marks.{mark_of}
use Rattle.broker_spec.specs.Times.{entries_of}
use Rattle.broker_spec.specs.Sends.{resent_outputs}
use Rattle.broker_spec.specs.Answers.{close_outputs, welcome}
use Rattle.broker_spec.specs.AnswersInOrder.{answers_at}
use Rattle.broker_spec.specs.Commands.{place_of}
use Rattle.broker_spec.specs.declared.command.Command.{Command}
use Rattle.broker_spec.specs.declared.command.Command.TheVariants as commands
use Rattle.broker_spec.specs.declared.command.Output.{Output}
use Rattle.broker_spec.specs.declared.command.Output.TheVariants.{Send, Close}
use Rattle.broker_base.proofs.ConnectionsOfSessions.{same_turned}
use Rattle.lists.specs.Lists.{Each}
use Rattle.lists.proofs.OfEach.{each_append}
use Rattle.exactly_once.specs.Sends.{sends_to, put_to}
use Rattle.client_base.specs.Keeper.{Written}
use Rattle.exactly_once.specs.Sides.{ClientConnection}
use Rattle.exactly_once.specs.StoryCommands.{is_packet_of, command_of}
use Rattle.exactly_once.specs.Inside.ConnectionShape.{is_connack, ConnectionInShape}
use Rattle.exactly_once.proofs.Deliveries.{sends_append}
use Rattle.exactly_once.proofs.publishing.AtPlaces.{put_more}
use Rattle.exactly_once.proofs.subscribing.events.Opening.{is_new_one}
use Rattle.exactly_once.proofs.subscribing.events.OtherConnects.{at_connect, connect_elsewhere}
use Rattle.exactly_once.proofs.keeping.Quiet.{quiet_sends, resent_quiet, closed_quiet, packet_quiet}

-- what is asked of packets at a place: it holds for those that are no CONNACK, and of a CONNACK
-- that refuses
pub record IsAsked (P : Place → Packet → Type 0) : Type 0 where
  pub quiet : (place : Place) (packet : Packet) → is_connack packet ≡ false → P place packet
  pub refused : (place : Place) → P place (packets.Connack (connacks.Refused refusals.ServerUnavailable))

-- one packet to a connection, and more
one_send : (P : Packet → Type 0) (y x : ConnectionName) (packet : Packet) (more : List Output) → P packet → Each P (sends_to y more) → Each P (sends_to y (Send x packet ∷ more))
one_send P y x packet more p g = by (same_connection y x)
  where
    by : (b : Bool) → Each P (if b then packet ∷ sends_to y more else sends_to y more)
    by true = (p, g)
    by false = g

-- what any connection is sent at a Connect, if it holds for its CONNACK 0
pub connect_sends : (P : Place → Packet → Type 0) → IsAsked P → (limits : Limits) (past : Past) (y x : ConnectionName) (c : Client) (mark : Mark)
    → (mark ≡ Mark.Accepted → P (at_connect x c false mark) (packets.Connack (connacks.Accepted (not (begins (at_connect x c false mark) past c)))))
    → Each (P (at_connect x c false mark)) (sends_to y (answers_at limits (at_connect x c false mark) past))
connect_sends P asked limits past y x c Mark.Accepted accepted =
    let place = at_connect x c false Mark.Accepted in
    let more = resent_outputs x (length past) (entries_of limits (place ∷ past) c) in
    let first = close_outputs (current_connection past c) in
    let last = welcome x (not (begins place past c)) ∷ more in
    subst (Each (P place)) (sym (sends_append y first last))
    (each_append (P place) (sends_to y first) (sends_to y last) (quiet_sends (P place) (asked.quiet place) y first (closed_quiet (current_connection past c)))
    (one_send (P place) y x (packets.Connack (connacks.Accepted (not (begins place past c)))) more (accepted refl)
    (quiet_sends (P place) (asked.quiet place) y more (resent_quiet x (length past) (entries_of limits (place ∷ past) c)))))
connect_sends P asked limits past y x c Mark.Full accepted =
    one_send (P (at_connect x c false Mark.Full)) y x (packets.Connack (connacks.Refused refusals.ServerUnavailable)) (Close x ∷ []) (asked.refused (at_connect x c false Mark.Full)) tt
connect_sends P asked limits past y x c _ accepted = tt

-- at a packet
packet_sends : (P : Place → Packet → Type 0) → IsAsked P → (limits : Limits) (past : Past) (y x : ConnectionName) (packet : Packet)
    → Each (P (place_of limits past (commands.Packet x packet))) (sends_to y (answers_at limits (place_of limits past (commands.Packet x packet)) past))
packet_sends P asked limits past y x packet =
    let place = place_of limits past (commands.Packet x packet) in
    quiet_sends (P place) (asked.quiet place) y (answers_at limits place past) (packet_quiet packet (mark_of limits past (commands.Packet x packet)) limits place past x)

-- if the next written packet of one of the client's connections is taken
pub own_sends : (P : Place → Packet → Type 0) → IsAsked P → (limits : Limits) (past : Past) (c : Client) (κ : ClientConnection) (w : Written) (y : ConnectionName) → ConnectionInShape limits past c κ
    → slice_get κ.written κ.taken ≡ Some w
    → ((mark : Mark) → mark ≡ Mark.Accepted → P (at_connect κ.name c false mark) (packets.Connack (connacks.Accepted (not (begins (at_connect κ.name c false mark) past c)))))
    → Each (P (place_of limits past (command_of κ.name κ.taken w.packet))) (sends_to y (answers_at limits (place_of limits past (command_of κ.name κ.taken w.packet)) past))
own_sends P asked limits past c κ w y shape next accepted = by κ.taken refl
  where
    goal : Command → Type 0
    goal command = Each (P (place_of limits past command)) (sends_to y (answers_at limits (place_of limits past command) past))

    by : (taken : ℕ) → κ.taken ≡ taken → goal (command_of κ.name taken w.packet)
    by zero e =
        let new = is_new_one limits past c κ w shape e next in
        let mark = mark_of limits past (commands.Connect κ.name c false) in
        subst (λ (z : Written). goal (command_of κ.name zero z.packet)) (sym new.first) (connect_sends P asked limits past y κ.name c mark (accepted mark))
    by (suc n) e = packet_sends P asked limits past y κ.name w.packet

-- if a command of another connection is taken
pub other_sends : (P : Place → Packet → Type 0) → IsAsked P → (limits : Limits) (past : Past) (command : Command) (y : ConnectionName) → is_packet_of command y ≡ false
    → Each (P (place_of limits past command)) (sends_to y (answers_at limits (place_of limits past command) past))
other_sends P asked limits past (commands.Packet x packet) y other = packet_sends P asked limits past y x packet
other_sends P asked limits past (commands.Lost x) y other = tt
other_sends P asked limits past (commands.Start b) y other = tt
other_sends P asked limits past (commands.Expel d) y other = closes (current_connection past d)
  where
    closes : (o : Option ConnectionName) → Each (P (place_of limits past (commands.Expel d))) (sends_to y (close_outputs o))
    closes None = tt
    closes (Some x) = tt
other_sends P asked limits past (commands.Connect x d clean) y other =
    let place = place_of limits past (commands.Connect x d clean) in
    subst (Each (P place)) (sym (connect_elsewhere limits past y x d clean (mark_of limits past (commands.Connect x d clean)) (same_turned y x ∙ other))) tt

-- all that it is sent then
pub put_each : (P : Packet → Type 0) (limits : Limits) (place : Place) (past : Past) (y : ConnectionName) → Each P (put_to limits past y) → Each P (sends_to y (answers_at limits place past))
    → Each P (put_to limits (place ∷ past) y)
put_each P limits place past y before behind =
    subst (Each P) (sym (put_more limits place past y)) (each_append P (put_to limits past y) (sends_to y (answers_at limits place past)) before behind)
