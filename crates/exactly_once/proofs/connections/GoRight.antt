-- Each answer of a place goes to the connection of its command or to a current one, and a CONNACK answers a Connect.
use Rattle.std.proofs.Common.{◌≡◌, ◌⊎◌, inl, inr, Bool, true, false, not, if◌then◌else◌, List, [], ◌∷◌, length, Option, Some, None, refl, ap, sym, ◌∙◌, subst, arith}
use Rattle.std.specs.Prelude.{flat_map}
use Rattle.std.proofs.lemmas.Bool.{both_ways, cases_Bool}
use Rattle.packet.specs.declared.packet.Packet.{Packet}
use Rattle.packet.specs.declared.packet.Packet.TheVariants as packets
use Rattle.broker_spec.specs.Connection.{ConnectionName, same_connection}
use Rattle.broker_spec.specs.Place.{Client, Mark, Place, Past, Limits}
use Rattle.broker_spec.specs.Sessions.{current_connection, begins}
use Rattle.broker_spec.specs.Owner.{clients}
use Rattle.broker_spec.specs.Times.{entries_of}
use Rattle.broker_spec.specs.Sends.{resent_outputs, deliveries_to}
use Rattle.broker_spec.specs.Answers.{close_outputs, welcome, acknowledged, codes_of, packet_answers, connect_answers, answers_by}
use Rattle.broker_spec.specs.AnswersInOrder.{answers_at}
use Rattle.broker_spec.specs.declared.command.Command.{Command}
use Rattle.broker_spec.specs.declared.command.Command.TheVariants as commands
use Rattle.broker_spec.specs.declared.command.Output.{Output}
use Rattle.broker_spec.specs.declared.command.Output.TheVariants.{Send, Close}
use Rattle.lists.specs.Lists.{Each}
use Rattle.lists.proofs.OfEach.{each_append}
use Rattle.exactly_once.specs.Sends.{sends_to}
use Rattle.exactly_once.specs.StoryCommands.{is_packet_of, packet_count}
use Rattle.exactly_once.specs.Inside.ConnectionShape.{is_connack, no_connacks}
use Rattle.broker_spec.proofs.ConnectionNames.{same_name, same_itself}
use Rattle.exactly_once.proofs.places.Counts.{current_counted}
use Rattle.exactly_once.proofs.connections.Answers.{is_connect_of, GoesRight, MayBeSent, each_flat, resent_right, deliveries_right, acknowledged_right, handled_right}

-- of a packet
packet_right : (limits : Limits) (place : Place) (past : Past) (x : ConnectionName) (packet : Packet) (mark : Mark) → Each (GoesRight (commands.Packet x packet) past) (packet_answers limits place past x packet mark)
packet_right limits place past x packet mark = by packet mark
  where
    P : Output → Type 0
    P = GoesRight (commands.Packet x packet) past

    here : MayBeSent P x
    here q e = (inl (same_itself x), inl e)

    there : (d : Client) (y : ConnectionName) → current_connection past d ≡ Some y → MayBeSent P y
    there d y c q e = (inr (d, c), inl e)

    by : (q : Packet) (m : Mark) → Each P (packet_answers limits place past x q m)
    by (packets.Publish p) (Mark.Taken c) =
        each_append P (acknowledged x p.delivery) (flat_map (deliveries_to limits place past) (clients past)) (acknowledged_right P x here p.delivery)
        (each_flat P (deliveries_to limits place past) (deliveries_right P limits place past there) (clients past))
    by (packets.Publish p) (Mark.Repeat c) = acknowledged_right P x here p.delivery
    by (packets.Subscribe s) (Mark.Granted c which) =
        (here (packets.Suback (record { id = s.id; codes = codes_of s.filters which })) refl, deliveries_right P limits place past there c)
    by q (Mark.Handled c) = handled_right P limits place past x c here q
    by _ (Mark.Leaves c) = (tt, tt)
    by _ (Mark.Refused c) = (tt, tt)
    by _ _ = tt

-- of a Connect
connect_right : (limits : Limits) (place : Place) (past : Past) (x : ConnectionName) (c : Client) (clean : Bool) (mark : Mark)
    → Each (GoesRight (commands.Connect x c clean) past) (connect_answers limits place past x c mark)
connect_right limits place past x c clean Mark.Accepted =
    each_append P (close_outputs (current_connection past c)) (welcome x (not (begins place past c)) ∷ resent_outputs x (length past) (entries_of limits (place ∷ past) c))
    (closes (current_connection past c))
    ((inl (same_itself x), inr (same_itself x)), resent_right P x (length past) (λ q e. (inl (same_itself x), inl e)) (entries_of limits (place ∷ past) c))
  where
    P : Output → Type 0
    P = GoesRight (commands.Connect x c clean) past

    closes : (o : Option ConnectionName) → Each P (close_outputs o)
    closes None = tt
    closes (Some y) = (tt, tt)
connect_right limits place past x c clean Mark.Full = ((inl (same_itself x), inr (same_itself x)), (tt, tt))
connect_right limits place past x c clean _ = (tt, tt)

-- of any command
pub all_right : (limits : Limits) (place : Place) (past : Past) → Each (GoesRight place.command past) (answers_at limits place past)
all_right limits place past = by place.command
  where
    by : (command : Command) → Each (GoesRight command past) (answers_by limits place past command place.mark)
    by (commands.Packet x packet) = packet_right limits place past x packet place.mark
    by (commands.Connect x c clean) = connect_right limits place past x c clean place.mark
    by (commands.Lost x) = tt
    by (commands.Start b) = tt
    by (commands.Expel d) = closes (current_connection past d)
      where
        closes : (o : Option ConnectionName) → Each (GoesRight (commands.Expel d) past) (close_outputs o)
        closes None = tt
        closes (Some y) = (tt, tt)

-- ---- what a connection is sent

-- no CONNACK but to the Connect of its own
pub no_connack_sent : (command : Command) (past : Past) (y : ConnectionName) → is_connect_of command y ≡ false → (answers : List Output) → Each (GoesRight command past) answers → no_connacks (sends_to y answers)
no_connack_sent command past y other [] h = tt
no_connack_sent command past y other (Close z ∷ answers) h = no_connack_sent command past y other answers h.1
no_connack_sent command past y other (Send z packet ∷ answers) h = by (cases_Bool (same_connection y z)) (no_connack_sent command past y other answers h.1)
  where
    plain : same_connection y z ≡ true → (is_connack packet ≡ false) ⊎ (is_connect_of command z ≡ true) → is_connack packet ≡ false
    plain e (inl f) = f
    plain e (inr f) = absurd (both_ways (is_connect_of command y) other (ap (is_connect_of command) (same_name y z e) ∙ f))

    by : (same_connection y z ≡ true) ⊎ (same_connection y z ≡ false) → no_connacks (sends_to y answers) → no_connacks (if same_connection y z then packet ∷ sends_to y answers else sends_to y answers)
    by (inl e) ih = subst (λ (b : Bool). no_connacks (if b then packet ∷ sends_to y answers else sends_to y answers)) (sym e) (plain e h.0.1, ih)
    by (inr e) ih = subst (λ (b : Bool). no_connacks (if b then packet ∷ sends_to y answers else sends_to y answers)) (sym e) ih

-- nothing if the command is not its own, and it has no client
nothing_sent : (command : Command) (past : Past) (y : ConnectionName) → is_packet_of command y ≡ false → ((d : Client) → current_connection past d ≡ Some y → ⊥) → (answers : List Output)
    → Each (GoesRight command past) answers → sends_to y answers ≡ []
nothing_sent command past y other none [] h = refl
nothing_sent command past y other none (Close z ∷ answers) h = nothing_sent command past y other none answers h.1
nothing_sent command past y other none (Send z packet ∷ answers) h =
    ap (λ b. if b then packet ∷ sends_to y answers else sends_to y answers) (by (cases_Bool (same_connection y z)) h.0.0) ∙ nothing_sent command past y other none answers h.1
  where
    by : (same_connection y z ≡ true) ⊎ (same_connection y z ≡ false) → (is_packet_of command z ≡ true) ⊎ ((d : Client) × (current_connection past d ≡ Some z)) → same_connection y z ≡ false
    by (inr e) g = e
    by (inl e) (inl f) = absurd (both_ways (is_packet_of command y) other (ap (is_packet_of command) (same_name y z e) ∙ f))
    by (inl e) (inr f) = absurd (none f.0 (f.1 ∙ ap (λ x. Some x) (sym (same_name y z e))))

-- if none of its packets was taken it has no client
uncounted_nobody : (past : Past) (y : ConnectionName) → packet_count y past ≡ 0 → (d : Client) → current_connection past d ≡ Some y → ⊥
uncounted_nobody past y none d e = let some = current_counted past d y e in absurd (omega (arith, some, none))

-- a command that is not its own is no Connect of it
pub not_its_connect : (command : Command) (y : ConnectionName) → is_packet_of command y ≡ false → is_connect_of command y ≡ false
not_its_connect (commands.Packet x packet) y e = refl
not_its_connect (commands.Connect x c clean) y e = e
not_its_connect (commands.Lost x) y e = refl
not_its_connect (commands.Start b) y e = refl
not_its_connect (commands.Expel d) y e = refl

-- so at a place
pub place_no_connack : (limits : Limits) (place : Place) (past : Past) (y : ConnectionName) → is_connect_of place.command y ≡ false → no_connacks (sends_to y (answers_at limits place past))
place_no_connack limits place past y other = no_connack_sent place.command past y other (answers_at limits place past) (all_right limits place past)

-- and nothing if the place is of another, and it has no client
pub place_to_nobody : (limits : Limits) (place : Place) (past : Past) (y : ConnectionName) → is_packet_of place.command y ≡ false → ((d : Client) → current_connection past d ≡ Some y → ⊥)
    → sends_to y (answers_at limits place past) ≡ []
place_to_nobody limits place past y other none = nothing_sent place.command past y other none (answers_at limits place past) (all_right limits place past)

-- as before a packet of it is taken
pub place_nothing : (limits : Limits) (place : Place) (past : Past) (y : ConnectionName) → is_packet_of place.command y ≡ false → packet_count y past ≡ 0 → sends_to y (answers_at limits place past) ≡ []
place_nothing limits place past y other none = place_to_nobody limits place past y other (uncounted_nobody past y none)
