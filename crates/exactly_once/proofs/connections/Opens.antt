-- The list takes the CONNECT of a connection of the client: its first answer is a CONNACK, and no other is.
use Rattle.std.proofs.Common.{◌≡◌, ◌≤◌, inl, ℕ, zero, suc, Bool, true, false, ◌||◌, nat_lt, not, if◌then◌else◌, List, [], ◌∷◌, ◌++◌, length, Option, Some, None, refl, ap, sym, ◌∙◌, subst, arith}
use Rattle.std.specs.Prelude.{slice_get, is_some}
use Rattle.packet.specs.declared.packet.Packet.{Packet}
use Rattle.packet.specs.declared.packet.Packet.TheVariants as packets
use Rattle.broker_spec.specs.Connection.{ConnectionName}
use Rattle.broker_spec.specs.Place.{Client, Mark, Place, Past, Limits}
use Rattle.broker_spec.specs.Sessions.{current_connection, begins, clean_session_of}
use Rattle.broker_spec.specs.Owner.{clients, owner_of}
use Rattle.broker_spec.specs.Times.{entries_of}
use Rattle.broker_spec.specs.Sends.{resent_outputs}
use Rattle.broker_spec.specs.Answers.{close_outputs, welcome, turned_away}
use Rattle.broker_spec.specs.AnswersInOrder.{answers_at}
use Rattle.broker_spec.specs.Marks.{connect_mark}
use Rattle.broker_spec.specs.Commands.{place_of}
use Rattle.broker_spec.specs.declared.command.Command.TheVariants as commands
use Rattle.broker_spec.specs.declared.command.Output.{Output}
use Rattle.broker_spec.specs.declared.command.Output.TheVariants.{Close}
use Rattle.lists.proofs.OfEach.{each_append}
use Rattle.exactly_once.specs.Sends.{sends_to, put_to}
use Rattle.client_base.specs.Keeper.{Written}
use Rattle.exactly_once.specs.Sides.{ClientConnection}
use Rattle.exactly_once.specs.StoryCommands.{command_of}
use Rattle.exactly_once.specs.Inside.Projections.{backward_of_own}
use Rattle.exactly_once.specs.Inside.ConnectionShape.{is_connack, no_connacks, ConnackFirst, ConnectionInShape}
use Rattle.broker_spec.proofs.ConnectionNames.{same_itself}
use Rattle.exactly_once.proofs.places.Counts.{current_counted}
use Rattle.exactly_once.proofs.publishing.AtPlaces.{put_more}
use Rattle.exactly_once.proofs.publishing.Elsewhere.{connect_none}
use Rattle.exactly_once.proofs.publishing.Last.{taken_more}
use Rattle.exactly_once.proofs.subscribing.events.Opening.{is_new_one}
use Rattle.exactly_once.proofs.subscribing.places.Owners.{owner_is}
use Rattle.exactly_once.proofs.connections.Answers.{GoesRight, resent_right}
use Rattle.exactly_once.proofs.connections.GoRight.{no_connack_sent, place_no_connack}

-- the rows of one connection
pub record FirstOf (limits : Limits) (past : Past) (κ : ClientConnection) : Type 0 where
  pub connack_first : ConnackFirst κ.taken (put_to limits past κ.name)
  pub asks_first : κ.taken ≤ 1 → backward_of_own (put_to limits past κ.name) ≡ []

-- more that is no CONNACK comes after one
pub connack_more : (n m : ℕ) (put more : List Packet) → ConnackFirst (suc n) put → no_connacks more → ConnackFirst (suc m) (put ++ more)
connack_more n m [] more h none = absurd h
connack_more n m (first ∷ put) more h none = (h.0, each_append (λ packet. is_connack packet ≡ false) put more h.1 none)

-- the place of the Connect
abbrev pub at_own : ConnectionName → Client → Mark → Place
at_own x c mark = record { command = commands.Connect x c false; mark = mark }

-- what is sent of an accepted one
welcomed : (n : ℕ) (y : ConnectionName) (o : Option ConnectionName) (present : Bool) (more : List Output) → no_connacks (sends_to y more) → ConnackFirst (suc n) (sends_to y (close_outputs o ++ welcome y present ∷ more))
welcomed n y None present more h = rw (same_itself y) (refl, h)
welcomed n y (Some z) present more h = rw (same_itself y) (refl, h)

-- and of one too many
turned : (n : ℕ) (y : ConnectionName) → ConnackFirst (suc n) (sends_to y (turned_away y ∷ Close y ∷ []))
turned n y = rw (same_itself y) (refl, tt)

-- what is sent again is no CONNACK
resent_plain : (past : Past) (y : ConnectionName) (limits : Limits) (place : Place) (c : Client) → no_connacks (sends_to y (resent_outputs y (length past) (entries_of limits (place ∷ past) c)))
resent_plain past y limits place c =
    let es = entries_of limits (place ∷ past) c in
    no_connack_sent (commands.Packet y packets.Pingreq) past y refl (resent_outputs y (length past) es)
    (resent_right (GoesRight (commands.Packet y packets.Pingreq) past) y (length past) (λ q e. (inl (same_itself y), inl e)) es)

-- nothing came before, so what the place sends is all
opens_with : (limits : Limits) (past : Past) (c : Client) (κ : ClientConnection) (mark : Mark) → put_to limits past κ.name ≡ [] → ConnackFirst (suc κ.taken) (sends_to κ.name (answers_at limits (at_own κ.name c mark) past))
    → FirstOf limits (at_own κ.name c mark ∷ past) (taken_more κ)
opens_with limits past c κ mark none h =
    let all : put_to limits (at_own κ.name c mark ∷ past) κ.name ≡ sends_to κ.name (answers_at limits (at_own κ.name c mark) past) =
    put_more limits (at_own κ.name c mark) past κ.name ∙ ap (λ l. l ++ sends_to κ.name (answers_at limits (at_own κ.name c mark) past)) none in
    record {
      connack_first = subst (ConnackFirst (suc κ.taken)) (sym all) h;
      asks_first = λ few. ap backward_of_own all ∙ connect_none κ.name limits (at_own κ.name c mark) past κ.name c mark;
    }

-- the next packet of a connection is taken
pub own_first : (limits : Limits) (past : Past) (c : Client) (κ : ClientConnection) (w : Written) → ConnectionInShape limits past c κ → slice_get κ.written κ.taken ≡ Some w
    → FirstOf limits (place_of limits past (command_of κ.name κ.taken w.packet) ∷ past) (taken_more κ)
own_first limits past c κ w shape next = by κ.taken refl
  where
    goal : ℕ → Packet → Type 0
    goal n packet = FirstOf limits (place_of limits past (command_of κ.name n packet) ∷ past) (taken_more κ)

    opened : (mark : Mark) → Type 0
    opened mark = FirstOf limits (at_own κ.name c mark ∷ past) (taken_more κ)

    accepted : put_to limits past κ.name ≡ [] → opened Mark.Accepted
    accepted none =
        opens_with limits past c κ Mark.Accepted none
        (welcomed κ.taken κ.name (current_connection past c) (not (begins (at_own κ.name c Mark.Accepted) past c))
        (resent_outputs κ.name (length past) (entries_of limits (at_own κ.name c Mark.Accepted ∷ past) c)) (resent_plain past κ.name limits (at_own κ.name c Mark.Accepted) c))

    room : (b : Bool) → put_to limits past κ.name ≡ [] → opened (if b then Mark.Accepted else Mark.Full)
    room true none = accepted none
    room false none = opens_with limits past c κ Mark.Full none (turned κ.taken κ.name)

    owned : (o : Option Client) → owner_of past κ.name ≡ o → κ.taken ≡ 0 → put_to limits past κ.name ≡ [] → opened (connect_mark limits past c o)
    owned (Some d) e new none =
        let some = current_counted past d κ.name (owner_is past κ.name d e) in
        let counted = shape.counted in
        absurd (omega (arith, some, counted, new))
    owned None e new none = room (is_some (clean_session_of past c) || nat_lt (length (clients past)) limits.sessions) none

    by : (n : ℕ) → κ.taken ≡ n → goal n w.packet
    by zero e =
        let new = is_new_one limits past c κ w shape e next in
        subst (λ (v : Written). goal zero v.packet) (sym new.first) (owned (owner_of past κ.name) refl e new.put)
    by (suc n) e =
        let place = place_of limits past (commands.Packet κ.name w.packet) in
        let sends = sends_to κ.name (answers_at limits place past) in
        record {
          connack_first = subst (ConnackFirst (suc κ.taken)) (sym (put_more limits place past κ.name))
              (connack_more n κ.taken (put_to limits past κ.name) sends (subst (λ (m : ℕ). ConnackFirst m (put_to limits past κ.name)) e shape.connack_first)
              (place_no_connack limits place past κ.name refl));
          asks_first = λ few. absurd (omega (arith, few, e));
        }
