-- What places, packets and calls leave of the row that the current connection is the last confirmed one, or an unconfirmed one.
use Rattle.std.proofs.Common.{◌≡◌, ◌≤◌, ℕ, zero, suc, Bool, true, false, ◌||◌, List, [], ◌∷◌, Option, Some, None, refl, ap, sym, ◌∙◌, subst, ◌⊎◌, inl, inr, arith}
use Rattle.std.specs.Prelude.{slice_get}
use Rattle.std.proofs.lemmas.Bool.{both_ways, cases_Bool}
use Rattle.packet.specs.declared.packet.Packet.{Packet}
use Rattle.broker_spec.specs.Connection.{ConnectionName, same_connection}
use Rattle.broker_spec.specs.Place.{Client, Mark, Place, Past, Limits, same_client}
use Rattle.broker_spec.specs.Sessions.{accepts, current_connection}
use Rattle.broker_spec.specs.Marks.{mark_of}
use Rattle.broker_spec.specs.Commands.{place_of}
use Rattle.broker_spec.specs.declared.command.Command.{Command}
use Rattle.broker_spec.specs.declared.command.Command.TheVariants as commands
use Rattle.broker_spec.proofs.ClientsInOrder.{same_is, same_self}
use Rattle.lists.proofs.Tests.{or_right}
use Rattle.client_base.specs.Keeper.{Written}
use Rattle.exactly_once.specs.Sides.{ClientConnection}
use Rattle.exactly_once.specs.Story.{Story}
use Rattle.exactly_once.specs.StoryCommands.{any_named, names_client, command_of, with_one_counted}
use Rattle.client_base.specs.Written.{writes_first}
use Rattle.exactly_once.specs.Inside.Shape.{LastIsCurrent, NewestIsServed, NamesApart, HasShape}
use Rattle.exactly_once.specs.Inside.ConnectionShape.{ConnackFirst, ConnectionInShape}
use Rattle.broker_spec.proofs.ConnectionNames.{same_name}
use Rattle.exactly_once.proofs.places.After.{current_opens}
use Rattle.exactly_once.proofs.publishing.Last.{each_there, is_named}
use Rattle.exactly_once.proofs.publishing.kept.KeepsNames.{counted_named}
use Rattle.exactly_once.proofs.subscribing.Newest.{Unconfirmed, stays_or_none}
use Rattle.exactly_once.proofs.subscribing.events.Opening.{is_new_one}
use Rattle.exactly_once.proofs.subscribing.events.OtherConnects.{at_connect, not_accepted}
use Rattle.exactly_once.proofs.keeping.Rising.{IsTop, none_unconfirmed, unconfirmed_top, top_of, this_of, top_counted, top_written, one_unconfirmed}

-- the row, said from the newest connection on
abbrev pub IsTopOne : Option ConnectionName → List ClientConnection → Type 0
IsTopOne None connections = Unit {0}
IsTopOne (Some x) connections = (any_named (same_connection x) connections ≡ true) × IsTop x connections

-- from the row and back
pub top_one : (current : Option ConnectionName) (connections : List ClientConnection) → NamesApart connections → LastIsCurrent current connections → IsTopOne current connections
top_one None connections apart h = tt
top_one (Some x) connections apart h = (h.0, top_of x connections apart h.1)

-- back to the row
pub last_one : (current : Option ConnectionName) (connections : List ClientConnection) → IsTopOne current connections → LastIsCurrent current connections
last_one None connections h = tt
last_one (Some x) connections h = (h.0, this_of x connections h.1)

-- ---- places

-- a place after which it stays or there is none
pub top_stays : (before behind : Option ConnectionName) (connections : List ClientConnection) → IsTopOne before connections → (behind ≡ before) ⊎ (behind ≡ None) → IsTopOne behind connections
top_stays before behind connections h (inl e) = subst (λ (o : Option ConnectionName). IsTopOne o connections) (sym e) h
top_stays before behind connections h (inr e) = subst (λ (o : Option ConnectionName). IsTopOne o connections) (sym e) tt

-- one more is taken
one_counted : (current : Option ConnectionName) (i : ℕ) (connections : List ClientConnection) → IsTopOne current connections → IsTopOne current (with_one_counted i connections)
one_counted None i connections h = tt
one_counted (Some x) i connections h = (counted_named (same_connection x) i connections ∙ h.0, top_counted x i connections h.1)

-- more is written
pub one_written : (current : Option ConnectionName) (more : List Written) (connections : List ClientConnection) → IsTopOne current connections → IsTopOne current (writes_first more connections)
one_written None more connections h = tt
one_written (Some x) more [] h = h
one_written (Some x) more (κ ∷ others) h = (h.0, top_written x more (κ ∷ others) h.1)

-- another command opens no connection of the client
pub none_opened : (past : Past) (c : Client) (command : Command) (mark : Mark) → (names_client past c command → ⊥) → accepts command mark c ≡ None
none_opened past c (commands.Packet x packet) mark other = refl
none_opened past c (commands.Lost x) mark other = refl
none_opened past c (commands.Start b) mark other = refl
none_opened past c (commands.Expel d) mark other = refl
none_opened past c (commands.Connect x d clean) mark other = not_accepted x d c clean mark (by (cases_Bool (same_client d c)))
  where
    by : (same_client d c ≡ true) ⊎ (same_client d c ≡ false) → same_client d c ≡ false
    by (inl e) = absurd (other (same_is d c e))
    by (inr e) = e

-- a CONNECT of the client, accepted or not
one_opened : (past : Past) (c : Client) (connections : List ClientConnection) (i : ℕ) (κ : ClientConnection) (mark : Mark) → NamesApart connections → slice_get connections i ≡ Some κ → κ.confirmed ≡ false
    → IsTopOne (current_connection past c) connections → IsTopOne (current_connection (at_connect κ.name c false mark ∷ past) c) (with_one_counted i connections)
one_opened past c connections i κ mark apart at u h = by (accepts (commands.Connect κ.name c false) mark c) refl (of mark)
  where
    place : Place
    place = at_connect κ.name c false mark

    of : (m : Mark) → (accepts (commands.Connect κ.name c false) m c ≡ None) ⊎ (accepts (commands.Connect κ.name c false) m c ≡ Some (κ.name, false))
    of Mark.Accepted = inr (rw (same_self c) refl)
    of _ = inl refl

    by : (o : Option (ConnectionName × Bool)) → accepts (commands.Connect κ.name c false) mark c ≡ o
        → (accepts (commands.Connect κ.name c false) mark c ≡ None) ⊎ (accepts (commands.Connect κ.name c false) mark c ≡ Some (κ.name, false))
        → IsTopOne (current_connection (place ∷ past) c) (with_one_counted i connections)
    by o e (inl f) =
        top_stays (current_connection past c) (current_connection (place ∷ past) c) (with_one_counted i connections) (one_counted (current_connection past c) i connections h) (stays_or_none place past c f)
    by o e (inr f) =
        subst (λ (x : Option ConnectionName). IsTopOne x (with_one_counted i connections)) (sym (current_opens place past c (κ.name, false) f)) (
          counted_named (same_connection κ.name) i connections ∙ is_named i connections κ at,
          unconfirmed_top κ.name (with_one_counted i connections) (one_unconfirmed connections i κ apart at u),
        )

-- the next written packet is taken
pub one_taken : (limits : Limits) (s : Story) → HasShape limits s → IsTopOne (current_connection s.past s.keeper.client) s.connections → (i : ℕ) (κ : ClientConnection) (w : Written)
    → slice_get s.connections i ≡ Some κ → slice_get κ.written κ.taken ≡ Some w
    → IsTopOne (current_connection (place_of limits s.past (command_of κ.name κ.taken w.packet) ∷ s.past) s.keeper.client) (with_one_counted i s.connections)
one_taken limits s shape h i κ w at next = by κ.taken refl
  where
    goal : Command → Type 0
    goal command = IsTopOne (current_connection (place_of limits s.past command ∷ s.past) s.keeper.client) (with_one_counted i s.connections)

    by : (taken : ℕ) → κ.taken ≡ taken → goal (command_of κ.name taken w.packet)
    by zero e =
        let in_shape = each_there (ConnectionInShape limits s.past s.keeper.client) i s.connections κ at shape.connections in
        let new = is_new_one limits s.past s.keeper.client κ w in_shape e next in
        subst (λ (z : Written). goal (command_of κ.name zero z.packet)) (sym new.first)
        (one_opened s.past s.keeper.client s.connections i κ (mark_of limits s.past (commands.Connect κ.name s.keeper.client false)) shape.names_apart at new.unconfirmed h)
    by (suc n) e =
        top_stays (current_connection s.past s.keeper.client) (current_connection (place_of limits s.past (commands.Packet κ.name w.packet) ∷ s.past) s.keeper.client) (with_one_counted i s.connections)
        (one_counted (current_connection s.past s.keeper.client) i s.connections h)
        (stays_or_none (place_of limits s.past (commands.Packet κ.name w.packet)) s.past s.keeper.client refl)

-- ---- the client

-- a packet is handled on the newest connection, which has its Connect taken
pub one_handled : (current : Option ConnectionName) (κ after : ClientConnection) (others : List ClientConnection) → NamesApart (κ ∷ others) → after.name ≡ κ.name → 1 ≤ κ.taken
    → NewestIsServed current (κ ∷ others) → IsTopOne current (κ ∷ others) → IsTopOne current (after ∷ others)
one_handled None κ after others apart name taken served h = tt
one_handled (Some x) κ after others apart name taken served h =
    (ap (λ y. same_connection x y || any_named (same_connection x) others) name ∙ h.0, (λ e. by (cases_Bool (same_connection x κ.name)), h.1.1))
  where
    by : (same_connection x κ.name ≡ true) ⊎ (same_connection x κ.name ≡ false) → Unconfirmed x others
    by (inl e) = none_unconfirmed x others (subst (λ (y : ConnectionName). any_named (same_connection y) others ≡ false) (sym (same_name x κ.name e)) apart.0)
    by (inr e) = served taken e

-- a connection with a packet has its Connect taken
pub some_taken : (taken : ℕ) (put : List Packet) (n : ℕ) (packet : Packet) → ConnackFirst taken put → slice_get put n ≡ Some packet → 1 ≤ taken
some_taken zero put n packet g e = absurd (let f : slice_get [] n ≡ Some packet = subst (λ (ps : List Packet). slice_get ps n ≡ Some packet) g e in cc)
some_taken (suc m) put n packet g e = omega arith

-- a new connection is unconfirmed
pub one_new : (current : Option ConnectionName) (κ : ClientConnection) (connections : List ClientConnection) → κ.confirmed ≡ false → IsTopOne current connections → IsTopOne current (κ ∷ connections)
one_new None κ connections u h = tt
one_new (Some x) κ connections u h = (or_right (same_connection x κ.name) (any_named (same_connection x) connections) h.0, (λ e. absurd (both_ways κ.confirmed u e), h.1))
