-- The list takes one more packet of a connection of the client: what is to show, and that nothing
-- happens if it has no client.
use Rattle.std.proofs.Common.{◌≡◌, ℕ, Bool, true, false, ◌&&◌, List, ◌∷◌, Option, Some, None, refl, ap, ap₂, sym, ◌∙◌, subst, inl, inr, ◌⊎◌}
use Rattle.std.specs.Prelude.{slice_get}
use Rattle.std.proofs.lemmas.Bool.{cases_Bool}
use Rattle.packet.specs.declared.packet.Packet.{Packet}
use Rattle.packet.specs.declared.packet.Packet.TheVariants as packets
use Rattle.broker_spec.specs.Connection.{ConnectionName, same_connection}
use Rattle.broker_spec.specs.Place.{Client, Mark, Place, Past, Limits}
use Rattle.broker_spec.specs.Sessions.{any_connection, current_connection}
use Rattle.broker_spec.specs.Received.{is_new, received_by, received_of}
use Rattle.broker_spec.specs.Marks.{packet_mark_of}
use Rattle.broker_spec.specs.Answers.{packet_answers}
use Rattle.broker_spec.specs.Commands.{place_of}
use Rattle.broker_spec.specs.declared.command.Command.TheVariants as commands
use Rattle.exactly_once.specs.Sides.{ClientConnection}
use Rattle.client_base.specs.Keeper.{Keeper}
use Rattle.exactly_once.specs.StoryCommands.{with_one_counted}
use Rattle.exactly_once.specs.Inside.Projections.{is_current, last_confirmed, as_publisher, GoesTo}
use Rattle.exactly_once.specs.Inside.Shape.{HasShape}
use Rattle.exactly_once.proofs.Packets.{at_packet}
use Rattle.broker_spec.proofs.ConnectionNames.{same_name}
use Rattle.exactly_once.proofs.places.After.{current_stays, received_stays}
use Rattle.exactly_once.proofs.places.Owned.{none_owns}
use Rattle.exactly_once.proofs.publishing.Links.{current_last, forward_last, backward_last}
use Rattle.exactly_once.proofs.publishing.kept.Numbers.{same_counted}
use Rattle.exactly_once.proofs.publishing.First.{story_by}
use Rattle.exactly_once.proofs.publishing.Last.{is_named, LastAfter, last_counted}
use Rattle.exactly_once.proofs.publishing.Elsewhere.{NoneSent}
use Rattle.exactly_once.proofs.publishing.AtPlaces.{no_number, NoneToLast, come_same, StaysOrLeaves, goes_place}

-- if no packet of the handshake is taken
pub goes_counted : (limits : Limits) (place : Place) (past : Past) (keeper : Keeper) (connections : List ClientConnection) (i : ℕ) (κ : ClientConnection) → HasShape limits (story_by past connections keeper)
    → slice_get connections i ≡ Some κ → is_new place.command place.mark ≡ false → received_of past keeper.client ≡ received_of (place ∷ past) keeper.client → NoneToLast limits place past connections
    → (LastAfter (last_confirmed connections) (last_confirmed (with_one_counted i connections)) κ
    → StaysOrLeaves (current_last (current_connection past keeper.client) (last_confirmed connections))
    (current_last (current_connection (place ∷ past) keeper.client) (last_confirmed (with_one_counted i connections)))
    (forward_last (last_confirmed connections)) (forward_last (last_confirmed (with_one_counted i connections))))
    → GoesTo (as_publisher limits (story_by past connections keeper)) (as_publisher limits (story_by (place ∷ past) (with_one_counted i connections) keeper))
goes_counted limits place past keeper connections i κ shape stands old received none choice =
    let after = last_counted i connections κ shape.names_apart stands in
    goes_place limits place past keeper connections (with_one_counted i connections) (no_number connections (with_one_counted i connections) place past old (same_counted past i connections)) received
    (come_same limits place past keeper connections shape.connections none ∙ come after) (choice after)
  where
    come : LastAfter (last_confirmed connections) (last_confirmed (with_one_counted i connections)) κ
        → backward_last limits (place ∷ past) (last_confirmed connections) ≡ backward_last limits (place ∷ past) (last_confirmed (with_one_counted i connections))
    come (inl same) = ap (backward_last limits (place ∷ past)) (sym same.0)
    come (inr this) = ap (backward_last limits (place ∷ past)) this.0 ∙ sym (ap (backward_last limits (place ∷ past)) this.1)

-- a connection that is not the current one is not of its name
pub not_current : (o : Option ConnectionName) (x : ConnectionName) → (o ≡ Some x → ⊥) → is_current o x ≡ false
not_current None x not = refl
not_current (Some y) x not = by (cases_Bool (same_connection y x))
  where
    by : (same_connection y x ≡ true) ⊎ (same_connection y x ≡ false) → same_connection y x ≡ false
    by (inl e) = absurd (not (ap (λ z. Some z) (same_name y x e)))
    by (inr e) = e

-- ---- a packet on a connection without a client

new_nobodys : (x : ConnectionName) (packet : Packet) → is_new (commands.Packet x packet) Mark.Unmarked ≡ false
new_nobodys x (packets.Publish p) = refl
new_nobodys x _ = refl

received_nobodys : (x : ConnectionName) (packet : Packet) (c : Client) (ids : List ℕ) → received_by (commands.Packet x packet) Mark.Unmarked c ids ≡ ids
received_nobodys x (packets.Publish p) c ids = refl
received_nobodys x (packets.Pubrel id) c ids = refl
received_nobodys x _ c ids = refl

answers_nobodys : (y : ConnectionName) (limits : Limits) (past : Past) (x : ConnectionName) (packet : Packet)
    → NoneSent y (packet_answers limits (at_packet x packet Mark.Unmarked) past x packet Mark.Unmarked)
answers_nobodys y limits past x (packets.Publish p) = refl
answers_nobodys y limits past x (packets.Subscribe s) = refl
answers_nobodys y limits past x _ = refl

never_ended : (x : ConnectionName) (packet : Packet) (o : Option ConnectionName) → any_connection (λ y. same_connection x y && false) o ≡ false
never_ended x packet None = refl
never_ended x packet (Some y) = by (same_connection x y)
  where
    by : (b : Bool) → (b && false) ≡ false
    by true = refl
    by false = refl

pub takes_nobodys : (limits : Limits) (past : Past) (keeper : Keeper) (connections : List ClientConnection) (i : ℕ) (κ : ClientConnection) (packet : Packet) → HasShape limits (story_by past connections keeper)
    → slice_get connections i ≡ Some κ → (current_connection past keeper.client ≡ Some κ.name → ⊥)
    → GoesTo (as_publisher limits (story_by past connections keeper))
    (as_publisher limits (story_by (place_of limits past (commands.Packet κ.name packet) ∷ past) (with_one_counted i connections) keeper))
takes_nobodys limits past keeper connections i κ packet shape stands not =
    let h = as_publisher limits (story_by past connections keeper) in
    let c = keeper.client in
    let place = at_packet κ.name packet Mark.Unmarked in
    let current : current_connection (place ∷ past) c ≡ current_connection past c = current_stays place past c refl (never_ended κ.name packet (current_connection past c)) in
    let goes =
    goes_counted limits place past keeper connections i κ shape stands (new_nobodys κ.name packet)
    (sym (received_stays place past c refl refl shape.session (received_nobodys κ.name packet c (received_of past c)))) (λ μ e. answers_nobodys μ.name limits past κ.name packet)
    (choice (current_connection (place ∷ past) c) current) in
    subst (λ (m : Mark). GoesTo h (as_publisher limits (story_by (at_packet κ.name packet m ∷ past) (with_one_counted i connections) keeper)))
    (sym (ap (packet_mark_of limits past packet) (none_owns past c connections κ.name shape.nobody_else (is_named i connections κ stands) not))) goes
  where
    choice : (later : Option ConnectionName) → later ≡ current_connection past keeper.client → LastAfter (last_confirmed connections) (last_confirmed (with_one_counted i connections)) κ
        → StaysOrLeaves (current_last (current_connection past keeper.client) (last_confirmed connections)) (current_last later (last_confirmed (with_one_counted i connections)))
        (forward_last (last_confirmed connections)) (forward_last (last_confirmed (with_one_counted i connections)))
    choice later e (inl same) = inr (sym (ap₂ current_last e same.0), sym (ap forward_last same.0))
    choice later e (inr this) = inl (ap₂ current_last e this.1 ∙ not_current (current_connection past keeper.client) κ.name not)
