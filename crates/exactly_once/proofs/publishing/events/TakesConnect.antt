-- The list takes the CONNECT of a connection of the client.
use Rattle.std.proofs.Common.{◌≡◌, ℕ, Bool, true, false, ◌||◌, if◌then◌else◌, nat_lt, List, [], ◌∷◌, length, Option, Some, None, refl, ap, ap₂, sym, ◌∙◌, subst, arith, inl, inr, ◌⊎◌}
use Rattle.std.specs.Prelude.{slice_get, is_some}
use Rattle.std.proofs.lemmas.Bool.{both_ways, cases_Bool}
use Rattle.broker_spec.specs.Connection.{ConnectionName, same_connection}
use Rattle.broker_spec.specs.Place.{Client, Mark, Place, Past, Limits, only_if}
use Rattle.broker_spec.specs.Sessions.{any_connection, current_connection, clean_session_of}
use Rattle.broker_spec.specs.Marks.{connect_mark}
use Rattle.broker_spec.specs.Owner.{clients}
use Rattle.broker_spec.specs.Commands.{place_of}
use Rattle.broker_spec.specs.declared.command.Command.TheVariants as commands
use Rattle.broker_spec.proofs.ClientsInOrder.{same_self}
use Rattle.exactly_once.specs.Handshake.{Handshake}
use Rattle.exactly_once.specs.Sends.{put_to}
use Rattle.client_base.specs.Keeper.{Written, Keeper}
use Rattle.exactly_once.specs.Sides.{ClientConnection}
use Rattle.exactly_once.specs.StoryCommands.{with_one_counted, command_of}
use Rattle.client_base.specs.Connected.{opening_connect}
use Rattle.exactly_once.specs.Inside.Projections.{last_confirmed, as_publisher, GoesTo}
use Rattle.exactly_once.specs.Inside.Shape.{HasShape}
use Rattle.exactly_once.specs.Inside.ConnectionShape.{ConnackFirst, ConnectionInShape}
use Rattle.broker_spec.proofs.ConnectionNames.{same_name}
use Rattle.exactly_once.proofs.places.Counts.{current_counted}
use Rattle.exactly_once.proofs.places.After.{current_stays, current_opens, received_stays, received_opens}
use Rattle.exactly_once.proofs.places.Owned.{none_owns}
use Rattle.exactly_once.proofs.publishing.Links.{current_last, forward_last}
use Rattle.exactly_once.proofs.publishing.First.{story_by}
use Rattle.exactly_once.proofs.publishing.Last.{each_there, last_is_confirmed, is_named, LastAfter}
use Rattle.exactly_once.proofs.publishing.Elsewhere.{connect_none}
use Rattle.exactly_once.proofs.publishing.AtPlaces.{StaysOrLeaves}
use Rattle.exactly_once.proofs.publishing.Counted.{goes_counted}

-- the place of the Connect
abbrev pub at_connect : ConnectionName → Client → Mark → Place
at_connect x c mark = record { command = commands.Connect x c false; mark = mark }

-- before its CONNECT is taken a connection is not confirmed
pub not_yet_confirmed : (limits : Limits) (past : Past) (c : Client) (κ : ClientConnection) → ConnectionInShape limits past c κ → κ.taken ≡ 0 → κ.confirmed ≡ false
not_yet_confirmed limits past c κ shape none = by (cases_Bool κ.confirmed)
  where
    by : (κ.confirmed ≡ true) ⊎ (κ.confirmed ≡ false) → κ.confirmed ≡ false
    by (inr e) = e
    by (inl e) =
        let empty : put_to limits past κ.name ≡ [] = subst (λ (n : ℕ). ConnackFirst n (put_to limits past κ.name)) none shape.connack_first in
        let nothing = ap length empty in
        let some = shape.handled_some e in
        let within = shape.handled_within in
        absurd (omega (arith, nothing, some, within))

-- and it is not current
pub not_yet_current : (limits : Limits) (past : Past) (c : Client) (κ : ClientConnection) → ConnectionInShape limits past c κ → κ.taken ≡ 0 → current_connection past c ≡ Some κ.name → ⊥
not_yet_current limits past c κ shape none e =
    let some = current_counted past c κ.name e in
    let counted = shape.counted in
    omega (arith, some, counted, none)

-- a Connect ends no other connection
pub not_its_end : (x : ConnectionName) (o : Option ConnectionName) → (o ≡ Some x → ⊥) → any_connection (λ y. same_connection x y) o ≡ false
not_its_end x None not = refl
not_its_end x (Some y) not = by (cases_Bool (same_connection x y))
  where
    by : (same_connection x y ≡ true) ⊎ (same_connection x y ≡ false) → same_connection x y ≡ false
    by (inl e) = absurd (not (ap (λ z. Some z) (sym (same_name x y e))))
    by (inr e) = e

-- the last confirmed connection is another than the one that opens
not_opened : (x : ConnectionName) (last : Option ClientConnection) → ((μ : ClientConnection) → last ≡ Some μ → same_connection x μ.name ≡ false) → current_last (Some x) last ≡ false
not_opened x None other = refl
not_opened x (Some μ) other = other μ refl

takes_opening : (limits : Limits) (past : Past) (keeper : Keeper) (connections : List ClientConnection) (i : ℕ) (κ : ClientConnection) → HasShape limits (story_by past connections keeper)
    → slice_get connections i ≡ Some κ → κ.taken ≡ 0
    → GoesTo (as_publisher limits (story_by past connections keeper))
    (as_publisher limits (story_by (place_of limits past (commands.Connect κ.name keeper.client false) ∷ past) (with_one_counted i connections) keeper))
takes_opening limits past keeper connections i κ shape stands none =
    subst (λ (m : Mark). GoesTo h (after m)) (sym (ap (connect_mark limits past c) (none_owns past c connections κ.name shape.nobody_else (is_named i connections κ stands) not)))
    (by (is_some (clean_session_of past c) || nat_lt (length (clients past)) limits.sessions))
  where
    c : Client
    c = keeper.client

    h : Handshake ℕ
    h = as_publisher limits (story_by past connections keeper)

    after : Mark → Handshake ℕ
    after m = as_publisher limits (story_by (at_connect κ.name keeper.client m ∷ past) (with_one_counted i connections) keeper)

    this : ConnectionInShape limits past keeper.client κ
    this = each_there (ConnectionInShape limits past keeper.client) i connections κ stands shape.connections

    not : current_connection past keeper.client ≡ Some κ.name → ⊥
    not = not_yet_current limits past keeper.client κ this none

    never : {A : Type 0} → last_confirmed connections ≡ Some κ → A
    never e = absurd (both_ways κ.confirmed (not_yet_confirmed limits past keeper.client κ this none) (last_is_confirmed connections κ e))

    accepted : GoesTo h (after Mark.Accepted)
    accepted =
        let place = at_connect κ.name keeper.client Mark.Accepted in
        let opened = ap (λ b. only_if b (Some (κ.name, false))) (same_self keeper.client) in
        goes_counted limits place past keeper connections i κ shape stands refl (sym (received_opens place past keeper.client κ.name opened shape.session refl))
        (λ μ e. connect_none μ.name limits place past κ.name keeper.client Mark.Accepted)
        (choice (current_connection (place ∷ past) keeper.client) (current_opens place past keeper.client (κ.name, false) opened))
      where
        choice : (later : Option ConnectionName) → later ≡ Some κ.name → LastAfter (last_confirmed connections) (last_confirmed (with_one_counted i connections)) κ
            → StaysOrLeaves (current_last (current_connection past keeper.client) (last_confirmed connections)) (current_last later (last_confirmed (with_one_counted i connections)))
            (forward_last (last_confirmed connections)) (forward_last (last_confirmed (with_one_counted i connections)))
        choice later e (inl same) = inl (ap₂ current_last e same.0 ∙ not_opened κ.name (last_confirmed connections) same.1)
        choice later e (inr confirmed) = never confirmed.0

    full : GoesTo h (after Mark.Full)
    full =
        let place = at_connect κ.name keeper.client Mark.Full in
        goes_counted limits place past keeper connections i κ shape stands refl (sym (received_stays place past keeper.client refl refl shape.session refl))
        (λ μ e. connect_none μ.name limits place past κ.name keeper.client Mark.Full)
        (choice (current_connection (place ∷ past) keeper.client) (current_stays place past keeper.client refl (not_its_end κ.name (current_connection past keeper.client) not)))
      where
        choice : (later : Option ConnectionName) → later ≡ current_connection past keeper.client → LastAfter (last_confirmed connections) (last_confirmed (with_one_counted i connections)) κ
            → StaysOrLeaves (current_last (current_connection past keeper.client) (last_confirmed connections)) (current_last later (last_confirmed (with_one_counted i connections)))
            (forward_last (last_confirmed connections)) (forward_last (last_confirmed (with_one_counted i connections)))
        choice later e (inl same) = inr (sym (ap₂ current_last e same.0), sym (ap forward_last same.0))
        choice later e (inr confirmed) = never confirmed.0

    by : (b : Bool) → GoesTo h (after (if b then Mark.Accepted else Mark.Full))
    by true = accepted
    by false = full

pub takes_connect : (limits : Limits) (past : Past) (keeper : Keeper) (connections : List ClientConnection) (i : ℕ) (κ : ClientConnection) (w : Written) → HasShape limits (story_by past connections keeper)
    → slice_get connections i ≡ Some κ → slice_get κ.written 0 ≡ Some w → κ.taken ≡ 0
    → GoesTo (as_publisher limits (story_by past connections keeper))
    (as_publisher limits (story_by (place_of limits past (command_of κ.name 0 w.packet) ∷ past) (with_one_counted i connections) keeper))
takes_connect limits past keeper connections i κ w shape stands next none =
    let this = each_there (ConnectionInShape limits past keeper.client) i connections κ stands shape.connections in
    let first : Some (opening_connect keeper.client) ≡ Some w = sym (ap (λ ws. slice_get ws 0) this.written) ∙ next in
    let same : opening_connect keeper.client ≡ w = cc in
    subst (λ (v : Written). GoesTo (as_publisher limits (story_by past connections keeper))
    (as_publisher limits (story_by (place_of limits past (command_of κ.name 0 v.packet) ∷ past) (with_one_counted i connections) keeper))) same
    (takes_opening limits past keeper connections i κ shape stands none)
