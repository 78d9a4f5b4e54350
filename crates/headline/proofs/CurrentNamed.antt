-- A client's current connection is one of its own.
use Rattle.std.proofs.Common.{◌≡◌, ℕ, Bool, true, false, List, ◌∷◌, Option, Some, None, refl, sym, ap, ◌∙◌, subst, inl, inr, ◌⊎◌}
use Rattle.std.specs.Prelude.{slice_get}
use Rattle.packet.specs.declared.packet.Packet.{Packet}
use Rattle.broker_spec.specs.declared.command.Command.{Command}
use Rattle.broker_spec.specs.declared.command.Command.TheVariants as commands
use Rattle.broker_spec.specs.Commands.{place_of}
use Rattle.broker_spec.specs.Connection.{ConnectionName, same_connection}
use Rattle.broker_spec.specs.Sessions.{accepts, current_connection}
use Rattle.broker_spec.specs.Place.{Client, Limits, Mark, Past, Place}
use Rattle.broker_spec.proofs.ClientsInOrder.{same_self}
use Rattle.exactly_once.specs.Sides.{ClientConnection}
use Rattle.exactly_once.specs.StoryCommands.{any_named, with_one_counted}
use Rattle.exactly_once.proofs.places.After.{current_opens}
use Rattle.exactly_once.proofs.publishing.Last.{is_named}
use Rattle.exactly_once.proofs.publishing.kept.KeepsNames.{counted_named}
use Rattle.exactly_once.proofs.sessions.EachPlaced.{IsOwnCommand}
use Rattle.exactly_once.proofs.subscribing.Newest.{stays_or_none}

-- it is one that it opened
abbrev pub IsCurrentNamed : Client → List ClientConnection → Past → Type 0
IsCurrentNamed c connections past = (y : ConnectionName) → current_connection past c ≡ Some y → any_named (same_connection y) connections ≡ true

-- a place that opens none of the client's connections
pub stays_named : (place : Place) (past : Past) (c : Client) (connections : List ClientConnection) → accepts place.command place.mark c ≡ None → IsCurrentNamed c connections past
    → IsCurrentNamed c connections (place ∷ past)
stays_named place past c connections closed h y is = by (stays_or_none place past c closed)
  where
    by : (current_connection (place ∷ past) c ≡ current_connection past c) ⊎ (current_connection (place ∷ past) c ≡ None) → any_named (same_connection y) connections ≡ true
    by (inl same) = h y (sym same ∙ is)
    by (inr none) = absurd (let f : None ≡ Some y = sym none ∙ is in cc)

-- one of its own that does
opens_named : (place : Place) (past : Past) (c : Client) (connections : List ClientConnection) (opened : ConnectionName × Bool) → accepts place.command place.mark c ≡ Some opened
    → any_named (same_connection opened.0) connections ≡ true → IsCurrentNamed c connections (place ∷ past)
opens_named place past c connections opened e named y is =
    let both : Some opened.0 ≡ Some y = sym (current_opens place past c opened e) ∙ is in
    let same : opened.0 ≡ y = cc in
    subst (λ (x : ConnectionName). any_named (same_connection x) connections ≡ true) same named

accepted_name : (x : ConnectionName) (c : Client) (mark : Mark) (opened : ConnectionName × Bool) → accepts (commands.Connect x c false) mark c ≡ Some opened → opened.0 ≡ x
accepted_name x c Mark.Accepted opened e =
    let own : accepts (commands.Connect x c false) Mark.Accepted c ≡ Some (x, false) = rw (same_self c) refl in
    let both : Some opened ≡ Some (x, false) = sym e ∙ own in
    let same : opened ≡ (x, false) = cc in
    ap (λ (p : ConnectionName × Bool). p.0) same
accepted_name x c _ opened e = cc

pub taken_named : (limits : Limits) (past : Past) (c : Client) (i : ℕ) (κ : ClientConnection) (packet : Packet) (command : Command) (connections : List ClientConnection) → IsOwnCommand c κ packet command
    → slice_get connections i ≡ Some κ → IsCurrentNamed c connections past → IsCurrentNamed c (with_one_counted i connections) (place_of limits past command ∷ past)
taken_named limits past c i κ packet command connections kind at h = by (accepts command place.mark c) refl
  where
    place : Place
    place = place_of limits past command

    later : IsCurrentNamed c (with_one_counted i connections) past
    later y is = counted_named (same_connection y) i connections ∙ h y is

    named : IsOwnCommand c κ packet command → (opened : ConnectionName × Bool) → accepts command place.mark c ≡ Some opened → opened.0 ≡ κ.name
    named (inl k) opened e = accepted_name κ.name c place.mark opened (sym (ap (λ d. accepts d place.mark c) k.1) ∙ e)
    named (inr k) opened e = absurd (let f : None ≡ Some opened = sym (ap (λ d. accepts d place.mark c) k.1) ∙ e in cc)

    by : (o : Option (ConnectionName × Bool)) → accepts command place.mark c ≡ o → IsCurrentNamed c (with_one_counted i connections) (place ∷ past)
    by None e = stays_named place past c (with_one_counted i connections) e later
    by (Some opened) e =
        opens_named place past c (with_one_counted i connections) opened e
        (subst (λ (x : ConnectionName). any_named (same_connection x) (with_one_counted i connections) ≡ true) (sym (named kind opened e))
        (counted_named (same_connection κ.name) i connections ∙ is_named i connections κ at))
