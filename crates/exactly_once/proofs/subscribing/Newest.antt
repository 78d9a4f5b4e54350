-- The new row of shape that the newest connection is served, if its Connect is taken, is kept by
-- every event on the list.
use Rattle.std.proofs.Common.{◌≡◌, ℕ, zero, suc, true, false, List, [], ◌∷◌, Option, Some, None, ap, sym, ◌∙◌, subst, ◌⊎◌, inl, inr, arith}
use Rattle.std.specs.Prelude.{slice_get}
use Rattle.std.proofs.lemmas.Bool.{both_ways, cases_Bool}
use Rattle.broker_spec.specs.Connection.{ConnectionName, same_connection}
use Rattle.broker_spec.specs.Place.{Client, Place, Past}
use Rattle.broker_spec.specs.Sessions.{accepts, ends_any, current_connection}
use Rattle.lists.specs.Lists.{Each}
use Rattle.lists.proofs.Tests.{or_none}
use Rattle.exactly_once.specs.Sides.{ClientConnection}
use Rattle.exactly_once.specs.StoryCommands.{any_named, with_one_counted}
use Rattle.exactly_once.specs.Inside.Shape.{NamesApart, NewestIsServed}
use Rattle.exactly_once.proofs.Takes.{same_name_self}
use Rattle.exactly_once.proofs.subscribing.events.Leaving.{same_name}
use Rattle.exactly_once.proofs.subscribing.Counted.{named_at}
use Rattle.exactly_once.proofs.subscribing.places.Quiet.{current_same, current_over}

-- a place that opens no connection of the client leaves it the current one, or none
pub stays_or_none : (place : Place) (past : Past) (c : Client) → accepts place.command place.mark c ≡ None
    → (current_connection (place ∷ past) c ≡ current_connection past c) ⊎ (current_connection (place ∷ past) c ≡ None)
stays_or_none place past c e = by (cases_Bool (ends_any place c (current_connection past c)))
  where
    by : (ends_any place c (current_connection past c) ≡ true) ⊎ (ends_any place c (current_connection past c) ≡ false)
        → (current_connection (place ∷ past) c ≡ current_connection past c) ⊎ (current_connection (place ∷ past) c ≡ None)
    by (inl f) = inr (current_over place past c e f)
    by (inr f) = inl (current_same place past c e f)

-- so the row stays
pub newest_stays : (before behind : Option ConnectionName) (connections : List ClientConnection) → NewestIsServed before connections → (behind ≡ before) ⊎ (behind ≡ None) → NewestIsServed behind connections
newest_stays before behind connections h (inl e) = subst (λ (o : Option ConnectionName). NewestIsServed o connections) (sym e) h
newest_stays before behind connections h (inr e) = subst (λ (o : Option ConnectionName). NewestIsServed o connections) (sym e) tt

-- if those of this name are unconfirmed
abbrev pub Unconfirmed : ConnectionName → List ClientConnection → Type 0
Unconfirmed x connections = Each (λ (other : ClientConnection). same_connection x other.name ≡ true → other.confirmed ≡ false) connections

-- taking a packet confirms none
unconfirmed_counted : (x : ConnectionName) (connections : List ClientConnection) (i : ℕ) → Unconfirmed x connections → Unconfirmed x (with_one_counted i connections)
unconfirmed_counted x [] zero h = tt
unconfirmed_counted x [] (suc i) h = tt
unconfirmed_counted x (κ ∷ others) zero h = (h.0, h.1)
unconfirmed_counted x (κ ∷ others) (suc i) h = (h.0, unconfirmed_counted x others i h.1)

-- a packet after the CONNECT is taken
pub newest_counted : (current : Option ConnectionName) (connections : List ClientConnection) (i n : ℕ) (κ : ClientConnection) → slice_get connections i ≡ Some κ → κ.taken ≡ suc n
    → NewestIsServed current connections → NewestIsServed current (with_one_counted i connections)
newest_counted None connections i n κ at t h = tt
newest_counted (Some x) [] i n κ at t h = absurd (cc)
newest_counted (Some x) (first ∷ others) zero n κ at t h = λ l e. h (let f : first ≡ κ = cc in let g : first.taken ≡ suc n = ap (λ (z : ClientConnection). z.taken) f ∙ t in omega (arith, g)) e
newest_counted (Some x) (first ∷ others) (suc i) n κ at t h = λ l e. unconfirmed_counted x others i (h l e)

-- none of those has the name
none_has : (x : ConnectionName) (connections : List ClientConnection) → any_named (same_connection x) connections ≡ false → Unconfirmed x connections
none_has x [] h = tt
none_has x (κ ∷ others) h =
    let g = or_none (same_connection x κ.name) (any_named (same_connection x) others) h in
    (λ e. absurd (both_ways (same_connection x κ.name) g.0 e), none_has x others g.1)

-- the one that has it is unconfirmed
one_has : (connections : List ClientConnection) (i : ℕ) (κ : ClientConnection) → NamesApart connections → slice_get connections i ≡ Some κ → κ.confirmed ≡ false → Unconfirmed κ.name (with_one_counted i connections)
one_has [] i κ a at u = absurd (cc)
one_has (first ∷ others) zero κ a at u =
    let f : first ≡ κ = cc in
    (λ e. ap (λ (z : ClientConnection). z.confirmed) f ∙ u, none_has κ.name others (subst (λ (z : ClientConnection). any_named (same_connection z.name) others ≡ false) f a.0))
one_has (first ∷ others) (suc i) κ a at u = (
  λ e. absurd (both_ways (any_named (same_connection first.name) others) a.0
      (named_at (same_connection first.name) others i κ at (ap (λ (z : ConnectionName). same_connection first.name z) (same_name κ.name first.name e) ∙ same_name_self first.name))),
  one_has others i κ a.1 at u,
)

-- the CONNECT of an unconfirmed connection is accepted
pub newest_opened : (connections : List ClientConnection) (i : ℕ) (κ : ClientConnection) → NamesApart connections → slice_get connections i ≡ Some κ → κ.confirmed ≡ false
    → NewestIsServed (Some κ.name) (with_one_counted i connections)
newest_opened [] i κ a at u = absurd (cc)
newest_opened (first ∷ others) zero κ a at u =
    λ l e. let f : first ≡ κ = cc in absurd (both_ways (same_connection κ.name κ.name) (ap (λ (z : ClientConnection). same_connection κ.name z.name) (sym f) ∙ e) (same_name_self κ.name))
newest_opened (first ∷ others) (suc i) κ a at u = λ l e. one_has others i κ a.1 at u
