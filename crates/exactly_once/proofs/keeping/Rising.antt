-- That the current connection is the last confirmed one, said from the newest connection on.
use Rattle.std.proofs.Common.{◌≡◌, ℕ, zero, suc, true, false, if◌then◌else◌, List, [], ◌∷◌, Option, Some, ap, sym, ◌∙◌, subst, ◌⊎◌, inl, inr}
use Rattle.std.specs.Prelude.{slice_get}
use Rattle.std.proofs.lemmas.Bool.{both_ways, cases_Bool}
use Rattle.broker_spec.specs.Connection.{ConnectionName, same_connection}
use Rattle.lists.specs.Lists.{Each}
use Rattle.lists.proofs.Tests.{or_none}
use Rattle.lists.proofs.OfEach.{each_then}
use Rattle.client_base.specs.Keeper.{Written}
use Rattle.exactly_once.specs.Sides.{ClientConnection}
use Rattle.exactly_once.specs.StoryCommands.{any_named, with_one_counted}
use Rattle.client_base.specs.Written.{writes_first}
use Rattle.exactly_once.specs.Inside.Projections.{last_confirmed}
use Rattle.exactly_once.specs.Inside.Shape.{NamesApart}
use Rattle.exactly_once.proofs.Takes.{same_name_self}
use Rattle.broker_spec.proofs.ConnectionNames.{same_name}
use Rattle.exactly_once.proofs.subscribing.Newest.{Unconfirmed}
use Rattle.exactly_once.proofs.subscribing.Counted.{named_at}

-- no connection of this name that is confirmed comes after a confirmed one
abbrev pub IsTop : ConnectionName → List ClientConnection → Type 0
IsTop x [] = Unit {0}
IsTop x (κ ∷ others) = (κ.confirmed ≡ true → Unconfirmed x others) × IsTop x others

-- none of those has the name
pub none_unconfirmed : (x : ConnectionName) (connections : List ClientConnection) → any_named (same_connection x) connections ≡ false → Unconfirmed x connections
none_unconfirmed x [] h = tt
none_unconfirmed x (κ ∷ others) h =
    let g = or_none (same_connection x κ.name) (any_named (same_connection x) others) h in
    (λ e. absurd (both_ways (same_connection x κ.name) g.0 e), none_unconfirmed x others g.1)

-- if all of the name are unconfirmed
pub unconfirmed_top : (x : ConnectionName) (connections : List ClientConnection) → Unconfirmed x connections → IsTop x connections
unconfirmed_top x [] h = tt
unconfirmed_top x (κ ∷ others) h = (λ e. h.1, unconfirmed_top x others h.1)

-- ---- the row says it

-- each confirmed one of the name is this one
abbrev pub AreThis : ConnectionName → Option ClientConnection → List ClientConnection → Type 0
AreThis x last connections = Each (λ (κ : ClientConnection). same_connection x κ.name ≡ true → κ.confirmed ≡ true → last ≡ Some κ) connections

-- two connections that are one have one name, so a list apart from it has none
this_none : (x : ConnectionName) (κ : ClientConnection) (connections : List ClientConnection) → any_named (same_connection κ.name) connections ≡ false → AreThis x (Some κ) connections → Unconfirmed x connections
this_none x κ [] apart h = tt
this_none x κ (μ ∷ others) apart h =
    let g = or_none (same_connection κ.name μ.name) (any_named (same_connection κ.name) others) apart in
    (λ e. by e (cases_Bool μ.confirmed), this_none x κ others g.1 h.1)
  where
    by : same_connection x μ.name ≡ true → (μ.confirmed ≡ true) ⊎ (μ.confirmed ≡ false) → μ.confirmed ≡ false
    by e (inr f) = f
    by e (inl f) =
        let one : Some κ ≡ Some μ = h.0 e f in
        let same : κ ≡ μ = cc in
        absurd (both_ways (same_connection κ.name μ.name) (or_none (same_connection κ.name μ.name) (any_named (same_connection κ.name) others) apart).0
        (subst (λ (z : ClientConnection). same_connection κ.name z.name ≡ true) same (same_name_self κ.name)))

-- from the row
pub top_of : (x : ConnectionName) (connections : List ClientConnection) → NamesApart connections → AreThis x (last_confirmed connections) connections → IsTop x connections
top_of x [] apart h = tt
top_of x (κ ∷ others) apart h = by (cases_Bool κ.confirmed) (top_of x others apart.1)
  where
    by : (κ.confirmed ≡ true) ⊎ (κ.confirmed ≡ false) → (AreThis x (last_confirmed others) others → IsTop x others) → IsTop x (κ ∷ others)
    by (inl e) ih =
        let none = this_none x κ others apart.0 (subst (λ (o : Option ClientConnection). AreThis x o others) (ap (λ b. if b then Some κ else last_confirmed others) e) h.1) in
        (λ f. none, unconfirmed_top x others none)
    by (inr e) ih =
        (λ f. absurd (both_ways κ.confirmed e f), ih (subst (λ (o : Option ClientConnection). AreThis x o others) (ap (λ b. if b then Some κ else last_confirmed others) e) h.1))

-- unconfirmed ones are not asked
unconfirmed_this : (x : ConnectionName) (last : Option ClientConnection) (connections : List ClientConnection) → Unconfirmed x connections → AreThis x last connections
unconfirmed_this x last connections h =
    each_then (λ (other : ClientConnection). same_connection x other.name ≡ true → other.confirmed ≡ false)
    (λ (κ : ClientConnection). same_connection x κ.name ≡ true → κ.confirmed ≡ true → last ≡ Some κ) connections (λ μ f e g. absurd (both_ways μ.confirmed (f e) g)) h

-- and back to it
pub this_of : (x : ConnectionName) (connections : List ClientConnection) → IsTop x connections → AreThis x (last_confirmed connections) connections
this_of x [] h = tt
this_of x (κ ∷ others) h = by (cases_Bool κ.confirmed) (this_of x others h.1)
  where
    by : (κ.confirmed ≡ true) ⊎ (κ.confirmed ≡ false) → AreThis x (last_confirmed others) others → AreThis x (last_confirmed (κ ∷ others)) (κ ∷ others)
    by (inl e) ih = (λ f g. ap (λ b. if b then Some κ else last_confirmed others) e, unconfirmed_this x (last_confirmed (κ ∷ others)) others (h.0 e))
    by (inr e) ih =
        (λ f g. absurd (both_ways κ.confirmed e g), subst (λ (o : Option ClientConnection). AreThis x o others) (sym (ap (λ b. if b then Some κ else last_confirmed others) e)) ih)

-- ---- it is kept

-- one more is taken
unconfirmed_counted : (x : ConnectionName) (i : ℕ) (connections : List ClientConnection) → Unconfirmed x connections → Unconfirmed x (with_one_counted i connections)
unconfirmed_counted x i [] h = tt
unconfirmed_counted x zero (κ ∷ others) h = (h.0, h.1)
unconfirmed_counted x (suc i) (κ ∷ others) h = (h.0, unconfirmed_counted x i others h.1)

-- and the row stays
pub top_counted : (x : ConnectionName) (i : ℕ) (connections : List ClientConnection) → IsTop x connections → IsTop x (with_one_counted i connections)
top_counted x i [] h = tt
top_counted x zero (κ ∷ others) h = (h.0, h.1)
top_counted x (suc i) (κ ∷ others) h = (λ e. unconfirmed_counted x i others (h.0 e), top_counted x i others h.1)

-- more is written
pub top_written : (x : ConnectionName) (more : List Written) (connections : List ClientConnection) → IsTop x connections → IsTop x (writes_first more connections)
top_written x more [] h = tt
top_written x more (κ ∷ others) h = (h.0, h.1)

-- the one that has it is unconfirmed
pub one_unconfirmed : (connections : List ClientConnection) (i : ℕ) (κ : ClientConnection) → NamesApart connections → slice_get connections i ≡ Some κ → κ.confirmed ≡ false → Unconfirmed κ.name (with_one_counted i connections)
one_unconfirmed [] i κ a at u = absurd (cc)
one_unconfirmed (first ∷ others) zero κ a at u =
    let f : first ≡ κ = cc in
    (λ e. ap (λ (z : ClientConnection). z.confirmed) f ∙ u, none_unconfirmed κ.name others (subst (λ (z : ClientConnection). any_named (same_connection z.name) others ≡ false) f a.0))
one_unconfirmed (first ∷ others) (suc i) κ a at u = (
  λ e. absurd (both_ways (any_named (same_connection first.name) others) a.0
      (named_at (same_connection first.name) others i κ at (ap (λ (z : ConnectionName). same_connection first.name z) (same_name κ.name first.name e) ∙ same_name_self first.name))),
  one_unconfirmed others i κ a.1 at u,
)
