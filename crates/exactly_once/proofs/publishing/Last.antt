-- The last confirmed connection, if one more packet of a connection is taken.
use Rattle.std.proofs.Common.{◌≡◌, ℕ, zero, suc, Bool, true, false, if◌then◌else◌, List, [], ◌∷◌, Option, Some, ap, sym, ◌∙◌, subst, inl, inr, ◌⊎◌}
use Rattle.std.specs.Prelude.{slice_get}
use Rattle.std.proofs.lemmas.Bool.{cases_Bool}
use Rattle.broker_spec.specs.Connection.{ConnectionName, same_connection}
use Rattle.broker_base.proofs.ConnectionsOfSessions.{same_turned}
use Rattle.lists.specs.Lists.{Each}
use Rattle.lists.proofs.Tests.{or_none, or_left, or_right}
use Rattle.exactly_once.specs.Sides.{ClientConnection}
use Rattle.exactly_once.specs.StoryCommands.{any_named, with_one_counted}
use Rattle.exactly_once.specs.Inside.Projections.{last_confirmed}
use Rattle.exactly_once.specs.Inside.Shape.{NamesApart}
use Rattle.broker_spec.proofs.ConnectionNames.{same_itself}

-- what holds for each holds for the last confirmed one
pub each_last : (P : ClientConnection → Type 0) (connections : List ClientConnection) (κ : ClientConnection) → Each P connections → last_confirmed connections ≡ Some κ → P κ
each_last P [] κ h e = cc
each_last P (μ ∷ connections) κ h e = by (cases_Bool μ.confirmed) (each_last P connections κ h.1)
  where
    by : (μ.confirmed ≡ true) ⊎ (μ.confirmed ≡ false) → (last_confirmed connections ≡ Some κ → P κ) → P κ
    by (inl c) ih =
        let found : Some μ ≡ Some κ = sym (ap (λ b. if b then Some μ else last_confirmed connections) c) ∙ e in
        let same : μ ≡ κ = cc in
        subst P same h.0
    by (inr n) ih = ih (sym (ap (λ b. if b then Some μ else last_confirmed connections) n) ∙ e)

-- it is confirmed
pub last_is_confirmed : (connections : List ClientConnection) (κ : ClientConnection) → last_confirmed connections ≡ Some κ → κ.confirmed ≡ true
last_is_confirmed [] κ e = cc
last_is_confirmed (μ ∷ connections) κ e = by (cases_Bool μ.confirmed) (last_is_confirmed connections κ)
  where
    by : (μ.confirmed ≡ true) ⊎ (μ.confirmed ≡ false) → (last_confirmed connections ≡ Some κ → κ.confirmed ≡ true) → κ.confirmed ≡ true
    by (inl c) ih =
        let found : Some μ ≡ Some κ = sym (ap (λ b. if b then Some μ else last_confirmed connections) c) ∙ e in
        let same : μ ≡ κ = cc in
        subst (λ (ν : ClientConnection). ν.confirmed ≡ true) same c
    by (inr n) ih = ih (sym (ap (λ b. if b then Some μ else last_confirmed connections) n) ∙ e)

-- one that is there, and one of which the test does not hold by name, are two
pub none_named : (test : ConnectionName → Bool) (connections : List ClientConnection) → any_named test connections ≡ false → Each (λ (κ : ClientConnection). test κ.name ≡ false) connections
none_named test [] e = tt
none_named test (κ ∷ connections) e = let h = or_none (test κ.name) (any_named test connections) e in (h.0, none_named test connections h.1)

pub each_there : (P : ClientConnection → Type 0) (n : ℕ) (connections : List ClientConnection) (κ : ClientConnection) → slice_get connections n ≡ Some κ → Each P connections → P κ
each_there P n [] κ e h = cc
each_there P zero (μ ∷ connections) κ e h = let same : μ ≡ κ = cc in subst P same h.0
each_there P (suc n) (μ ∷ connections) κ e h = each_there P n connections κ e h.1

pub is_named : (n : ℕ) (connections : List ClientConnection) (κ : ClientConnection) → slice_get connections n ≡ Some κ → any_named (same_connection κ.name) connections ≡ true
is_named n [] κ e = cc
is_named zero (μ ∷ connections) κ e =
    let same : μ ≡ κ = cc in
    or_left (same_connection κ.name μ.name) (any_named (same_connection κ.name) connections) (ap (λ (ν : ClientConnection). same_connection κ.name ν.name) same ∙ same_itself κ.name)
is_named (suc n) (μ ∷ connections) κ e = or_right (same_connection κ.name μ.name) (any_named (same_connection κ.name) connections) (is_named n connections κ e)

-- with one more packet taken
abbrev pub taken_more : ClientConnection → ClientConnection
taken_more κ = record κ { taken = suc κ.taken }

-- the last one stays, and is another; or it is this one
abbrev pub LastAfter : Option ClientConnection → Option ClientConnection → ClientConnection → Type 0
LastAfter last after κ =
    ((after ≡ last) × ((μ : ClientConnection) → last ≡ Some μ → same_connection κ.name μ.name ≡ false)) ⊎ ((last ≡ Some κ) × (after ≡ Some (taken_more κ)))

pub last_counted : (i : ℕ) (connections : List ClientConnection) (κ : ClientConnection) → NamesApart connections → slice_get connections i ≡ Some κ
    → LastAfter (last_confirmed connections) (last_confirmed (with_one_counted i connections)) κ
last_counted i [] κ apart e = cc
last_counted zero (μ ∷ connections) κ apart e =
    let same : μ ≡ κ = cc in
    subst (LastAfter (last_confirmed (μ ∷ connections)) (last_confirmed (with_one_counted zero (μ ∷ connections)))) same (by (cases_Bool μ.confirmed))
  where
    by : (μ.confirmed ≡ true) ⊎ (μ.confirmed ≡ false) → LastAfter (last_confirmed (μ ∷ connections)) (last_confirmed (taken_more μ ∷ connections)) μ
    by (inl c) = inr (ap (λ b. if b then Some μ else last_confirmed connections) c, ap (λ b. if b then Some (taken_more μ) else last_confirmed connections) c)
    by (inr n) =
        let here = ap (λ b. if b then Some μ else last_confirmed connections) n in
        inl (
          ap (λ b. if b then Some (taken_more μ) else last_confirmed connections) n ∙ sym here,
          λ ν l. each_last (λ (ξ : ClientConnection). same_connection μ.name ξ.name ≡ false) connections ν (none_named (same_connection μ.name) connections apart.0) (sym here ∙ l),
        )
last_counted (suc i) (μ ∷ connections) κ apart e = by (cases_Bool μ.confirmed) (last_counted i connections κ apart.1 e)
  where
    by : (μ.confirmed ≡ true) ⊎ (μ.confirmed ≡ false) → LastAfter (last_confirmed connections) (last_confirmed (with_one_counted i connections)) κ
        → LastAfter (last_confirmed (μ ∷ connections)) (last_confirmed (μ ∷ with_one_counted i connections)) κ
    by (inl c) ih =
        let here : last_confirmed (μ ∷ connections) ≡ Some μ = ap (λ b. if b then Some μ else last_confirmed connections) c in
        inl (
          ap (λ b. if b then Some μ else last_confirmed (with_one_counted i connections)) c ∙ sym here,
          λ ν l.
              let found : Some μ ≡ Some ν = sym here ∙ l in
              let same : μ ≡ ν = cc in
              same_turned κ.name ν.name ∙ ap (λ (ξ : ClientConnection). same_connection ξ.name κ.name) (sym same)
              ∙ each_there (λ (ξ : ClientConnection). same_connection μ.name ξ.name ≡ false) i connections κ e (none_named (same_connection μ.name) connections apart.0),
        )
    by (inr n) ih =
        let here = ap (λ b. if b then Some μ else last_confirmed connections) n in
        let there = ap (λ b. if b then Some μ else last_confirmed (with_one_counted i connections)) n in
        subst (λ (l : Option ClientConnection). LastAfter l (last_confirmed (μ ∷ with_one_counted i connections)) κ) (sym here)
        (subst (λ (l : Option ClientConnection). LastAfter (last_confirmed connections) l κ) (sym there) ih)
