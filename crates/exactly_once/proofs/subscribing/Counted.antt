-- One packet more of a connection is taken: what may come back on it, and what does not change.
use Rattle.std.proofs.Common.{◌≡◌, ℕ, zero, suc, Bool, true, false, if◌then◌else◌, List, [], ◌∷◌, ◌++◌, drop, Option, Some, None, refl, ap, sym, ◌∙◌, subst, ◌⊎◌, inl, inr}
use Rattle.std.specs.Prelude.{slice_get}
use Rattle.std.proofs.lemmas.Bool.{both_ways, cases_Bool}
use Rattle.broker_spec.specs.Connection.{ConnectionName, same_connection}
use Rattle.broker_spec.specs.Place.{Past, Limits}
use Rattle.lists.specs.Lists.{Each}
use Rattle.lists.proofs.Tests.{or_right, or_left}
use Rattle.client_base.specs.Keeper.{Written, Keeper}
use Rattle.exactly_once.specs.Sides.{ClientConnection}
use Rattle.exactly_once.specs.StoryCommands.{any_named, with_one_counted}
use Rattle.exactly_once.specs.Acceptance.{accepted_on}
use Rattle.exactly_once.specs.Inside.Projections.{to_be_taken}
use Rattle.exactly_once.specs.Inside.AsSubscriber.{backward_of, left_behind}
use Rattle.exactly_once.specs.Inside.Shape.{NamesApart}
use Rattle.exactly_once.proofs.subscribing.events.Leaving.{same_name}
use Rattle.exactly_once.proofs.subscribing.Written.{backward_one, backward_first}
use Rattle.exactly_once.proofs.subscribing.Views.{seen, view}

-- it holds for the one that is there
pub each_at : (P : ClientConnection → Type 0) (connections : List ClientConnection) (i : ℕ) (κ : ClientConnection) → Each P connections → slice_get connections i ≡ Some κ → P κ
each_at P [] i κ h e = absurd (cc)
each_at P (first ∷ others) zero κ h e = let f : first ≡ κ = cc in subst P f h.0
each_at P (first ∷ others) (suc i) κ h e = each_at P others i κ h.1 e

-- one that is there is named
pub named_at : (test : ConnectionName → Bool) (connections : List ClientConnection) (i : ℕ) (κ : ClientConnection) → slice_get connections i ≡ Some κ → test κ.name ≡ true → any_named test connections ≡ true
named_at test [] i κ e t = absurd (cc)
named_at test (first ∷ others) zero κ e t =
    let f : first ≡ κ = cc in or_left (test first.name) (any_named test others) (subst (λ (z : ClientConnection). test z.name ≡ true) (sym f) t)
named_at test (first ∷ others) (suc i) κ e t = or_right (test first.name) (any_named test others) (named_at test others i κ e t)

-- nothing more is accepted
pub accepted_counted : (i : ℕ) (connections : List ClientConnection) → accepted_on (with_one_counted i connections) ≡ accepted_on connections
accepted_counted zero [] = refl
accepted_counted (suc i) [] = refl
accepted_counted zero (κ ∷ others) = refl
accepted_counted (suc i) (κ ∷ others) = ap (λ l. l ++ κ.accepted) (accepted_counted i others)

-- the client's connection shows the same
pub view_counted : (limits : Limits) (past : Past) (current : Option ConnectionName) (keeper : Keeper) (connections : List ClientConnection) (i n : ℕ) (κ : ClientConnection)
    → slice_get connections i ≡ Some κ → κ.taken ≡ suc n → view limits past current keeper (with_one_counted i connections) ≡ view limits past current keeper connections
view_counted limits past current keeper [] i n κ e t = absurd (cc)
view_counted limits past current keeper (first ∷ others) (suc i) n κ e t = refl
view_counted limits past current keeper (first ∷ others) zero n κ e t = by first.taken (let f : first ≡ κ = cc in ap (λ (z : ClientConnection). z.taken) f ∙ t)
  where
    by : (taken : ℕ) → taken ≡ suc n → (if keeper.is_open then seen limits past current first (suc taken) else None) ≡ (if keeper.is_open then seen limits past current first taken else None)
    by zero t = absurd (cc)
    by (suc m) t = refl

-- what comes back on another connection stays
pub left_other : (x : ConnectionName) (connections : List ClientConnection) (i : ℕ) (κ : ClientConnection) → slice_get connections i ≡ Some κ → same_connection x κ.name ≡ false
    → left_behind (Some x) (with_one_counted i connections) ≡ left_behind (Some x) connections
left_other x [] i κ e n = absurd (cc)
left_other x (first ∷ others) zero κ e n =
    let f : first ≡ κ = cc in
    let g : same_connection x first.name ≡ false = subst (λ (z : ClientConnection). same_connection x z.name ≡ false) (sym f) n in
    ap (λ b. if b then backward_of (drop (suc first.taken) first.written) else left_behind (Some x) others) g
    ∙ sym (ap (λ b. if b then backward_of (to_be_taken first) else left_behind (Some x) others) g)
left_other x (first ∷ others) (suc i) κ e n = ap (λ l. if same_connection x first.name then backward_of (to_be_taken first) else l) (left_other x others i κ e n)

-- what comes back on the connection, before and after
pub left_own : (x : ConnectionName) (connections : List ClientConnection) (i : ℕ) (κ : ClientConnection) → NamesApart connections → slice_get connections i ≡ Some κ → same_connection x κ.name ≡ true
    → (left_behind (Some x) connections ≡ backward_of (to_be_taken κ)) × (left_behind (Some x) (with_one_counted i connections) ≡ backward_of (drop (suc κ.taken) κ.written))
left_own x [] i κ a e n = absurd (cc)
left_own x (first ∷ others) zero κ a e n =
    let f : first ≡ κ = cc in
    let g : same_connection x first.name ≡ true = subst (λ (z : ClientConnection). same_connection x z.name ≡ true) (sym f) n in (
      ap (λ b. if b then backward_of (to_be_taken first) else left_behind (Some x) others) g ∙ ap (λ (z : ClientConnection). backward_of (to_be_taken z)) f,
      ap (λ b. if b then backward_of (drop (suc first.taken) first.written) else left_behind (Some x) others) g ∙ ap (λ (z : ClientConnection). backward_of (drop (suc z.taken) z.written)) f,
    )
left_own x (first ∷ others) (suc i) κ a e n =
    let p = left_own x others i κ a.1 e n in
    let g : same_connection x first.name ≡ false = apart (cases_Bool (same_connection x first.name)) in
    (ap (λ b. if b then backward_of (to_be_taken first) else left_behind (Some x) others) g ∙ p.0, ap (λ b. if b then backward_of (to_be_taken first) else left_behind (Some x) (with_one_counted i others)) g ∙ p.1)
  where
    apart : (same_connection x first.name ≡ true) ⊎ (same_connection x first.name ≡ false) → same_connection x first.name ≡ false
    apart (inr f) = f
    apart (inl f) =
        absurd (both_ways (any_named (same_connection first.name) others) a.0
        (named_at (same_connection first.name) others i κ e (subst (λ (z : ConnectionName). same_connection z κ.name ≡ true) (same_name x first.name f) n)))

-- the next written packet
dropped : (n : ℕ) (ws : List Written) (w : Written) → slice_get ws n ≡ Some w → drop n ws ≡ w ∷ drop (suc n) ws
dropped n [] w e = absurd (cc)
dropped zero (v ∷ ws) w e = let f : v ≡ w = cc in ap (λ z. z ∷ ws) f
dropped (suc n) (v ∷ ws) w e = dropped n ws w e

-- what comes back begins with it
pub comes_back : (κ : ClientConnection) (w : Written) → slice_get κ.written κ.taken ≡ Some w → backward_of (to_be_taken κ) ≡ backward_one w.packet (backward_of (drop (suc κ.taken) κ.written))
comes_back κ w e = ap backward_of (dropped κ.taken κ.written w e) ∙ backward_first w (drop (suc κ.taken) κ.written)
