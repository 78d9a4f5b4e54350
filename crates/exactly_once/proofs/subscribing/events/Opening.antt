-- The list takes the CONNECT of one of the client's connections: what its connection shows after
-- it.
use Rattle.std.proofs.Common.{◌≡◌, ◌≤◌, ℕ, zero, suc, Bool, true, false, if◌then◌else◌, List, [], ◌∷◌, ◌++◌, length, drop, Option, Some, None, refl, ap, ap₂, sym, ◌∙◌, subst, ◌⊎◌, inl, inr, arith}
use Rattle.std.specs.Prelude.{slice_get}
use Rattle.std.proofs.lemmas.List.{append-nil}
use Rattle.std.proofs.lemmas.Bool.{both_ways, cases_Bool}
use Rattle.packet.specs.declared.packet.Packet.{Packet}
use Rattle.broker_spec.specs.Connection.{ConnectionName, same_connection}
use Rattle.broker_spec.specs.Place.{Client, Place, Past, Limits}
use Rattle.broker_spec.specs.AnswersInOrder.{answers_at}
use Rattle.broker_base.proofs.ConnectionsOfSessions.{same_turned}
use Rattle.lists.specs.Lists.{Each}
use Rattle.exactly_once.specs.Sends.{sends_to, put_to}
use Rattle.client_base.specs.Keeper.{Written, Keeper}
use Rattle.exactly_once.specs.Sides.{ClientConnection}
use Rattle.exactly_once.specs.StoryCommands.{any_named, with_one_counted}
use Rattle.client_base.specs.Connected.{opening_connect}
use Rattle.exactly_once.specs.Inside.Projections.{to_come, is_current}
use Rattle.exactly_once.specs.Inside.AsSubscriber.{forward_of, backward_of, left_behind}
use Rattle.exactly_once.specs.Inside.Shape.{NamesApart}
use Rattle.exactly_once.specs.Inside.ConnectionShape.{ConnackFirst, ConnectionInShape}
use Rattle.exactly_once.proofs.Takes.{same_name_self}
use Rattle.exactly_once.proofs.subscribing.Counted.{named_at, left_own}
use Rattle.exactly_once.proofs.subscribing.Views.{seen, view, parted, comes_after}

-- it is held from now on
pub record IsFresh (keeper : Keeper) (connections : List ClientConnection) (i : ℕ) (κ : ClientConnection) : Type 0 where
  pub before : (limits : Limits) (past : Past) (current : Option ConnectionName) → view limits past current keeper connections ≡ None
  pub behind : (limits : Limits) (past : Past) (current : Option ConnectionName)
      → view limits past current keeper (with_one_counted i connections) ≡ Some (forward_of (to_come limits past κ), is_current current κ.name)

-- or the client does not hold it
abbrev pub IsStale : Keeper → List ClientConnection → ℕ → Type 0
IsStale keeper connections i = (limits : Limits) (past : Past) (current : Option ConnectionName) → view limits past current keeper (with_one_counted i connections) ≡ view limits past current keeper connections

-- one of both
pub fresh_or_stale : (keeper : Keeper) (connections : List ClientConnection) (i : ℕ) (κ : ClientConnection) → slice_get connections i ≡ Some κ → κ.taken ≡ 0 → IsFresh keeper connections i κ ⊎ IsStale keeper connections i
fresh_or_stale keeper [] i κ e t = absurd (cc)
fresh_or_stale keeper (first ∷ others) (suc i) κ e t = inr (λ limits past current. refl)
fresh_or_stale keeper (first ∷ others) zero κ e t = by (cases_Bool keeper.is_open)
  where
    same : first ≡ κ
    same = cc

    none : first.taken ≡ 0
    none = ap (λ (z : ClientConnection). z.taken) same ∙ t

    by : (keeper.is_open ≡ true) ⊎ (keeper.is_open ≡ false) → IsFresh keeper (first ∷ others) zero κ ⊎ IsStale keeper (first ∷ others) zero
    by (inr f) =
        inr (λ limits past current.
        ap (λ b. if b then seen limits past current first (suc first.taken) else None) f ∙ sym (ap (λ b. if b then seen limits past current first first.taken else None) f))
    by (inl f) =
        inl (record {
          before = λ limits past current. ap₂ (λ (b : Bool) (n : ℕ). if b then seen limits past current first n else None) f none;
          behind = λ limits past current.
              ap (λ b. if b then seen limits past current first (suc first.taken) else None) f ∙ ap (λ (z : ClientConnection). seen limits past current z (suc zero)) same;
        })

-- a connection whose CONNECT is not taken: it is unconfirmed, and nothing came on it
pub record IsNew (limits : Limits) (past : Past) (c : Client) (κ : ClientConnection) (w : Written) : Type 0 where
  pub written : κ.written ≡ opening_connect c ∷ []
  pub put : put_to limits past κ.name ≡ []
  pub unconfirmed : κ.confirmed ≡ false
  pub first : w ≡ opening_connect c

-- by its shape
pub is_new_one : (limits : Limits) (past : Past) (c : Client) (κ : ClientConnection) (w : Written) → ConnectionInShape limits past c κ → κ.taken ≡ 0 → slice_get κ.written κ.taken ≡ Some w → IsNew limits past c κ w
is_new_one limits past c κ w g t next = record { written = written; put = put; unconfirmed = unconfirmed; first = first }
  where
    put : put_to limits past κ.name ≡ []
    put = subst (λ (n : ℕ). ConnackFirst n (put_to limits past κ.name)) t g.connack_first

    unconfirmed : κ.confirmed ≡ false
    unconfirmed = by (cases_Bool κ.confirmed)
      where
        by : (κ.confirmed ≡ true) ⊎ (κ.confirmed ≡ false) → κ.confirmed ≡ false
        by (inr e) = e
        by (inl e) =
            let some = g.handled_some e in
            let few : κ.handled ≤ length (put_to limits past κ.name) = g.handled_within in
            let none : length (put_to limits past κ.name) ≡ 0 = ap (λ (ps : List Packet). length ps) put in
            absurd (omega (arith, some, few, none))

    written : κ.written ≡ opening_connect c ∷ []
    written = g.written ∙ ap (λ (more : List Written). opening_connect c ∷ more) (g.silent unconfirmed)

    first : w ≡ opening_connect c
    first = let e : Some (opening_connect c) ≡ Some w = ap₂ (λ (ws : List Written) (n : ℕ). slice_get ws n) (sym written) (sym t) ∙ next in let f : opening_connect c ≡ w = cc in sym f

-- what comes on it is what the place sends
pub new_comes : (limits : Limits) (place : Place) (past : Past) (c : Client) (κ : ClientConnection) (w : Written) → ConnectionInShape limits past c κ → IsNew limits past c κ w
    → forward_of (to_come limits (place ∷ past) κ) ≡ forward_of (sends_to κ.name (answers_at limits place past))
new_comes limits place past c κ w g new =
    comes_after limits place past κ g.handled_within ∙ ap (λ l. forward_of (drop κ.handled l) ++ forward_of (sends_to κ.name (answers_at limits place past))) new.put
    ∙ ap (λ l. forward_of l ++ forward_of (sends_to κ.name (answers_at limits place past))) (drops κ.handled)
  where
    drops : (n : ℕ) → drop {A = Packet} n [] ≡ []
    drops zero = refl
    drops (suc n) = refl

-- nothing comes back on it
pub new_left : (limits : Limits) (past : Past) (c : Client) (connections : List ClientConnection) (i : ℕ) (κ : ClientConnection) (w : Written) → NamesApart connections → slice_get connections i ≡ Some κ → κ.taken ≡ 0
    → IsNew limits past c κ w → left_behind (Some κ.name) (with_one_counted i connections) ≡ []
new_left limits past c connections i κ w apart at t new =
    (left_own κ.name connections i κ apart at (same_name_self κ.name)).1 ∙ ap₂ (λ (n : ℕ) (ws : List Written). backward_of (drop (suc n) ws)) t new.written

-- a connection that another takes over from is current no more
pub view_stale : (limits : Limits) (place : Place) (past : Past) (c : Client) (current : Option ConnectionName) (keeper : Keeper) (connections : List ClientConnection) (i : ℕ) (κ : ClientConnection)
    → Each (ConnectionInShape limits past c) connections → NamesApart connections → slice_get connections i ≡ Some κ → κ.taken ≡ 0
    → ((x : ConnectionName) → same_connection x κ.name ≡ false → sends_to x (answers_at limits place past) ≡ [])
    → view limits (place ∷ past) (Some κ.name) keeper connections ≡ parted (view limits past current keeper connections)
view_stale limits place past c current keeper [] i κ g apart at t sends = refl
view_stale limits place past c current keeper (first ∷ others) i κ g apart at t sends = by keeper.is_open first.taken (not_this i at)
  where
    not_this : (i : ℕ) → slice_get (first ∷ others) i ≡ Some κ → (n : ℕ) → first.taken ≡ suc n → same_connection first.name κ.name ≡ false
    not_this zero at n s = let f : first ≡ κ = cc in let z : first.taken ≡ 0 = ap (λ (z : ClientConnection). z.taken) f ∙ t in absurd (omega (arith, z, s))
    not_this (suc i) at n s = two (cases_Bool (same_connection first.name κ.name))
      where
        two : (same_connection first.name κ.name ≡ true) ⊎ (same_connection first.name κ.name ≡ false) → same_connection first.name κ.name ≡ false
        two (inr f) = f
        two (inl f) = absurd (both_ways (any_named (same_connection first.name) others) apart.0 (named_at (same_connection first.name) others i κ at f))

    one : (n : ℕ) → same_connection first.name κ.name ≡ false → seen limits (place ∷ past) (Some κ.name) first (suc n) ≡ parted (seen limits past current first (suc n))
    one n f =
        ap₂ (λ l b. Some (l, b))
        (comes_after limits place past first g.0.handled_within ∙ ap (λ l. forward_of (to_come limits past first) ++ forward_of l) (sends first.name f) ∙ append-nil (forward_of (to_come limits past first)))
        (same_turned κ.name first.name ∙ f)

    by : (opened : Bool) (taken : ℕ) → ((n : ℕ) → taken ≡ suc n → same_connection first.name κ.name ≡ false)
        → (if opened then seen limits (place ∷ past) (Some κ.name) first taken else None) ≡ parted (if opened then seen limits past current first taken else None)
    by false taken f = refl
    by true zero f = refl
    by true (suc n) f = one n (f n refl)
