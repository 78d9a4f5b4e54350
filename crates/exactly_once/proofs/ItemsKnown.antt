-- What the receiver knows about the items.
use Rattle.std.proofs.Common.{◌≡◌, ℕ, Bool, true, false, not, ◌&&◌, ◌||◌, ◌==◌, List, [], ◌∷◌, refl, ap, ap₂, sym, subst, inl, inr, ◌⊎◌}
use Rattle.std.proofs.lemmas.Bool.{or_cases, both_ways, cases_Bool}
use Rattle.lists.specs.Lists.{has_id, IsDistinct, Each}
use Rattle.exactly_once.specs.Items.{SenderItem, busy, sent, has_sent, has_released}
use Rattle.exactly_once.specs.HandshakeInvariant.{IsOld, IsNew, QueuedAreLast}
use Rattle.lists.proofs.Tests.{or_none, none_or, or_right, eq_is, eq_turn}
use Rattle.exactly_once.proofs.BusyIdentifiers.{sent_not_released}
use Rattle.exactly_once.proofs.ItemsStarted.{none_sent}

-- ---- what the receiver knows

pub olds_sent : {V : Type 0} (received : ℕ → Bool) (i : ℕ) (items : List (SenderItem V)) → Each (IsOld received) items → has_sent i items ≡ true → received i ≡ true
olds_sent received i [] h e = absurd (both_ways false refl e)
olds_sent received i (SenderItem.Queued v ∷ items) h e = elim h.0 [ ]
olds_sent received i (SenderItem.Sent v id ∷ items) h e = by (or_cases (i == id) (has_sent i items) e) (olds_sent received i items h.1)
  where
    by : ((i == id) ≡ true) ⊎ (has_sent i items ≡ true) → (has_sent i items ≡ true → received i ≡ true) → received i ≡ true
    by (inl g) ih = subst (λ (k : ℕ). received k ≡ true) (sym (eq_is i id g)) h.0
    by (inr g) ih = ih g
olds_sent received i (SenderItem.Released v id ∷ items) h e = olds_sent received i items h.1 e
olds_sent received i (SenderItem.Done v ∷ items) h e = olds_sent received i items h.1 e

abbrev pub with : ℕ → (ℕ → Bool) → ℕ → Bool
with id received j = (j == id) || received j

abbrev pub without : ℕ → (ℕ → Bool) → ℕ → Bool
without id received j = not (j == id) && received j

pub olds_more : {V : Type 0} (received : ℕ → Bool) (id : ℕ) (items : List (SenderItem V)) → Each (IsOld received) items → Each (IsOld (with id received)) items
olds_more received id [] h = tt
olds_more received id (SenderItem.Queued v ∷ items) h = (h.0, olds_more received id items h.1)
olds_more received id (SenderItem.Sent v i ∷ items) h = (or_right (i == id) (received i) h.0, olds_more received id items h.1)
olds_more received id (SenderItem.Released v i ∷ items) h = (tt, olds_more received id items h.1)
olds_more received id (SenderItem.Done v ∷ items) h = (tt, olds_more received id items h.1)

pub news_more : {V : Type 0} (received : ℕ → Bool) (id : ℕ) (items : List (SenderItem V)) → has_id id (busy items) ≡ false → Each (IsNew received) items → Each (IsNew (with id received)) items
news_more received id [] n h = tt
news_more received id (SenderItem.Queued v ∷ items) n h = (tt, news_more received id items n h.1)
news_more received id (SenderItem.Sent v i ∷ items) n h =
    let g = or_none (id == i) (has_id id (busy items)) n in
    (none_or (i == id) (received i) (eq_turn id i g.0) h.0, news_more received id items g.1 h.1)
news_more received id (SenderItem.Released v i ∷ items) n h = elim h.0 [ ]
news_more received id (SenderItem.Done v ∷ items) n h = elim h.0 [ ]

and_kept : (x y : Bool) → x ≡ false → y ≡ true → (not x && y) ≡ true
and_kept x y e f = rw e f

pub and_none : (x y : Bool) → y ≡ false → (x && y) ≡ false
and_none true y e = e
and_none false y e = refl

pub olds_less : {V : Type 0} (received : ℕ → Bool) (id : ℕ) (items : List (SenderItem V)) → has_sent id items ≡ false → Each (IsOld received) items → Each (IsOld (without id received)) items
olds_less received id [] n h = tt
olds_less received id (SenderItem.Queued v ∷ items) n h = elim h.0 [ ]
olds_less received id (SenderItem.Sent v i ∷ items) n h =
    let g = or_none (id == i) (has_sent id items) n in
    (and_kept (i == id) (received i) (eq_turn id i g.0) h.0, olds_less received id items g.1 h.1)
olds_less received id (SenderItem.Released v i ∷ items) n h = (tt, olds_less received id items n h.1)
olds_less received id (SenderItem.Done v ∷ items) n h = (tt, olds_less received id items n h.1)

pub news_less : {V : Type 0} (received : ℕ → Bool) (id : ℕ) (items : List (SenderItem V)) → Each (IsNew received) items → Each (IsNew (without id received)) items
news_less received id [] h = tt
news_less received id (SenderItem.Queued v ∷ items) h = (tt, news_less received id items h.1)
news_less received id (SenderItem.Sent v i ∷ items) h = (and_none (not (i == id)) (received i) h.0, news_less received id items h.1)
news_less received id (SenderItem.Released v i ∷ items) h = elim h.0 [ ]
news_less received id (SenderItem.Done v ∷ items) h = elim h.0 [ ]

-- with identifiers apart, what is released is not sent
pub released_not_sent : {V : Type 0} (i : ℕ) (items : List (SenderItem V)) → IsDistinct (busy items) → has_released i items ≡ true → has_sent i items ≡ false
released_not_sent i items d e = by (cases_Bool (has_sent i items))
  where
    by : (has_sent i items ≡ true) ⊎ (has_sent i items ≡ false) → has_sent i items ≡ false
    by (inr h) = h
    by (inl h) = absurd (both_ways (has_released i items) (sent_not_released i items d h) e)

-- the first one sent is the first of all
pub record IsFirst {V : Type 0} (id : ℕ) (v : V) (rest : List (ℕ × V)) (new : List (SenderItem V)) : Type 0 where
  pub later : List (SenderItem V)
  pub is : new ≡ SenderItem.Sent v id ∷ later
  pub sent_is : sent later ≡ rest

pub cons_is : {A : Type 0} (x y : A) (xs ys : List A) → x ∷ xs ≡ y ∷ ys → (x ≡ y) × (xs ≡ ys)
cons_is x y xs ys e = (cc, cc)

pub pair_is : {A B : Type 0} (p q : A × B) → p ≡ q → (p.0 ≡ q.0) × (p.1 ≡ q.1)
pair_is {A = X} {B = Y} p q e = (ap (λ (r : X × Y). r.0) e, ap (λ (r : X × Y). r.1) e)

no_cons : {A : Type 0} (x : A) (xs ys : List A) → xs ≡ [] → xs ≡ x ∷ ys → ⊥
no_cons x xs ys e f = cc

pub first_sent : {V : Type 0} (received : ℕ → Bool) (id : ℕ) (v : V) (rest : List (ℕ × V)) (new : List (SenderItem V)) → Each (IsNew received) new → QueuedAreLast new
    → sent new ≡ (id, v) ∷ rest → IsFirst id v rest new
first_sent received id v rest [] h w e = absurd (no_cons (id, v) [] rest refl e)
first_sent received id v rest (SenderItem.Queued u ∷ new) h w e = absurd (no_cons (id, v) (sent new) rest (none_sent new w) e)
first_sent received id v rest (SenderItem.Sent u i ∷ new) h w e =
    let h = cons_is (i, u) (id, v) (sent new) rest e in
    let g = pair_is (i, u) (id, v) h.0 in
    record { later = new; is = ap₂ (λ x k. SenderItem.Sent x k ∷ new) g.1 g.0; sent_is = h.1 }
first_sent received id v rest (SenderItem.Released u i ∷ new) h w e = elim h.0 [ ]
first_sent received id v rest (SenderItem.Done u ∷ new) h w e = elim h.0 [ ]
