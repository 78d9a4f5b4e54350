-- Items that were read with their count may each be where it is; so entries have the released ones
-- first.
use Rattle.std.proofs.Common.{◌≡◌, ℕ, zero, suc, Bool, nat_le, List, [], ◌∷◌, ◌++◌, ◌≤◌, length, Result, Ok, Err, refl, sym, ap, ◌∙◌, subst, arith, append_assoc, append-nil}
use Rattle.std.specs.Prelude.{IfOk}
use Rattle.packet_base.specs.declared.stop.Stop.{Stop}
use Rattle.packet_base.specs.Readers.{number_at}
use Rattle.std.proofs.lemmas.Bool.{leb-true}
use Rattle.packet_base.specs.Outcome.{Reads}
use Rattle.packet_base.specs.Lists.{ItemAt}
use Rattle.packet_base.proofs.Steps.{then_if, check_if}
use Rattle.session_base.specs.OrderTheorems.{IsReleasedFirst}
use Rattle.session_base.specs.Queue.{Flight}
use Rattle.session_base.specs.Counted.{counted_items_at, items_after}
use Rattle.session_base.specs.Form.{may_follow, flight_at}
use Rattle.session_base.proofs.Counted.{AllFollow}
use Rattle.session_base.proofs.Found.{weaker}
use Rattle.session_base.proofs.FollowsFound.{released_come_first}

any : {A : Type 0} (r : Result A Stop) → IfOk r (λ x. Unit {0})
any (Ok x) = tt
any (Err stop) = tt

record Followed {A : Type 0} (follows : List A → A → Bool) (many : ℕ) (front all : List A) : Type 0 where
  items : List A
  many_are : length items ≡ many
  joined : all ≡ front ++ items
  follow : AllFollow follows front items

items_follow : {A : Type 0} (follows : List A → A → Bool) (item : ItemAt A) (many : ℕ) (front : List A) (bytes : List ℕ) →
    IfOk (items_after follows item many front bytes) (λ x. Followed follows many front x.0)
unfolding items_after
items_follow follows item zero front bytes = record { items = []; many_are = refl; joined = sym (append-nil front); follow = tt }
items_follow {A} follows item (suc more) front bytes =
    let Q : List A × List ℕ → Type 0 = λ x. Followed follows (suc more) front x.0 in
    then_if (item bytes) _ (λ x. Unit {0}) Q (any (item bytes)) (λ one u.
    check_if (follows front one.0) _ _ Q (λ test.
    weaker (items_after follows item more (front ++ one.0 ∷ []) one.1) (λ x. Followed follows more (front ++ one.0 ∷ []) x.0) Q
    (items_follow follows item more (front ++ one.0 ∷ []) one.1)
    (λ x k. record { items = one.0 ∷ k.items; many_are = ap suc k.many_are; joined = k.joined ∙ append_assoc front (one.0 ∷ []) k.items; follow = (test, k.follow) })))

counted_follow : {A : Type 0} (count : ItemAt ℕ) (follows : List A → A → Bool) (item : ItemAt A) (most : ℕ) (bytes : List ℕ) →
    IfOk (counted_items_at count follows item most bytes) (λ x. AllFollow follows [] x.0)
unfolding counted_items_at
counted_follow {A} count follows item most bytes =
    let Q : List A × List ℕ → Type 0 = λ x. AllFollow follows [] x.0 in
    then_if (count bytes) _ (λ x. Unit {0}) Q (any (count bytes)) (λ many u.
    check_if (nat_le many.0 most) _ _ Q (λ test.
    weaker (items_after follows item many.0 [] many.1) (λ x. Followed follows many.0 [] x.0) Q (items_follow follows item many.0 [] many.1)
    (λ x k. subst (AllFollow follows []) (sym k.joined) k.follow)))

counted_few : {A : Type 0} (count : ItemAt ℕ) (follows : List A → A → Bool) (item : ItemAt A) (most : ℕ) (bytes : List ℕ) →
    IfOk (counted_items_at count follows item most bytes) (λ x. length x.0 ≤ most)
unfolding counted_items_at
counted_few {A} count follows item most bytes =
    let Q : List A × List ℕ → Type 0 = λ x. length x.0 ≤ most in
    then_if (count bytes) _ (λ x. Unit {0}) Q (any (count bytes)) (λ many u.
    check_if (nat_le many.0 most) _ _ Q (λ test.
    weaker (items_after follows item many.0 [] many.1) (λ x. Followed follows many.0 [] x.0) Q (items_follow follows item many.0 [] many.1)
    (λ x k. let n = k.many_are in let all = ap length k.joined in let bound : many.0 ≤ most = leb-true _ _ test in omega (arith, n, all, bound))))

abbrev flights_at : ℕ → List ℕ → Result (List Flight × List ℕ) Stop
flights_at window bytes = counted_items_at number_at may_follow flight_at window bytes

-- so of a call that read them
pub read_first : {X : Type 0} (view : X → List Flight) (result : Result X Stop) (window : ℕ) (rest bytes : List ℕ) → Reads view result rest (flights_at window bytes) →
    IfOk result (λ x. IsReleasedFirst (view x))
read_first view (Ok x) window rest bytes e =
    released_come_first (view x) (subst (λ (r : Result (List Flight × List ℕ) Stop). IfOk r (λ y. AllFollow may_follow [] y.0)) e
    (counted_follow number_at may_follow flight_at window bytes))
read_first view (Err stop) window rest bytes e = tt

pub read_few : {X : Type 0} (view : X → List Flight) (result : Result X Stop) (window : ℕ) (rest bytes : List ℕ) → Reads view result rest (flights_at window bytes) →
    IfOk result (λ x. length (view x) ≤ window)
read_few view (Ok x) window rest bytes e =
    subst (λ (r : Result (List Flight × List ℕ) Stop). IfOk r (λ y. length y.0 ≤ window)) e (counted_few number_at may_follow flight_at window bytes)
read_few view (Err stop) window rest bytes e = tt
