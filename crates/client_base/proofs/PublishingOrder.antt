-- PublishingOrder.antt: publications keep their numbers, and are sent in the order of these.
use Rattle.std.proofs.Common.{◌≡◌, ℕ, ◌+◌, suc, Bool, true, false, not, ◌&&◌, ◌==◌, if◌then◌else◌, List, [], ◌∷◌, ◌++◌, map, length, refl, ap, sym, ◌∙◌, subst, arith}
use Rattle.std.proofs.lemmas.Bool.{both_ways}
use Rattle.session_base.specs.Publication.{is_qos1}
use Rattle.client_base.specs.declared.unacknowledged_publication.UnacknowledgedPublication.{UnacknowledgedPublication}
use Rattle.client_base.specs.Keeper.{Own, Written, number_in}
use Rattle.client_base.specs.Written.{sent_all, written_again, written_first, written_publish}
use Rattle.client_base.specs.Handshakes.{own_at_puback, own_at_pubrec, own_at_pubcomp}
use Rattle.client_base.specs.History.{IsSentFirst, sent_of}
use Rattle.client_base.specs.OrderTheorems.{AreNumbered, written_numbers, RisesFrom, GoesOutInOrder}

-- ---- what is sent, in order

none_again : (own : List Own) → sent_of own ≡ [] → written_again own ≡ []
none_again [] none = refl
none_again (Own.Queued k p id ∷ own) none = none_again own none
none_again (Own.Sent k p id ∷ own) none = absurd (both_ways true (ap is_none none) refl)
  where
    is_none : List UnacknowledgedPublication → Bool
    is_none [] = false
    is_none (x ∷ xs) = true
none_again (Own.Released k p id ∷ own) none = none_again own none
none_again (Own.Done k p ∷ own) none = none_again own none

-- from a lower bound
lower : (n : ℕ) (ks : List ℕ) → RisesFrom (suc n) ks → RisesFrom n ks
lower n [] rises = tt
lower n (k ∷ ks) rises = let first = rises.0 in (omega (arith, first), rises.1)

rises : (n : ℕ) (own : List Own) → AreNumbered n own → IsSentFirst own → RisesFrom n (written_numbers (written_again own ++ written_first own))
rises n [] numbered first = tt
rises n (Own.Queued k p id ∷ own) numbered first =
    let none = none_again own first.0 in
    subst (λ (ws : List Written). RisesFrom n (written_numbers (ws ++ written_publish false k id p ∷ written_first own))) (sym none) (
      let same = numbered.0 in omega (arith, same),
      subst (λ (m : ℕ). RisesFrom (suc m) (written_numbers (written_first own))) (sym numbered.0)
          (subst (λ (ws : List Written). RisesFrom (suc n) (written_numbers (ws ++ written_first own))) none (rises (suc n) own numbered.1 first.1)),
    )
rises n (Own.Sent k p id ∷ own) numbered first = (
  let same = numbered.0 in omega (arith, same),
  subst (λ (m : ℕ). RisesFrom (suc m) (written_numbers (written_again own ++ written_first own))) (sym numbered.0) (rises (suc n) own numbered.1 first),
)
rises n (Own.Released k p id ∷ own) numbered first = lower n (written_numbers (written_again own ++ written_first own)) (rises (suc n) own numbered.1 first)
rises n (Own.Done k p ∷ own) numbered first = lower n (written_numbers (written_again own ++ written_first own)) (rises (suc n) own numbered.1 first)

pub goes_out : GoesOutInOrder
goes_out n own numbered first = rises n own numbered first

-- ---- numbers stay

-- a change that leaves each number
pub changed : (f : Own → Own) → ((o : Own) → number_in (f o) ≡ number_in o) → (n : ℕ) (own : List Own) → AreNumbered n own → AreNumbered n (map f own)
changed f same n [] numbered = tt
changed f same n (o ∷ own) numbered = (same o ∙ numbered.0, changed f same (suc n) own numbered.1)

pub puback_same : (i : ℕ) (o : Own) → number_in (own_at_puback i o) ≡ number_in o
puback_same i (Own.Queued k p id) = refl
puback_same i (Own.Sent k p id) = by ((i == id) && is_qos1 p.qos)
  where
    by : (b : Bool) → number_in (if b then Own.Done k p else Own.Sent k p id) ≡ k
    by true = refl
    by false = refl
puback_same i (Own.Released k p id) = refl
puback_same i (Own.Done k p) = refl

pub pubrec_same : (i : ℕ) (o : Own) → number_in (own_at_pubrec i o) ≡ number_in o
pubrec_same i (Own.Queued k p id) = refl
pubrec_same i (Own.Sent k p id) = by ((i == id) && not (is_qos1 p.qos))
  where
    by : (b : Bool) → number_in (if b then Own.Released k p id else Own.Sent k p id) ≡ k
    by true = refl
    by false = refl
pubrec_same i (Own.Released k p id) = refl
pubrec_same i (Own.Done k p) = refl

pub pubcomp_same : (i : ℕ) (o : Own) → number_in (own_at_pubcomp i o) ≡ number_in o
pubcomp_same i (Own.Queued k p id) = refl
pubcomp_same i (Own.Sent k p id) = refl
pubcomp_same i (Own.Released k p id) = by (i == id)
  where
    by : (b : Bool) → number_in (if b then Own.Done k p else Own.Released k p id) ≡ k
    by true = refl
    by false = refl
pubcomp_same i (Own.Done k p) = refl

pub all_numbered : (n : ℕ) (own : List Own) → AreNumbered n own → AreNumbered n (sent_all own)
all_numbered n [] numbered = tt
all_numbered n (Own.Queued k p id ∷ own) numbered = (numbered.0, all_numbered (suc n) own numbered.1)
all_numbered n (Own.Sent k p id ∷ own) numbered = (numbered.0, all_numbered (suc n) own numbered.1)
all_numbered n (Own.Released k p id ∷ own) numbered = (numbered.0, all_numbered (suc n) own numbered.1)
all_numbered n (Own.Done k p ∷ own) numbered = (numbered.0, all_numbered (suc n) own numbered.1)

pub one_more : (n : ℕ) (own : List Own) (o : Own) → number_in o ≡ n + length own → AreNumbered n own → AreNumbered n (own ++ o ∷ [])
one_more n [] o same numbered = (omega (arith, same), tt)
one_more n (x ∷ own) o same numbered = (numbered.0, one_more (suc n) own o (omega (arith, same)) numbered.1)
