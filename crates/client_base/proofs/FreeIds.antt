-- FreeIds.antt: the least free identifier is that of the identifiers in use, however they are listed.
use Rattle.std.proofs.Common.{◌≡◌, ℕ, ◌≤◌, ◌<◌, Bool, true, false, ◌||◌, ◌==◌, ◌⊎◌, inl, inr, List, [], ◌∷◌, ◌++◌, map, refl, ap, ap₂, sym, ◌∙◌, arith}
use Rattle.std.proofs.lemmas.Bool.{both_ways, cases_lt}
use Rattle.lists.specs.Lists.{has_id}
use Rattle.lists.proofs.Identifiers.{has_append}
use Rattle.session_base.specs.Identifiers.{least_free}
use Rattle.session_base.specs.Theorems.{IsLeastFree}
use Rattle.client_base.specs.State.{ClientState, ids_of_kept, id_of_request, used_ids}
use Rattle.client_base.specs.Keeper.{Own, Keeper, ids_of_own, ids_in_use}
use Rattle.client_base.specs.History.{KeeperStandsFor, sent_of, queued_of, released_of}

-- while each below is used, the least free one is not below
pub least_past : (busy : List ℕ) (n : ℕ) → IsLeastFree → ((j : ℕ) → 1 ≤ j → j < n → has_id j busy ≡ true) → n ≤ least_free busy
least_past busy n law below = by (cases_lt (least_free busy) n)
  where
    by : (least_free busy < n) ⊎ (n ≤ least_free busy) → n ≤ least_free busy
    by (inl small) = absurd (both_ways (has_id (least_free busy) busy) (law busy).2 (below (least_free busy) (law busy).0 small))
    by (inr large) = large

-- the first that is free is the least
pub least_at : (busy : List ℕ) (n : ℕ) → IsLeastFree → 1 ≤ n → has_id n busy ≡ false → ((j : ℕ) → 1 ≤ j → j < n → has_id j busy ≡ true)
    → n ≡ least_free busy
least_at busy n law positive free below = by (cases_lt n (least_free busy))
  where
    by : (n < least_free busy) ⊎ (least_free busy ≤ n) → n ≡ least_free busy
    by (inl small) = absurd (both_ways (has_id n busy) free ((law busy).3 n positive small))
    by (inr large) = omega (arith, least_past busy n law below, large)

-- two lists with the same identifiers
pub same_least : (ids others : List ℕ) → IsLeastFree → ((j : ℕ) → has_id j ids ≡ has_id j others) → least_free ids ≡ least_free others
same_least ids others law same =
    least_at others (least_free ids) law (law ids).0 (sym (same (least_free ids)) ∙ (law ids).2)
    (λ j positive small. sym (same j) ∙ (law ids).3 j positive small)

-- ---- all that was published, by its place

own_parts : (j : ℕ) (own : List Own) →
    has_id j (ids_of_own own) ≡ ((has_id j (released_of own) || has_id j (ids_of_kept (sent_of own))) || has_id j (ids_of_kept (queued_of own)))
own_parts j [] = refl
own_parts j (Own.Queued k p id ∷ own) = ap (λ b. (j == id) || b) (own_parts j own) ∙ last (j == id) (has_id j (released_of own) || has_id j (ids_of_kept (sent_of own)))
  where
    last : (x a : Bool) → (x || (a || has_id j (ids_of_kept (queued_of own)))) ≡ (a || (x || has_id j (ids_of_kept (queued_of own))))
    last true true = refl
    last true false = refl
    last false a = refl
own_parts j (Own.Sent k p id ∷ own) = ap (λ b. (j == id) || b) (own_parts j own) ∙ middle (j == id) (has_id j (released_of own))
  where
    middle : (x r : Bool) → (x || ((r || has_id j (ids_of_kept (sent_of own))) || has_id j (ids_of_kept (queued_of own))))
        ≡ ((r || (x || has_id j (ids_of_kept (sent_of own)))) || has_id j (ids_of_kept (queued_of own)))
    middle true true = refl
    middle true false = refl
    middle false r = refl
own_parts j (Own.Released k p id ∷ own) = ap (λ b. (j == id) || b) (own_parts j own) ∙ front (j == id)
  where
    front : (x : Bool) → (x || ((has_id j (released_of own) || has_id j (ids_of_kept (sent_of own))) || has_id j (ids_of_kept (queued_of own))))
        ≡ (((x || has_id j (released_of own)) || has_id j (ids_of_kept (sent_of own))) || has_id j (ids_of_kept (queued_of own)))
    front true = refl
    front false = refl
own_parts j (Own.Done k p ∷ own) = own_parts j own

-- a state uses the identifiers of the client that it corresponds to
used_same : (keeper : Keeper) (state : ClientState) → KeeperStandsFor keeper state → (j : ℕ) → has_id j (used_ids state) ≡ has_id j (ids_in_use keeper)
used_same keeper state stands j =
    has_append j ((state.released ++ ids_of_kept state.sent) ++ ids_of_kept state.queued) (map id_of_request state.requests)
    ∙ ap₂ (λ x y. x || y)
    (has_append j (state.released ++ ids_of_kept state.sent) (ids_of_kept state.queued)
    ∙ ap₂ (λ x y. x || y)
    (has_append j state.released (ids_of_kept state.sent)
    ∙ ap₂ (λ x y. x || y) (ap (has_id j) stands.released ∙ stands.releases_are j) (ap (λ sent. has_id j (ids_of_kept sent)) stands.sent))
    (ap (λ queued. has_id j (ids_of_kept queued)) stands.queued)
    ∙ sym (own_parts j keeper.own))
    (ap (λ requests. has_id j (map id_of_request requests)) stands.requests)
    ∙ sym (has_append j (ids_of_own keeper.own) (map id_of_request keeper.requests))

-- so the next identifier is the same
pub next_same : (keeper : Keeper) (state : ClientState) → IsLeastFree → KeeperStandsFor keeper state → least_free (used_ids state) ≡ least_free (ids_in_use keeper)
next_same keeper state law stands = same_least (used_ids state) (ids_in_use keeper) law (used_same keeper state stands)
