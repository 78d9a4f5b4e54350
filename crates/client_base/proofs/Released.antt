-- Released.antt: identifiers of released publications, as the order of their PUBREC has them and as all that was published has them.
use Rattle.std.proofs.Common.{◌≡◌, ℕ, Bool, true, false, not, ◌&&◌, ◌||◌, ◌==◌, if◌then◌else◌, List, [], ◌∷◌, map, refl, ap, ap₂, sym, ◌∙◌, arith}
use Rattle.lists.specs.Lists.{has_id}
use Rattle.session_base.specs.Publication.{is_qos1}
use Rattle.session_base.specs.Identifiers.{without_id}
use Rattle.client_base.specs.Keeper.{Own}
use Rattle.client_base.specs.Handshakes.{own_at_pubrec, is_sent_with}
use Rattle.client_base.specs.History.{released_of}

-- without one identifier, the others are there as before
pub has_without : (j i : ℕ) (xs : List ℕ) → has_id j (without_id i xs) ≡ (not (i == j) && has_id j xs)
has_without j i [] = none (not (i == j))
  where
    none : (b : Bool) → false ≡ (b && false)
    none true = refl
    none false = refl
has_without j i (x ∷ xs) = by (i == x) refl (has_without j i xs)
  where
    same : (i == x) ≡ true → (j == x) ≡ (i == j)
    same h = grind arith

    differs : (i == x) ≡ false → (j == x) ≡ true → (i == j) ≡ false
    differs h g = grind arith

    -- if it is another, it counts as before
    other : (b c : Bool) → (b ≡ true → c ≡ false) → (b || (not c && has_id j xs)) ≡ (not c && (b || has_id j xs))
    other true c f = ap (λ x. not x && true) (sym (f refl))
    other false c f = refl

    gone : (c : Bool) → (not c && has_id j xs) ≡ (not c && (c || has_id j xs))
    gone true = refl
    gone false = refl

    by : (b : Bool) → (i == x) ≡ b → has_id j (without_id i xs) ≡ (not (i == j) && has_id j xs)
        → has_id j (if not b then x ∷ without_id i xs else without_id i xs) ≡ (not (i == j) && ((j == x) || has_id j xs))
    by true h ih = ih ∙ gone (i == j) ∙ ap (λ b. not (i == j) && (b || has_id j xs)) (sym (same h))
    by false h ih = ap (λ b. (j == x) || b) ih ∙ other (j == x) (i == j) (differs h)

-- what PUBREC releases
pub pubrec_released : (j i : ℕ) (own : List Own) → has_id j (released_of (map (own_at_pubrec i) own)) ≡ (has_id j (released_of own) || ((j == i) && is_sent_with i own))
pubrec_released j i [] = none (j == i)
  where
    none : (b : Bool) → false ≡ (b && false)
    none true = refl
    none false = refl
pubrec_released j i (Own.Queued k p id ∷ own) = pubrec_released j i own
pubrec_released j i (Own.Sent k p id ∷ own) = by (i == id) (not (is_qos1 p.qos)) refl (pubrec_released j i own)
  where
    same : (i == id) ≡ true → (j == id) ≡ (j == i)
    same h = grind arith

    more : (x r s : Bool) → (x || (r || (x && s))) ≡ (r || (x && true))
    more true true s = refl
    more true false s = refl
    more false r s = refl

    by : (b c : Bool) → (i == id) ≡ b → has_id j (released_of (map (own_at_pubrec i) own)) ≡ (has_id j (released_of own) || ((j == i) && is_sent_with i own))
        → has_id j (released_of ((if b && c then Own.Released k p id else Own.Sent k p id) ∷ map (own_at_pubrec i) own))
        ≡ (has_id j (released_of own) || ((j == i) && ((b && c) || is_sent_with i own)))
    by true true h ih = ap₂ (λ x y. x || y) (same h) ih ∙ more (j == i) (has_id j (released_of own)) (is_sent_with i own)
    by true false h ih = ih
    by false c h ih = ih
pubrec_released j i (Own.Released k p id ∷ own) = ap (λ b. (j == id) || b) (pubrec_released j i own) ∙ assoc (j == id)
  where
    assoc : (x : Bool) → (x || (has_id j (released_of own) || ((j == i) && is_sent_with i own))) ≡ ((x || has_id j (released_of own)) || ((j == i) && is_sent_with i own))
    assoc true = refl
    assoc false = refl
pubrec_released j i (Own.Done k p ∷ own) = pubrec_released j i own
