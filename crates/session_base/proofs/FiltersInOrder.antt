-- FiltersInOrder.antt: a filter that is held keeps its place, and a new one comes last.
use Rattle.std.proofs.Common.{◌≡◌, ◌∙◌, ℕ, Bool, true, false, ◌||◌, if◌then◌else◌, List, [], ◌∷◌, ◌++◌, refl, ap}
use Rattle.std.specs.Prelude.{bytes_eq}
use Rattle.session_base.specs.Subscriptions.{is_subscribed, with_subscription}
use Rattle.session_base.specs.KeepingTheorems.{filters_of, FiltersKeepTheirOrder}

in_front : (first : List ℕ) (b : Bool) (xs ys : List (List ℕ)) → first ∷ (if b then xs else ys) ≡ (if b then first ∷ xs else first ∷ ys)
in_front first true xs ys = refl
in_front first false xs ys = refl

pub filters_keep_their_order : FiltersKeepTheirOrder
filters_keep_their_order new [] = refl
filters_keep_their_order new (old ∷ others) = by (bytes_eq new.0 old.0) (filters_keep_their_order new others)
  where
    by : (b : Bool) → filters_of (with_subscription new others) ≡ (if is_subscribed new.0 others then filters_of others else filters_of others ++ new.0 ∷ []) →
        filters_of (if b then (old.0, new.1) ∷ others else old ∷ with_subscription new others)
        ≡ (if b || is_subscribed new.0 others then old.0 ∷ filters_of others else old.0 ∷ (filters_of others ++ new.0 ∷ []))
    by true e = refl
    by false e = ap (λ (zs : List (List ℕ)). old.0 ∷ zs) e ∙ in_front old.0 (is_subscribed new.0 others) (filters_of others) (filters_of others ++ new.0 ∷ [])
