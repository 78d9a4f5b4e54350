-- Which identifiers are released after a PUBREC and a PUBCOMP.
use Rattle.std.proofs.Common.{◌≡◌, ℕ, Bool, true, false, not, ◌&&◌, ◌||◌, ◌==◌, List, [], ◌∷◌, map, refl, ap, sym, ◌∙◌, arith, inl, inr, ◌⊎◌}
use Rattle.std.proofs.lemmas.Bool.{cases_Bool}
use Rattle.exactly_once.specs.Items.{SenderItem, has_sent, has_released, item_released, finishing}
use Rattle.lists.proofs.Tests.{eq_is}
use Rattle.exactly_once.proofs.ItemsReleased.{now_released}

-- a PUBCOMP takes one away
pub released_finished : (j i : ℕ) (items : List (SenderItem ℕ)) → has_released j (map (finishing i) items) ≡ (not (j == i) && has_released j items)
released_finished j i [] = by (j == i)
  where
    by : (b : Bool) → false ≡ (not b && false)
    by true = refl
    by false = refl
released_finished j i (SenderItem.Queued v ∷ items) = released_finished j i items
released_finished j i (SenderItem.Sent v id ∷ items) = released_finished j i items
released_finished j i (SenderItem.Done v ∷ items) = released_finished j i items
released_finished j i (SenderItem.Released v id ∷ items) = by (cases_Bool (i == id)) (cases_Bool (j == i)) (released_finished j i items)
  where
    by : ((i == id) ≡ true) ⊎ ((i == id) ≡ false) → ((j == i) ≡ true) ⊎ ((j == i) ≡ false) → has_released j (map (finishing i) items) ≡ (not (j == i) && has_released j items)
        → has_released j (finishing i (SenderItem.Released v id) ∷ map (finishing i) items) ≡ (not (j == i) && ((j == id) || has_released j items))
    by (inl e) (inl f) ih = rw (e, f) (ih ∙ ap (λ b. not b && has_released j items) f)
    by (inl e) (inr f) ih =
        let apart : (j == id) ≡ false = grind (arith, e, f) in
        rw (e, f, apart) (ih ∙ ap (λ b. not b && has_released j items) f)
    by (inr e) (inl f) ih =
        let apart : (j == id) ≡ false = grind (arith, e, f) in
        rw (e, f, apart) (ih ∙ ap (λ b. not b && has_released j items) f)
    by (inr e) (inr f) ih = rw (e, f) (ap (λ b. (j == id) || b) (ih ∙ ap (λ b. not b && has_released j items) f))

-- a PUBREC adds its own
other_released : (j i : ℕ) (items : List (SenderItem ℕ)) → (j == i) ≡ false → has_released j (map (item_released i) items) ≡ has_released j items
other_released j i [] f = refl
other_released j i (SenderItem.Queued v ∷ items) f = other_released j i items f
other_released j i (SenderItem.Done v ∷ items) f = other_released j i items f
other_released j i (SenderItem.Released v id ∷ items) f = ap (λ b. (j == id) || b) (other_released j i items f)
other_released j i (SenderItem.Sent v id ∷ items) f = by (cases_Bool (i == id)) (other_released j i items f)
  where
    by : ((i == id) ≡ true) ⊎ ((i == id) ≡ false) → has_released j (map (item_released i) items) ≡ has_released j items
        → has_released j (item_released i (SenderItem.Sent v id) ∷ map (item_released i) items) ≡ has_released j items
    by (inl e) ih =
        let apart : (j == id) ≡ false = grind (arith, e, f) in
        rw e (rw apart ih)
    by (inr e) ih = rw e ih

pub released_more : (j i : ℕ) (items : List (SenderItem ℕ)) → has_sent i items ≡ true → (has_released j items || ((j == i) || false)) ≡ has_released j (map (item_released i) items)
released_more j i items s = by (cases_Bool (j == i))
  where
    last : (b : Bool) → (b || true) ≡ true
    last true = refl
    last false = refl

    first : (b : Bool) → (b || false) ≡ b
    first true = refl
    first false = refl

    by : ((j == i) ≡ true) ⊎ ((j == i) ≡ false) → (has_released j items || ((j == i) || false)) ≡ has_released j (map (item_released i) items)
    by (inl e) =
        ap (λ b. has_released j items || (b || false)) e ∙ last (has_released j items)
        ∙ sym (ap (λ k. has_released k (map (item_released i) items)) (eq_is j i e) ∙ now_released i items s)
    by (inr e) = ap (λ b. has_released j items || (b || false)) e ∙ first (has_released j items) ∙ sym (other_released j i items e)
