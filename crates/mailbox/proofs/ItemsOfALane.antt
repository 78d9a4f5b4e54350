-- The items of a lane in a list are those of its parts, in order.
use Rattle.std.specs.Prelude.{◌≡◌, ◌≢◌, ◌==◌, ℕ, Bool, true, false, List, [], ◌∷◌, ◌++◌, if◌then◌else◌, refl}
use Rattle.std.proofs.Common.{ap, eq-eqb, ne_eqb}
use Rattle.mailbox.specs.Delivery.{items_of_lane}

module _ {T : Type 0} where
  one_more : (mine : Bool) (x : T) (all first rest : List T) → all ≡ first ++ rest
      → (if mine then x ∷ all else all) ≡ (if mine then x ∷ first else first) ++ rest
  one_more true x all first rest e = ap (λ l. x ∷ l) e
  one_more false x all first rest e = e

  pub items_of-append : (lane : ℕ) (xs ys : List (ℕ × T)) → items_of_lane lane (xs ++ ys) ≡ items_of_lane lane xs ++ items_of_lane lane ys
  items_of-append lane [] ys = refl
  items_of-append lane (x ∷ xs) ys = one_more (x.0 == lane) x.1 _ _ _ (items_of-append lane xs ys)

  -- an item of this lane comes first
  pub items_of-same : (lane : ℕ) (x : ℕ × T) (xs : List (ℕ × T)) → x.0 ≡ lane → items_of_lane lane (x ∷ xs) ≡ x.1 ∷ items_of_lane lane xs
  items_of-same lane x xs e = rw (eq-eqb x.0 lane e) refl

  -- an item of another lane is left out
  pub items_of-other : (lane : ℕ) (x : ℕ × T) (xs : List (ℕ × T)) → x.0 ≢ lane → items_of_lane lane (x ∷ xs) ≡ items_of_lane lane xs
  items_of-other lane x xs n = rw (ne_eqb x.0 lane n) refl
