-- What holds for each pass's view holds still after one of them changed, or one more came.
use Rattle.std.specs.Prelude.{◌≡◌, ◌≢◌, ◌⊎◌, ℕ, zero, suc, List, [], ◌∷◌, ◌++◌, length, slice_set, refl}
use Rattle.std.proofs.Common.{sym, ap, subst, inl, inr, ⊎_elim}
use mathlib.Core.Option.{some, some-injective, some-ne-none}
use lib.ListN.{get_elem?}
use Rattle.crossbeam_queue.proofs.Lists.{at_set}

module _ {V : Type 0} where
  abbrev pub Each : (ℕ → V → Type 0) → List V → Type 0
  Each F views = (port : ℕ) (v : V) → get_elem? views port ≡ some v → F port v

  pub each_set : (F : ℕ → V → Type 0) (views : List V) (port : ℕ) (w : V)
      → F port w
      → ((j : ℕ) (u : V) → j ≢ port → get_elem? views j ≡ some u → F j u)
      → Each F (slice_set views port w)
  each_set F views port w mine others j u e =
      ⊎_elim
      (λ (x : (j ≡ port) × (w ≡ u)). subst (λ (y : ℕ × V). F y.0 y.1) (λ i. (sym x.0 i, x.1 i)) mine)
      (λ (x : (j ≢ port) × (get_elem? views j ≡ some u)). others j u x.0 x.1)
      (at_set views port j w u e)

  -- what is in a longer list was there before, or is the new one at its end
  pub at_end : (views : List V) (new : V) (j : ℕ) (u : V) → get_elem? (views ++ new ∷ []) j ≡ some u
      → (get_elem? views j ≡ some u) ⊎ ((j ≡ length views) × (new ≡ u))
  at_end [] new zero u e = inr (refl, some-injective _ _ e)
  at_end [] new (suc j) u e = absurd (some-ne-none u (sym e))
  at_end (x ∷ xs) new zero u e = inl e
  at_end (x ∷ xs) new (suc j) u e =
      ⊎_elim (λ there. inl there) (λ (last : (j ≡ length xs) × (new ≡ u)). inr (ap suc last.0, last.1)) (at_end xs new j u e)

  pub each_snoc : (F : ℕ → V → Type 0) (views : List V) (new : V)
      → Each F views
      → F (length views) new
      → Each F (views ++ new ∷ [])
  each_snoc F views new all last j u e =
      ⊎_elim
      (λ there. all j u there)
      (λ (x : (j ≡ length views) × (new ≡ u)). subst (λ (y : ℕ × V). F y.0 y.1) (λ i. (sym x.0 i, x.1 i)) last)
      (at_end views new j u e)
