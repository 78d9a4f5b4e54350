-- What a map of levels holds after one of them was changed.
use Rattle.std.proofs.Common.{◌≡◌, ℕ, List, Bool, true, false, cond, Option, refl, sym, ◌∙◌, ap, subst, bytes_eq}
use Rattle.std.specs.BTreeMap.{BTreeMap, get, get_by, Updates, UpdatesBy}
use Rattle.std.specs.Map.{lookup, KeepsOthers, IsKeyTest, AreApart}
use Rattle.std.specs.Cmp.{eq_by_cmp_equiv}
use Rattle.std.specs.Cmp.Lexicographic.{slice_cmp, nat_list_cmp_total, bytes_decides}
use Rattle.std.specs.Ordering.{nat_cmp, is_eq}
use Rattle.std.proofs.lemmas.Map.Text.{is_eq-slice_cmp}

same : (x y : List ℕ) → is_eq (slice_cmp nat_cmp x y) ≡ true → x ≡ y
same x y e = (bytes_decides x y).0 (sym (is_eq-slice_cmp x y) ∙ e)

other : {K X : Type 0} (eq : K → K → Bool) (test : K → Bool) (old new : List (K × X)) → KeepsOthers eq test old new → (query : K → Bool) → IsKeyTest eq query → AreApart test query → lookup query new ≡ lookup query old
unfolding KeepsOthers
other eq test old new h = h

apart : (level query key : List ℕ) → bytes_eq level query ≡ false → is_eq (slice_cmp nat_cmp level key) ≡ true → is_eq (slice_cmp nat_cmp query key) ≡ false
apart level query key differ agree =
    is_eq-slice_cmp query key
    ∙ subst (λ (k : List ℕ). bytes_eq query k ≡ false) (same level key agree) (turned query level differ)
  where
    turned : (x y : List ℕ) → bytes_eq y x ≡ false → bytes_eq x y ≡ false
    turned x y differ =
        elim (bytes_eq x y) as (λ v. bytes_eq x y ≡ v → v ≡ false) [
          | true ↦ λ e. sym (subst (λ (k : List ℕ). bytes_eq k x ≡ true) ((bytes_decides x y).0 e) ((bytes_decides x x).1 refl)) ∙ differ
          | false ↦ λ e. refl
        ] refl

-- w is at the level, and at each other one what was there
pub updates_level :
    {K X : Type 0} (bytes : K → List ℕ) (m n : BTreeMap K X) (level : List ℕ) (w : Option X)
    → UpdatesBy (λ x y. slice_cmp nat_cmp (bytes x) (bytes y)) (λ k. slice_cmp nat_cmp level (bytes k)) m n w
    → (query : List ℕ)
    → get_by (λ k. slice_cmp nat_cmp query (bytes k)) n ≡ cond (bytes_eq level query) w (get_by (λ k. slice_cmp nat_cmp query (bytes k)) m)
updates_level bytes m n level w h query =
    elim (bytes_eq level query) as (λ v. bytes_eq level query ≡ v → get_by (λ k. slice_cmp nat_cmp query (bytes k)) n ≡ cond v w (get_by (λ k. slice_cmp nat_cmp query (bytes k)) m)) [
      | true ↦ λ e. subst (λ (q : List ℕ). get_by (λ k. slice_cmp nat_cmp q (bytes k)) n ≡ w) ((bytes_decides level query).0 e) h.1
      | false ↦ λ e.
          other _ _ m.entries n.entries h.3 _
          (λ x y. (eq_by_cmp_equiv nat_list_cmp_total).congr query (bytes x) (bytes y))
          (λ k. apart level query (bytes k) e)
    ] refl

-- the same at clients
pub updates_client :
    {X : Type 0} (m n : BTreeMap (List ℕ) X) (client : List ℕ) (w : Option X)
    → Updates (slice_cmp nat_cmp) m n client w
    → (query : List ℕ) → get (slice_cmp nat_cmp) n query ≡ cond (bytes_eq client query) w (get (slice_cmp nat_cmp) m query)
updates_client m n client w h query =
    h.0 query ∙ ap (λ b. cond b w (get (slice_cmp nat_cmp) m query)) (is_eq-slice_cmp client query)
