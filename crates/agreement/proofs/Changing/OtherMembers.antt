-- OtherMembers.antt: the members other than one.
use Rattle.std.proofs.Common.{◌≡◌, ℕ, ◌⊎◌, inl, inr, Bool, true, false, cond, List, [], ◌∷◌, sym, subst}
use Rattle.std.specs.Prelude.{not, ◌==◌}
use Rattle.std.proofs.lemmas.Bool.{cases_eq, ne_eqb, eq-eqb}
use Rattle.ballot_base.specs.Replica.{others}
use Rattle.lists.specs.Lists.{In}
use Rattle.lists.specs.Lists.In.{here, there}

-- who is left of a list others one
pub in_others : (x : ℕ) (ms : List ℕ) (m : ℕ) → In m (others x ms) → In m ms
in_others x [] m i = elim i [ ]
in_others x (y ∷ ms) m i = by_first m (in_others x ms m) (not (y == x)) i
  where
    by_first : (k : ℕ) → (In k (others x ms) → In k ms) → (b : Bool) → In k (cond b (y ∷ others x ms) (others x ms)) → In k (y ∷ ms)
    by_first k rest true here = here
    by_first k rest true (there j) = there (rest j)
    by_first k rest false j = there (rest j)

-- and the one is not
pub not_others : (x : ℕ) (ms : List ℕ) (m : ℕ) → In m (others x ms) → m ≡ x → ⊥
not_others x [] m i e = elim i [ ]
not_others x (y ∷ ms) m i e = by_first m (not_others x ms m) (cases_eq y x) i e
  where
    left : (k : ℕ) → (In k (others x ms) → k ≡ x → ⊥) → (y ≡ x → ⊥) → In k (y ∷ others x ms) → k ≡ x → ⊥
    left k rest ne here f = ne f
    left k rest ne (there j) f = rest j f

    by_first : (k : ℕ) → (In k (others x ms) → k ≡ x → ⊥) → (y ≡ x) ⊎ (y ≡ x → ⊥) →
        In k (cond (not (y == x)) (y ∷ others x ms) (others x ms)) → k ≡ x → ⊥
    by_first k rest (inl same) j f =
        rest (subst (λ b. In k (cond (not b) (y ∷ others x ms) (others x ms))) (eq-eqb y x same) j) f
    by_first k rest (inr ne) j f =
        left k rest ne (subst (λ b. In k (cond (not b) (y ∷ others x ms) (others x ms))) (ne_eqb y x ne) j) f

-- all but the one are left
pub others_in : (x : ℕ) (ms : List ℕ) (m : ℕ) → In m ms → (m ≡ x) ⊎ In m (others x ms)
others_in x [] m i = elim i [ ]
others_in x (y ∷ ms) m here = by_first (cases_eq m x)
  where
    by_first : (m ≡ x) ⊎ (m ≡ x → ⊥) → (m ≡ x) ⊎ In m (others x (m ∷ ms))
    by_first (inl e) = inl e
    by_first (inr ne) =
        inr (subst (λ b. In m (cond (not b) (m ∷ others x ms) (others x ms))) (sym (ne_eqb m x ne)) here)
others_in x (y ∷ ms) m (there i) = by_rest (others_in x ms m i)
  where
    push : (b : Bool) → In m (others x ms) → In m (cond b (y ∷ others x ms) (others x ms))
    push true j = there j
    push false j = j

    by_rest : (m ≡ x) ⊎ In m (others x ms) → (m ≡ x) ⊎ In m (others x (y ∷ ms))
    by_rest (inl e) = inl e
    by_rest (inr j) = inr (push (not (y == x)) j)
