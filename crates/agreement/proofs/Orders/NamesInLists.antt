-- NamesInLists.antt: the commands of a test in lists.
use Rattle.std.proofs.Common.{◌≡◌, ℕ, ◌⊎◌, inl, inr, Bool, true, false, cond, List, [], ◌∷◌, ◌++◌, refl, ap, ◌∙◌}
use Rattle.std.specs.Prelude.{filter}
use Rattle.std.proofs.lemmas.Bool.{cases_Bool}
use Rattle.std.proofs.lemmas.List.{append-nil}
use Rattle.std.proofs.lemmas.List.Elements.{filter-append}
use Rattle.lists.specs.Lists.{In, IsPrefixOf}
use Rattle.lists.specs.Lists.In.{here, there}
use Rattle.agreement.specs.Proposals.{commands_of}

-- a test of a prefix
pub filter_prefix : {X : Type 0} (test : X → Bool) (xs ys : List X) → IsPrefixOf xs ys → IsPrefixOf (filter test xs) (filter test ys)
filter_prefix test xs ys p = record { rest = filter test p.rest; is = ap (filter test) p.is ∙ filter-append test xs p.rest }

-- one more that the test does not hold for, or holds for
pub filter_none : {X : Type 0} (test : X → Bool) (xs : List X) (x : X) → test x ≡ false → filter test (xs ++ x ∷ []) ≡ filter test xs
filter_none test xs x e =
    filter-append test xs (x ∷ []) ∙ ap (λ b. filter test xs ++ cond b (x ∷ []) []) e ∙ append-nil (filter test xs)

pub filter_one : {X : Type 0} (test : X → Bool) (xs : List X) (x : X) → test x ≡ true → filter test (xs ++ x ∷ []) ≡ filter test xs ++ x ∷ []
filter_one test xs x e = filter-append test xs (x ∷ []) ∙ ap (λ b. filter test xs ++ cond b (x ∷ []) []) e

pub commands_more : {C : Type 0} (rows : List (ℕ × C)) (row : ℕ × C) → commands_of (rows ++ row ∷ []) ≡ commands_of rows ++ row.1 ∷ []
commands_more [] row = refl
commands_more (r ∷ rows) row = ap (λ us. r.1 ∷ us) (commands_more rows row)

-- proposals that the test holds for none of
pub none_named : {C : Type 0} (names : C → Bool) (rows : List (ℕ × C)) → ((row : ℕ × C) → In row rows → names row.1 ≡ true → ⊥) →
    filter names (commands_of rows) ≡ []
none_named names [] f = refl
none_named {C = C} names (row ∷ rows) f = by_test (none_named names rows (λ r i. f r (there i))) (cases_Bool (names row.1))
  where
    by_test : filter names (commands_of rows) ≡ [] → (names row.1 ≡ true) ⊎ (names row.1 ≡ false) →
        cond (names row.1) (row.1 ∷ filter names (commands_of rows)) (filter names (commands_of rows)) ≡ []
    by_test rest (inl e) = absurd (f row here e)
    by_test rest (inr e) = ap (λ b. cond b (row.1 ∷ filter names (commands_of rows)) (filter names (commands_of rows))) e ∙ rest

-- a prefix of nothing
pub prefix_none : {X : Type 0} (xs ys : List X) → IsPrefixOf xs ys → ys ≡ [] → xs ≡ []
prefix_none [] ys p e = refl
prefix_none (x ∷ xs) ys p e = let f = p.is in cc
