-- Prefixes of lists: of what a list begins with, and two prefixes of one list.
use Rattle.std.proofs.Common.{◌≡◌, ℕ, zero, suc, ◌≤◌, ◌⊎◌, inl, inr, List, [], ◌∷◌, ◌++◌, length, take, Some, refl, ap, sym, ◌∙◌, subst, append_assoc, arith}
use Rattle.std.specs.Prelude.{slice_get}
use Rattle.std.proofs.lemmas.List.{append-nil, take-append-le, length-append}
use Rattle.lists.specs.Lists.{IsPrefixOf}

pub prefix_same : {X : Type 0} (xs : List X) → IsPrefixOf xs xs
prefix_same xs = record { rest = []; is = sym (append-nil xs) }

pub prefix_then : {X : Type 0} {xs ys zs : List X} → IsPrefixOf xs ys → IsPrefixOf ys zs → IsPrefixOf xs zs
prefix_then {xs = xs} p q =
    record { rest = p.rest ++ q.rest; is = q.is ∙ ap (λ us. us ++ q.rest) p.is ∙ append_assoc xs p.rest q.rest }

pub prefix_take : {X : Type 0} (k : ℕ) (xs : List X) → IsPrefixOf (take k xs) xs
prefix_take zero xs = record { rest = xs; is = refl }
prefix_take (suc k) [] = record { rest = []; is = refl }
prefix_take (suc k) (x ∷ xs) = let p = prefix_take k xs in record { rest = p.rest; is = ap (λ us. x ∷ us) p.is }

pub prefix_push : {X : Type 0} (xs : List X) (x : X) → IsPrefixOf xs (xs ++ x ∷ [])
prefix_push xs x = record { rest = x ∷ []; is = refl }

pub prefix_length : {X : Type 0} {xs ys : List X} → IsPrefixOf xs ys → length xs ≤ length ys
prefix_length {xs = xs} p = let e = ap length p.is in omega (arith, e, length-append xs p.rest)

-- what is in a prefix is in the whole
slice_get-append : {X : Type 0} (xs ys : List X) (i : ℕ) (x : X) → slice_get xs i ≡ Some x → slice_get (xs ++ ys) i ≡ Some x
slice_get-append [] ys i x e = cc
slice_get-append (z ∷ xs) ys zero x e = e
slice_get-append (z ∷ xs) ys (suc i) x e = slice_get-append xs ys i x e

pub prefix_get : {X : Type 0} {xs ys : List X} (i : ℕ) (x : X) → IsPrefixOf xs ys → slice_get xs i ≡ Some x → slice_get ys i ≡ Some x
prefix_get {X = X} {xs = xs} i x p e = subst (λ (us : List X). slice_get us i ≡ Some x) (sym p.is) (slice_get-append xs p.rest i x e)

-- a prefix and the next place are a prefix
pub prefix_next : {X : Type 0} (xs ys : List X) (x : X) → IsPrefixOf xs ys → slice_get ys (length xs) ≡ Some x → IsPrefixOf (xs ++ x ∷ []) ys
prefix_next {X = X} xs ys x p e = by_rest p.rest p.is
  where
    next : (xs rest : List X) → slice_get (xs ++ rest) (length xs) ≡ Some x → IsPrefixOf (xs ++ x ∷ []) (xs ++ rest)
    next [] [] e = cc
    next [] (y ∷ rest) e = let same : y ≡ x = cc in record { rest = rest; is = ap (λ z. z ∷ rest) same }
    next (y ∷ xs) rest e = let q = next xs rest e in record { rest = q.rest; is = ap (λ us. y ∷ us) q.is }

    by_rest : (rest : List X) → ys ≡ xs ++ rest → IsPrefixOf (xs ++ x ∷ []) ys
    by_rest rest q = subst (λ (us : List X). IsPrefixOf (xs ++ x ∷ []) us) (sym q)
        (next xs rest (subst (λ (us : List X). slice_get us (length xs) ≡ Some x) q e))

-- two prefixes of one list
pub prefix_either : {X : Type 0} (xs ys zs : List X) → IsPrefixOf xs zs → IsPrefixOf ys zs → IsPrefixOf xs ys ⊎ IsPrefixOf ys xs
prefix_either [] ys zs p q = inl (record { rest = ys; is = refl })
prefix_either (x ∷ xs) [] zs p q = inr (record { rest = x ∷ xs; is = refl })
prefix_either (x ∷ xs) (y ∷ ys) [] p q = let e = p.is in cc
prefix_either {X = X} (x ∷ xs) (y ∷ ys) (z ∷ zs) p q =
    let e = p.is in let f = q.is in
    let a : zs ≡ xs ++ p.rest = cc in let b : zs ≡ ys ++ q.rest = cc in let h : x ≡ y = cc in
    both h (prefix_either xs ys zs (record { rest = p.rest; is = a }) (record { rest = q.rest; is = b }))
  where
    both : x ≡ y → IsPrefixOf xs ys ⊎ IsPrefixOf ys xs → IsPrefixOf (x ∷ xs) (y ∷ ys) ⊎ IsPrefixOf (y ∷ ys) (x ∷ xs)
    both h (inl r) = let e = r.is in inl (record { rest = r.rest; is = cc })
    both h (inr r) = let e = r.is in inr (record { rest = r.rest; is = cc })

-- taking within the length of a prefix takes from the prefix
pub take_prefix : {X : Type 0} (k : ℕ) {xs ys : List X} → IsPrefixOf xs ys → k ≤ length xs → take k ys ≡ take k xs
take_prefix k {xs = xs} p within = ap (take k) p.is ∙ take-append-le k xs p.rest within

pub prefix_take_more : {X : Type 0} (k : ℕ) {xs ys : List X} → IsPrefixOf xs ys → IsPrefixOf (take k xs) ys
prefix_take_more k {xs = xs} p = prefix_then (prefix_take k xs) p
