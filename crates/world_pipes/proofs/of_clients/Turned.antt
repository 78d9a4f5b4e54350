-- Turned.antt: a list turned round, at a place and the other way.
use Rattle.std.proofs.Common.{◌≡◌, ℕ, zero, suc, List, [], ◌∷◌, ◌++◌, Some, length, map, reverse, set, slice_get, refl, sym, ap, ◌∙◌, ◌<◌, arith}
use Rattle.std.proofs.lemmas.List.{reverse-append, reverse-reverse}
use Rattle.std.proofs.lemmas.Option.{same_Some, none-some}

-- ---- what is at a place

record SplitAt {X : Type 0} (xs : List X) (i : ℕ) (y : X) : Type 0 where
  front : List X
  back : List X
  is : xs ≡ front ++ y ∷ back
  counted : i ≡ length front

split_at : {X : Type 0} (xs : List X) (i : ℕ) (y : X) → slice_get xs i ≡ Some y → SplitAt xs i y
split_at [] i y e = absurd (none-some y e)
split_at (z ∷ zs) zero y e = record { front = []; back = zs; is = ap (λ w. w ∷ zs) (same_Some z y e); counted = refl }
split_at (z ∷ zs) (suc i) y e =
    let s = split_at zs i y e in record { front = z ∷ s.front; back = s.back; is = ap (λ l. z ∷ l) s.is; counted = ap suc s.counted }

set_seam : {X : Type 0} (front : List X) (y : X) (back : List X) (x : X) → set (front ++ y ∷ back) (length front) x ≡ front ++ x ∷ back
set_seam [] y back x = refl
set_seam (z ∷ zs) y back x = ap (λ l. z ∷ l) (set_seam zs y back x)

get_seam : {X : Type 0} (front : List X) (y : X) (back : List X) → slice_get (front ++ y ∷ back) (length front) ≡ Some y
get_seam [] y back = refl
get_seam (z ∷ zs) y back = get_seam zs y back

-- what is at a place of a mapped list was there before
pub record MappedFrom {X Y : Type 0} (f : X → Y) (xs : List X) (n : ℕ) (y : Y) : Type 0 where
  pub x : X
  pub found : slice_get xs n ≡ Some x
  pub is : f x ≡ y

pub mapped_from : {X Y : Type 0} (f : X → Y) (xs : List X) (n : ℕ) (y : Y) → slice_get (map f xs) n ≡ Some y → MappedFrom f xs n y
mapped_from f [] n y e = absurd (none-some y e)
mapped_from f (x ∷ xs) zero y e = record { x = x; found = refl; is = same_Some (f x) y e }
mapped_from f (x ∷ xs) (suc n) y e = let r = mapped_from f xs n y e in record { x = r.x; found = r.found; is = r.is }

pub set_itself : {X : Type 0} (xs : List X) (n : ℕ) (x : X) → slice_get xs n ≡ Some x → set xs n x ≡ xs
set_itself [] n x e = refl
set_itself (y ∷ ys) zero x e = ap (λ z. z ∷ ys) (sym (same_Some y x e))
set_itself (y ∷ ys) (suc n) x e = ap (λ l. y ∷ l) (set_itself ys n x e)

pub there : {X : Type 0} (xs : List X) (n : ℕ) → n < length xs → (x : X) × (slice_get xs n ≡ Some x)
there [] n below = absurd (omega (arith, below))
there (x ∷ xs) zero below = (x, refl)
there (x ∷ xs) (suc n) below = there xs n (omega (arith, below))

pub beside : {X Y : Type 0} (xs : List X) (ys : List Y) (n : ℕ) (y : Y) → length xs ≡ length ys → slice_get ys n ≡ Some y → (x : X) × (slice_get xs n ≡ Some x)
beside xs [] n y same e = absurd (none-some y e)
beside [] (z ∷ ys) n y same e = absurd (let o : ℕ = suc (length ys) in cc)
beside (x ∷ xs) (z ∷ ys) zero y same e = (x, refl)
beside (x ∷ xs) (z ∷ ys) (suc n) y same e = beside xs ys n y (ap pred_of same) e
  where
    pred_of : ℕ → ℕ
    pred_of zero = zero
    pred_of (suc k) = k

-- ---- turned round

one_turned : {X : Type 0} (front : List X) (y : X) (back : List X) → reverse (front ++ y ∷ back) ≡ reverse back ++ y ∷ reverse front
one_turned front y back =
    reverse-append front (y ∷ back) ∙ ap (λ l. l ++ reverse front) (reverse-append (y ∷ []) back) ∙ joined (reverse back)
  where
    joined : (l : List _) → (l ++ y ∷ []) ++ reverse front ≡ l ++ y ∷ reverse front
    joined [] = refl
    joined (z ∷ zs) = ap (λ r. z ∷ r) (joined zs)

-- the place of an element of a list in the reversed list
pub record IsTurned {X : Type 0} (xs : List X) (i : ℕ) (y : X) : Type 0 where
  pub place : ℕ
  pub found : slice_get (reverse xs) place ≡ Some y
  pub set_there : (x : X) → reverse (set xs i x) ≡ set (reverse xs) place x

pub turned_at : {X : Type 0} (xs : List X) (i : ℕ) (y : X) → slice_get xs i ≡ Some y → IsTurned xs i y
turned_at {X = X} xs i y e =
    let s = split_at xs i y e in
    let whole = ap reverse s.is ∙ one_turned s.front y s.back in
    record {
      place = length (reverse s.back);
      found = ap (λ (l : List X). slice_get l (length (reverse s.back))) whole ∙ get_seam (reverse s.back) y (reverse s.front);
      set_there = λ x.
          ap (λ (l : List X). reverse (set l i x)) s.is
          ∙ ap (λ (k : ℕ). reverse (set (s.front ++ y ∷ s.back) k x)) s.counted
          ∙ ap reverse (set_seam s.front y s.back x)
          ∙ one_turned s.front x s.back
          ∙ sym (ap (λ (l : List X). set l (length (reverse s.back)) x) whole ∙ set_seam (reverse s.back) y (reverse s.front) x);
    }

pub last_turned : {X : Type 0} (xs older : List X) (y : X) → xs ≡ older ++ y ∷ [] → reverse xs ≡ y ∷ reverse older
last_turned xs older y e = ap reverse e ∙ one_turned older y []

pub turned_last : {X : Type 0} (xs rest : List X) (y : X) → reverse xs ≡ y ∷ rest → xs ≡ reverse rest ++ y ∷ []
turned_last xs rest y e = sym (reverse-reverse xs) ∙ ap reverse e ∙ reverse-append (y ∷ []) rest
