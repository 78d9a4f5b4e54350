-- Lists that are mapped, and lists that are written at a place.
use Rattle.std.proofs.Common.{◌≡◌, ℕ, zero, suc, List, [], ◌∷◌, length, map, set, take, Some, refl, sym, ap, ◌∙◌}
use Rattle.std.specs.Prelude.{slice_get}
use Rattle.lists.specs.Lists.{Each}
use Rattle.headline.proofs.of_node_group.Placed.{get_mapped, set_mapped}

pub take_whole : {X : Type 0} (xs : List X) → take (length xs) xs ≡ xs
take_whole [] = refl
take_whole (x ∷ xs) = ap (λ l. x ∷ l) (take_whole xs)

-- ---- mapped lists

pub map_twice : {X Y Z : Type 0} (f : X → Y) (g : Y → Z) (xs : List X) → map g (map f xs) ≡ map (λ x. g (f x)) xs
map_twice f g [] = refl
map_twice f g (x ∷ xs) = ap (λ l. g (f x) ∷ l) (map_twice f g xs)

-- what is in a mapped list is made of what is there
pub map_back : {X Y : Type 0} (f : X → Y) (xs : List X) (n : ℕ) (y : Y) → slice_get (map f xs) n ≡ Some y → (x : X) × (slice_get xs n ≡ Some x) × (f x ≡ y)
map_back f [] n y e = cc
map_back f (x ∷ xs) zero y e = let same : f x ≡ y = cc in (x, refl, same)
map_back f (x ∷ xs) (suc n) y e = map_back f xs n y e

-- two lists of which the same is made
pub same_place : {X Y Z : Type 0} (f : X → Z) (g : Y → Z) (xs : List X) (ys : List Y) (n : ℕ) (y : Y) → map f xs ≡ map g ys → slice_get ys n ≡ Some y
    → (x : X) × (slice_get xs n ≡ Some x) × (f x ≡ g y)
same_place f g xs ys n y same at = map_back f xs n (g y) (ap (λ l. slice_get l n) same ∙ get_mapped g ys n y at)

-- both are written at a place
pub same_set : {X Y Z : Type 0} (f : X → Z) (g : Y → Z) (xs : List X) (ys : List Y) (n : ℕ) (x : X) (y : Y) → map f xs ≡ map g ys → f x ≡ g y → map f (set xs n x) ≡ map g (set ys n y)
same_set f g xs ys n x y same one = set_mapped f xs n x ∙ ap (λ l. set l n (f x)) same ∙ ap (set (map g ys) n) one ∙ sym (set_mapped g ys n y)

-- what holds for each that is made of a list
pub each_made : {X Y : Type 0} (f : X → Y) (P : Y → Type 0) (xs : List X) → Each P (map f xs) → Each (λ x. P (f x)) xs
each_made f P [] all = tt
each_made f P (x ∷ xs) all = (all.0, each_made f P xs all.1)

pub each_of_made : {X Y : Type 0} (f : X → Y) (P : Y → Type 0) (xs : List X) → Each (λ x. P (f x)) xs → Each P (map f xs)
each_of_made f P [] all = tt
each_of_made f P (x ∷ xs) all = (all.0, each_of_made f P xs all.1)

-- ---- place by place

-- if one place after the other may be written again, all may
pub in_turn : {X Y : Type 0} (f g : X → Y) (xs : List X) (P : List Y → Type 0)
    → ((n : ℕ) (x : X) (ys : List Y) → slice_get xs n ≡ Some x → slice_get ys n ≡ Some (f x) → P ys → P (set ys n (g x))) → P (map f xs) → P (map g xs)
in_turn f g [] P step p = p
in_turn f g (x ∷ xs) P step p =
    in_turn f g xs (λ ys. P (g x ∷ ys)) (λ n z ys at there q. step (suc n) z (g x ∷ ys) at there q) (step zero x (f x ∷ map f xs) refl refl p)
