-- What a loop over the items of a list has counted, written or seen so far.
use Rattle.std.proofs.Common.{◌≡◌, ℕ, ◌+◌, ◌<◌, ◌≤◌, min, List, [], ◌∷◌, ◌++◌, length, get_or, take, drop, sym, ap, subst, ◌∙◌, append_assoc, arith}
use Rattle.std.specs.List.{flat_map, All}
use Rattle.std.proofs.lemmas.List.{take_more, drop_more, take_all, length-append, append-nil}
use Rattle.std.proofs.lemmas.List.Concat.{flat_map-append}
use Rattle.std.proofs.lemmas.List.Elements.{All-more}

-- the bytes of one more item
taken_more : {X : Type 0} (f : X → List ℕ) (xs : List X) (i : ℕ) (x : X) → i < length xs → x ≡ get_or xs i x → flat_map f (take (i + 1) xs) ≡ flat_map f (take i xs) ++ f x
taken_more {X = X} f xs i x there is =
    ap (λ (ys : List X). flat_map f ys) (take_more xs i x there ∙ ap (λ (y : X). take i xs ++ y ∷ []) (sym is))
    ∙ flat_map-append f (take i xs) (x ∷ [])
    ∙ ap (λ (z : List ℕ). flat_map f (take i xs) ++ z) (append-nil (f x))

pub counted_more : {X : Type 0} (f : X → List ℕ) (xs : List X) (i : ℕ) (x : X) (front len size limit next : ℕ) → i < length xs → x ≡ get_or xs i x → size ≡ length (f x)
    → len ≡ min (front + length (flat_map f (take i xs))) limit → next ≡ min (len + size) limit → next ≡ min (front + length (flat_map f (take (i + 1) xs))) limit
counted_more f xs i x front len size limit next there is sized so_far summed =
    let more : length (flat_map f (take (i + 1) xs)) ≡ length (flat_map f (take i xs)) + length (f x) =
    ap length (taken_more f xs i x there is) ∙ length-append (flat_map f (take i xs)) (f x) in
    omega (arith, more, sized, so_far, summed)

pub counted_all : {X : Type 0} (f : X → List ℕ) (xs all : List X) (i front len limit : ℕ) → length xs ≤ i → xs ≡ all → len ≡ min (front + length (flat_map f (take i xs))) limit
    → len ≡ min (front + length (flat_map f all)) limit
counted_all {X = X} f xs all i front len limit past is so_far =
    let ended : length (flat_map f (take i xs)) ≡ length (flat_map f all) = ap (λ (ys : List X). length (flat_map f ys)) (take_all i xs past ∙ is) in
    omega (arith, so_far, ended)

-- what is written so far
pub written_more : {X : Type 0} (f : X → List ℕ) (xs : List X) (i : ℕ) (x : X) (front old new : List ℕ) → i < length xs → x ≡ get_or xs i x
    → old ≡ front ++ flat_map f (take i xs) → new ≡ old ++ f x → new ≡ front ++ flat_map f (take (i + 1) xs)
written_more f xs i x front old new there is so_far added =
    added ∙ ap (λ (z : List ℕ). z ++ f x) so_far ∙ append_assoc front (flat_map f (take i xs)) (f x)
    ∙ ap (λ (z : List ℕ). front ++ z) (sym (taken_more f xs i x there is))

pub written_all : {X : Type 0} (f : X → List ℕ) (xs all : List X) (i : ℕ) (front new : List ℕ) → length xs ≤ i → xs ≡ all
    → new ≡ front ++ flat_map f (take i xs) → new ≡ front ++ flat_map f all
written_all {X = X} f xs all i front new past is so_far =
    so_far ∙ ap (λ (ys : List X). front ++ flat_map f ys) (take_all i xs past ∙ is)

-- the room that the items left over take
pub room_more : {X : Type 0} (f : X → List ℕ) (xs : List X) (i : ℕ) (x : X) → i < length xs → x ≡ get_or xs i x
    → length (flat_map f (drop i xs)) ≡ length (f x) + length (flat_map f (drop (i + 1) xs))
room_more {X = X} f xs i x there is =
    ap (λ (ys : List X). length (flat_map f ys)) (drop_more xs i x there ∙ ap (λ (y : X). y ∷ drop (i + 1) xs) (sym is))
    ∙ length-append (f x) (flat_map f (drop (i + 1) xs))

-- what holds for the items so far
pub seen_more : {X : Type 0} (P : X → Type 0) (xs : List X) (i : ℕ) (x : X) → i < length xs → x ≡ get_or xs i x → All P (take i xs) → P x → All P (take (i + 1) xs)
seen_more P xs i x there is so_far here = All-more P xs i x there so_far (subst P is here)

pub seen_all : {X : Type 0} (P : X → Type 0) (xs all : List X) (i : ℕ) → length xs ≤ i → xs ≡ all → All P (take i xs) → All P all
seen_all {X = X} P xs all i past is so_far = subst (λ (ys : List X). All P ys) (take_all i xs past ∙ is) so_far
