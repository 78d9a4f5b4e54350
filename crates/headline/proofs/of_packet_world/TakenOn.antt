-- One more of a connection's packets is taken: each connection stays, with its name and what was written on it.
use Rattle.std.proofs.Common.{◌≡◌, ℕ, zero, suc, List, [], ◌∷◌, map, set, Some, refl, ap, sym, ◌∙◌}
use Rattle.std.specs.Prelude.{slice_get}
use Rattle.exactly_once.specs.Sides.{ClientConnection}
use Rattle.exactly_once.specs.StoryCommands.{with_one_counted}

-- ---- one more of a connection's packets is taken: names and what was written stay

pub record IsKept (κ later : ClientConnection) : Type 0 where
  pub name : later.name ≡ κ.name
  pub written : later.written ≡ κ.written

pub counted_back : (j k : ℕ) (connections : List ClientConnection) (later : ClientConnection) → slice_get (with_one_counted j connections) k ≡ Some later → (κ : ClientConnection) × (slice_get connections k ≡ Some κ) × IsKept κ later
counted_back j k [] later e = cc
counted_back zero zero (κ ∷ connections) later e =
    let same : record κ { taken = suc κ.taken } ≡ later = cc in
    (κ, refl, record { name = ap (λ (μ : ClientConnection). μ.name) (sym same); written = ap (λ (μ : ClientConnection). μ.written) (sym same) })
counted_back zero (suc k) (κ ∷ connections) later e = (later, e, record { name = refl; written = refl })
counted_back (suc j) zero (κ ∷ connections) later e = (later, e, record { name = refl; written = refl })
counted_back (suc j) (suc k) (κ ∷ connections) later e = counted_back j k connections later e

pub counted_on : (j k : ℕ) (connections : List ClientConnection) (κ : ClientConnection) → slice_get connections k ≡ Some κ → (later : ClientConnection) × (slice_get (with_one_counted j connections) k ≡ Some later) × IsKept κ later
counted_on j k [] κ e = cc
counted_on zero zero (μ ∷ connections) κ e =
    let same : μ ≡ κ = cc in
    (record μ { taken = suc μ.taken }, refl, record { name = ap (λ (ν : ClientConnection). ν.name) same; written = ap (λ (ν : ClientConnection). ν.written) same })
counted_on zero (suc k) (μ ∷ connections) κ e = (κ, e, record { name = refl; written = refl })
counted_on (suc j) zero (μ ∷ connections) κ e = (κ, e, record { name = refl; written = refl })
counted_on (suc j) (suc k) (μ ∷ connections) κ e = counted_on j k connections κ e

pub counted_untaken : (j : ℕ) (connections : List ClientConnection) → map (λ (κ : ClientConnection). record κ { taken = 0 }) (with_one_counted j connections) ≡ map (λ (κ : ClientConnection). record κ { taken = 0 }) connections
counted_untaken j [] = refl
counted_untaken zero (κ ∷ connections) = refl
counted_untaken (suc j) (κ ∷ connections) = ap (λ l. (let z : ClientConnection = record κ { taken = 0 } in z) ∷ l) (counted_untaken j connections)

pub map_set : {X Y : Type 0} (f : X → Y) (xs : List X) (i : ℕ) (x y : X) → slice_get xs i ≡ Some x → f y ≡ f x → map f (set xs i y) ≡ map f xs
map_set f [] i x y e s = refl
map_set f (z ∷ xs) zero x y e s = let same : z ≡ x = cc in ap (λ u. u ∷ map f xs) (s ∙ ap f (sym same))
map_set f (z ∷ xs) (suc i) x y e s = ap (λ l. f z ∷ l) (map_set f xs i x y e s)
