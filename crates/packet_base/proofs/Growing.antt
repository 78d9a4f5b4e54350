-- What is read of bytes is read of them when more bytes follow, unless they were too few.
use Rattle.std.proofs.Common.{◌≡◌, ℕ, ◌-◌, Bool, true, false, cond, ltb, eqb, List, [], ◌∷◌, ◌++◌, Result, Ok, Err, refl, ap}
use Rattle.packet_base.specs.declared.stop.Stop.{Stop}
use Rattle.packet_base.specs.declared.stop.Stop.TheVariants as stops
use Rattle.packet_base.specs.Readers.{◌>>=◌, ◌>>◌, check, length_at}

-- the outcome with more bytes after
abbrev pub StandsWithMore : {A : Type 0} → List ℕ → Result (A × List ℕ) Stop → Result (A × List ℕ) Stop → Type 0
StandsWithMore more (Ok x) longer = longer ≡ Ok (x.0, x.1 ++ more)
StandsWithMore more (Err stops.More) longer = Unit {0}
StandsWithMore more (Err (stops.Malformed kind)) longer = longer ≡ Err (stops.Malformed kind)
StandsWithMore more (Err (stops.Refused code)) longer = longer ≡ Err (stops.Refused code)

pub grows_cond : {A : Type 0} (more : List ℕ) (b : Bool) (x y x' y' : Result (A × List ℕ) Stop)
    → (b ≡ true → StandsWithMore more x x') → (b ≡ false → StandsWithMore more y y') → StandsWithMore more (cond b x y) (cond b x' y')
grows_cond more true x y x' y' then other = then refl
grows_cond more false x y x' y' then other = other refl

-- a fault is a fault
pub grows_fault : (A : Type 0) (more : List ℕ) (stop : Stop) → StandsWithMore {A = A} more (Err stop) (Err stop)
grows_fault A more stops.More = tt
grows_fault A more (stops.Malformed kind) = refl
grows_fault A more (stops.Refused code) = refl

pub grows_check : {A : Type 0} (more : List ℕ) (b : Bool) (stop : Stop) (x x' : Result (A × List ℕ) Stop)
    → (b ≡ true → StandsWithMore more x x') → StandsWithMore more (check b stop >> x) (check b stop >> x')
grows_check more true stop x x' go = go refl
grows_check {A = A} more false stop x x' go = grows_fault A more stop

-- a step that does not look at the bytes after
pub grows_same : {A B : Type 0} (more : List ℕ) (r : Result B Stop) (f f' : B → Result (A × List ℕ) Stop)
    → ((y : B) → r ≡ Ok y → StandsWithMore more (f y) (f' y)) → StandsWithMore more (r >>= f) (r >>= f')
grows_same more (Ok y) f f' go = go y refl
grows_same {A = A} more (Err stop) f f' go = grows_fault A more stop

-- a step that leaves them
pub grows_then : {A B : Type 0} (more : List ℕ) (r r' : Result (B × List ℕ) Stop) (f f' : B × List ℕ → Result (A × List ℕ) Stop)
    → StandsWithMore more r r' → ((y : B) (rest : List ℕ) → StandsWithMore more (f (y, rest)) (f' (y, rest ++ more))) → StandsWithMore more (r >>= f) (r' >>= f')
grows_then more (Ok y) r' f f' same go = rw same (go y.0 y.1)
grows_then more (Err stops.More) r' f f' same go = tt
grows_then more (Err (stops.Malformed kind)) r' f f' same go = ap (λ r. r >>= f') same
grows_then more (Err (stops.Refused code)) r' f f' same go = ap (λ r. r >>= f') same

pub length_grows : (follow : ℕ) (bytes more : List ℕ) → StandsWithMore more (length_at follow bytes) (length_at follow (bytes ++ more))
unfolding length_at
length_grows follow [] more = tt
length_grows follow (b ∷ bytes) more =
    grows_cond more (ltb b 128) _ _ _ _ (λ _. refl) (λ _.
    grows_cond more (eqb follow 0) _ _ _ _ (λ _. refl) (λ _.
    grows_then more (length_at (follow - 1) bytes) (length_at (follow - 1) (bytes ++ more)) _ _ (length_grows (follow - 1) bytes more) (λ high rest.
    grows_check more (ltb 0 high) _ _ _ (λ _. refl))))
