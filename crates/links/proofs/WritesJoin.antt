-- Two writes, one after another, are one write of both pieces.
use Rattle.std.specs.Prelude.{◌≡◌, ℕ, ◌+◌, ◌-◌, ◌≤◌, zero, suc, Option, None, Some, List, [], ◌∷◌, ◌++◌, length, take, drop, refl}
use Rattle.std.proofs.Common.{sym, ◌∙◌, ap, arith, zero-add, append_assoc, length-drop}
use Rattle.std.proofs.lemmas.List.{take_all}
use Rattle.std.specs.Io.KnownBytes.{Appends}

-- a prefix is its first part and what follows that
take-add : (a b : ℕ) (xs : List ℕ) → take (a + b) xs ≡ take a xs ++ take b (drop a xs)
take-add zero b xs = rw zero-add refl
take-add (suc a) b [] = take_all (suc a + b) [] (omega arith) ∙ sym (take_all b [] (omega arith))
take-add (suc a) b (x ∷ xs) =
    let e : suc a + b ≡ suc (a + b) = omega arith in
    rw e (ap (λ l. x ∷ l) (take-add a b xs))

-- what joins in two steps joins in one
pub appends_join :
    (old mid new : Option (List ℕ)) (xs ys : List ℕ)
    → Appends old mid xs
    → Appends mid new ys
    → Appends old new (xs ++ ys)
appends_join None mid new xs ys first second = tt
appends_join (Some o) None new xs ys first second = absurd first
appends_join (Some o) (Some m) None xs ys first second = absurd second
appends_join (Some o) (Some m) (Some n) xs ys first second =
    second ∙ ap (λ l. l ++ ys) first ∙ append_assoc o xs ys

-- a write of what is left takes the next bytes
pub writes_join :
    (bytes : List ℕ) (done count : ℕ) (old mid new : Option (List ℕ))
    → done ≤ length bytes
    → count ≤ length (take (length bytes - done) (drop done bytes))
    → Appends old mid (take done bytes)
    → Appends mid new (take count (take (length bytes - done) (drop done bytes)))
    → (done + count ≤ length bytes) × Appends old new (take (done + count) bytes)
writes_join bytes done count old mid new within fits first second =
    let rest : length (drop done bytes) ≡ length bytes - done = length-drop done bytes in
    let all = take_all (length bytes - done) (drop done bytes) (omega arith) in
    let fits' : count ≤ length (drop done bytes) = rw all at fits in
    let second' : Appends mid new (take count (drop done bytes)) = rw all at second in (
      omega arith,
      rw take-add (appends_join old mid new _ _ first second'),
    )
