-- StartedAlike.antt: lists that have the same numbers still have them once each has one more.
use Rattle.std.proofs.Common.{◌≡◌, ◌∙◌, ℕ, List, [], ◌∷◌, ◌++◌, ap, map, sym}
use Rattle.std.proofs.lemmas.List.{map_push}

pub one_more_alike : {X Y : Type 0} (f : X → ℕ) (g : Y → ℕ) (xs after : List X) (ys : List Y) (x : X) (y : Y)
    → after ≡ xs ++ x ∷ [] → f x ≡ g y → map f xs ≡ map g ys → map f after ≡ map g (ys ++ y ∷ [])
one_more_alike f g xs after ys x y longer same alike =
    ap (map f) longer ∙ (map_push f xs x ∙ (ap (λ l. l ++ f x ∷ []) alike ∙ (ap (λ n. map g ys ++ n ∷ []) same ∙ sym (map_push g ys y))))
