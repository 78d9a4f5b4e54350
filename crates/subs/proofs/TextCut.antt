-- What a filter's text begins with, and what is after it.
use Rattle.std.proofs.Common.{◌≡◌, ℕ, ◌<◌, List, ◌∷◌, length, Option, Some, ◌∙◌, ap, arith, Bor}
use Rattle.topics.specs.Text.{levels, levels_of}

pub record IsCut (filter : Option (Bor (List ℕ))) (text : Bor (List ℕ)) (level : List ℕ) (after : Option (Bor (List ℕ))) : Type 0 where
  pub some : filter ≡ Some text
  pub cut : levels text.now ≡ level ∷ levels_of after

pub path : (filter : Option (Bor (List ℕ))) (text : Bor (List ℕ)) (level : List ℕ) (after : Option (Bor (List ℕ))) → IsCut filter text level after → levels_of filter ≡ level ∷ levels_of after
path filter text level after h = ap levels_of h.some ∙ h.cut

-- fewer levels are left
pub fewer : (filter : Option (Bor (List ℕ))) (text : Bor (List ℕ)) (level : List ℕ) (after : Option (Bor (List ℕ))) → IsCut filter text level after → length (levels_of after) < length (levels_of filter)
fewer filter text level after h =
    let e : length (levels_of filter) ≡ length (level ∷ levels_of after) = ap length (path filter text level after h) in
    omega (arith, e)
