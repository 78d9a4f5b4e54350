-- Appended.antt: what is appended to fields in three steps.
use Rattle.std.proofs.Common.{◌≡◌, ◌++◌, List, append_assoc, ap, ◌∙◌}
use Rattle.rows.specs.Fields.{Text}

regrouped : (o a b d : List Text) → ((o ++ a) ++ b) ++ d ≡ o ++ (a ++ (b ++ d))
regrouped o a b d = simp append_assoc

-- the first and the last are the same as other fields
pub put_three : (o with_a with_b new a same_a b d same_d : List Text) → a ≡ same_a → d ≡ same_d → with_a ≡ o ++ a
    → with_b ≡ with_a ++ b → new ≡ with_b ++ d → new ≡ o ++ (same_a ++ (b ++ same_d))
put_three o with_a with_b new a same_a b d same_d is_a is_d puts_a puts_b puts_d =
    let first : with_a ≡ o ++ same_a = puts_a ∙ ap (λ (l : List Text). o ++ l) is_a in
    let second : with_b ≡ (o ++ same_a) ++ b = puts_b ∙ ap (λ (l : List Text). l ++ b) first in
    let third : with_b ++ d ≡ ((o ++ same_a) ++ b) ++ d = ap (λ (l : List Text). l ++ d) second in
    let last : ((o ++ same_a) ++ b) ++ d ≡ ((o ++ same_a) ++ b) ++ same_d = ap (λ (l : List Text). ((o ++ same_a) ++ b) ++ l) is_d in
    puts_d ∙ third ∙ last ∙ regrouped o same_a b same_d
