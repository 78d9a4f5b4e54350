-- The test `is_match` is true exactly if the filter matches.
use Rattle.std.proofs.Common.{◌≡◌, ℕ, List, [], ◌∷◌, IsTrue, ◌↔◌, Bool, not, codes, Decides, refl, subst, sym}
use Rattle.std.proofs.lemmas.Bool.Decides.{Decides-and, Decides-or}
use Rattle.std.proofs.lemmas.Slice.Eq.{bytes_eq-Decides}
use Rattle.topics.specs.Text.{Levels, levels, is_last}
use Rattle.topics.specs.Matching.{Matches, MatchesRest, IsAll, is_match, matches_rest, is_all, is_hidden}

last : (rest : Levels) → Decides (is_last rest) (rest ≡ [])
last [] = (λ _. refl, λ _. refl)
last (part ∷ rest) = (λ e. cc, λ e. cc)

all : (part : List ℕ) (rest : Levels) → Decides (is_all part rest) (IsAll part rest)
all part rest = Decides-and _ _ (bytes_eq-Decides part (codes "#")) (last rest)

rest_tested : (filter topic : Levels) → Decides (matches_rest filter topic) (MatchesRest filter topic)
rest_tested [] [] = (λ _. tt, λ _. refl)
rest_tested [] (level ∷ topic) = (λ e. cc, λ h. absurd h)
rest_tested (part ∷ filter) [] = all part filter
rest_tested (part ∷ filter) (level ∷ topic) =
    Decides-or _ _ (all part filter)
    (Decides-and _ _
    (Decides-or _ _ (bytes_eq-Decides part (codes "+")) (bytes_eq-Decides part level))
    (rest_tested filter topic))

shown : (b : Bool) → Decides b (IsTrue b)
shown b = (λ h. h, λ h. h)

pub tested : (filter topic : List ℕ) → IsTrue (is_match filter topic) ↔ Matches filter topic
tested filter topic =
    Decides-and _ _ (shown (not (is_hidden filter topic))) (rest_tested (levels filter) (levels topic))

-- what a call knows that answered the test
pub answer_tested : (answer : Bool) (filter topic : List ℕ) → answer ≡ is_match filter topic → IsTrue answer ↔ Matches filter topic
answer_tested answer filter topic e =
    subst (λ (b : Bool). IsTrue b ↔ Matches filter topic) (sym e) (tested filter topic)
