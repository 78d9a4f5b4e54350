-- What is chosen and agreed by the history of ballots.
use Rattle.std.specs.Prelude.{ℕ, ◌≡◌, ◌⊎◌, List, [], take, Some}
use Rattle.agreement.specs.World.{GroupWorld}
use Rattle.lists.specs.Lists.{In, IsPrefixOf}
use Rattle.agreement.specs.Inside.Ballots.{Line, History, IsChosenIn}

-- a list that is chosen in an activated ballot
pub record ChosenList {S C O : Type 0} (world : GroupWorld S C O) (history : History C)
    (xs : List C) : Type 0 where
  pub ballot : ℕ
  pub places : ℕ
  pub line : Line C
  pub activated : In ballot history.activated
  pub lined : history.line ballot ≡ Some line
  pub chosen : IsChosenIn world history ballot places
  pub is : xs ≡ take places line.list

-- the longest list that is chosen in an activated ballot, or none if there is none
pub record IsAgreedIn {S C O : Type 0} (world : GroupWorld S C O) (history : History C)
    (xs : List C) : Type 0 where
  pub chosen : (xs ≡ []) ⊎ ChosenList world history xs
  pub longest : (ys : List C) → ChosenList world history ys → IsPrefixOf ys xs
