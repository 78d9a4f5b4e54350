-- A later world is sound, also after a node's step of which some messages are lost.
use Rattle.agreement.specs.Inside.MovesAt.{with_lines}
use Rattle.std.specs.Prelude.{◌⊎◌, ℕ, ◌≡◌, List, [], ◌∷◌, ◌++◌, Some, None}
use Rattle.machine.specs.Machine.{Rules}
use Rattle.agreement.specs.whole_logs.Messages.{Effect}
use Rattle.agreement.specs.whole_logs.Losses.{Thinned}
use Rattle.agreement.specs.whole_logs.StepOutcome.{Outcome}
use Rattle.agreement.specs.World.{GroupWorld, moved}
use Rattle.lists.specs.Lists.{In, IsPrefixOf}
use Rattle.agreement.specs.Inside.Ballots.{Acknowledged, TellsHere, Given, Line, History}
use Rattle.agreement.specs.Inside.Extension.{Extends}
use Rattle.agreement.specs.Inside.Sound.{IsSoundWorld}

-- a later world is sound, with a history that continues the earlier one
pub record HistoryGoesOn {S C O : Type 0} (rules : Rules S C O) (world : GroupWorld S C O)
    (earlier : History C) (next : GroupWorld S C O) : Type 0 where
  pub history : History C
  pub extends : Extends world earlier next history
  pub active : (ballot : ℕ) → In ballot earlier.activated → In ballot history.activated
  pub sound : IsSoundWorld rules next history

-- how the list of a ballot changes at most: it begins as a prefix of the earlier ballot's, or takes
-- one command
pub data LineAdds {C : Type 0} (adds : ℕ → C →
    Type 0) (history : History C) (ballot : ℕ) (line : Line C) : Type 0 where
  -- it stays
  as_it_was : history.line ballot ≡ Some line → LineAdds adds history ballot line
  -- it begins as a prefix of the list of the earlier ballot
  begins_after : (given : Given) (earlier : Line C) → history.given ballot ≡ Some given →
      history.line ballot ≡ None →
      history.line given.previous ≡ Some earlier →
      IsPrefixOf line.list earlier.list → LineAdds adds history ballot line
  -- it takes one command
  adds_one : (before : Line C) (command : C) → history.line ballot ≡ Some before →
      line.list ≡ before.list ++ command ∷ [] → adds ballot command →
      LineAdds adds history ballot line

-- After a move of a node no ballot is given or activated that was not, and lists take only what may
-- be added.
pub record NodeGoesOn {S C O : Type 0} (rules : Rules S C O) (world : GroupWorld S C O)
    (earlier : History C) (adds : ℕ → C → Type 0)
    (next : GroupWorld S C O) : Type 0 where
  pub history : History C
  pub extends : Extends world earlier next history
  pub active : (ballot : ℕ) → In ballot earlier.activated → In ballot history.activated
  pub sound : IsSoundWorld rules next history
  pub ballots : history ≡ with_lines earlier history.line
  pub added : (ballot : ℕ) (line : Line C) → history.line ballot ≡ Some line →
      LineAdds adds earlier ballot line
  -- what is acknowledged was acknowledged before, or is acknowledged now by a node that holds it
  pub tells : (member ballot places : ℕ) → Acknowledged next history member ballot places →
      Acknowledged world earlier member ballot places ⊎ TellsHere next member ballot places

-- whichever of its messages are lost, the outcome of a node's step is sound, and adds no more than
-- it may
abbrev pub KeepsAdding : {S C O : Type 0} → Rules S C O → GroupWorld S C O → History C → ℕ →
    (ℕ → C → Type 0) → Outcome S C O → Type 0
KeepsAdding {S = S} {C = C} {O = O} rules world history node adds outcome =
    (given : List (Effect C O)) → Thinned given outcome.effects →
    NodeGoesOn rules world history adds (moved world node outcome.state given)

-- whichever of its messages are lost, the outcome of a node's step is sound, and adds nothing
abbrev pub KeepsSoundness : {S C O : Type 0} → Rules S C O → GroupWorld S C O → History C → ℕ →
    Outcome S C O → Type 0
KeepsSoundness rules world history node outcome =
    KeepsAdding rules world history node (λ ballot command. ⊥) outcome
