-- A client that was never expelled: it has one session at most, and is in step.
use Rattle.std.specs.Prelude.{◌≡◌, false}
use Rattle.lists.specs.Lists.{Each}
use Rattle.broker_spec.specs.Place.{Client, Place, Past, Limits}
use Rattle.broker_spec.specs.Sessions.{expels}
use Rattle.exactly_once.specs.Story.{Story}
use Rattle.exactly_once.specs.InStep.{IsInStep, IsFirstSession}
use Rattle.exactly_once.specs.Lives.{Lived}

-- no command of the list expels the client
abbrev pub IsUnexpelled : Client → Past → Type 0
IsUnexpelled client = Each (λ (place : Place). expels place.command client ≡ false)

-- a client that no command expels has one session at most, and so it is in step
pub record HasOneSession (story : Story) : Type 0 where
  pub first : IsFirstSession story.past story.keeper.client
  pub in_step : IsInStep story

-- each client that no command expels has one session at most, and is in step, with any limits
abbrev pub UnexpelledLivesAreInStep : Type 0
UnexpelledLivesAreInStep =
    (limits : Limits) (client : Client) (story : Story) → Lived limits client story →
    IsUnexpelled client story.past → HasOneSession story
