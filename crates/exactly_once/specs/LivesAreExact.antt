-- What a client is promised over all of its sessions.
use Rattle.std.specs.Prelude.{◌≡◌, ℕ}
use Rattle.std.specs.List.{flat_map}
use Rattle.broker_spec.specs.Place.{Client, Limits}
use Rattle.exactly_once.specs.Story.{Story}
use Rattle.exactly_once.specs.Acceptance.{accepted_on}
use Rattle.exactly_once.specs.InStep.{IsInStep, starts_of, accepted_in}
use Rattle.exactly_once.specs.Lives.{Lived, AcceptedInSession, PublishedOverSessions}

-- what a client with several sessions is promised: as publisher, and in each session as subscriber
pub record ExactlyOnceOverSessions (limits : Limits) (story : Story) : Type 0 where
  pub publishers : PublishedOverSessions limits story
  pub subscribers : (start : ℕ) → AcceptedInSession limits story start
  -- all that it accepted, it accepted in its sessions, one after another
  pub in_turn : accepted_on story.connections
      ≡ flat_map (λ start. accepted_in story.past story.keeper.client start story.connections)
      (starts_of story.past story.keeper.client)

-- as long as a client is in step, it publishes and accepts exactly once over its sessions
abbrev pub LivesAreExact : Limits → Type 0
LivesAreExact limits =
    (client : Client) (story : Story) → Lived limits client story → IsInStep story →
    ExactlyOnceOverSessions limits story

-- as long as a client is in step, it accepts in order in each of its sessions
abbrev pub AcceptsInEachSession : Limits → Type 0
AcceptsInEachSession limits =
    (client : Client) (story : Story) → Lived limits client story → IsInStep story → (start : ℕ) →
    AcceptedInSession limits story start
