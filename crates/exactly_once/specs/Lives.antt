-- A client's life: its story over several sessions, which an Expel ends.
use Rattle.std.specs.Prelude.{◌≡◌, ◌≤◌, ◌<◌, ℕ, false, List, [], ◌∷◌, ◌++◌, map}
use Rattle.lists.specs.Lists.{IsPrefixOf, Each}
use Rattle.broker_spec.specs.Place.{Client, Limits}
use Rattle.broker_spec.specs.Commands.{place_of}
use Rattle.broker_spec.specs.Entries.{Entry}
use Rattle.broker_spec.specs.Readings.{publication_in}
use Rattle.broker_spec.specs.declared.command.Command.TheVariants as commands
use Rattle.client_base.specs.Keeper.{all_own}
use Rattle.exactly_once.specs.Story.{Story, StoryStep, no_story}
use Rattle.exactly_once.specs.Carried.{new_numbers, own_qos2_numbers}
use Rattle.exactly_once.specs.Headline.{EachPublished}
use Rattle.exactly_once.specs.Acceptance.{qos2_entries, is_entry_released}
use Rattle.exactly_once.specs.InStep.{sessions_begun, entries_in, accepted_in}

-- what may happen in a story of one session, and an Expel of the client at any time
pub data Lived (limits : Limits) (client : Client) : Story → Type 0 where
  opens : Lived limits client (no_story client)  -- nothing happened yet
  -- a step of one session
  goes_on : {before after : Story} → Lived limits client before → StoryStep limits before after →
      Lived limits client after
  -- an Expel of the client comes next in the list
  is_expelled : {before : Story} → Lived limits client before →
      Lived limits client
      (record before { past = place_of limits before.past (commands.Expel client) ∷ before.past })

-- of each of its sessions, by the place at which it began, the client accepted a prefix of the QoS
-- 2 entries, and each that is released is among them
pub record AcceptedInSession (limits : Limits) (story : Story) (start : ℕ) : Type 0 where
  pub prefix : List Entry
  pub others : List Entry
  pub is : qos2_entries (entries_in limits story.past story.keeper.client start) ≡ prefix ++ others
  pub accepted : accepted_in story.past story.keeper.client start story.connections
      ≡ map publication_in prefix
  pub rest : Each (λ entry. is_entry_released entry ≡ false) others

-- numbers that rise strictly
abbrev pub NumbersRise : List ℕ → Type 0
NumbersRise (number ∷ numbers) = Each (λ later. number < later) numbers × NumbersRise numbers
NumbersRise [] = Unit {0}

-- the guarantees for the publisher, over all its sessions
pub record PublishedOverSessions (limits : Limits) (story : Story) : Type 0 where
  pub each : EachPublished limits story
  -- those at QoS 2 are new in the list in the order of the calls, each at most once
  pub rises : NumbersRise (new_numbers story.connections story.past)
  -- none is left out while the client has had one session
  pub in_order : sessions_begun story.past story.keeper.client ≤ 1 →
      IsPrefixOf (new_numbers story.connections story.past)
      (own_qos2_numbers (all_own story.keeper))
