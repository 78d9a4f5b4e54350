-- Which stories a client may have in one session: how they begin, and how they go on.
use Rattle.std.specs.Prelude.{◌≡◌, ℕ, suc, List, [], ◌∷◌, None, length}
use Rattle.broker_spec.specs.Place.{Client, Limits}
use Rattle.broker_spec.specs.Commands.{past_of}
use Rattle.broker_spec.specs.declared.command.Command.{Command}
use Rattle.client_base.specs.Keeper.{Keeper, new_keeper, ids_in_use, Own}
use Rattle.broker_spec.specs.Sessions.{clean_session_of}
use Rattle.lists.specs.Lists.{IsDistinct}
use Rattle.client_base.specs.OrderTheorems.{AreNumbered}
use Rattle.exactly_once.specs.Story.{Story, no_story, StoryStep}

-- publications that were never sent, numbered from this one on
abbrev pub AreQueued : ℕ → List Own → Type 0
AreQueued next (Own.Queued number publication id ∷ own) = (number ≡ next) × AreQueued (suc next) own
AreQueued next [] = Unit {0}
AreQueued next _ = ⊥

-- a client that was never served in this session, with what it published before it, and what it
-- keeps
abbrev pub unserved : Client → List Own → List Own → Keeper
unserved client earlier own = record (new_keeper client) { earlier = earlier; own = own }

-- A story of one session begins with the list, or when the client has no session: nothing is then
-- left of an earlier one.
pub data StoryTrace (limits : Limits) (client : Client) : Story → Type 0 where
  -- the client did nothing yet, and the list is empty
  begins : StoryTrace limits client (no_story client)
  -- the list may be any by which the client has no session; what it publishes in this one is unsent
  begins_at : (list : List Command) (earlier own : List Own) →
      clean_session_of (past_of limits list) client ≡ None →
      AreNumbered 0 earlier → AreQueued (length earlier) own →
      IsDistinct (ids_in_use (unserved client earlier own)) →
      StoryTrace limits client
      (record {
        past = past_of limits list;
        connections = [];
        keeper = unserved client earlier own;
      })
  -- one more step
  goes_on : {before after : Story} → StoryTrace limits client before →
      StoryStep limits before after → StoryTrace limits client after
