-- What clients publish in a world, step by step.
use Rattle.std.specs.Prelude.{ℕ, ◌==◌, if◌then◌else◌, List, [], ◌∷◌, ◌++◌, map}
use Rattle.ballot_base.specs.declared.config.Config.{Config}
use Rattle.broker_spec.specs.Place.{Client, Limits}
use Rattle.session_base.specs.declared.publication.Publication.{Publication}
use Rattle.exactly_once.specs.Story.{Story, StoryStep}
use Rattle.exactly_once.specs.Story.StoryStep.{takes, others_take, receives, opens_anew, loses, disconnects, publishes_one, subscribes, unsubscribes}
use Rattle.headline.specs.byte_world.World.{ByteWorld}
use Rattle.headline.specs.byte_world.Steps.{Reached, ByteWorldStep}
use Rattle.headline.specs.byte_world.Steps.Reached.{begins, goes_on}
use Rattle.headline.specs.byte_world.Steps.ByteWorldStep.{group_goes, calls, connects, is_taken_back, comes_up, goes_down, arrives, handles}

-- what a client publishes with a call
abbrev pub published_by_call : {limits : Limits} {before after : Story} →
    StoryStep limits before after → List Publication
published_by_call (takes index connection written stands next) = []
published_by_call (others_take command other none) = []
published_by_call (receives connection others packet are opened next) = []
published_by_call (opens_anew connection fresh none uncounted) = []
published_by_call loses = []
published_by_call disconnects = []
published_by_call (publishes_one publication needs) = publication ∷ []
published_by_call (subscribes subscribe on id) = []
published_by_call (unsubscribes unsubscribe on id) = []

-- each with the index of its client
abbrev pub from_client : ℕ → List Publication → List (ℕ × Publication)
from_client index = map (λ (publication : Publication). (index, publication))

-- in a step only a call of a client publishes
abbrev pub published_in_step : {before after : ByteWorld} → ByteWorldStep before after →
    List (ℕ × Publication)
published_in_step (group_goes node_call done apart) = []
published_in_step (calls index client after step at call spelled) =
    from_client index (published_by_call step)
published_in_step
    (connects index node client port now done core end at unused after there spelled) = []
published_in_step (is_taken_back node port now done core unused after none) = []
published_in_step (comes_up index nth client connection pipe piece rest now done has is) = []
published_in_step (goes_down index nth client connection pipe done has) = []
published_in_step (arrives index nth client connection pipe piece rest has is) = []
published_in_step
    (handles index client connection others pipe pipes packet left at first piped is_open cut
    spelled) = []

-- all that clients published on this way to a world, the oldest first
abbrev pub published_on_way :
    {nodes : ℕ} {config : Config} {clients : List Client} {world : ByteWorld} →
    Reached nodes config clients world → List (ℕ × Publication)
published_on_way (begins greatest can) = []
published_on_way (goes_on before step) = published_on_way before ++ published_in_step step

-- the publications of the client at this index
abbrev pub published_of : ℕ → List (ℕ × Publication) → List Publication
published_of index ((other, publication) ∷ asked) =
    if other == index then publication ∷ published_of index asked else published_of index asked
published_of index [] = []
