-- Every event keeps the numbers of a client's publications: each has that of its place, over all sessions.
use Rattle.exactly_once.specs.Story.{Story, StoryStep}
use Rattle.exactly_once.specs.Story.StoryStep.{takes, others_take, receives, opens_anew, loses, disconnects, publishes_one, subscribes, unsubscribes}
use Rattle.broker_spec.specs.Place.{Limits}
use Rattle.client_base.proofs.NumbersStay.{AreAllNumbered, publishes_numbers, handled_numbers}

pub numbers_go_on : (limits : Limits) (s t : Story) → StoryStep limits s t → AreAllNumbered s.keeper → AreAllNumbered t.keeper
numbers_go_on limits s t (takes i κ w stands next) numbered = numbered
numbers_go_on limits s t (others_take command other none) numbered = numbered
numbers_go_on limits s t (receives κ others packet are opened next) numbered = handled_numbers packet (record { keeper = s.keeper; connection = κ }) numbered
numbers_go_on limits s t (opens_anew x fresh none uncounted) numbered = numbered
numbers_go_on limits s t loses numbered = numbered
numbers_go_on limits s t disconnects numbered = numbered
numbers_go_on limits s t (publishes_one p needs) numbered = publishes_numbers p s.keeper numbered
numbers_go_on limits s t (subscribes p on id) numbered = numbered
numbers_go_on limits s t (unsubscribes p on id) numbered = numbered
