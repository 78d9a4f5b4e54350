-- Each event of a story is a run of the handshake in which the client subscribes.
use Rattle.exactly_once.specs.Story.StoryStep.{takes, others_take, receives, opens_anew, loses, disconnects, publishes_one, subscribes, unsubscribes}
use Rattle.exactly_once.specs.Inside.EachEvent.{EventSubscribes}
use Rattle.exactly_once.proofs.subscribing.events.Leaving.{goes_lost, goes_disconnected, goes_anew}
use Rattle.exactly_once.proofs.subscribing.Writing.{goes_published, goes_subscribed, goes_unsubscribed}
use Rattle.exactly_once.proofs.subscribing.events.Received.{goes_received}
use Rattle.exactly_once.proofs.subscribing.events.OthersTake.{goes_others}
use Rattle.exactly_once.proofs.subscribing.events.Takes.{goes_taken}

-- by the event
pub event_subscribes : EventSubscribes
event_subscribes limits s t steady sound (takes i κ w at next) = goes_taken limits s sound.shape steady sound.subscriber i κ w at next
event_subscribes limits s t steady sound (others_take command other fresh) = goes_others limits s sound.shape steady command other fresh
event_subscribes limits s t steady sound (receives κ others packet e is_open next) = goes_received limits s sound.shape κ others packet e is_open next
event_subscribes limits s t steady sound (opens_anew x fresh put count) = goes_anew limits s sound.shape x fresh
event_subscribes limits s t steady sound loses = goes_lost limits s sound.shape
event_subscribes limits s t steady sound disconnects = goes_disconnected limits s sound.shape
event_subscribes limits s t steady sound (publishes_one p h) = goes_published limits s sound.shape p
event_subscribes limits s t steady sound (subscribes p on e) = goes_subscribed limits s sound.shape p
event_subscribes limits s t steady sound (unsubscribes p on e) = goes_unsubscribed limits s sound.shape p
