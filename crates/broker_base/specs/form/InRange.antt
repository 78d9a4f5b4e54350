-- The range of every state of a broker, whatever its commands were: within the limits, and each
-- number, text and publication as the standard requires (MQTT 1.5.3, 2.3.1, 3.3, 4.7).
use Rattle.std.specs.Prelude.{ℕ, ◌≤◌, IsTrue, true, List, length, Option, Some, None}
use Rattle.std.specs.List.{AllByRecursion}
use Rattle.packet_base.specs.Spelling.{IsId}
use Rattle.packet_base.specs.ClientId.{is_client}
use Rattle.retained.specs.declared.retained_publication.RetainedPublication.{RetainedPublication}
use Rattle.retained.specs.Retained.{IsRising}
use Rattle.session_base.specs.InRange.{CanBeSent, IsGrantedSubscription, IsQueue}
use Rattle.session_base.specs.declared.publication.Publication.{Publication}
use Rattle.broker_spec.specs.Connection.{ConnectionName, IsConnectionName}
use Rattle.broker_spec.specs.Place.{Client, Limits}
use Rattle.broker_base.specs.ClientSession.{ClientSession}
use Rattle.broker_base.specs.State.{State}
use Rattle.broker_base.specs.StateTheorems.{IsSound}

-- ---- retained publications

-- a retained publication with its topic (MQTT 3.3.1.3)
abbrev pub as_publication : List ℕ × RetainedPublication → Publication
as_publication row =
    record { retain = true; qos = row.1.qos; topic = row.0; payload = row.1.payload }

-- it has a payload, and its PUBLISH can be encoded
abbrev pub IsRetained : List ℕ × RetainedPublication → Type 0
IsRetained row = (1 ≤ length row.1.payload) × CanBeSent (as_publication row)

-- ---- one session

-- the connection, if there is one, has a name in its range
abbrev pub IsNamed : Option ConnectionName → Type 0
IsNamed (Some connection) = IsConnectionName connection
IsNamed None = Unit {0}

-- a client's session, with no more filters and entries than the limits, and each in its range
pub record IsSession (limits : Limits) (owner : Client) (kept : ClientSession) : Type 0 where
  pub client : IsTrue (is_client owner)
  pub connection : IsNamed kept.connection
  pub filters : AllByRecursion IsGrantedSubscription kept.state.subscriptions
  pub few_filters : length kept.state.subscriptions ≤ limits.subscriptions
  pub received : AllByRecursion IsId kept.state.received
  pub queue : IsQueue limits.entries kept.state.queue

-- ---- the whole state

-- a state that is sound, within the limits, and in its ranges
pub record IsBrokerState (limits : Limits) (state : State) : Type 0 where
  pub sound : IsSound state
  pub few_sessions : length state.sessions ≤ limits.sessions
  pub sessions : AllByRecursion (λ row. IsSession limits row.0 row.1) state.sessions
  pub rising : IsRising state.retained
  pub few_topics : length state.retained ≤ limits.retained
  pub retained : AllByRecursion IsRetained state.retained
