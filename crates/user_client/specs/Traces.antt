-- A client's life as a trace of steps: calls of its keeper, and bytes of its servers (MQTT 4.3,
-- 4.4).
use Rattle.std.specs.Prelude.{◌≡◌, ◌≢◌, ℕ, Bool, false, ◌||◌, List, [], ◌++◌, Result, Ok, Err}
use Rattle.packet_base.specs.declared.qos.QoS.{QoS}
use Rattle.session_base.specs.declared.publication.Publication.{Publication}
use Rattle.client_base.specs.declared.accepted.Accepted.{Accepted}
use Rattle.client_base.specs.declared.error.ClientError.{ClientError}
use Rattle.client_base.specs.declared.error.ClientError.TheVariants as errors
use Rattle.client_base.specs.State.{is_online}
use Rattle.client_base.specs.Steps.{Call, keeper_step}
use Rattle.client.specs.Core.{Core, AnswersCall, OpensConnection, LeavesServer, new_core, publication_with, without_accepted}
use Rattle.client.specs.Input.{OnBytes}
use Rattle.user_client.specs.Answers.{Hears, no_answers}
use Rattle.user_client.specs.declared.answers.Answers.{Answers}

-- a client, whether a server has accepted one of its connections, and what the server has answered
-- on the last one
pub record CallerView : Type 0 where
  pub core : Core
  pub was_accepted : Bool
  pub answers : Answers

-- a new client: it has keep alive 0, and was never connected
abbrev pub new_called : List ℕ → CallerView
new_called id = record {
  core = new_core id 0;
  was_accepted = false;
  answers = no_answers;
}

-- the client with this keeper, and nothing else changed
abbrev pub with_core : Core → CallerView → CallerView
with_core core called = record called { core = core }

-- the client with this keeper on a new connection
abbrev pub opened : Core → CallerView → CallerView
opened core called = record called { core = core; answers = no_answers }

-- the client after bytes of the server, with whether a connection was accepted so far
abbrev pub after_bytes : Core → Answers → CallerView → CallerView
after_bytes core answers called = record {
  core = core;
  was_accepted = called.was_accepted || is_online core.state.stage;
  answers = answers;
}

-- before the first accepted connection the server had no session of the client
abbrev pub IsFirst : CallerView → Core → Type 0
IsFirst called core = called.was_accepted ≡ false → core.state.session_present ≡ false

-- the client took this publication, and nothing else changed but its keeper
abbrev pub IsAsked : Publication → CallerView → CallerView → Type 0
IsAsked publication old new =
    AnswersCall (keeper_step (Call.Publishes publication) old.core.state) old.core (Ok tt) new.core
    × (new.was_accepted ≡ old.was_accepted)

-- One step. None is for bytes of a server that lost the session.
pub data Step (old : CallerView) : CallerView → Type 0 where
  -- it opens a connection and writes CONNECT
  opens : (core : Core) →
      OpensConnection (keeper_step Call.Opens old.core.state) old.core (Ok tt) core
      → Step old (opened core old)
  -- it publishes
  publishes : (retain : Bool) (qos : QoS) (topic payload : List ℕ) (core : Core)
      → AnswersCall
      (keeper_step (Call.Publishes (publication_with retain qos topic payload)) old.core.state)
      old.core (Ok tt) core
      → Step old (with_core core old)
  -- it subscribes
  subscribes : (filter : List ℕ) (qos : QoS) (core : Core)
      → AnswersCall (keeper_step (Call.Subscribes filter qos) old.core.state) old.core (Ok tt) core
      → Step old (with_core core old)
  -- what it wrote is handed over
  writes : Step old (with_core (record old.core { out = [] }) old)
  -- it takes bytes of the server
  hears : (piece : List ℕ) (heard : Result (Unit {0}) ClientError) (core : Core) (answers : Answers)
      → Hears piece old.answers answers → OnBytes piece old.core.state.stage old.core heard core
      → heard ≢ Err errors.SessionLost → IsFirst old core
      → Step old (after_bytes core answers old)
  -- it disconnects
  leaves : (core : Core)
      → LeavesServer (keeper_step Call.Disconnects old.core.state) old.core (Ok tt) core
      → Step old (with_core core old)

-- A sequence of steps, and what was accepted and taken out in them, in order.
pub data Trace (start : CallerView) : List Accepted → CallerView → Type 0 where
  -- no step
  starts : Trace start [] start
  -- one more step
  goes : {taken : List Accepted} {old : CallerView} (new : CallerView)
      → Trace start taken old → Step old new → Trace start taken new
  -- what it accepted is taken out
  takes : {taken : List Accepted} {old : CallerView} → Trace start taken old
      → Trace start (taken ++ old.core.state.accepted) (with_core (without_accepted old.core) old)
