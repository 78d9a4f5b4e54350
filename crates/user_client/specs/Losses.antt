-- When a client ends: it has used all its connections, the server lost its session, or a server
-- denied it what it asked for.
use Rattle.std.specs.Prelude.{◌≡◌, ◌≢◌, ℕ, ◌+◌, Bool, true, false, List, Some, Err, suc, zero}
use Rattle.client_base.specs.declared.accepted.Accepted.{Accepted}
use Rattle.client_base.specs.declared.error.ClientError.TheVariants as errors
use Rattle.client.specs.Input.{OnBytes}
use Rattle.user_client.specs.Answers.{is_final}
use Rattle.user_client.specs.declared.denial.Denial.{Denial}
use Rattle.user_client.specs.declared.user_client_error.UserClientError.{UserClientError}
use Rattle.user_client.specs.declared.user_client_error.UserClientError.TheVariants as clients
use Rattle.user_client.specs.Traces.{CallerView, Trace}

-- one more connection is requested, after a pause unless it is the first
abbrev pub AsksNext : {S : Type 0} → (S → S → Type 0) → (S → S → Type 0) → ℕ → S → S → Type 0
AsksNext opens pauses zero old new = opens old new
AsksNext {S} opens pauses (suc asked) old new = (paused : S) × pauses old paused × opens paused new

-- this many connections were requested, one after another
pub data AsksForConnections {S : Type 0} (opens pauses : S → S → Type 0) (start : S) : ℕ → S →
    Type 0 where
  none : AsksForConnections opens pauses start 0 start
  more : {asked : ℕ} {old : S} (new : S) → AsksForConnections opens pauses start asked old
      → AsksNext opens pauses asked old new → AsksForConnections opens pauses start (asked + 1) new

-- after some steps the server answered a CONNECT with a CONNACK that shows that it lost the session
pub record LosesSession (start end : CallerView) : Type 0 where
  pub taken : List Accepted
  pub before : CallerView
  pub trace : Trace start taken before
  pub piece : List ℕ
  pub lost : OnBytes piece before.core.state.stage before.core (Err errors.SessionLost) end.core

-- after some steps a server denied the client what it asked for, and would on another connection
pub record Denies (start end : CallerView) (denial : Denial) : Type 0 where
  pub taken : List Accepted
  pub trace : Trace start taken end
  pub denied : end.answers.denial ≡ Some denial
  pub final : is_final denial ≡ true

-- whether a client ends by this error because of its servers
abbrev pub ends_client : UserClientError → Bool
ends_client clients.Lost = true
ends_client clients.SessionLost = true
ends_client (clients.Denied denial) = true
ends_client error = false

-- on one connection, a client ends only if the server lost the session or denied it something
pub record IsEndedBy (start end : CallerView) (error : UserClientError) : Type 0 where
  pub tries : error ≢ clients.Lost
  pub lost : error ≡ clients.SessionLost → LosesSession start end
  pub denied : (denial : Denial) → error ≡ clients.Denied denial → Denies start end denial

-- over all connections, a client also ends as lost, once it has requested each of them
pub record IsGivenUp {S : Type 0} (opens pauses : S → S → Type 0) (tries : ℕ) (first last : S)
    (start end : CallerView) (error : UserClientError) : Type 0 where
  pub all : error ≡ clients.Lost → AsksForConnections opens pauses first tries last
  pub lost : error ≡ clients.SessionLost → LosesSession start end
  pub denied : (denial : Denial) → error ≡ clients.Denied denial → Denies start end denial
