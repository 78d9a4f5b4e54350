-- The JSON of each page (RFC 8259), as the tokens that the kit's json prints.
use Rattle.std.specs.Prelude.{◌≡◌, ℕ, ◌-◌, List, [], ◌∷◌, ◌++◌, Bool, Option, Some, None, Result, OnOk, codes, decimal, string_bytes, String}
use Rattle.std.specs.Global.{Global}
use Rattle.std.specs.List.{flat_map}
use Rattle.json.specs.Token.{Token, begin_object, end_object, begin_array, end_array, key, string, number, boolean, null}
use Rattle.json.specs.Written.{Written}
use Rattle.admin.specs.Sessions.{listed_sessions}
use Rattle.admin.specs.View.{primary_held, role_text}
use Rattle.admin.specs.declared.view.ActiveBallot.{ActiveBallot}
use Rattle.admin.specs.declared.view.AdminView.{AdminView}
use Rattle.admin.specs.declared.view.ConnectionLine.{ConnectionLine}
use Rattle.admin.specs.declared.view.Details.{Details}
use Rattle.admin.specs.declared.view.NodeLine.{NodeLine}
use Rattle.admin.specs.declared.view.SessionLine.{SessionLine}

-- these tokens were written, if memory did not run out
pub record Adds {E : Type 0} (r : Result (Unit {0}) E) (old new : Written) (tokens : List Token) :
    Type 0 where
  pub before : new.before ≡ old.before
  pub added : OnOk r (new.tokens ≡ old.tokens ++ tokens)

-- a member with a number
abbrev pub number_member : List ℕ → ℕ → List Token
number_member name value = key name ∷ number (decimal value) ∷ []

-- a number or `null`
abbrev pub option_token : Option ℕ → Token
option_token (Some value) = number (decimal value)
option_token None = null

-- a member with a number, or with `null`
abbrev pub option_member : List ℕ → Option ℕ → List Token
option_member name value = key name ∷ option_token value ∷ []

-- a member with a text
abbrev pub text_member : List ℕ → List ℕ → List Token
text_member name text = key name ∷ string text ∷ []

-- a member that is true or false
abbrev pub flag_member : List ℕ → Bool → List Token
flag_member name is_so = key name ∷ boolean is_so ∷ []

-- a member with a list of numbers
abbrev pub numbers_member : List ℕ → List ℕ → List Token
numbers_member name numbers =
    key name ∷ begin_array ∷ (flat_map (λ n. number (decimal n) ∷ []) numbers ++ end_array ∷ [])

-- the active ballot, or `null`
abbrev pub ballot_tokens : Option ActiveBallot → List Token
ballot_tokens None = null ∷ []
ballot_tokens (Some ballot) = begin_object ∷ (number_member (codes "ballot") ballot.number
    ++ numbers_member (codes "members") ballot.members.items
    ++ number_member (codes "primary") ballot.primary
    ++ end_object ∷ [])

-- by how many commands a node is behind the active primary, if there is one
abbrev pub lag_of : Option ℕ → ℕ → Option ℕ
lag_of None held = None
lag_of (Some primary) held = Some (primary - held)

-- a node
abbrev pub node_tokens : Option ℕ → NodeLine → List Token
node_tokens primary node = begin_object ∷ (number_member (codes "node") node.number
    ++ number_member (codes "ballot") node.ballot
    ++ text_member (codes "role") (role_text node.role)
    ++ flag_member (codes "member") node.is_member
    ++ number_member (codes "held") node.held
    ++ number_member (codes "committed") node.committed
    ++ option_member (codes "lag") (lag_of primary node.held)
    ++ end_object ∷ [])

-- the member with the active ballot
abbrev pub active_member : Option ActiveBallot → List Token
active_member active = key (codes "active") ∷ ballot_tokens active

-- the member with all nodes
abbrev pub nodes_member : Option ℕ → List NodeLine → List Token
nodes_member primary nodes =
    key (codes "nodes") ∷ begin_array ∷ (flat_map (node_tokens primary) nodes ++ end_array ∷ [])

-- the page `/status`
abbrev pub status_tokens : AdminView → List Token
status_tokens view = begin_object ∷ (active_member view.active
    ++ nodes_member (primary_held view) view.nodes.items
    ++ end_object ∷ [])

-- a session
abbrev pub session_tokens : SessionLine → List Token
session_tokens session = begin_object ∷ (text_member (codes "client") (string_bytes session.client)
    ++ option_member (codes "connected_seconds") session.connected_seconds
    ++ number_member (codes "queued") session.queued
    ++ number_member (codes "in_flight") session.in_flight
    ++ number_member (codes "subscriptions") session.subscriptions
    ++ end_object ∷ [])

-- the page `/sessions`
abbrev pub sessions_tokens : Details → Option (List ℕ) → List Token
sessions_tokens details after = begin_array
    ∷ (flat_map session_tokens (listed_sessions after details.sessions.items) ++ end_array ∷ [])

-- the client of a connection, or `null` before its CONNECT
abbrev pub client_member : Option (String Global) → List Token
client_member (Some client) = text_member (codes "client") (string_bytes client)
client_member None = key (codes "client") ∷ null ∷ []

-- a connection
abbrev pub connection_tokens : ConnectionLine → List Token
connection_tokens connection = begin_object ∷ (client_member connection.client
    ++ number_member (codes "node") connection.node
    ++ number_member (codes "connected_seconds") connection.connected_seconds
    ++ number_member (codes "unread_bytes") connection.unread_bytes
    ++ end_object ∷ [])

-- the page `/connections`
abbrev pub connections_tokens : Details → List Token
connections_tokens details =
    begin_array ∷ (flat_map connection_tokens details.connections.items ++ end_array ∷ [])
