-- A client with its history: all that it published, and what it wrote on which connection (MQTT
-- 4.3, 4.4). The history is a device of the statements about many clients; the code keeps none.
use Rattle.std.specs.Prelude.{ℕ, ◌+◌, Bool, false, List, [], ◌∷◌, ◌++◌, length, map, Option}
use Rattle.packet.specs.declared.packet.Packet.{Packet}
use Rattle.session_base.specs.declared.publication.Publication.{Publication}
use Rattle.client_base.specs.declared.request.Request.{Request}
use Rattle.client_base.specs.State.{id_of_request}

-- A publication of the client, with the number of its call and its state. One at QoS 0 is done at
-- once.
pub data Own : Type 0 where
  -- its PUBLISH was not written on an accepted connection
  Queued : (number : ℕ) → (publication : Publication) → (id : ℕ) → Own
  -- its PUBLISH was written, and no PUBREC or PUBACK came
  Sent : (number : ℕ) → (publication : Publication) → (id : ℕ) → Own
  -- PUBREC came, and no PUBCOMP
  Released : (number : ℕ) → (publication : Publication) → (id : ℕ) → Own
  -- its handshake has ended
  Done : (number : ℕ) → (publication : Publication) → Own

-- A packet that the client wrote, and its publication. History: the bytes do not have it.
pub record Written : Type 0 where
  pub packet : Packet
  pub number : Option ℕ

-- A connection that it opened: what it wrote on it, how much of that is in the server's list of
-- commands, how many packets it handled there, and what it accepted at QoS 2. History: no field
-- keeps it.
pub record ClientConnection (Name : Type 0) : Type 0 where
  pub name : Name
  pub written : List Written
  pub taken : ℕ
  pub handled : ℕ
  pub confirmed : Bool
  pub accepted : List Publication

-- The client: all its publications, and its state.
pub record Keeper : Type 0 where
  pub client : List ℕ
  -- all that it published in sessions that it lost, in order; history: no field keeps it
  pub earlier : List Own
  -- all that it published in the session that it knows; history: the done ones
  pub own : List Own
  pub releases : List ℕ  -- identifiers of the released ones, in the order of their PUBREC
  pub requests : List Request
  pub received : List ℕ  -- of QoS 2 publications that it accepted and has no PUBREL for
  pub is_open : Bool
  pub is_online : Bool  -- whether a CONNACK 0 came on the open connection
  pub was_served : Bool  -- whether a CONNACK 0 came before

-- a client that has published nothing and was never connected
abbrev pub new_keeper : List ℕ → Keeper
new_keeper client =
    record {
      client = client;
      earlier = [];
      own = [];
      releases = [];
      requests = [];
      received = [];
      is_open = false;
      is_online = false;
      was_served = false;
    }

-- the number of a publication: how many the client published before it
abbrev pub number_in : Own → ℕ
number_in (Own.Queued number publication id) = number
number_in (Own.Sent number publication id) = number
number_in (Own.Released number publication id) = number
number_in (Own.Done number publication) = number

-- the identifiers of a client's publications that are not done
abbrev pub ids_of_own : List Own → List ℕ
ids_of_own (Own.Queued number publication id ∷ own) = id ∷ ids_of_own own
ids_of_own (Own.Sent number publication id ∷ own) = id ∷ ids_of_own own
ids_of_own (Own.Released number publication id ∷ own) = id ∷ ids_of_own own
ids_of_own (Own.Done number publication ∷ own) = ids_of_own own
ids_of_own [] = []

-- all that a client published, in the order of its calls
abbrev pub all_own : Keeper → List Own
all_own keeper = keeper.earlier ++ keeper.own

-- the number of the next publication: how many the client has published
abbrev pub next_own_number : Keeper → ℕ
next_own_number keeper = length keeper.earlier + length keeper.own

-- the identifiers that a client uses
abbrev pub ids_in_use : Keeper → List ℕ
ids_in_use keeper = ids_of_own keeper.own ++ map id_of_request keeper.requests

-- the client's side of one connection
pub record Side (Name : Type 0) : Type 0 where
  pub keeper : Keeper
  pub connection : ClientConnection Name
