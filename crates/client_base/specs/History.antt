-- When a client without history stands for the one with it.
use Rattle.std.specs.Prelude.{◌≡◌, ℕ, true, nat_lt, List, [], ◌∷◌, ◌++◌, map}
use Rattle.packet.specs.declared.packet.Packet.{Packet}
use Rattle.lists.specs.Lists.{has_id}
use Rattle.client_base.specs.declared.unacknowledged_publication.UnacknowledgedPublication.{UnacknowledgedPublication}
use Rattle.client_base.specs.State.{ClientState, is_open, is_online}
use Rattle.client_base.specs.Keeper.{Own, Written, ClientConnection, Keeper}

-- ---- what is kept of all publications

-- the sent publications, which are not acknowledged yet
abbrev pub sent_of : List Own → List UnacknowledgedPublication
sent_of (Own.Sent number publication id ∷ own) =
    record { id = id; publication = publication } ∷ sent_of own
sent_of (_ ∷ own) = sent_of own
sent_of [] = []

-- the queued publications
abbrev pub queued_of : List Own → List UnacknowledgedPublication
queued_of (Own.Queued number publication id ∷ own) =
    record { id = id; publication = publication } ∷ queued_of own
queued_of (_ ∷ own) = queued_of own
queued_of [] = []

-- the identifiers of the publications that are released
abbrev pub released_of : List Own → List ℕ
released_of (Own.Released number publication id ∷ own) = id ∷ released_of own
released_of (_ ∷ own) = released_of own
released_of [] = []

-- after a queued publication all are queued
abbrev pub IsSentFirst : List Own → Type 0
IsSentFirst (Own.Queued number publication id ∷ own) = (sent_of own ≡ []) × IsSentFirst own
IsSentFirst (_ ∷ own) = IsSentFirst own
IsSentFirst [] = Unit {0}

-- ---- which state stands for which history

-- the client without history keeps what the history says is kept
pub record KeeperStandsFor (keeper : Keeper) (state : ClientState) : Type 0 where
  pub client : state.client ≡ keeper.client
  pub released : state.released ≡ keeper.releases
  pub sent : state.sent ≡ sent_of keeper.own
  pub queued : state.queued ≡ queued_of keeper.own
  pub received : (id : ℕ) → has_id id state.received ≡ has_id id keeper.received
  pub requests : state.requests ≡ keeper.requests
  pub is_open : is_open state.stage ≡ keeper.is_open
  pub is_online : is_online state.stage ≡ keeper.is_online
  pub was_served : nat_lt 0 state.session ≡ keeper.was_served
  -- of the history alone
  pub releases_are : (id : ℕ) → has_id id keeper.releases ≡ has_id id (released_of keeper.own)
  pub sent_first : IsSentFirst keeper.own
  pub online_sent : keeper.is_online ≡ true → queued_of keeper.own ≡ []

-- the packets that were appended to a connection's are those that the step writes
abbrev pub WritesMore : {Name : Type 0} → ClientConnection Name → ClientConnection Name →
    List Packet → Type 0
WritesMore before after packets =
    (more : List Written) × (after.written ≡ before.written ++ more)
    × (map (λ written. written.packet) more ≡ packets)
