-- The identifiers that a client uses (MQTT 2.3.1).
use Rattle.std.specs.Prelude.{◌≡◌, ℕ, true, false, List}
use Rattle.lists.specs.Lists.{has_id, IsDistinct}
use Rattle.client_base.specs.State.{new_client_state, publication_ids, request_ids, used_ids}
use Rattle.client_base.specs.Steps.{Call, state_after}

-- whatever is called and whatever the server sends, no identifier is in flight twice
abbrev pub UsedIdentifiersAreDistinct : Type 0
UsedIdentifiersAreDistinct =
    (calls : List Call) (client : List ℕ) (keep_alive : ℕ) →
    IsDistinct (used_ids (state_after calls (new_client_state client keep_alive)))

-- no identifier in flight is both a publication's and a request's
abbrev pub RequestsAreApart : Type 0
RequestsAreApart =
    (calls : List Call) (client : List ℕ) (keep_alive id : ℕ) →
    let state = state_after calls (new_client_state client keep_alive) in
    has_id id (publication_ids state) ≡ true → has_id id (request_ids state) ≡ false
