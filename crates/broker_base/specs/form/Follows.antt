-- Which row may follow the rows that were read: clients ascend, topics ascend, and no connection
-- occurs twice.
use Rattle.std.specs.Prelude.{ℕ, true, false, not, ◌&&◌, Bool, List, Option, Some, None, is_some}
use Rattle.std.specs.Ordering.{is_lt}
use Rattle.retained.specs.declared.retained_publication.RetainedPublication.{RetainedPublication}
use Rattle.session_base.specs.Counted.{last_of}
use Rattle.broker_spec.specs.Connection.{ConnectionName}
use Rattle.broker_spec.specs.Place.{Client, by_bytes}
use Rattle.broker_base.specs.ClientSession.{ClientSession}
use Rattle.broker_base.specs.State.{Sessions, owner_in}

-- the key is above that of the last row, if there is one
abbrev pub is_after : {X : Type 0} → Option (List ℕ × X) → List ℕ → Bool
is_after (Some last) key = is_lt (by_bytes last.0 key)
is_after None key = true

-- the connection, if there is one, is that of one of these sessions
abbrev pub is_owned : Sessions → Option ConnectionName → Bool
is_owned rows (Some connection) = is_some (owner_in connection rows)
is_owned rows None = false

-- whether a row may follow the others: its client is above theirs, and its connection is new
abbrev pub row_follows : Sessions → Client × ClientSession → Bool
row_follows front row = is_after (last_of front) row.0 && not (is_owned front row.1.connection)

-- whether a topic may follow the others: it is above them
abbrev pub topic_follows : List (List ℕ × RetainedPublication) → List ℕ × RetainedPublication → Bool
topic_follows front row = is_after (last_of front) row.0
