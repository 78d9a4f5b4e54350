-- Definitions for private functions.
use Rattle.std.specs.Prelude.{◌≡◌, ℕ, ◌^◌, ◌<◌, length, List, [], ◌∷◌}
use Rattle.std.specs.List.{AllByRecursion}
use Rattle.retained.specs.Retained.{RetainedTopics}
use Rattle.subs_base.specs.Content.{Content, last_qos_in, with_client_filters}
use Rattle.session_base.specs.FormTheorems.{HasForm}
use Rattle.broker_spec.specs.Connection.{ConnectionName}
use Rattle.broker_base.specs.State.{Sessions, State}
use Rattle.broker_base.specs.rows.Owners.{owners_in}
use Rattle.broker.specs.tables.Tables.{owners_at}
use Rattle.broker.specs.declared.rows.Rows.{Rows}

-- each of these sessions has a form
abbrev pub AreRows : Sessions → Type 0
AreRows rows = AllByRecursion (λ row. HasForm row.1.state) rows

-- the length of each payload fits four bytes
abbrev pub ArePayloads : RetainedTopics → Type 0
ArePayloads content = AllByRecursion (λ row. length row.1.payload < 2 ^ 32) content

-- the map of connections has exactly those of the sessions
abbrev pub AreOwned : Rows → Type 0
AreOwned rows =
    (connection : ConnectionName) →
    owners_at rows.owners.entries connection ≡ owners_in rows.sessions.entries connection

-- the broker with this window, these sessions and retained publications
abbrev pub state_read : ℕ × Rows × RetainedTopics → State
state_read (window, rows, retained) =
    record { window = window; sessions = rows.sessions.entries; retained = retained }

-- the filters of all these sessions are set, client by client
abbrev pub all_put : Sessions → Content → Content
all_put [] content = content
all_put (row ∷ rows) content =
    all_put rows (with_client_filters content row.0 (last_qos_in row.1.state.subscriptions))
