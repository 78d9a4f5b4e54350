-- The outcome of a Connect, and the owner of its connection (MQTT 3.1.2.4).
use Rattle.std.specs.Prelude.{◌≡◌, Bool, not, if◌then◌else◌}
use Rattle.broker_spec.specs.Connection.{ConnectionName}
use Rattle.broker_spec.specs.Place.{Client}
use Rattle.broker_spec.specs.Commands.{usual_limits}
use Rattle.broker_base.specs.StepAnswers.{connection_of}
use Rattle.broker_base.specs.rows.Owners.{with_owner, without_owner}
use Rattle.broker_base.specs.rows.ConnectTheorems.{may_have_session, begins_in}
use Rattle.broker.specs.declared.tables.connect.ConnectOutcome.{ConnectOutcome}
use Rattle.broker.specs.declared.tables.connect.ConnectOutcome.TheVariants as outcomes
use Rattle.broker.specs.declared.tables.tables.Tables.{Tables}
use Rattle.broker.specs.tables.Tables.{owners_at}
use Rattle.broker_base.specs.State.{State, session_in}

-- the outcome of a Connect that is no violation: it resumes the client's session, or begins one if
-- the limit of sessions allows it (MQTT 3.1.2.4, 3.2.2.3)
abbrev pub connect_outcome : State → Client → Bool → ConnectOutcome
connect_outcome state client clean =
    if not (begins_in state client clean) then outcomes.Resumes else
    if may_have_session usual_limits state client then outcomes.Begins else outcomes.Full

-- the connection becomes the client's, and the client's old one has no client any more
abbrev pub TakesOver : Tables → ConnectionName → Client → Tables → Type 0
TakesOver tables connection client after =
    (other : ConnectionName) →
    owners_at after.owners.entries other
    ≡ with_owner connection client
    (without_owner (connection_of (session_in client tables.sessions.entries))
    (owners_at tables.owners.entries)) other
