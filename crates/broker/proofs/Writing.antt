-- Writing.antt: what is in the state of a broker can be written.
use Rattle.std.proofs.Common.{◌∷◌, []}
use Rattle.std.specs.List.{AllByRecursion}
use Rattle.retained.specs.Retained.{RetainedTopics}
use Rattle.session_base.proofs.Writable.{has_length}
use Rattle.broker_spec.specs.Commands.{usual_limits}
use Rattle.broker_base.specs.State.{Sessions, State}
use Rattle.broker_base.specs.StateTheorems.{AllSound}
use Rattle.broker_base.specs.form.InRange.{IsBrokerState, IsRetained, IsSession, as_publication}
use Rattle.broker_base.proofs.of_form.RowsAgain.{has_form}
use Rattle.broker.specs.Inside.{AreRows, ArePayloads}

rows_have_forms : (rows : Sessions) → AllSound rows → AllByRecursion (λ row. IsSession usual_limits row.0 row.1) rows → AreRows rows
rows_have_forms [] sound ranges = tt
rows_have_forms (row ∷ rows) sound ranges = (has_form row.0 row.1 sound.0 ranges.0, rows_have_forms rows sound.1 ranges.1)

payloads_fit : (content : RetainedTopics) → AllByRecursion IsRetained content → ArePayloads content
payloads_fit [] h = tt
payloads_fit (row ∷ content) h = (has_length (as_publication row) h.0.1, payloads_fit content h.1)

pub sessions_can_be_written : (state : State) → IsBrokerState usual_limits state → AreRows state.sessions
sessions_can_be_written state h = rows_have_forms state.sessions h.sound.sessions h.sessions

pub retained_can_be_written : (state : State) → IsBrokerState usual_limits state → ArePayloads state.retained
retained_can_be_written state h = payloads_fit state.retained h.retained
