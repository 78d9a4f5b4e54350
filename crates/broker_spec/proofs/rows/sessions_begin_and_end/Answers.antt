use Rattle.std.proofs.Common.{refl}
use Rattle.broker_spec.specs.Sessions.{current_connection, clean_session_of, session_start}
use Rattle.broker_spec.specs.Owner.{named}
use Rattle.broker_spec.specs.Subscriptions.{subscriptions_of}
use Rattle.broker_spec.specs.Received.{received_of}
use Rattle.broker_spec.specs.Retained.{retained_publications}
use Rattle.broker_spec.specs.Times.{entries_of}
use Rattle.broker_spec.specs.Commands.{past_from}
use Rattle.broker_spec.proofs.rows.sessions_begin_and_end.Goals as goal

pub returns : goal.returns
unfolding past_from current_connection clean_session_of session_start named subscriptions_of received_of retained_publications entries_of
returns c =
    record { begin = (refl, refl, refl, refl, refl, refl, refl, refl, refl, refl, refl, refl); end = (refl, refl, refl, refl, refl, refl, refl, refl); places = (refl, refl, refl) }
