use Rattle.std.proofs.Common.{refl}
use Rattle.broker_spec.specs.Sessions.{current_connection, clean_session_of, session_start}
use Rattle.broker_spec.specs.Owner.{named}
use Rattle.broker_spec.specs.Subscriptions.{subscriptions_of}
use Rattle.broker_spec.specs.Received.{received_of}
use Rattle.broker_spec.specs.Retained.{retained_publications}
use Rattle.broker_spec.specs.Times.{entries_of}
use Rattle.broker_spec.specs.Commands.{past_from}
use Rattle.broker_spec.specs.AnswersInOrder.{answers_from}
use Rattle.broker_spec.proofs.rows.an_expelled_session_is_gone.Goals as goal

pub returns : goal.returns
unfolding past_from answers_from current_connection clean_session_of session_start named subscriptions_of received_of retained_publications entries_of
returns c =
    record {
      once = refl;
      nothing = (refl, refl, refl, refl, refl);
      identifiers = (refl, refl, refl);
      ends = (refl, refl, refl, refl, refl, refl, refl, refl);
    }
