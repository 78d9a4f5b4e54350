use Rattle.std.proofs.Common.{refl}
use Rattle.broker_spec.specs.Sessions.{current_connection, clean_session_of}
use Rattle.broker_spec.specs.Owner.{named}
use Rattle.broker_spec.specs.Subscriptions.{subscriptions_of}
use Rattle.broker_spec.specs.Received.{received_of}
use Rattle.broker_spec.specs.Retained.{retained_publications}
use Rattle.broker_spec.specs.Times.{entries_of}
use Rattle.broker_spec.specs.Commands.{past_from}
use Rattle.broker_spec.specs.AnswersInOrder.{answers_from}
use Rattle.core_tests.proofs.orders.full_sessions_take_qos_0.Goals as goal

pub returns : goal.returns
unfolding answers_from past_from current_connection clean_session_of named subscriptions_of received_of retained_publications entries_of
returns c = refl
