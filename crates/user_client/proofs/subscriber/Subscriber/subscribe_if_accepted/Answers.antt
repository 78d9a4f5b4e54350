use Rattle.std.proofs.Common.{refl}
use Rattle.user_client.specs.Traces.{Trace}
use Rattle.user_client.proofs.subscriber.Subscriber.subscribe_if_accepted.Goals as goal

pub returns-then-not-is_to_subscribe-clause-asked : goal.returns-then-not-is_to_subscribe-clause-asked
returns-then-not-is_to_subscribe-clause-asked c = (Trace.starts, refl, refl)
