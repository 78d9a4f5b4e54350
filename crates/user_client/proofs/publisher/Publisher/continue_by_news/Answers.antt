use Rattle.user_client.specs.Traces.{Trace}
use Rattle.user_client.proofs.publisher.Publisher.continue_by_news.Goals as goal

pub returns-in-None-clause-trace : goal.returns-in-None-clause-trace
returns-in-None-clause-trace g c = Trace.starts

pub returns-in-Some-2-clause-trace : goal.returns-in-Some-2-clause-trace
returns-in-Some-2-clause-trace g c = Trace.starts
