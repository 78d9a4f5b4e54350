use Rattle.std.proofs.Common.{[], OnOk, subst}
use Rattle.user_client.specs.Traces.{Trace}
use Rattle.user_client.specs.Publisher.{PublisherView}
use Rattle.user_client.proofs.TracesJoin.{traces_follow_ok}
use Rattle.user_client.proofs.publisher.Publisher.continue_once.Goals as goal

pub returns-clause-trace : goal.returns-clause-trace
returns-clause-trace g c =
    subst (λ (s : PublisherView). OnOk c.continue_by_news.result (Trace s.caller [] c.continue_by_news.new.self.caller)) c.self.view_is
    (traces_follow_ok c.continue_by_news.new.self.caller [] c.continue_by_news.result c.in_ok-news.ensures.trace c.continue_by_news.ensures.trace)
