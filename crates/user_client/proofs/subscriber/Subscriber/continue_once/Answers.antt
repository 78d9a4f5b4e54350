use Rattle.user_client.proofs.PrintsJoin.{made_of, asks_made, asks_hears}
use Rattle.user_client.proofs.subscriber.Subscriber.continue_once.Goals as goal

pub returns-clause-printed : goal.returns-clause-printed
returns-clause-printed g c =
    asks_hears (g.W.Write.contents c.args.output.now) (g.W.Write.contents c.subscribe_and_print.new.output) c.args.self.now
    (made_of c.exchange.new.caller c.self.inside.count c.self.inside.left) c.subscribe_and_print.new.self
    (asks_made c.self.inside.caller c.exchange.new.caller c.self.inside.count c.self.inside.left c.self.view_is
    c.in_ok-news.ensures.trace) c.in_ok-subscribe_and_print.ensures.printed
