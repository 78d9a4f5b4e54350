use Rattle.user_client.proofs.PrintsJoin.{asks_hears_ok}
use Rattle.user_client.proofs.subscriber.Subscriber.subscribe_and_print.Goals as goal

pub returns-clause-printed : goal.returns-clause-printed
returns-clause-printed g c =
    asks_hears_ok (g.W.Write.contents c.args.output.now) (g.W.Write.contents c.print_accepted.new.output)
    c.args.self.now c.subscribe_if_accepted.new.self c.print_accepted.new.self c.print_accepted.result c.in_ok-subscribe_if_accepted.ensures.asked
    c.print_accepted.ensures.printed
