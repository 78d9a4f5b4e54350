use Rattle.user_client.proofs.LossFollows.{passed_later}
use Rattle.user_client.proofs.PrintsJoin.{made_of, asks_made, asks_hears, hears_asks, hears_join, hears_none}
use Rattle.user_client.proofs.subscriber.Subscriber.print_over.Goals as goal

pub loop-init : goal.loop-init
loop-init g c =
    let begun = made_of c.open.new.self c.self.inside.count c.self.inside.left in
    let out = g.W.Write.contents c.args.output.now in
    asks_hears out out c.args.self.now begun begun
    (asks_made c.self.inside.caller c.open.new.self c.self.inside.count c.self.inside.left c.self.view_is
    c.in_ok-open.ensures.trace) (hears_none begun out)

pub returns-then-self-eq0-clause-printed : goal.returns-then-self-eq0-clause-printed
returns-then-self-eq0-clause-printed g c =
    let old = g.W.Write.contents c.args.output.now in
    let new = g.W.Write.contents c.continue_once.new.output in
    hears_asks old new c.args.self.now c.continue_once.new.self
    (made_of c.disconnect.new.caller c.self-in-loop.inside.count c.self-in-loop.inside.left)
    (hears_join old (g.W.Write.contents c.loop.output) new c.args.self.now c.loop.self c.continue_once.new.self c.loop.invariant
    c.in_ok-is_lost.ensures.printed)
    (asks_made c.self-in-loop.inside.caller c.disconnect.new.caller c.self-in-loop.inside.count c.self-in-loop.inside.left
    c.self-in-loop.view_is c.disconnect.ensures.trace)

pub returns-then-is_lost-clause-printed : goal.returns-then-is_lost-clause-printed
returns-then-is_lost-clause-printed g c =
    hears_join (g.W.Write.contents c.args.output.now) (g.W.Write.contents c.loop.output)
    (g.W.Write.contents c.continue_once.new.output) c.args.self.now c.loop.self c.continue_once.new.self c.loop.invariant
    c.in_ok-is_lost.ensures.printed

pub loop-preserved : goal.loop-preserved
loop-preserved g c =
    hears_join (g.W.Write.contents c.args.output.now) (g.W.Write.contents c.loop.output)
    (g.W.Write.contents c.continue_once.new.output) c.args.self.now c.loop.self c.continue_once.new.self c.loop.invariant
    c.in_ok-is_lost.ensures.printed

pub returns-in_err-is_lost-clause-ended : goal.returns-in_err-is_lost-clause-ended
returns-in_err-is_lost-clause-ended g c =
    passed_later c.continue_once.new.self.caller c.from_residual-in_err-is_lost.result c.in_err-is_lost.field-0.0
    c.from_residual-in_err-is_lost.ensures.1 c.loop.invariant.1 c.in_err-is_lost.ensures.ended
