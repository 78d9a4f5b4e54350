use Rattle.std.proofs.Common.{◌≡◌, ℕ, arith, subst}
use Rattle.user_client.specs.Subscriber.{SubscriberView, PrintsAccepted, listening_anew}
use Rattle.user_client.specs.Losses.{AsksForConnections}
use Rattle.user_client.proofs.LossFollows.{asked_all, gives_up_later}
use Rattle.user_client.proofs.PrintsJoin.{made_of, hears_join, hears_none}
use Rattle.user_client.proofs.subscriber.Subscriber.run.Goals as goal

pub loop-opened-init : goal.loop-opened-init
loop-opened-init g c =
    let first = made_of c.self.inside.caller c.self.inside.count c.self.inside.count in
    let out = g.W.Write.contents c.args.output.now in
    record {
      hears = subst (λ (s : SubscriberView). PrintsAccepted (listening_anew s) out first out) c.self.view_is (hears_none first out);
      asks = AsksForConnections.none;
    }

pub returns-then-branch-clause-printed : goal.returns-then-branch-clause-printed
returns-then-branch-clause-printed g c =
    hears_join (g.W.Write.contents c.args.output.now) (g.W.Write.contents c.loop-opened.output)
    (g.W.Write.contents c.print_over.new.output) (listening_anew c.args.self.now) c.loop-opened.self c.print_over.new.self
    c.loop-opened.invariant.hears c.in_ok-print_over.ensures.printed

pub returns-in_err-print_over-clause-ended : goal.returns-in_err-print_over-clause-ended
returns-in_err-print_over-clause-ended g c =
    gives_up_later g.S.Servers.opens g.S.Servers.pauses c.args.tries c.args.servers.now c.next_stream.new.servers
    c.print_over.new.self.caller c.from_residual.result c.in_err-print_over.field-0.0 c.from_residual.ensures.1
    c.loop-opened.invariant.hears.1 c.in_err-print_over.ensures.ended

pub returns-clause-ended : goal.returns-clause-ended
returns-clause-ended g c =
    let all : c.loop-opened.opened ≡ c.args.tries = omega (arith, c.loop-opened.auto.opened-end, c.loop-opened-test.false) in
    asked_all g.S.Servers.opens g.S.Servers.pauses c.args.tries c.args.servers.now c.loop-opened.servers c.args.self.now.caller
    c.loop-opened.self.caller
    (subst (λ (n : ℕ). AsksForConnections g.S.Servers.opens g.S.Servers.pauses c.args.servers.now n c.loop-opened.servers) all
    c.loop-opened.invariant.asks)

pub loop-opened-preserved : goal.loop-opened-preserved
loop-opened-preserved g c = record {
  hears = hears_join (g.W.Write.contents c.args.output.now) (g.W.Write.contents c.loop-opened.output)
      (g.W.Write.contents c.print_over.new.output) (listening_anew c.args.self.now) c.loop-opened.self c.print_over.new.self
      c.loop-opened.invariant.hears c.in_ok-print_over.ensures.printed;
  asks = AsksForConnections.more c.next_stream.new.servers c.loop-opened.invariant.asks c.next_stream.ensures;
}

pub loop-opened-preserved-in_default : goal.loop-opened-preserved-in_default
loop-opened-preserved-in_default g c = record {
  hears = c.loop-opened.invariant.hears;
  asks = AsksForConnections.more c.next_stream.new.servers c.loop-opened.invariant.asks c.next_stream.ensures;
}
