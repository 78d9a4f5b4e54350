use Rattle.std.proofs.Common.{◌≡◌, ℕ, arith, refl, subst, ◌∙◌}
use Rattle.user_client.specs.Losses.{AsksForConnections}
use Rattle.user_client.specs.Traces.{Trace}
use Rattle.user_client.proofs.LossFollows.{asked_all, gives_up_later}
use Rattle.user_client.proofs.TracesJoin.{traces_follow}
use Rattle.user_client.proofs.publisher.Publisher.run.Goals as goal

pub loop-opened-init : goal.loop-opened-init
loop-opened-init g c = (Trace.starts, refl, AsksForConnections.none)

pub returns-then-branch-clause-trace : goal.returns-then-branch-clause-trace
returns-then-branch-clause-trace g c = traces_follow c.loop-opened.invariant.0 c.in_ok-publish_over.ensures.trace

pub returns-in_err-publish_over-clause-ended : goal.returns-in_err-publish_over-clause-ended
returns-in_err-publish_over-clause-ended g c =
    gives_up_later g.S.Servers.opens g.S.Servers.pauses c.args.tries c.args.servers.now c.next_stream.new.servers
    c.publish_over.new.self.caller c.from_residual.result c.in_err-publish_over.field-0.0 c.from_residual.ensures.1
    c.loop-opened.invariant.0 c.in_err-publish_over.ensures.ended

pub returns-clause-ended : goal.returns-clause-ended
returns-clause-ended g c =
    let all : c.loop-opened.opened ≡ c.args.tries = omega (arith, c.loop-opened.auto.opened-end, c.loop-opened-test.false) in
    asked_all g.S.Servers.opens g.S.Servers.pauses c.args.tries c.args.servers.now c.loop-opened.servers c.args.self.now.caller
    c.loop-opened.self.caller
    (subst (λ (n : ℕ). AsksForConnections g.S.Servers.opens g.S.Servers.pauses c.args.servers.now n c.loop-opened.servers) all
    c.loop-opened.invariant.2)

pub loop-opened-preserved : goal.loop-opened-preserved
loop-opened-preserved g c = (
  traces_follow c.loop-opened.invariant.0 c.in_ok-publish_over.ensures.trace,
  c.in_ok-publish_over.ensures.same ∙ c.loop-opened.invariant.1,
  AsksForConnections.more c.next_stream.new.servers c.loop-opened.invariant.2 c.next_stream.ensures,
)

pub loop-opened-preserved-in_default : goal.loop-opened-preserved-in_default
loop-opened-preserved-in_default g c = (
  c.loop-opened.invariant.0,
  c.loop-opened.invariant.1,
  AsksForConnections.more c.next_stream.new.servers c.loop-opened.invariant.2 c.next_stream.ensures,
)
