use Rattle.std.proofs.Common.{subst, List, arith}
use Rattle.std.specs.List.{All}
use mathlib.Core.List.{IsPrefix}
use Rattle.std.proofs.lemmas.List.{take_all}
use Rattle.std.proofs.lemmas.List.Elements.{All-more}
use Rattle.run_history.specs.declared.event.RunEvent.{RunEvent}
use Rattle.run_history.proofs.Prefixes.{prefix_trans}
use Rattle.server.specs.Ended.{EndedView}
use Rattle.server.proofs.ending.with_ended.Goals as goal

pub loop-one-preserved : goal.loop-one-preserved
loop-one-preserved g c =
    let new = c.learn.new.self in
    let old = c.loop-one.joined in
    let one = c.one-item.result in
    let that : IsPrefix one.log new = subst (λ (l : List RunEvent). IsPrefix l new) c.seen.ensures c.learn.ensures.that in
    record {
      seen = prefix_trans c.args.seen.now old new c.loop-one.invariant.seen c.learn.ensures.this;
      known =
          All-more (λ (other : EndedView). IsPrefix other.log new) c.args.served.now c.loop-one.one-index one c.loop-one-test.true
          (λ k d less. prefix_trans _ old new (c.loop-one.invariant.known k d less) c.learn.ensures.this)
          (subst (λ (other : EndedView). IsPrefix other.log new) c.one-item.is that);
    }

pub returns-clause-known : goal.returns-clause-known
returns-clause-known g c =
    subst (All (λ (one : EndedView). IsPrefix one.log c.loop-one.joined))
    (take_all c.loop-one.one-index c.args.served.now (omega (arith, c.loop-one-test.false))) c.loop-one.invariant.known
