use Rattle.std.proofs.Common.{List, refl, ap, sym, subst, ◌∙◌}
use Rattle.std.specs.Prelude.{◌≡◌}
use mathlib.Core.List.{IsPrefix}
use Rattle.run_history.specs.declared.event.RunEvent.{RunEvent}
use Rattle.run_history.proofs.Prefixes.{prefix_trans}
use Rattle.server.specs.Ended.{EndedView}
use Rattle.server.specs.Ends.{IsReportIn}
use Rattle.server.proofs.NodesEnded.{report_in}
use Rattle.server.proofs.ending.settle_one.Goals as goal

pub returns-clause-report : goal.returns-clause-report
returns-clause-report g c =
    let nodes = g.H.RunNaming.nodes in
    let config = g.H.RunNaming.config in
    let one : EndedView = record { report = c.one.inside.report; node = c.one.inside.node; log = c.one.inside.seen } in
    let log : List RunEvent = c.learn-3.new.self in
    let saw : c.seen.result.now ≡ one.log = c.seen.ensures ∙ sym (ap (λ (z : EndedView). z.log) c.one.view_is) in
    let known : IsPrefix one.log log =
    prefix_trans one.log c.learn.new.self log (subst (λ (l : List RunEvent). IsPrefix l c.learn.new.self) saw c.learn.ensures.that) c.learn-3.ensures.this in
    subst (λ (l : List RunEvent). IsReportIn nodes config l one.report) (sym c.into_log.ensures)
    (report_in nodes config log one one.node.index c.one.invariant known (record { place = refl; settled = c.settle.ensures }))
