use Rattle.std.proofs.Common.{ℕ, List, subst, sym, arith}
use Rattle.std.specs.List.{All}
use mathlib.Core.List.{IsPrefix}
use Rattle.std.specs.List.Sorted.{IsPermutation}
use Rattle.run_history.specs.Ends.{IsEnd}
use Rattle.run_history.specs.Parties.{NodeView}
use Rattle.run_history.specs.declared.event.RunEvent.{RunEvent}
use Rattle.run_history.proofs.Prefixes.{prefix_trans}
use Rattle.server.specs.Ended.{EndedView}
use Rattle.server.proofs.NodesEnded.{known_later, served_run}
use Rattle.server.proofs.ending.settle.Goals as goal

pub returns-clause-seen : goal.returns-clause-seen
returns-clause-seen g c =
    subst (λ (log : List RunEvent). IsPrefix c.args.seen.now log) (sym c.into_log.ensures)
    (prefix_trans c.args.seen.now c.with_ended-seen.result c.settle_all-log.result c.with_ended-seen.ensures.seen c.settle_all-log.ensures.seen)

pub returns-clause-run : goal.returns-clause-run
returns-clause-run g c =
    let config = g.H.RunNaming.config in
    let log = c.settle_all-log.result in
    let master = c.args.master.now in
    let nodes = c.by_index-nodes.result.items in
    served_run config log master nodes c.args.ended.others.items c.args.ended.served.items _
    (subst (λ (count : ℕ). IsEnd count config log master nodes) c.requires.nodes
    (subst (λ (l : List NodeView). IsEnd g.H.RunNaming.nodes config log master l) c.as_slice-2.ensures.value c.settle_all-log.ensures.end))
    (omega (arith, c.if-len-from.false, c.len.ensures, c.from.ensures))
    (subst (λ (l : List NodeView). IsPermutation l nodes) c.in_ok-nodes.ensures.nodes c.by_index-nodes.ensures)
    c.in_ok-nodes.ensures.told (known_later _ _ c.args.ended.served.items c.settle_all-log.ensures.seen
    (subst (All (λ (one : EndedView). IsPrefix one.log c.with_ended-seen.result)) c.as_slice.ensures.value c.with_ended-seen.ensures.known)) c.requires.idle c.requires.rising c.into_log.ensures c.in_ok-nodes.ensures.reports
