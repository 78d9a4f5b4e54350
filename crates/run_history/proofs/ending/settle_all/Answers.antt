use Rattle.std.proofs.Common.{subst}
use Rattle.run_history.specs.Ends.{AllEnded}
use Rattle.run_history.proofs.Prefixes.{prefix_trans}
use Rattle.run_history.proofs.Settling.{ended}
use Rattle.run_history.proofs.ending.settle_all.Goals as goal

pub settle-requires : goal.settle-requires
settle-requires g c = prefix_trans _ _ _ c.mark_of-mark.ensures.known c.learn_all.ensures.begins

pub returns-clause-seen : goal.returns-clause-seen
returns-clause-seen g c = prefix_trans _ _ _ c.mark_of-mark.ensures.seen c.learn_all.ensures.begins

pub returns-clause-end : goal.returns-clause-end
returns-clause-end g c =
    let nodes = g.H.RunNaming.nodes in
    let config = g.H.RunNaming.config in
    let mark = c.learn_all.new.mark in
    ended nodes config mark c.args.master.now c.args.nodes.now c.is_history.ensures c.settle.ensures c.requires (subst (λ count. AllEnded nodes config mark c.args.nodes.now count) c.requires c.settle_each.ensures)
