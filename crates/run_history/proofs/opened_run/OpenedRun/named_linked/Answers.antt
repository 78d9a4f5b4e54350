use Rattle.run_history.proofs.Openings.{opening_run}
use Rattle.run_history.proofs.opened_run.OpenedRun.named_linked.Goals as goal

pub new-seen-requires-clause-run : goal.new-seen-requires-clause-run
new-seen-requires-clause-run g c =
    let me = c.self.inside in
    let nodes = rw (← c.self.view_is) at c.requires.nodes in
    let config = rw (← c.self.view_is) at c.requires.config in
    let group = rw (← c.self.view_is) at c.requires.group in
    rw (c.self.invariant.1, ← nodes, ← config, ← group) (opening_run me.group.linked me.group.nodes me.group.config c.self.invariant.0)
