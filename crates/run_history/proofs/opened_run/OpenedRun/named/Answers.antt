use Rattle.std.proofs.Common.{◌≡◌, ◌∙◌}
use Rattle.run_history.specs.Log.{opening_log}
use Rattle.run_history.proofs.MasterEvents.{opening_known}
use Rattle.run_history.proofs.Openings.{opening_run}
use Rattle.run_history.proofs.opened_run.OpenedRun.named.Goals as goal

pub new-seen-requires-clause-run : goal.new-seen-requires-clause-run
new-seen-requires-clause-run g c =
    let me = c.self.inside in
    let nodes = rw (← c.self.view_is) at c.requires.nodes in
    let config = rw (← c.self.view_is) at c.requires.config in
    let group = rw (← c.self.view_is) at c.requires.group in
    rw (c.self.invariant.1, ← nodes, ← config, ← group) (opening_run me.group.linked me.group.nodes me.group.config c.self.invariant.0)

pub new-requires-clause-master : goal.new-requires-clause-master
new-requires-clause-master g c =
    let nodes = rw (← c.self.view_is) at c.requires.nodes in
    let config = rw (← c.self.view_is) at c.requires.config in
    let group = rw (← c.self.view_is) at c.requires.group in
    let log : c.new-seen.result ≡ opening_log g.H.RunNaming.nodes g.H.RunNaming.config g.H.RunNaming.linked = c.new-seen.ensures ∙ (c.self.invariant.1 ∙ (λ i. opening_log (nodes i) (config i) (group i))) in
    rw (c.again.ensures, c.requires.master, log) (opening_known g.H.RunNaming.nodes g.H.RunNaming.config g.H.RunNaming.linked)
