use Rattle.std.proofs.Common.{◌∙◌}
use Rattle.run_history.proofs.Adding.{run_of}
use Rattle.run_history.proofs.seen_run.SeenRun.learn.Goals as goal

pub invariant_of-self : goal.invariant_of-self
invariant_of-self g c =
    let learned = c.learn.ensures in
    (learned.0 ∙ c.self.invariant.0, run_of g.H.RunNaming.linked g.H.RunNaming.nodes g.H.RunNaming.config c.self.inside.seen.log c.learn.new.self.log learned.4.0 c.self.invariant.1 learned.2 learned.4.1)
