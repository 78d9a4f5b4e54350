use Rattle.std.proofs.Common.{refl, sym, ap, ◌∙◌}
use Rattle.world_base.specs.node_core.Inside.{RunningStep}
use Rattle.world_base.specs.node_core.LossyStep.LogCutOrLost.{nothing_to_cut}
use Rattle.world_base.proofs.of_node_core.CutsRun.{ReplicaCut, cut_does, cut_none, cut_runs}
use Rattle.world_base.proofs.node_core.stepping_node.SteppingNode.cut_log.Goals as goal

pub returns-then-not-can_cut-clause-lossy : goal.returns-then-not-can_cut-clause-lossy
returns-then-not-can_cut-clause-lossy c =
    rw (← c.self.view_is) (nothing_to_cut (sym c.can_cut.ensures ∙ c.if-not-can_cut.true) refl)

pub returns-then-not-can_cut-clause-exact : goal.returns-then-not-can_cut-clause-exact
returns-then-not-can_cut-clause-exact c =
    rw (← c.self.view_is) (cut_none _ (sym c.can_cut.ensures ∙ c.if-not-can_cut.true))

pub returns-clause-lossy : goal.returns-clause-lossy
returns-clause-lossy c =
    rw (ap (λ (r : RunningStep). r.core) c.note.ensures, ← c.self.view_is) (cut_runs _ c.cut-whole.new.self c.cut-whole.result
    (record { done = c.cut-whole.ensures.done; thaws = c.cut-whole.ensures.thaws; same = c.cut-whole.ensures.same; counts = c.cut-whole.ensures.counts; idle = c.cut-whole.ensures.idle }))

pub returns-clause-exact : goal.returns-clause-exact
returns-clause-exact c =
    rw (← c.self.view_is) (cut_does _ _ c.note.new.self c.cut-whole.new.self c.cut-whole.result
    (record { done = c.cut-whole.ensures.done; thaws = c.cut-whole.ensures.thaws; same = c.cut-whole.ensures.same; counts = c.cut-whole.ensures.counts; idle = c.cut-whole.ensures.idle })
    refl c.note.ensures)
