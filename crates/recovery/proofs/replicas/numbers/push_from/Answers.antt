use Rattle.std.proofs.Common.{ℕ, ◌+◌, List, [], ◌∷◌, ◌++◌, refl, ap, ◌∙◌}
use Rattle.recovery.proofs.of_replicas.Counted.{pushed_from}
use Rattle.recovery.proofs.replicas.numbers.push_from.Goals as goal

pub loop-step-preserved : goal.loop-step-preserved
loop-step-preserved c =
    record {
      pushed = pushed_from c.args.numbers.now.items c.push.new.self.items c.args.from c.loop-step.step (c.loop-step.step + 1) refl
          (c.in_ok-push.ensures.items ∙ ap (λ (l : List ℕ). l ++ (c.args.from + c.loop-step.step) ∷ []) c.loop-step.invariant.pushed);
    }
