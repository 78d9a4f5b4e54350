use Rattle.std.proofs.Common.{ap, sym, ◌∙◌}
use Rattle.agreement.specs.MasterState.{MasterState}
use Rattle.world_nodes.proofs.nodes.Nodes.greatest.Goals as goal

pub returns-clause-bound : goal.returns-clause-bound
returns-clause-bound c =
    c.greatest.ensures.is ∙ sym (ap (λ (m : MasterState). m.greatest) c.self.invariant.stands.master) ∙ c.self.invariant.counts.bounded
