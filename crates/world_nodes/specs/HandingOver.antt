-- Handing over the pending output of a port, if memory may run out.
use Rattle.std.specs.Prelude.{◌≡◌, ◌⊎◌, ℕ, List}
use Rattle.world_base.specs.declared.node_connections.handed.Handed.{Handed}
use Rattle.world_base.specs.declared.node_connections.handed.Handed.TheVariants as answers
use Rattle.world_base.specs.declared.node_connections.port.Port.{Port}
use Rattle.world_nodes.specs.ExactSteps.{AnswersFor, HandsOutExactly, HandsOver}
use Rattle.world_nodes.specs.Nodes.{NodesState}
use Rattle.world_nodes.specs.Steps.{nodes_with_loss}

-- All pending output was handed over and appended, and the answer says whether more may come. Or
-- none was, more may come, and a loss is counted.
abbrev pub HandoverOrLost : ℕ → Port → NodesState → NodesState → List ℕ → List ℕ → Handed → Type 0
HandoverOrLost node port old new before after handed =
    (HandsOutExactly node port old new × HandsOver node port old before after
    × AnswersFor node port old handed)
    ⊎ ((new ≡ nodes_with_loss old) × (after ≡ before) × (handed ≡ answers.Open))
