-- If nothing is counted a node took just the item; and what is handed over exactly is a node's
-- call.
use Rattle.std.proofs.Common.{◌≡◌, ◌⊎◌, inl, inr, ◌-◌, ℕ, zero, suc, List, Some, sym, ap, ◌∙◌, subst, arith}
use Rattle.std.specs.Prelude.{slice_get}
use Rattle.std.proofs.lemmas.Option.{none-some}
use Rattle.world_base.specs.declared.node_core.item.Item.{Item}
use Rattle.world_base.specs.declared.node_connections.port.Port.{Port}
use Rattle.world_base.specs.node_core.Core.{CountedCore}
use Rattle.headline.specs.node_moves.Moves.NodeCall.{takes, hands_out}
use Rattle.world_nodes.specs.Nodes.{NodesState}
use Rattle.world_nodes.specs.ExactSteps.{NodeDoesCall, HandsOutExactly, TakesExactly, after_node_call}
use Rattle.world_nodes.specs.RunningNodes.{numbered_node}
use Rattle.world_nodes.specs.Steps.{ActsWithLosses, NodeItemOrLost, NodesLoseNothing}
use Rattle.world_nodes.proofs.Acts.{acts, not_one_more}

pub exactly : (node : ℕ) (item : Item) (old new : NodesState) → NodeItemOrLost node item old new → NodesLoseNothing old new → TakesExactly node item old new
exactly node item old new t none = by t.way
  where
    by : (new ≡ after_node_call (node - 1) t.core (takes item) old) ⊎ ActsWithLosses (node - 1) item t.core old new → TakesExactly node item old new
    by (inl is) = record { core = t.core; runs = t.runs; is = is }
    by (inr loses) = absurd (not_one_more old.losses none.1 (sym (ap (λ (n : NodesState). n.losses) loses.is) ∙ none.0))

-- the node of a number is at its index
pub at_place : (nodes : List CountedCore) (node : ℕ) (core : CountedCore) → numbered_node nodes node ≡ Some core → slice_get nodes (node - 1) ≡ Some core
at_place nodes zero core there = absurd (none-some core there)
at_place nodes (suc n) core there = subst (λ (k : ℕ). slice_get nodes k ≡ Some core) (let e : n ≡ suc n - 1 = omega arith in e) there

pub gives_acts : (node : ℕ) (port : Port) (old new : NodesState) → HandsOutExactly node port old new → NodeDoesCall (node - 1) (hands_out port) old new
gives_acts node port old new g =
    subst (λ (n : NodesState). NodeDoesCall (node - 1) (hands_out port) old n) (sym g.is)
    (acts old (node - 1) g.core (hands_out port) (at_place old.nodes node g.core g.there) (λ h s. tt))
