-- What is handed over by a node is its call, exactly.
use Rattle.std.proofs.Common.{◌≡◌, ◌<◌, ◌≤◌, ◌-◌, ℕ, zero, suc, List, [], ◌∷◌, ◌++◌, length, Option, Some, refl, sym, ap, ◌∙◌, subst, arith}
use Rattle.std.specs.Prelude.{get_or, slice_get, slice_set}
use Rattle.std.proofs.lemmas.List.{append-nil}
use Rattle.ballot_base.specs.declared.message.Message.{Message}
use Rattle.broker_spec.specs.declared.command.Command.{Command}
use Rattle.world_base.specs.declared.node_connections.handed.Handed.{Handed}
use Rattle.world_base.specs.declared.node_connections.port.Port.{Port}
use Rattle.world_base.specs.node_core.Core.{CountedCore}
use Rattle.world_base.specs.node_connections.PendingOutput.{handed_after, pending_bytes}
use Rattle.world_base.specs.node_core.PortOutput.{hands_over, listed_at}
use Rattle.headline.proofs.of_node_group.Placed.{set_same}
use Rattle.world_nodes.specs.Nodes.{NodesState}
use Rattle.world_nodes.specs.ExactSteps.{AnswersFor, HandsOutExactly, HandsOver}
use Rattle.world_nodes.specs.RunningNodes.{numbered_node}

there : (nodes : List CountedCore) (at : ℕ) (z : CountedCore) → at < length nodes → z ≡ get_or nodes at z → slice_get nodes at ≡ Some z
there [] at z below is = absurd (omega (arith, below))
there (c ∷ nodes) zero z below is = ap Some (sym is)
there (c ∷ nodes) (suc at) z below is = there nodes at z (omega (arith, below)) is

same_some : (z core : CountedCore) → ◌≡◌ {A = Option CountedCore} (Some z) (Some core) → z ≡ core
same_some z core e = cc

pub stands_there : (nodes : List CountedCore) (node : ℕ) (z : CountedCore) → (node ≡ 0 → ⊥) → node ≤ length nodes → z ≡ get_or nodes (node - 1) z
    → slice_get nodes (node - 1) ≡ Some z
stands_there nodes zero z positive below is = absurd (positive refl)
stands_there nodes (suc n) z positive below is = there nodes (suc n - 1) z (omega (arith, below)) is

pub is_there : (nodes : List CountedCore) (node : ℕ) (z : CountedCore) → (node ≡ 0 → ⊥) → slice_get nodes (node - 1) ≡ Some z → numbered_node nodes node ≡ Some z
is_there nodes zero z positive found = absurd (positive refl)
is_there nodes (suc n) z positive found = subst (λ (k : ℕ). slice_get nodes k ≡ Some z) (let e : suc n - 1 ≡ n = omega arith in e) found

abbrev pub with_node : ℕ → CountedCore → NodesState → NodesState
with_node at node old = record old { nodes = slice_set old.nodes at node }

pub hands : (old : NodesState) (node : ℕ) (z new : CountedCore) (port : Port) → numbered_node old.nodes node ≡ Some z
    → new ≡ record z { core = hands_over port z.core } → HandsOutExactly node port old (with_node (node - 1) new old)
hands old node z new port there is =
    record {
      core = z;
      there = there;
      is = ap (λ (c : CountedCore). with_node (node - 1) c old) is
          ∙ sym (ap (λ (l : List (ℕ × Message Command)). let n : NodesState = record old { nodes = slice_set old.nodes (node - 1) (record z { core = hands_over port z.core }); sent = l } in n) (append-nil old.sent));
    }

-- if nothing is handed over, nothing changes
pub rests : (old : NodesState) (at : ℕ) (z new : CountedCore) → slice_get old.nodes at ≡ Some z → new ≡ z → with_node at new old ≡ old
rests old at z new found same =
    ap (λ (l : List CountedCore). record old { nodes = l }) (ap (slice_set old.nodes at) same ∙ set_same old.nodes at z found)

-- what is read at the index of a number is the node of that number
pub same_node : (nodes : List CountedCore) (node : ℕ) (z core : CountedCore) → numbered_node nodes node ≡ Some z → numbered_node nodes node ≡ Some core → z ≡ core
same_node nodes node z core a b = same_some z core (sym a ∙ b)

pub hands_bytes : (n : NodesState) (node : ℕ) (port : Port) (z : CountedCore) (before after : List ℕ) → numbered_node n.nodes node ≡ Some z
    → after ≡ before ++ pending_bytes (listed_at port z.core) → HandsOver node port n before after
hands_bytes n node port z before after is bytes core there =
    subst (λ (y : CountedCore). after ≡ before ++ pending_bytes (listed_at port y.core)) (same_node n.nodes node z core is there) bytes

pub answers_so : (n : NodesState) (node : ℕ) (port : Port) (z : CountedCore) (handed : Handed) → numbered_node n.nodes node ≡ Some z
    → handed ≡ handed_after (listed_at port z.core) → AnswersFor node port n handed
answers_so n node port z handed is answer core there =
    subst (λ (y : CountedCore). handed ≡ handed_after (listed_at port y.core)) (same_node n.nodes node z core is there) answer
