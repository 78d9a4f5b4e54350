-- HandsQuietly.antt: a node that has nothing to hand over counts no loss when it hands over.
use Rattle.std.proofs.Common.{◌≡◌, ◌-◌, ℕ, zero, suc, List, [], ◌∷◌, Some, Result, Ok, Err, OnErr, OnOk, slice_get, slice_set, refl, sym, ap, subst, arith}
use Rattle.std.proofs.lemmas.Option.{none-some, same_Some}
use Rattle.master.specs.declared.event.Idle.{Idle}
use Rattle.world_base.specs.node_core.Core.{CountedCore}
use Rattle.world_base.specs.node_core.PortOutput.{hands_over}
use Rattle.world_base.specs.node_core.Losses.{WaitsNothing}
use Rattle.world_base.specs.declared.node_connections.handed.Handed.{Handed}
use Rattle.world_base.specs.declared.node_connections.port.Port.{Port}
use Rattle.world_base.proofs.of_node_core.Calmly.{hands_over_waits, nothing_handed}
use Rattle.world_nodes.specs.ExactSteps.{HandsOutExactly}
use Rattle.world_nodes.specs.RunningNodes.{numbered_node}
use Rattle.world_nodes.specs.Nodes.{NodesState}
use Rattle.world_nodes.specs.Quiet.{WaitsAtNone}
use Rattle.world_pipes.specs.clients.NodeOutput.{StaysQuiet}

set_there : {X : Type 0} (xs : List X) (i : ℕ) (x y z : X) → slice_get xs i ≡ Some x → slice_get (slice_set xs i y) i ≡ Some z → z ≡ y
set_there [] i x y z there found = absurd (none-some x there)
set_there (w ∷ xs) zero x y z there found = sym (same_Some y z found)
set_there (w ∷ xs) (suc i) x y z there found = set_there xs i x y z there found

pub node_set : (nodes : List CountedCore) (node : ℕ) (core new found : CountedCore) → numbered_node nodes node ≡ Some core → numbered_node (slice_set nodes (node - 1) new) node ≡ Some found → found ≡ new
node_set nodes zero core new found there stands = absurd (none-some core there)
node_set nodes (suc at) core new found there stands =
    set_there nodes at core new found there
    (subst (λ (k : ℕ). slice_get (slice_set nodes k new) at ≡ Some found) (let e : suc at - 1 ≡ at = omega arith in e) stands)

pub stays_rest : (node : ℕ) (n m : NodesState) → m ≡ n → StaysQuiet node n m
stays_rest node n m same = subst (λ (k : NodesState). StaysQuiet node n k) (sym same) (λ holds. (holds, refl))

pub handing_quiet : (r : Result Handed Idle) (X : Type 0) (node : ℕ) (port : Port) (old new : NodesState) → (WaitsAtNone node port old → OnOk r (HandsOutExactly node port old new))
    → OnErr r ((new ≡ old) × X) → StaysQuiet node old new
handing_quiet (Err idle) X node port old new hands same = stays_rest node old new same.0
handing_quiet (Ok handed) X node port old new hands same = λ holds.
    let g = hands (λ core there. nothing_handed port core.core (holds core there)) in
    let later : CountedCore = record g.core { core = hands_over port g.core.core } in (
      λ core there.
          let is : core ≡ later = node_set old.nodes node g.core later core g.there (subst (λ (n : NodesState). numbered_node n.nodes node ≡ Some core) g.is there) in
          subst (λ (c : CountedCore). WaitsNothing c.core) (sym is) (hands_over_waits port g.core.core (holds g.core g.there)),
      ap (λ (n : NodesState). n.losses) g.is,
    )
