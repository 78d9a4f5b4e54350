-- Stopped.antt: whether a node runs, by whether it has stopped.
use Rattle.std.proofs.Common.{◌≡◌, ◌↔◌, ℕ, zero, suc, Bool, true, false, not, if◌then◌else◌, List, Option, Some, None, refl, sym, ap, subst}
use Rattle.std.proofs.lemmas.Option.{none-some}
use Rattle.world_base.specs.node_core.Core.{CountedCore}
use Rattle.world_nodes.specs.RunningNodes.{numbered_node, running, unless_stopped}

pub runs_exactly : (nodes : List CountedCore) (node : ℕ) (core : CountedCore) → numbered_node nodes node ≡ Some core → (stopped : Bool) → stopped ≡ core.core.replica.state.stopped
    → (not stopped ≡ false) ↔ (running nodes node ≡ None)
runs_exactly nodes zero core there stopped is = absurd (none-some core there)
runs_exactly nodes (suc at) core there stopped is =
    subst (λ (o : Option CountedCore). (not stopped ≡ false) ↔ (unless_stopped o ≡ None)) (sym there)
    (subst (λ (b : Bool). (not stopped ≡ false) ↔ ((if b then None else Some core) ≡ None)) is (by stopped))
  where
    by : (b : Bool) → (not b ≡ false) ↔ ((if b then None else Some core) ≡ None)
    by true = ((λ e. refl), (λ e. refl))
    by false = ((λ e. cc), (λ e. absurd (none-some core (sym e))))

pub runs_none : (nodes : List CountedCore) (node : ℕ) → numbered_node nodes node ≡ None → (false ≡ false) ↔ (running nodes node ≡ None)
runs_none nodes zero none = ((λ e. refl), (λ e. refl))
runs_none nodes (suc at) none = ((λ e. ap unless_stopped none), (λ e. refl))
