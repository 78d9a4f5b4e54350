-- Offered.antt: a new connection is offered to its node, and removed again if the node does not
-- take it.
use Rattle.std.proofs.Common.{◌≡◌, ◌⊎◌, inl, inr, ◌-◌, ℕ, zero, suc, Bool, true, false, List, Option, Some, None, slice_get, slice_set, if◌then◌else◌, Ok, refl, sym, ap, ◌∙◌, subst, arith}
use Rattle.std.specs.Option.{is_some}
use Rattle.std.specs.Prelude.{Err, OnErr, OnOk, Result}
use Rattle.std.specs.Result.{is_err}
use Rattle.std.proofs.lemmas.Bool.{both_ways}
use Rattle.std.proofs.lemmas.Option.{none-some}
use Rattle.master.specs.declared.event.Idle.{Idle}
use Rattle.world_base.specs.declared.node_core.item.Item.{Item}
use Rattle.world_base.specs.declared.node_core.item.Item.TheVariants.{Opened}
use Rattle.world_base.specs.declared.node_connections.port.Port.{Port}
use Rattle.world_base.specs.node_core.Core.{CountedCore}
use Rattle.world_base.specs.node_core.PortOutput.{listed_at}
use Rattle.headline.specs.node_moves.Moves.NodeCall.{takes}
use Rattle.headline.proofs.of_node_group.Placed.{get_of_set}
use Rattle.world_nodes.specs.ExactSteps.{NodeDoesCall, after_node_call}
use Rattle.world_nodes.specs.RunningNodes.{numbered_node, running, unless_stopped}
use Rattle.world_nodes.specs.Nodes.{NodesState}
use Rattle.world_nodes.specs.Steps.{ActsWithLosses, NodeItemOrLost}
use Rattle.client_base.specs.Steps.{Call, keeper_step}
use Rattle.world_pipes.specs.ModelSteps.{ConnectingFollows}
use Rattle.world_pipes.specs.Piped.{SendsConnect as Opens, Piped, taken_back}
use Rattle.world_pipes.proofs.TakenBack.{taken_back_pairs, taking_back_follows}
use Rattle.world_pipes.specs.clients.SlotsAreValid.{connection_targets}
use Rattle.world_pipes.specs.clients.Opening.{HearsOfOne, Reaches}

-- ---- a node that takes an item in is there still

unstopped : (o : Option CountedCore) (core : CountedCore) → unless_stopped o ≡ Some core → o ≡ Some core
unstopped None core e = absurd (none-some core e)
unstopped (Some c) core e = by c.core.replica.state.stopped e
  where
    by : (b : Bool) → (if b then None else Some c) ≡ Some core → (let o : Option CountedCore = Some c in o) ≡ Some core
    by true f = absurd (none-some core f)
    by false f = f

set_there : (nodes : List CountedCore) (node : ℕ) (core later : CountedCore) → running nodes node ≡ Some core → numbered_node (slice_set nodes (node - 1) later) node ≡ Some later
set_there nodes zero core later e = absurd (none-some core e)
set_there nodes (suc n) core later e =
    subst (λ (k : ℕ). slice_get (slice_set nodes k later) n ≡ Some later) (let same : n ≡ suc n - 1 = omega arith in same)
    (get_of_set nodes n core later (unstopped (slice_get nodes n) core e))

pub still_there : (node : ℕ) (item : Item) (old new : NodesState) → NodeItemOrLost node item old new → numbered_node new.nodes node ≡ None → ⊥
still_there node item old new t none = by t.way
  where
    at_once : (later : CountedCore) → new.nodes ≡ slice_set old.nodes (node - 1) later → ⊥
    at_once later is = none-some later (sym none ∙ ap (λ (l : List CountedCore). numbered_node l node) is ∙ set_there old.nodes node t.core later t.runs)

    by : (new ≡ after_node_call (node - 1) t.core (takes item) old) ⊎ ActsWithLosses (node - 1) item t.core old new → ⊥
    by (inl exact) = at_once _ (ap (λ (n : NodesState). n.nodes) exact)
    by (inr losing) = at_once losing.node (ap (λ (n : NodesState). n.nodes) losing.is)

-- ---- what it does to a new connection

-- whether it is reported to the node
pub not_heard : {X : Type 0} (r : Result X Idle) (P : Type 0) → is_err r ≡ true → OnErr r P → P
not_heard (Ok x) P err same = absurd (both_ways false refl err)
not_heard (Err e) P err same = same

pub was_heard : {X : Type 0} (r : Result X Idle) (P : Type 0) → is_err r ≡ false → OnOk r P → P
was_heard (Ok x) P ok does = does
was_heard (Err e) P ok does = absurd (both_ways true ok refl)

-- it has it then, or not
pub hears_of_one : (has : Bool) (node : ℕ) (port : Port) (old new : NodesState) (core : CountedCore) → numbered_node new.nodes node ≡ Some core
    → has ≡ is_some (listed_at port core.core) → NodeItemOrLost node (Opened port 0) old new → NodeDoesCall (node - 1) (takes (Opened port 0)) old new
    → HearsOfOne has node port old new
hears_of_one true node port old new core stands known step acts =
    record { step = step; acts = acts; known = record { core = core; stands = stands; known = sym known } }
hears_of_one false node port old new core stands known step acts =
    inr (record { step = step; acts = acts; known = record { core = core; stands = stands; known = sym known } })

-- ---- the client's part

-- it was reported to its node, or not
heard : (node : ℕ) (port : Port) (old new : NodesState) → HearsOfOne false node port old new → (new ≡ old) ⊎ NodeItemOrLost node (Opened port 0) old new
heard node port old new (inl same) = inl same
heard node port old new (inr hears) = inr hears.step

-- its connection is offered to the node, and removed again if that does not take it
pub reaches : (taken : Bool) (node : ℕ) (port : Port) (old new : NodesState) (client mid later : Piped)
    → Opens (node - 1) port (keeper_step Call.Opens client.core.state) client (Ok tt) mid → ConnectingFollows (node - 1) port client (Ok tt) mid
    → HearsOfOne taken node port old new → later ≡ (if taken then mid else taken_back mid) → Reaches taken node port old client new later
reaches true node port old new client mid later opens follows hears is =
    subst (λ (p : Piped). Reaches true node port old client new p) (sym is)
    (record { opens = opens; follows = follows; hears = hears })
reaches false node port old new client mid later opens follows hears is =
    subst (λ (p : Piped). Reaches false node port old client new p) (sym is)
    (taking_back_follows (node - 1) port client mid opens, hears, inr (mid, opens, refl, heard node port old new hears))

-- without one its connections lead to the same nodes
pub back_leads : (taken : Bool) (node : ℕ) (port : Port) (client mid later : Piped) → Opens (node - 1) port (keeper_step Call.Opens client.core.state) client (Ok tt) mid
    → later ≡ (if taken then mid else taken_back mid) → taken ≡ false → connection_targets later.pairs ≡ connection_targets client.pairs
back_leads true node port client mid later opens is none = absurd (both_ways true none refl)
back_leads false node port client mid later opens is none =
    ap (λ (p : Piped). connection_targets p.pairs) is ∙ ap connection_targets (taken_back_pairs (node - 1) port client mid opens)
