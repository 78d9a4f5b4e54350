-- PutsDown.antt: what a node hands over is put after what is in transit down.
use Rattle.std.proofs.Common.{◌≡◌, inl, inr, ◌↔◌, ◌≤◌, ◌-◌, ℕ, Bool, List, ◌++◌, Option, Some, None, Result, Ok, Err, OnErr, slice_get, refl, sym, ap, ◌∙◌, subst}
use Rattle.std.specs.Prelude.{IfSome, IfOk, IsErr}
use Rattle.std.proofs.lemmas.List.{append-nil, set-set}
use Rattle.lists.proofs.Places.{get_set}
use Rattle.master.specs.declared.event.Idle.{Idle}
use Rattle.world_base.specs.declared.node_connections.handed.Handed.{Handed}
use Rattle.world_base.specs.declared.node_connections.port.Port.{Port}
use Rattle.world_base.specs.node_core.Core.{CountedCore}
use Rattle.headline.specs.node_moves.Moves.NodeCall.{hands_out}
use Rattle.world_nodes.specs.RunningNodes.{numbered_node}
use Rattle.world_nodes.specs.Nodes.{NodesState}
use Rattle.world_nodes.specs.HandingOver.{HandoverOrLost}
use Rattle.world_nodes.proofs.Exactly.{gives_acts}
use Rattle.world_pipes.specs.declared.pair.PipePair.{PipePair}
use Rattle.world_pipes.specs.Piped.{Piped}
use Rattle.world_pipes.specs.clients.SlotsAreValid.{connection_targets}
use Rattle.world_pipes.specs.clients.NodeOutput.{with_down, HandsOverBytes, is_more, is_reported_open, bytes_put_out, BytesDownOrLost, MayHandDown, MayPutDown, PipeBytesDownOrLost, tells_open}
use Rattle.world_pipes.specs.clients.NodesGoOn.{NodesGoOn}
use Rattle.world_pipes.proofs.of_clients.NodesGoOn.{acts_go, nodes_forget, nodes_stay, staying_goes}
use Rattle.world_pipes.proofs.of_clients.LeadsKept.{leads_set}

-- ---- one call of a node

abbrev HandsExactly : ℕ → Port → NodesState → List ℕ → NodesState → List ℕ → Bool → Option CountedCore → Type 0
HandsExactly node port old before new after is_open o = HandsOverBytes o node port old new × (after ≡ before ++ bytes_put_out port o) × (is_open ≡ is_reported_open port o)

pub handed_down : (r : Result Handed Idle) (is_open : Bool) (node : ℕ) (port : Port) (old new : NodesState) (before after : List ℕ) → is_open ≡ tells_open r
    → IsErr r ↔ (numbered_node old.nodes node ≡ None) → IfOk r (λ handed. HandoverOrLost node port old new before after handed) → OnErr r ((new ≡ old) × (after ≡ before))
    → BytesDownOrLost node port old before new after is_open
handed_down r is_open node port old new before after eq idle does same = by r eq idle does same
  where
    one : (h : Handed) → is_open ≡ is_more h → HandoverOrLost node port old new before after h → BytesDownOrLost node port old before new after is_open
    one h eq (inl hands) =
        let there = hands.0.there in
        inl (subst (HandsExactly node port old before new after is_open) (sym there) (hands.0.is, hands.1 hands.0.core there, eq ∙ ap is_more (hands.2 hands.0.core there)))
    one h eq (inr rests) = inr (rests.0, rests.1, eq ∙ ap is_more rests.2)

    by : (r : Result Handed Idle) → is_open ≡ tells_open r → IsErr r ↔ (numbered_node old.nodes node ≡ None) → IfOk r (λ handed. HandoverOrLost node port old new before after handed)
        → OnErr r ((new ≡ old) × (after ≡ before)) → BytesDownOrLost node port old before new after is_open
    by (Ok h) eq idle does same = one h eq does
    by (Err x) eq idle does same = inl (subst (HandsExactly node port old before new after is_open) (sym (idle.0 refl)) (same.0, same.1 ∙ sym (append-nil before), eq))

-- even if memory runs out
pub may_hand_down : (r : Result Handed Idle) (node : ℕ) (port : Port) (old new : NodesState) (before after : List ℕ) → IfOk r (λ handed. HandoverOrLost node port old new before after handed)
    → OnErr r ((new ≡ old) × (after ≡ before)) → MayHandDown node port old before new after
may_hand_down (Ok h) node port old new before after does same = by does
  where
    by : HandoverOrLost node port old new before after h → MayHandDown node port old before new after
    by (inl hands) = inr (gives_acts node port old new hands.0, hands.1)
    by (inr rests) = inl (nodes_forget old new rests.0, rests.1)
may_hand_down (Err e) node port old new before after does same = inl (nodes_stay old new same.0, same.1)

-- and so the nodes continue
pub handing_goes : (node : ℕ) (port : Port) (old new : NodesState) (before after : List ℕ) → old.losses ≤ new.losses → MayHandDown node port old before new after → NodesGoOn old new
handing_goes node port old new before after rises (inl stays) = record { rises = rises; goes = staying_goes old new stays.0 }
handing_goes node port old new before after rises (inr hands) = record { rises = rises; goes = acts_go (Some (node - 1, hands_out port)) old new hands.0 }

-- ---- bytes that are exchanged twice

of_some : {X : Type 0} (P : X → Type 0) (o : Option X) (x : X) → o ≡ Some x → IfSome o P → P x
of_some P o x e i = subst (λ (z : Option _). IfSome z P) e i

exchanged : (old mid later : Piped) (at : ℕ) (none handed : List ℕ) → IfSome (slice_get old.pairs at) (λ pair. mid ≡ with_down at pair none old)
    → IfSome (slice_get mid.pairs at) (λ pair. later ≡ with_down at pair handed mid) → (pair : PipePair) → slice_get old.pairs at ≡ Some pair → later ≡ with_down at pair handed old
exchanged old mid later at none handed first second pair found =
    let bare : PipePair = record pair { down = none } in
    let one : mid ≡ with_down at pair none old = of_some (λ (w : PipePair). mid ≡ with_down at w none old) (slice_get old.pairs at) pair found first in
    let there : slice_get mid.pairs at ≡ Some bare = ap (λ (p : Piped). slice_get p.pairs at) one ∙ get_set old.pairs at pair bare found in
    let two : later ≡ with_down at bare handed mid = of_some (λ (w : PipePair). later ≡ with_down at w handed mid) (slice_get mid.pairs at) bare there second in
    two ∙ ap (λ (p : Piped). with_down at bare handed p) one
    ∙ ap (λ (l : List PipePair). let p : Piped = record old { pairs = l } in p) (set-set old.pairs at bare (record pair { down = handed }))

pub puts : (node : ℕ) (port : Port) (nodes after : NodesState) (old mid later : Piped) (at : ℕ) (none moved handed : List ℕ) (is_open : Bool)
    → IfSome (slice_get old.pairs at) (λ pair. mid ≡ with_down at pair none old) → IfSome (slice_get old.pairs at) (λ pair. moved ≡ pair.down)
    → IfSome (slice_get mid.pairs at) (λ pair. later ≡ with_down at pair handed mid) → BytesDownOrLost node port nodes moved after handed is_open
    → PipeBytesDownOrLost at node port nodes old after later is_open
puts node port nodes after old mid later at none moved handed is_open first given second hands pair found = (
  handed,
  subst (λ (l : List ℕ). BytesDownOrLost node port nodes l after handed is_open) (of_some (λ (w : PipePair). moved ≡ w.down) (slice_get old.pairs at) pair found given) hands,
  exchanged old mid later at none handed first second pair found,
)

pub may_put : (node : ℕ) (port : Port) (nodes after : NodesState) (old mid later : Piped) (at : ℕ) (none moved handed : List ℕ)
    → IfSome (slice_get old.pairs at) (λ pair. mid ≡ with_down at pair none old) → IfSome (slice_get old.pairs at) (λ pair. moved ≡ pair.down)
    → IfSome (slice_get mid.pairs at) (λ pair. later ≡ with_down at pair handed mid) → MayHandDown node port nodes moved after handed
    → MayPutDown at node port nodes old after later
may_put node port nodes after old mid later at none moved handed first given second hands pair found = (
  handed,
  subst (λ (l : List ℕ). MayHandDown node port nodes l after handed) (of_some (λ (w : PipePair). moved ≡ w.down) (slice_get old.pairs at) pair found given) hands,
  exchanged old mid later at none handed first second pair found,
)

pub same_leads : (old mid later : Piped) (at : ℕ) (none handed : List ℕ) (pair : PipePair) → slice_get old.pairs at ≡ Some pair
    → IfSome (slice_get old.pairs at) (λ pair. mid ≡ with_down at pair none old) → IfSome (slice_get mid.pairs at) (λ pair. later ≡ with_down at pair handed mid)
    → connection_targets later.pairs ≡ connection_targets old.pairs
same_leads old mid later at none handed pair found first second =
    ap (λ (p : Piped). connection_targets p.pairs) (exchanged old mid later at none handed first second pair found)
    ∙ leads_set old.pairs at pair (record pair { down = handed }) found refl
