-- Steps of nodes, one after another.
use Rattle.std.proofs.Common.{◌≡◌, ◌<◌, ◌≤◌, ◌^◌, ◌-◌, ℕ, sym, subst, arith, Option, Some, Result, Ok, Err, OnOk, OnErr}
use Rattle.headline.specs.node_group.Group.{Group}
use Rattle.world_nodes.specs.Nodes.{NodesState, NodesStandFor}
use Rattle.world_nodes.specs.Steps.{NodesLoseNothing, nodes_with_loss}
use Rattle.world_pipes.specs.clients.NodesGoOn.{StepsOfGroup, NodesGo, NodesGoOn, NodesStay}
use Rattle.world_pipes.specs.clients.NodesGoOn.StepsOfGroup.{rests, goes_on}
use Rattle.master.specs.declared.event.Idle.{Idle}
use Rattle.headline.specs.node_moves.Moves.{NodeCall}
use Rattle.world_nodes.specs.ExactSteps.{NodeDoesCall, GoesBy}

pub nodes_stay : (old new : NodesState) → new ≡ old → NodesStay old new
nodes_stay old new same g s = subst (λ (n : NodesState). NodesStandFor g n) (sym same) s

-- but that a loss is counted
pub nodes_forget : (old new : NodesState) → new ≡ nodes_with_loss old → NodesStay old new
nodes_forget old new is g s = subst (λ (n : NodesState). NodesStandFor g n) (sym is) (record { master = s.master; nodes = s.nodes; sent = s.sent; archive = s.archive })

pub staying_goes : (old new : NodesState) → NodesStay old new → NodesGo old new
staying_goes old new stay g s = record { after = g; goes = rests; stands = stay g s }

pub nodes_rest : (old new : NodesState) → new ≡ old → NodesGoOn old new
nodes_rest old new same =
    subst (λ (n : NodesState). NodesGoOn old n) (sym same) (record { rises = omega arith; goes = staying_goes old old (λ g s. s) })

goes_join : {f g h : Group} → StepsOfGroup f g → StepsOfGroup g h → StepsOfGroup f h
goes_join one rests = one
goes_join one (goes_on two step) = goes_on (goes_join one two) step

pub nodes_go_join : (a b c : NodesState) → NodesGo a b → NodesGo b c → NodesGo a c
nodes_go_join a b c one two g s =
    let first = one g s in
    let next = two first.after first.stands in
    record { after = next.after; goes = goes_join first.goes next.goes; stands = next.stands }

pub nodes_join : (a b c : NodesState) → NodesGoOn a b → NodesGoOn b c → NodesGoOn a c
nodes_join a b c one two =
    record {
      rises = (let x = one.rises in let y = two.rises in omega (arith, x, y));
      goes = nodes_go_join a b c one.goes two.goes;
    }

-- if nothing is lost from end to end, nothing is on the way
pub nodes_split : (a b c : NodesState) → a.losses ≤ b.losses → b.losses ≤ c.losses → NodesLoseNothing a c → NodesLoseNothing a b × NodesLoseNothing b c
nodes_split a b c x y none =
    let same = none.0 in let low = none.1 in (
      ((let e : b.losses ≡ a.losses = omega (arith, x, y, same) in e), low),
      ((let e : c.losses ≡ b.losses = omega (arith, x, y, same) in e), (let l : b.losses < 2 ^ 64 - 1 = omega (arith, x, y, same, low) in l)),
    )

pub acts_go : (node_call : Option (ℕ × NodeCall)) (old new : NodesState) → ((g : Group) → NodesStandFor g old → GoesBy node_call g new) → NodesGo old new
acts_go node_call old new by g s = let d = by g s in record { after = d.does.after; goes = goes_on rests d.does.step; stands = d.stands }

-- also by one that connections have a part in
pub call_goes : {X : Type 0} (r : Result X Idle) (old new : NodesState) (at : ℕ) (node_call : NodeCall) → old.losses ≤ new.losses → OnOk r (NodeDoesCall at node_call old new) → OnErr r (new ≡ old)
    → NodesGoOn old new
call_goes (Ok x) old new at node_call rises does same = record { rises = rises; goes = acts_go (Some (at, node_call)) old new does }
call_goes (Err e) old new at node_call rises does same = nodes_rest old new same
