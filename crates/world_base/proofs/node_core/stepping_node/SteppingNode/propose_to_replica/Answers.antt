use Rattle.std.proofs.Common.{◌∙◌, inr, refl, ap}
use Rattle.ballot.proofs.MessagesTaken.{told_steps}
use Rattle.world_base.specs.node_core.Inside.{RunningStep}
use Rattle.world_base.proofs.of_node_core.Answering.{answered_kept}
use Rattle.world_base.proofs.of_node_core.Asked.{left_true, right_false, room_answered, room_refused, has_room_by}
use Rattle.world_base.proofs.of_node_core.Told.{told_hears, whole_if_none}
use Rattle.world_base.proofs.node_core.stepping_node.SteppingNode.propose_to_replica.Goals as goal

pub returns-clause-hears : goal.returns-clause-hears
returns-clause-hears c =
    let serving = rw (← c.self.view_is) at c.requires.serving in
    rw (← c.self.view_is) (told_hears _ _ c.note.new.self _ c.append-put.new.self _ _ c.append-put.result.1 c.requires.empty
    (c.append-put.ensures.step (right_false _ _ serving)) refl c.note.ensures)

pub returns-clause-taken : goal.returns-clause-taken
returns-clause-taken c = λ quiet.
    let serving = rw (← c.self.view_is) at c.requires.serving in
    let active = left_true _ _ serving in
    let running = right_false _ _ serving in
    let put = c.append-put.ensures in
    c.is_ok.ensures.value ∙ has_room_by c.args.self.now.core _ c.requires.serving
    (rw (← c.self.view_is) (room_answered c.append-put.result.0 c.append-put.result.1 c.self.inside.replica c.append-put.new.self c.args.command _ _
    active running (put.step running) put.halted.0 put.not_active.0 (λ e. (put.full.0 e).2)
    (λ over. put.full.1 (running, active, over)) (λ e. (put.memory e).0)
    (whole_if_none _ _ c.append-put.result.1 c.note.ensures quiet)))

pub returns-clause-quiet : goal.returns-clause-quiet
returns-clause-quiet c =
    let serving = rw (← c.self.view_is) at c.requires.serving in
    let put = c.append-put.ensures in
    rw (← c.self.view_is) (room_refused c.append-put.result.0 c.append-put.result.1 _ _ c.note.new.self c.append-put.new.self _ _ c.requires.empty serving
    (λ over. put.full.1 (right_false _ _ serving, left_true _ _ serving, over)) (λ e. put.same (inr (inr e))) put.err refl c.note.ensures)

pub returns-clause-answered : goal.returns-clause-answered
returns-clause-answered c =
    let serving = rw (← c.self.view_is) at c.requires.serving in
    let running = right_false _ _ serving in
    let put = c.append-put.ensures in
    rw (c.is_ok.ensures.value, ← c.self.view_is) (answered_kept c.append-put.result.0 _ c.append-put.new.self c.args.command _ _ _ c.requires.empty
    serving (told_steps (put.step running)) put.done put.halted.0 put.not_active.0 (λ e. (put.full.0 e).2)
    (λ over. put.full.1 (running, left_true _ _ serving, over)) (λ e. (put.memory e).1) (λ e. (put.same (inr (inr e))).1) put.err
    (ap (λ (r : RunningStep). r.core) c.note.ensures))
