-- What was delivered so far, and what is still to come, make the whole.
use Rattle.std.proofs.Common.{◌≡◌, ◌++◌}
use Rattle.std.specs.Prelude.{drop}
use Rattle.broker_spec.specs.Commands.{usual_limits}
use Rattle.broker_base.specs.rows.Published.{all_delivered, answered_in_turn}
use Rattle.broker_base.specs.rows.PublishTheorems.{HaveRoomInTurn}
use Rattle.broker.proofs.tables.publish.deliver_all.Given as goal

abbrev pub invariant-loop-row : goal.invariant-loop-row
invariant-loop-row l =
    (all_delivered l.window l.publication (drop l.row-index l.granted) l.sessions.entries
    ≡ all_delivered l.window l.publication l.granted l.fn.sessions.entries)
    × (l.out.items ++ answered_in_turn l.window l.publication (drop l.row-index l.granted) l.sessions.entries
    ≡ l.fn.out.items ++ answered_in_turn l.window l.publication l.granted l.fn.sessions.entries)
    × HaveRoomInTurn usual_limits l.window l.publication (drop l.row-index l.granted) l.sessions.entries
