use Rattle.std.proofs.Common.{refl}
use Rattle.ballot_base.specs.Protocol.Input.{Receives}
use Rattle.world_base.proofs.of_node_core.Hearing.{heard_quietly}
use Rattle.world_base.proofs.of_node_core.Told.{told_acts, told_hears, told_input}
use Rattle.world_base.proofs.node_core.stepping_node.SteppingNode.give_message.Goals as goal

pub returns-clause-hears : goal.returns-clause-hears
returns-clause-hears c =
    rw (← c.self.view_is) (told_hears _ _ c.note.new.self _ c.deliver-whole.new.self _ _ c.deliver-whole.result c.requires
    (told_input (Receives c.args.message) _ _ _ _ _ c.deliver-whole.ensures.step c.deliver-whole.ensures.stopped) refl c.note.ensures)

pub returns-clause-acts : goal.returns-clause-acts
returns-clause-acts c =
    rw (← c.self.view_is) (told_acts _ _ c.deliver-whole.new.self _ _ c.deliver-whole.result _ c.note.new.self c.requires
    (told_input (Receives c.args.message) _ _ _ _ _ c.deliver-whole.ensures.step c.deliver-whole.ensures.stopped) refl c.note.ensures)

pub returns-clause-quiet : goal.returns-clause-quiet
returns-clause-quiet c =
    rw (← c.self.view_is) (heard_quietly c.args.message _ _ c.note.new.self c.deliver-whole.new.self _ _ c.deliver-whole.result c.requires
    (told_input (Receives c.args.message) _ _ _ _ _ c.deliver-whole.ensures.step c.deliver-whole.ensures.stopped)
    c.deliver-whole.ensures.quiet c.deliver-whole.ensures.stopped refl c.note.ensures)
