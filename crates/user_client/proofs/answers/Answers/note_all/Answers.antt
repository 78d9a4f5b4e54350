use Rattle.std.proofs.Common.{Bool, subst}
use Rattle.user_client.specs.Answers.{Notes}
use Rattle.user_client.specs.Inside.Noted.{NotesNext}
use Rattle.user_client.proofs.PacketsNoted.{noted_more}
use Rattle.user_client.proofs.answers.Answers.note_all.Goals as goal

pub loop-init : goal.loop-init
loop-init c = Notes.none

pub loop-preserved : goal.loop-preserved
loop-preserved c =
    noted_more c.args.self.now c.loop.self c.note_next.new.self c.loop.invariant
    (subst (λ (b : Bool). NotesNext c.loop.self b c.note_next.new.self) c.if-branch.true c.in_ok-note_next.ensures.one)
