use Rattle.play.specs.Inside.{names_of}
use Rattle.play.proofs.PlayedToTheEnd.{plays_losing, plays_well}
use Rattle.play.proofs.ScriptsOpen.{other_err, script_apart, script_opens}
use Rattle.play.proofs.player.play.Goals as goal

pub returns-in-Err-clause-refused : goal.returns-in-Err-clause-refused
returns-in-Err-clause-refused c = λ number is.
    absurd (script_opens _ c.in_ok-opening.field-0 c.in_ok-opening.ensures.script (c.in-Err.ensures.bad number (other_err c.in-Err.error _ is)))

pub returns-clause-played : goal.returns-clause-played
returns-clause-played c =
    plays_well c.play_whole.result c.args.text.now c.args.transcript.now.items c.play_whole.new.transcript.items
    c.in_ok-opening.field-0 c.in-Ok.played.world (names_of c.in-Ok.played.recipients.items) c.as_slice.result.now c.in_ok-opening.ensures.script c.in-Ok.ensures.opened
    (c.in-Ok.ensures.exact (script_apart _ c.in_ok-opening.field-0 c.in_ok-opening.ensures.script)) c.in-Ok.ensures.opens c.in-Ok.ensures.named c.as_slice.ensures.value
    c.play_whole.ensures.played

pub returns-clause-out_of_memory : goal.returns-clause-out_of_memory
returns-clause-out_of_memory c = λ is.
    plays_losing c.args.text.now c.args.transcript.now.items c.play_whole.new.transcript.items c.in_ok-opening.field-0
    c.in-Ok.played.world (names_of c.in-Ok.played.recipients.items) c.as_slice.result.now c.in_ok-opening.ensures.script c.in-Ok.ensures.opened
    (c.in-Ok.ensures.exact (script_apart _ c.in_ok-opening.field-0 c.in_ok-opening.ensures.script)) c.in-Ok.ensures.opens
    c.in-Ok.ensures.named c.as_slice.ensures.value (c.play_whole.ensures.out_of_memory is)
