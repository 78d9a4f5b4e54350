use Rattle.std.proofs.Common.{◌≡◌, arith}
use Rattle.play.specs.Inside.{names_of}
use Rattle.play.proofs.ScriptsOpen.{other_err, script_opens}
use Rattle.play.proofs.RecoveriesTold.{ends_in, no_recovery, tells_recovery}
use Rattle.play.proofs.recovery_lines.escape.Goals as goal

pub returns-in-Err-clause-refused : goal.returns-in-Err-clause-refused
returns-in-Err-clause-refused c = λ number is.
    absurd (script_opens _ c.in_ok-opening.field-0 c.in_ok-opening.ensures.script (c.in-Err.ensures.bad number (other_err c.in-Err.error _ is)))

pub returns-in_err-events-clause-idle : goal.returns-in_err-events-clause-idle
returns-in_err-events-clause-idle c = λ is.
    let whole : c.play_all.new.played.world.losses ≡ 0 = omega arith in
    no_recovery c.from_residual-in_err-events.result c.in_err-events.field-0.0 c.args.text.now c.args.members.now c.args.client.now c.play_all.new.played.world
    (ends_in c.args.text.now c.new-transcript.result.items c.play_all.new.transcript.items c.in_ok-opening.field-0 c.in-Ok.played.world c.play_all.new.played.world
    (names_of c.in-Ok.played.recipients.items) c.as_slice.result.now c.in_ok-opening.ensures.script c.in-Ok.ensures.opens
    c.in-Ok.ensures.named c.as_slice.ensures.value c.in_ok-play_all.ensures.lines whole)
    c.from_residual-in_err-events.ensures.1 c.in_err-events.ensures.idle is

pub returns-clause-written : goal.returns-clause-written
returns-clause-written c =
    let whole : c.play_all.new.played.world.losses ≡ 0 = omega arith in
    tells_recovery c.write_events.result c.args.text.now c.args.members.now c.args.client.now c.args.way.now.items c.write_events.new.way.items c.play_all.new.played.world c.in_ok-events.events.items
    c.as_slice-2.result.now
    (ends_in c.args.text.now c.new-transcript.result.items c.play_all.new.transcript.items c.in_ok-opening.field-0 c.in-Ok.played.world c.play_all.new.played.world
    (names_of c.in-Ok.played.recipients.items) c.as_slice.result.now c.in_ok-opening.ensures.script c.in-Ok.ensures.opens
    c.in-Ok.ensures.named c.as_slice.ensures.value c.in_ok-play_all.ensures.lines whole)
    c.in_ok-events.ensures.can c.in_ok-events.ensures.leads_out c.as_slice-2.ensures.value c.write_events.ensures.lines
