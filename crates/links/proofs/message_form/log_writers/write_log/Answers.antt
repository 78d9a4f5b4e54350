use Rattle.std.proofs.Common.{ℕ, ◌<◌, subst, List, ◌++◌, length, ap, ◌∙◌}
use Rattle.std.specs.List.{flat_map}
use Rattle.broker_spec.specs.declared.command.Command.{Command}
use Rattle.links.specs.message_form.Numbers.{wide_number}
use Rattle.links.specs.message_form.Messages.{sized_command_bytes}
use Rattle.links.proofs.of_message_form.Appended.{on_ok, five}
use Rattle.links.proofs.of_message_form.Rooms.{log_lacks, on_err_both}
use Rattle.links.proofs.message_form.log_writers.write_log.Goals as goal

pub returns-clause-ok : goal.returns-clause-ok
returns-clause-ok c =
    let old = c.args.bytes.now.items in
    let m = c.write_wide_number.new.bytes.items in
    let n = c.write_wide_number-2.new.bytes.items in
    let o = c.write_bytes.new.bytes.items in
    let p = c.write_wide_number-3.new.bytes.items in
    let log = c.args.log.now in
    on_ok c.write_commands.result _ _ (λ h.
    five old (wide_number log.base) (wide_number (length log.snapshot)) log.snapshot (wide_number (length log.rest)) (flat_map sized_command_bytes log.rest) m n o p _
    (c.in_ok-write_wide_number.ensures.ok.items ∙ ap (λ (z : ℕ). old ++ wide_number z) c.base.ensures.base)
    (c.in_ok-write_wide_number-2.ensures.ok.items ∙ ap (λ (z : List ℕ). m ++ wide_number (length z)) c.snapshot.ensures)
    (c.in_ok-write_bytes.ensures.ok.items ∙ ap (λ (z : List ℕ). n ++ z) c.snapshot-2.ensures)
    (c.in_ok-write_wide_number-3.ensures.ok.items ∙ ap (λ (z : List Command). o ++ wide_number (length z)) c.rest.ensures)
    (h ∙ ap (λ (z : List Command). p ++ flat_map sized_command_bytes z) c.rest-2.ensures)) c.write_commands.ensures.ok

pub returns-clause-err : goal.returns-clause-err
returns-clause-err c =
    on_err_both c.write_commands.result _ _ _ (λ kept some.
    log_lacks c.args.bytes.now c.write_wide_number.new.bytes c.write_wide_number-2.new.bytes c.write_bytes.new.bytes c.write_wide_number-3.new.bytes c.write_commands.new.bytes
    c.base.result (length c.snapshot.result.now) (length c.rest.result.now) c.snapshot-2.result.now c.args.log.now
    c.base.ensures.base (ap (λ (z : List ℕ). length z) c.snapshot.ensures) c.snapshot-2.ensures (ap (λ (z : List Command). length z) c.rest.ensures)
    c.in_ok-write_wide_number.ensures.ok c.in_ok-write_wide_number-2.ensures.ok c.in_ok-write_bytes.ensures.ok c.in_ok-write_wide_number-3.ensures.ok
    kept (subst (λ (z : List Command). 0 < length z) c.rest-2.ensures some)) c.write_commands.ensures.kept c.write_commands.ensures.some
