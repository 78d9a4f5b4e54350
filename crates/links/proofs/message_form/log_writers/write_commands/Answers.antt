use Rattle.std.proofs.Common.{refl}
use Rattle.std.proofs.lemmas.List.Elements.{recursion_from_All}
use Rattle.packet_base.proofs.ListsWritten.{written_more, seen_more, seen_all}
use Rattle.links.specs.message_form.Commands.{IsCommand}
use Rattle.links.specs.message_form.Messages.{sized_command_bytes}
use Rattle.links.proofs.of_message_form.Rooms.{at_err, kept_before}
use Rattle.links.proofs.message_form.log_writers.write_commands.Goals as goal

pub returns-in_err-write_sized_command-clause-kept : goal.returns-in_err-write_sized_command-clause-kept
returns-in_err-write_sized_command-clause-kept c =
    at_err c.from_residual.result _
    (kept_before c.args.bytes.now.items _ c.loop-command.bytes.items c.write_sized_command.new.bytes.items c.loop-command.invariant.written c.in_err-write_sized_command.ensures.kept)

pub loop-command-preserved : goal.loop-command-preserved
loop-command-preserved c = record {
  written = written_more sized_command_bytes c.args.commands.now c.loop-command.command-index c.command-item.result c.args.bytes.now.items
      c.loop-command.bytes.items c.write_sized_command.new.bytes.items c.loop-command-test.true c.command-item.is c.loop-command.invariant.written
      c.in_ok-write_sized_command.ensures.ok;
  fit = seen_more IsCommand c.args.commands.now c.loop-command.command-index c.command-item.result c.loop-command-test.true c.command-item.is
      c.loop-command.invariant.fit c.in_ok-write_sized_command.ensures.fits;
}

pub returns-clause-fits : goal.returns-clause-fits
returns-clause-fits c =
    recursion_from_All IsCommand c.args.commands.now
    (seen_all IsCommand c.args.commands.now c.args.commands.now c.loop-command.command-index c.loop-command-test.false refl c.loop-command.invariant.fit)
