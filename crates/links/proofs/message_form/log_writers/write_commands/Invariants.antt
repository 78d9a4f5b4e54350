-- The commands so far are written, and in their ranges.
use Rattle.std.proofs.Common.{◌≡◌, ◌++◌, take}
use Rattle.std.specs.List.{flat_map, All}
use Rattle.links.specs.message_form.Commands.{IsCommand}
use Rattle.links.specs.message_form.Messages.{sized_command_bytes}
use Rattle.links.proofs.message_form.log_writers.write_commands.Given as goal

abbrev pub invariant-loop-command : goal.invariant-loop-command
invariant-loop-command l = record {
  written : l.bytes.items ≡ l.fn.bytes.items ++ flat_map sized_command_bytes (take l.command-index l.commands);
  fit : All IsCommand (take l.command-index l.commands);
}
