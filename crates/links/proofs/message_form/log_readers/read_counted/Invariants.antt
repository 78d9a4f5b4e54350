-- What is read and what is left are all commands, and the first one was read once there is one.
use Rattle.std.proofs.Common.{◌≡◌, ◌-◌, []}
use Rattle.packet_base.proofs.ItemsInALoop.{Began}
use Rattle.session_base.specs.Counted.{items_after}
use Rattle.links.specs.message_form.LogReading.{anything, sized_command_at}
use Rattle.links.proofs.message_form.log_readers.read_counted.Given as goal

abbrev pub invariant-loop : goal.invariant-loop
invariant-loop l =
    (items_after anything sized_command_at (l.count - l.counter) l.commands.items l.reader ≡ items_after anything sized_command_at l.count [] l.initial.reader)
    × Began sized_command_at l.initial.reader l.reader
