use Rattle.std.proofs.Common.{inr}
use Rattle.std.proofs.lemmas.Result.{err_from_is_err_and}
use Rattle.packet_base.proofs.ItemsInALoop.{began_so, read_well}
use Rattle.session_base.proofs.ReadingLoops.{ends, goes_on, stops_so, refused_so}
use Rattle.links.specs.message_form.LogReading.{anything, sized_command_at}
use Rattle.links.proofs.of_message_form.FewCommands.{first_read}
use Rattle.links.proofs.message_form.log_readers.read_counted.Goals as goal

pub returns-in_err-command-clause-exact : goal.returns-in_err-command-clause-exact
returns-in_err-command-clause-exact c =
    let p = err_from_is_err_and c.from_residual.result c.from_residual.ensures.1 in
    rw (p.1, p.2) (stops_so anything sized_command_at c.args.count c.loop.counter c.loop.commands.items c.loop.reader _ _ c.loop-test.true c.loop.invariant.0 c.in_err-command.ensures.exact)

pub loop-preserved : goal.loop-preserved
loop-preserved c = (
  goes_on anything sized_command_at c.args.count c.loop.counter c.loop.commands.items _ c.loop.reader _ _ _ c.loop-test.true c.loop.invariant.0 c.in_ok-command.ensures.exact
      c.in_ok-add_command.ensures.0 c.in_ok-add_command.ensures.1,
  inr (began_so sized_command_at c.args.reader.now c.loop.reader (read_well c.in_ok-command.ensures.exact) c.loop.invariant.1),
)

pub returns-clause-exact : goal.returns-clause-exact
returns-clause-exact c = ends anything sized_command_at c.args.count c.loop.counter c.loop.commands.items c.loop.reader _ c.loop-test.false c.loop.invariant.0

pub returns-in_err-add_command-clause-exact : goal.returns-in_err-add_command-clause-exact
returns-in_err-add_command-clause-exact c =
    let p = err_from_is_err_and c.from_residual-in_err-add_command.result c.from_residual-in_err-add_command.ensures.1 in
    rw (p.1, p.2) (refused_so anything sized_command_at c.args.count c.loop.counter c.loop.commands.items _ c.loop.reader _ _ _ _ c.loop-test.true c.loop.invariant.0 c.in_ok-command.ensures.exact c.in_err-add_command.ensures)

pub returns-in_err-add_command-clause-memory : goal.returns-in_err-add_command-clause-memory
returns-in_err-add_command-clause-memory c memory =
    first_read c.args.reader.now (began_so sized_command_at c.args.reader.now c.loop.reader (read_well c.in_ok-command.ensures.exact) c.loop.invariant.1)
