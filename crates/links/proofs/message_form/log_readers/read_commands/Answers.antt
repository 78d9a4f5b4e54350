use Rattle.std.proofs.Common.{◌≤◌, arith}
use Rattle.links.proofs.of_message_form.FewCommands.{read_few}
use Rattle.links.proofs.message_form.log_readers.read_commands.Goals as goal

pub returns-clause-few : goal.returns-clause-few
returns-clause-few c =
    let small : c.in_ok-count.count ≤ c.args.most = omega (arith, c.if-count-most.false) in
    read_few (λ commands. commands.items) c.read_counted.result c.in_ok-count.count c.args.most _ _ c.read_counted.ensures.exact small
