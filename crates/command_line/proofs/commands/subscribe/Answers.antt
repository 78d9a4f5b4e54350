use Rattle.std.proofs.Common.{codes}
use Rattle.clap.specs.Words.{new_app, with_rule}
use Rattle.command_line.specs.Program.{address_rule, count_rule, qos_rule, required_option, tries_rule}
use Rattle.command_line.proofs.commands.subscribe.Goals as goal

pub returns : goal.returns
returns c =
    let with_id = c.in_ok-command.ensures (new_app (codes "sub")) (required_option (codes "id")) c.bare-command.ensures c.id.ensures in
    let with_filter = c.in_ok-command-2.ensures (with_rule (new_app (codes "sub")) (required_option (codes "id"))) (required_option (codes "filter")) with_id c.filter.ensures in
    let with_qos = c.in_ok-command-3.ensures (with_rule (with_rule (new_app (codes "sub")) (required_option (codes "id"))) (required_option (codes "filter"))) qos_rule with_filter c.qos.ensures in
    let with_count = c.in_ok-command-4.ensures (with_rule (with_rule (with_rule (new_app (codes "sub")) (required_option (codes "id"))) (required_option (codes "filter"))) qos_rule) count_rule with_qos c.count.ensures in
    let with_tries = c.in_ok-command-5.ensures (with_rule (with_rule (with_rule (with_rule (new_app (codes "sub")) (required_option (codes "id"))) (required_option (codes "filter"))) qos_rule) count_rule) tries_rule with_count c.tries.ensures in
    c.add-6.ensures (with_rule (with_rule (with_rule (with_rule (with_rule (new_app (codes "sub")) (required_option (codes "id"))) (required_option (codes "filter"))) qos_rule) count_rule) tries_rule) address_rule with_tries c.addresses.ensures
