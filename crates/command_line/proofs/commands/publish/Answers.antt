use Rattle.std.proofs.Common.{codes}
use Rattle.clap.specs.Words.{new_app, with_rule}
use Rattle.command_line.specs.Program.{address_rule, qos_rule, required_option, retain_rule, tries_rule}
use Rattle.command_line.proofs.commands.publish.Goals as goal

pub returns : goal.returns
returns c =
    let with_id = c.in_ok-command.ensures (new_app (codes "pub")) (required_option (codes "id")) c.bare-command.ensures c.id.ensures in
    let with_topic = c.in_ok-command-2.ensures (with_rule (new_app (codes "pub")) (required_option (codes "id"))) (required_option (codes "topic")) with_id c.topic.ensures in
    let with_qos = c.in_ok-command-3.ensures (with_rule (with_rule (new_app (codes "pub")) (required_option (codes "id"))) (required_option (codes "topic"))) qos_rule with_topic c.qos.ensures in
    let with_message = c.in_ok-command-4.ensures (with_rule (with_rule (with_rule (new_app (codes "pub")) (required_option (codes "id"))) (required_option (codes "topic"))) qos_rule) (required_option (codes "message")) with_qos c.message.ensures in
    let with_retain = c.in_ok-command-5.ensures (with_rule (with_rule (with_rule (with_rule (new_app (codes "pub")) (required_option (codes "id"))) (required_option (codes "topic"))) qos_rule) (required_option (codes "message"))) retain_rule with_message c.retain.ensures in
    let with_tries = c.in_ok-command-6.ensures (with_rule (with_rule (with_rule (with_rule (with_rule (new_app (codes "pub")) (required_option (codes "id"))) (required_option (codes "topic"))) qos_rule) (required_option (codes "message"))) retain_rule) tries_rule with_retain c.tries.ensures in
    c.add-7.ensures (with_rule (with_rule (with_rule (with_rule (with_rule (with_rule (new_app (codes "pub")) (required_option (codes "id"))) (required_option (codes "topic"))) qos_rule) (required_option (codes "message"))) retain_rule) tries_rule) address_rule with_tries c.addresses.ensures
