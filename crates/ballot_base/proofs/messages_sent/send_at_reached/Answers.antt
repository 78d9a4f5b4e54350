use Rattle.std.proofs.Common.{◌≤◌, arith}
use Rattle.ballot_base.proofs.KeptCommands.{command_at-below, command_at-found, command_at-past}
use Rattle.ballot_base.proofs.SendsJoin.{Sends-nothing}
use Rattle.ballot_base.proofs.messages_sent.send_at_reached.Goals as goal

pub returns-then-reached-base : goal.returns-then-reached-base
returns-then-reached-base g c =
    rw (command_at-below c.args.log.now c.args.reached.held (omega (arith, c.if-reached-base.true, c.base.ensures.base))) (Sends-nothing _)

pub returns-in-Some : goal.returns-in-Some
returns-in-Some g c =
    let kept : c.base-2.result ≤ c.args.reached.held = omega (arith, c.if-reached-base.false, c.base.ensures.base, c.base-2.ensures.base) in
    rw (command_at-found c.args.log.now c.args.reached.held c.base-2.result c.rest.result.now c.in-Some.command.now
    c.base-2.ensures.base c.rest.ensures kept c.in-Some.ensures.lookup.3.0 c.in-Some.ensures.lookup.1)
    c.send_append.ensures

pub returns-in-None : goal.returns-in-None
returns-in-None g c =
    let kept : c.base-2.result ≤ c.args.reached.held = omega (arith, c.if-reached-base.false, c.base.ensures.base, c.base-2.ensures.base) in
    rw (command_at-past c.args.log.now c.args.reached.held c.base-2.result c.rest.result.now
    c.base-2.ensures.base c.rest.ensures kept c.in-None.ensures.lookup.3) (Sends-nothing _)
