use Rattle.std.proofs.Common.{rules}
use Rattle.packet_base.specs.QoS.{qos_number}
use Rattle.command_line.proofs.job_matches.qos.Goals as goal

pub returns-in_err-number-clause-missing : goal.returns-in_err-number-clause-missing
returns-in_err-number-clause-missing c same qos has =
    c.in_err-number.ensures.missing (search rules) (qos_number qos) has
