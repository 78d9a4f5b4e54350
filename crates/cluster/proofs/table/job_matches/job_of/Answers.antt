use Rattle.std.proofs.Common.{rules, refl}
use Rattle.std.specs.Box.{box_value}
use Rattle.clap.specs.Words.{found_of, rows_of}
use Rattle.clap.specs.declared.parser.matches.ArgMatches.TheViews.{out-ArgMatches, out-SubCommand}
use Rattle.cluster.proofs.of_table.NodeAlone.{node_alone}
use Rattle.cluster.proofs.table.job_matches.job_of.Goals as goal

pub returns-in_err-node-clause-missing : goal.returns-in_err-node-clause-missing
returns-in_err-node-clause-missing c same job is =
    node_alone (λ b. (out-SubCommand (box_value b)).name.now) (λ b. rows_of (found_of (out-SubCommand (box_value b)).matches))
    (out-ArgMatches c.args.matches.now).subcommand _ job (c.in-Some.ensures.found.0 refl) c.in-Some.ensures.rows
    (c.in_err-node.ensures.missing (search rules)) is
