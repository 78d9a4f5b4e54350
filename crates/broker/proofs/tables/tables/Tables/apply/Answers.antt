-- A Lost and a Start have no answers.
use Rattle.std.proofs.Common.{◌∙◌, ◌++◌, ap, sym}
use Rattle.std.proofs.lemmas.List.{append-nil}
use Rattle.broker.specs.tables.Tables.{stepped}
use Rattle.broker.proofs.of_tables.Commands.{quiet_loss, quiet_start}
use Rattle.broker.proofs.tables.tables.Tables.apply.Goals as goal

pub returns-in-Lost-clause-step : goal.returns-in-Lost-clause-step
returns-in-Lost-clause-step c =
    record {
      state = c.end_connection.ensures.state
          ∙ ap (λ command. (stepped c.args.self.now command).0) (sym c.in-Lost.is);
      outputs = sym (append-nil c.args.out.now.items)
          ∙ ap (λ given. c.args.out.now.items ++ given) (sym (quiet_loss c.args.self.now c.in-Lost.connection))
          ∙ ap (λ command. c.args.out.now.items ++ (stepped c.args.self.now command).1) (sym c.in-Lost.is);
    }

pub returns-in-Start-clause-step : goal.returns-in-Start-clause-step
returns-in-Start-clause-step c =
    record {
      state = c.start.ensures.state
          ∙ ap (λ command. (stepped c.args.self.now command).0) (sym c.in-Start.is);
      outputs = sym (append-nil c.args.out.now.items)
          ∙ ap (λ given. c.args.out.now.items ++ given) (sym (quiet_start c.args.self.now c.in-Start.ballot))
          ∙ ap (λ command. c.args.out.now.items ++ (stepped c.args.self.now command).1) (sym c.in-Start.is);
    }
