-- A packet on a connection without a client does nothing.
use Rattle.std.proofs.Common.{◌∙◌, ◌++◌, ap, sym}
use Rattle.std.proofs.lemmas.List.{append-nil}
use Rattle.broker.proofs.of_tables.Packets.{nobodys_of}
use Rattle.broker.proofs.tables.tables.Tables.handle_packet.Goals as goal

pub returns-in-None-clause-step : goal.returns-in-None-clause-step
returns-in-None-clause-step c =
    record {
      state = sym (ap (λ p. p.0) (nobodys_of c.args.self.now c.args.connection c.args.packet.now (sym c.in_ok-client.ensures.found ∙ c.in-None.is)));
      outputs = sym (append-nil c.args.out.now.items)
          ∙ ap (λ given. c.args.out.now.items ++ given)
          (sym (ap (λ p. p.1) (nobodys_of c.args.self.now c.args.connection c.args.packet.now (sym c.in_ok-client.ensures.found ∙ c.in-None.is))));
    }
