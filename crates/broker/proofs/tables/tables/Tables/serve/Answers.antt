-- A violation ends the connection, and what is left is a PINGREQ.
use Rattle.std.proofs.Common.{◌≡◌, ◌∙◌, ◌++◌, ap, sym}
use Rattle.packet.specs.declared.packet.Packet.TheVariants as packets
use Rattle.broker_spec.specs.declared.command.Command.TheVariants as commands
use Rattle.broker.specs.tables.Tables.{stepped}
use Rattle.broker.proofs.of_tables.Packets.{violation_of, pingreq_of, only_pingreq}
use Rattle.broker.proofs.tables.tables.Tables.serve.Goals as goal

pub returns-then-ends_connection-clause-step : goal.returns-then-ends_connection-clause-step
returns-then-ends_connection-clause-step c =
    record {
      state = c.in_ok-close.ensures.state
          ∙ sym (ap (λ p. p.0)
          (violation_of c.args.self.now c.args.connection c.args.client.now c.args.packet.now c.requires.consistent c.requires.served
          (sym c.ends_connection.ensures ∙ c.if-ends_connection.true)));
      outputs = c.in_ok-close.ensures.outputs
          ∙ ap (λ given. c.args.out.now.items ++ given)
          (sym (ap (λ p. p.1)
          (violation_of c.args.self.now c.args.connection c.args.client.now c.args.packet.now c.requires.consistent c.requires.served
          (sym c.ends_connection.ensures ∙ c.if-ends_connection.true))));
    }

pub returns-in_ok-push-in_default : goal.returns-in_ok-push-in_default
returns-in_ok-push-in_default c =
    let ping : c.args.packet.now ≡ packets.Pingreq
    = only_pingreq c.args.packet.now (sym c.is_handshake.ensures ∙ c.if-is_handshake.false) (sym c.ends_connection.ensures ∙ c.if-ends_connection.false)
    c.in_default.not-Publish c.in_default.not-Subscribe c.in_default.not-Unsubscribe in
    let is = ap (λ packet. stepped c.args.self.now (commands.Packet c.args.connection packet)) ping
    ∙ pingreq_of c.args.self.now c.args.connection c.args.client.now c.requires.consistent c.requires.served in
    record {
      step = record {
        state = sym (ap (λ p. p.0) is);
        outputs = c.in_ok-push-in_default.ensures.items ∙ ap (λ given. c.args.out.now.items ++ given) (sym (ap (λ p. p.1) is));
      };
      tied = c.requires.consistent.tied;
    }
