-- The client's session is removed, and its connection has no client.
use Rattle.std.proofs.Common.{◌∙◌, ◌++◌, ap, sym}
use Rattle.std.proofs.lemmas.List.{append-nil}
use Rattle.broker_spec.specs.Answers.{close_outputs}
use Rattle.broker_base.specs.State.{Sessions}
use Rattle.broker_base.specs.StepAnswers.{connection_of}
use Rattle.broker.proofs.of_tables.Expulsions.{expelled, nobody_expelled, ties_expelled}
use Rattle.broker.proofs.tables.tables.Tables.expel.Goals as goal

pub returns-in_default-clause-step : goal.returns-in_default-clause-step
returns-in_default-clause-step c =
    record {
      state = sym (ap (λ p. p.0) (nobody_expelled c.args.self.now c.args.client.now (sym c.in_default.ensures.value)));
      outputs = sym (append-nil c.args.out.now.items)
          ∙ ap (λ given. c.args.out.now.items ++ given) (sym (ap (λ p. p.1) (nobody_expelled c.args.self.now c.args.client.now (sym c.in_default.ensures.value))));
    }

pub returns-clause-step : goal.returns-clause-step
returns-clause-step c =
    record {
      state = let t = c.args.self.now in
          ap (λ (rows : Sessions). record { window = t.window; sessions = rows; retained = t.retained }) c.remove.ensures.entries
          ∙ sym (ap (λ p. p.0) (expelled t c.args.client.now c.in-Some._row.now c.requires (sym c.in-Some.ensures.value)));
      outputs = c.in_ok-push_close.ensures.closes
          ∙ ap (λ given. c.args.out.now.items ++ given)
          (ap close_outputs (c.connection_of.ensures ∙ ap connection_of (sym c.in-Some.ensures.value))
          ∙ sym (ap (λ p. p.1) (expelled c.args.self.now c.args.client.now c.in-Some._row.now c.requires (sym c.in-Some.ensures.value))));
    }

pub returns-clause-tied : goal.returns-clause-tied
returns-clause-tied c =
    ties_expelled c.args.self.now _ c.args.client.now c.in-Some._row.now c.connection_of-left.result c.requires (sym c.in-Some.ensures.value)
    (c.connection_of-left.ensures ∙ ap connection_of (sym c.in-Some.ensures.value)) c.remove_owner.ensures c.remove.ensures.entries c.drop_client.ensures
