-- On a client's current connection it is a violation, and a full broker refuses it.
use Rattle.std.proofs.Common.{◌∙◌, ◌++◌, ap, sym}
use Rattle.broker.specs.tables.Tables.{state_in}
use Rattle.broker.proofs.of_tables.Connects.{begins_so, further_by, full_of, not_there, resumes_so, turned_so}
use Rattle.broker.proofs.tables.tables.Tables.connect.Goals as goal

pub returns-then-contains_key-clause-step : goal.returns-then-contains_key-clause-step
returns-then-contains_key-clause-step c =
    record {
      state = c.in_ok-close.ensures.state
          ∙ sym (ap (λ p. p.0)
          (further_by c.args.self.now c.args.connection c.args.client.now c.args.clean c.requires (sym c.contains_key.ensures ∙ c.if-contains_key.true)));
      outputs = c.in_ok-close.ensures.outputs
          ∙ ap (λ given. c.args.out.now.items ++ given)
          (sym (ap (λ p. p.1)
          (further_by c.args.self.now c.args.connection c.args.client.now c.args.clean c.requires (sym c.contains_key.ensures ∙ c.if-contains_key.true))));
    }

pub returns-in_ok-turn_away-in-Full-clause-step : goal.returns-in_ok-turn_away-in-Full-clause-step
returns-in_ok-turn_away-in-Full-clause-step c =
    record {
      state = sym (ap (λ p. p.0)
          (full_of c.args.self.now c.args.connection c.args.client.now c.args.clean c.requires
          (not_there c.args.self.now c.args.connection c.requires (sym c.contains_key.ensures ∙ c.if-contains_key.false))
          (turned_so (state_in c.args.self.now) c.args.client.now c.args.clean (sym c.outcome_of.ensures ∙ c.in-Full.is))));
      outputs = c.in_ok-turn_away-in-Full.ensures
          ∙ ap (λ given. c.args.out.now.items ++ given)
          (sym (ap (λ p. p.1)
          (full_of c.args.self.now c.args.connection c.args.client.now c.args.clean c.requires
          (not_there c.args.self.now c.args.connection c.requires (sym c.contains_key.ensures ∙ c.if-contains_key.false))
          (turned_so (state_in c.args.self.now) c.args.client.now c.args.clean (sym c.outcome_of.ensures ∙ c.in-Full.is)))));
    }

pub begin-requires-clause-room : goal.begin-requires-clause-room
begin-requires-clause-room c = (begins_so (state_in c.args.self.now) c.args.client.now c.args.clean (sym c.outcome_of.ensures ∙ c.in-Begins.is)).1

pub begin-requires-clause-begins : goal.begin-requires-clause-begins
begin-requires-clause-begins c = (begins_so (state_in c.args.self.now) c.args.client.now c.args.clean (sym c.outcome_of.ensures ∙ c.in-Begins.is)).0

pub resume-requires-clause-resumes : goal.resume-requires-clause-resumes
resume-requires-clause-resumes c = resumes_so (state_in c.args.self.now) c.args.client.now c.args.clean (sym c.outcome_of.ensures ∙ c.in-Resumes.is)
