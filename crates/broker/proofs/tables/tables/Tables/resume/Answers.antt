-- The client's session continues, and the map of connections follows.
use Rattle.std.proofs.Common.{◌∙◌, ◌++◌, ap, sym, true, false, [], ◌∷◌}
use Rattle.std.proofs.lemmas.List.{append_assoc}
use Rattle.std.specs.Prelude.{map}
use Rattle.broker_spec.specs.Answers.{close_outputs, welcome}
use Rattle.broker_spec.specs.declared.command.Output.TheVariants as outputs
use Rattle.broker_base.specs.State.{session_in}
use Rattle.broker_base.specs.StepAnswers.{connection_of}
use Rattle.broker_base.specs.SessionStep.{session_resumed}
use Rattle.broker_base.specs.rows.Published.{session_changed}
use Rattle.broker.specs.one_session.OneSession.{sent_to_resumed}
use Rattle.broker.specs.tables.Tables.{owners_at}
use Rattle.broker.proofs.of_tables.Connects.{resuming_of, ties_of_resuming}
use Rattle.broker.proofs.tables.tables.Tables.resume.Goals as goal

pub returns-clause-step : goal.returns-clause-step
returns-clause-step c =
    record {
      state = (λ i. record {
        window = (c.in_ok-resume_row.ensures.others.window ∙ c.in_ok-take_client_over.ensures.others.window) i;
        sessions = (c.in_ok-resume_row.ensures.sessions
            ∙ (λ j. session_changed c.args.client.now (session_resumed (c.in_ok-take_client_over.ensures.others.window j) (c.args.connection, false)) (c.in_ok-take_client_over.ensures.others.sessions j))) i;
        retained = (c.in_ok-resume_row.ensures.others.retained ∙ c.in_ok-take_client_over.ensures.others.retained) i;
      })
          ∙ sym (ap (λ p. p.0)
          (resuming_of c.args.self.now c.args.connection c.args.client.now c.args.clean c.requires.consistent c.requires.nobodys c.requires.resumes));
      outputs = let t = c.args.self.now in
          let closes = close_outputs (connection_of (session_in c.args.client.now t.sessions.entries)) in
          let sent = map (outputs.Send c.args.connection) (sent_to_resumed t.window (session_in c.args.client.now t.sessions.entries)) in
          c.in_ok-resume_row.ensures.sends
          ∙ (λ i. c.in_ok-take_client_over.ensures.outputs i
          ++ map (outputs.Send c.args.connection) (sent_to_resumed (c.in_ok-take_client_over.ensures.others.window i) (session_in c.args.client.now (c.in_ok-take_client_over.ensures.others.sessions i))))
          ∙ append_assoc c.args.out.now.items (closes ++ welcome c.args.connection true ∷ []) sent
          ∙ ap (λ given. c.args.out.now.items ++ given)
          (append_assoc closes (welcome c.args.connection true ∷ []) sent
          ∙ sym (ap (λ p. p.1)
          (resuming_of t c.args.connection c.args.client.now c.args.clean c.requires.consistent c.requires.nobodys c.requires.resumes)));
    }

pub returns-clause-tied : goal.returns-clause-tied
returns-clause-tied c =
    ties_of_resuming c.args.self.now c.args.connection c.args.client.now c.args.clean c.requires.consistent c.requires.nobodys _ c.requires.resumes
    (c.in_ok-resume_row.ensures.sessions
    ∙ (λ j. session_changed c.args.client.now (session_resumed (c.in_ok-take_client_over.ensures.others.window j) (c.args.connection, false)) (c.in_ok-take_client_over.ensures.others.sessions j)))
    (λ q. ap (λ entries. owners_at entries q) c.in_ok-resume_row.ensures.others.owners ∙ c.in_ok-take_client_over.ensures.owners q)
    (c.in_ok-resume_row.ensures.others.index ∙ c.in_ok-take_client_over.ensures.others.index)
