-- One row is inserted, and the maps follow.
use Rattle.std.proofs.Common.{◌∙◌, ◌++◌, ap, sym}
use Rattle.std.specs.BTreeMap.{insert_entry}
use Rattle.subs_base.specs.Content.{without_client}
use Rattle.broker_spec.specs.Place.{by_bytes}
use Rattle.broker.proofs.of_tables.Connects.{beginning_of, ties_of_beginning}
use Rattle.broker.proofs.tables.tables.Tables.begin.Goals as goal

pub returns-clause-step : goal.returns-clause-step
returns-clause-step c =
    let t = c.args.self.now in
    record {
      state = (λ i. record {
        window = c.in_ok-take_client_over.ensures.others.window i;
        sessions = (c.in_ok-insert.ensures.entries
            ∙ (λ j. insert_entry by_bytes (c.in_ok-take_client_over.ensures.others.sessions j) (c.in_ok-clone.ensures.cases j) (c.new-row.ensures j))) i;
        retained = c.in_ok-take_client_over.ensures.others.retained i;
      })
          ∙ sym (ap (λ p. p.0)
          (beginning_of t c.args.connection c.args.client.now c.args.clean c.requires.consistent c.requires.nobodys c.requires.room c.requires.begins));
      outputs = c.in_ok-take_client_over.ensures.outputs
          ∙ ap (λ given. c.args.out.now.items ++ given)
          (sym (ap (λ p. p.1)
          (beginning_of t c.args.connection c.args.client.now c.args.clean c.requires.consistent c.requires.nobodys c.requires.room c.requires.begins)));
    }

pub returns-clause-tied : goal.returns-clause-tied
returns-clause-tied c =
    let t = c.args.self.now in
    ties_of_beginning t c.args.connection c.args.client.now c.args.clean c.requires.consistent c.requires.nobodys _
    (c.in_ok-insert.ensures.entries
    ∙ (λ j. insert_entry by_bytes (c.in_ok-take_client_over.ensures.others.sessions j) (c.in_ok-clone.ensures.cases j) (c.new-row.ensures j)))
    c.in_ok-take_client_over.ensures.owners
    (c.drop_client.ensures ∙ ap (λ content. without_client content c.args.client.now) c.in_ok-take_client_over.ensures.others.index)
