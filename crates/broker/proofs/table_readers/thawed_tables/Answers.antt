use Rattle.std.proofs.Common.{◌∙◌, arith}
use Rattle.std.proofs.lemmas.Result.{IfOk-at_ok}
use Rattle.broker_base.specs.form.FormTheorems.{IsUsualState}
use Rattle.broker.proofs.PutAnew.{put_anew}
use Rattle.broker.proofs.table_readers.thawed_tables.Goals as goal

pub returns-clause-tied : goal.returns-clause-tied
returns-clause-tied c =
    let usual = IfOk-at_ok IsUsualState c.in_ok-window.ensures.exact
    (c.thawed_is_in_range.ensures c.args.bytes.now (λ i. omega (arith, c.type_inv.bytes i))) in
    record {
      owners = c.in_ok-window.ensures.owned;
      index = c.in-Ok.ensures.content
          ∙ put_anew c.in_ok-window.rows.sessions.entries usual.0.sound.by_client usual.0.sound.sessions;
    }
