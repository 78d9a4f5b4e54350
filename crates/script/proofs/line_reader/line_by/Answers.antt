use Rattle.script.specs.Fields.{texts}
use Rattle.script.proofs.ByWord.{by_assign, by_deliver, by_tick, by_cut, by_crash, by_open, by_up, by_down, by_abandon, by_disconnect, by_none, by_notice, by_publish, by_subscribe, by_unsubscribe, by_expel, form_by, value_by}
use Rattle.script.proofs.line_reader.line_by.Goals as goal

pub returns-in-assign-clause-value : goal.returns-in-assign-clause-value
returns-in-assign-clause-value c =
    value_by c.args.word.now _ (texts c.args.fields.now) _ _ c.in-assign.is (by_assign (texts c.args.fields.now)) c.assign.ensures.value

pub returns-in-assign-clause-form : goal.returns-in-assign-clause-form
returns-in-assign-clause-form c form =
    form_by c.args.word.now _ (texts c.args.fields.now) _ c.in-assign.is (by_assign (texts c.args.fields.now)) (c.assign.ensures.form form)

pub returns-in-deliver-clause-value : goal.returns-in-deliver-clause-value
returns-in-deliver-clause-value c =
    value_by c.args.word.now _ (texts c.args.fields.now) _ _ c.in-deliver.is (by_deliver (texts c.args.fields.now)) c.deliver.ensures.value

pub returns-in-deliver-clause-form : goal.returns-in-deliver-clause-form
returns-in-deliver-clause-form c form =
    form_by c.args.word.now _ (texts c.args.fields.now) _ c.in-deliver.is (by_deliver (texts c.args.fields.now)) (c.deliver.ensures.form form)

pub returns-in-tick-clause-value : goal.returns-in-tick-clause-value
returns-in-tick-clause-value c =
    value_by c.args.word.now _ (texts c.args.fields.now) _ _ c.in-tick.is (by_tick (texts c.args.fields.now)) c.tick.ensures.value

pub returns-in-tick-clause-form : goal.returns-in-tick-clause-form
returns-in-tick-clause-form c form =
    form_by c.args.word.now _ (texts c.args.fields.now) _ c.in-tick.is (by_tick (texts c.args.fields.now)) (c.tick.ensures.form form)

pub returns-in-cut-clause-value : goal.returns-in-cut-clause-value
returns-in-cut-clause-value c =
    value_by c.args.word.now _ (texts c.args.fields.now) _ _ c.in-cut.is (by_cut (texts c.args.fields.now)) c.cut.ensures.value

pub returns-in-cut-clause-form : goal.returns-in-cut-clause-form
returns-in-cut-clause-form c form =
    form_by c.args.word.now _ (texts c.args.fields.now) _ c.in-cut.is (by_cut (texts c.args.fields.now)) (c.cut.ensures.form form)

pub returns-in-crash-clause-value : goal.returns-in-crash-clause-value
returns-in-crash-clause-value c =
    value_by c.args.word.now _ (texts c.args.fields.now) _ _ c.in-crash.is (by_crash (texts c.args.fields.now)) c.crash.ensures.value

pub returns-in-crash-clause-form : goal.returns-in-crash-clause-form
returns-in-crash-clause-form c form =
    form_by c.args.word.now _ (texts c.args.fields.now) _ c.in-crash.is (by_crash (texts c.args.fields.now)) (c.crash.ensures.form form)

pub returns-in-open-clause-value : goal.returns-in-open-clause-value
returns-in-open-clause-value c =
    value_by c.args.word.now _ (texts c.args.fields.now) _ _ c.in-open.is (by_open (texts c.args.fields.now)) c.open_connection.ensures.value

pub returns-in-open-clause-form : goal.returns-in-open-clause-form
returns-in-open-clause-form c form =
    form_by c.args.word.now _ (texts c.args.fields.now) _ c.in-open.is (by_open (texts c.args.fields.now)) (c.open_connection.ensures.form form)

pub returns-in-up-clause-value : goal.returns-in-up-clause-value
returns-in-up-clause-value c =
    value_by c.args.word.now _ (texts c.args.fields.now) _ _ c.in-up.is (by_up (texts c.args.fields.now)) c.carry_up.ensures.value

pub returns-in-up-clause-form : goal.returns-in-up-clause-form
returns-in-up-clause-form c form =
    form_by c.args.word.now _ (texts c.args.fields.now) _ c.in-up.is (by_up (texts c.args.fields.now)) (c.carry_up.ensures.form form)

pub returns-in-down-clause-value : goal.returns-in-down-clause-value
returns-in-down-clause-value c =
    value_by c.args.word.now _ (texts c.args.fields.now) _ _ c.in-down.is (by_down (texts c.args.fields.now)) c.carry_down.ensures.value

pub returns-in-down-clause-form : goal.returns-in-down-clause-form
returns-in-down-clause-form c form =
    form_by c.args.word.now _ (texts c.args.fields.now) _ c.in-down.is (by_down (texts c.args.fields.now)) (c.carry_down.ensures.form form)

pub returns-in-abandon-clause-value : goal.returns-in-abandon-clause-value
returns-in-abandon-clause-value c =
    value_by c.args.word.now _ (texts c.args.fields.now) _ _ c.in-abandon.is (by_abandon (texts c.args.fields.now)) c.abandon.ensures.value

pub returns-in-abandon-clause-form : goal.returns-in-abandon-clause-form
returns-in-abandon-clause-form c form =
    form_by c.args.word.now _ (texts c.args.fields.now) _ c.in-abandon.is (by_abandon (texts c.args.fields.now)) (c.abandon.ensures.form form)

pub returns-in-disconnect-clause-value : goal.returns-in-disconnect-clause-value
returns-in-disconnect-clause-value c =
    value_by c.args.word.now _ (texts c.args.fields.now) _ _ c.in-disconnect.is (by_disconnect (texts c.args.fields.now)) c.disconnect.ensures.value

pub returns-in-disconnect-clause-form : goal.returns-in-disconnect-clause-form
returns-in-disconnect-clause-form c form =
    form_by c.args.word.now _ (texts c.args.fields.now) _ c.in-disconnect.is (by_disconnect (texts c.args.fields.now)) (c.disconnect.ensures.form form)

pub returns-in-notice-clause-value : goal.returns-in-notice-clause-value
returns-in-notice-clause-value c =
    value_by c.args.word.now _ (texts c.args.fields.now) _ _ c.in-notice.is (by_notice (texts c.args.fields.now)) c.notice.ensures.value

pub returns-in-notice-clause-form : goal.returns-in-notice-clause-form
returns-in-notice-clause-form c form =
    form_by c.args.word.now _ (texts c.args.fields.now) _ c.in-notice.is (by_notice (texts c.args.fields.now)) (c.notice.ensures.form form)

pub returns-in-publish-clause-value : goal.returns-in-publish-clause-value
returns-in-publish-clause-value c =
    value_by c.args.word.now _ (texts c.args.fields.now) _ _ c.in-publish.is (by_publish (texts c.args.fields.now)) c.publish.ensures.value

pub returns-in-publish-clause-form : goal.returns-in-publish-clause-form
returns-in-publish-clause-form c form =
    form_by c.args.word.now _ (texts c.args.fields.now) _ c.in-publish.is (by_publish (texts c.args.fields.now)) (c.publish.ensures.form form)

pub returns-in-subscribe-clause-value : goal.returns-in-subscribe-clause-value
returns-in-subscribe-clause-value c =
    value_by c.args.word.now _ (texts c.args.fields.now) _ _ c.in-subscribe.is (by_subscribe (texts c.args.fields.now)) c.subscribe.ensures.value

pub returns-in-subscribe-clause-form : goal.returns-in-subscribe-clause-form
returns-in-subscribe-clause-form c form =
    form_by c.args.word.now _ (texts c.args.fields.now) _ c.in-subscribe.is (by_subscribe (texts c.args.fields.now)) (c.subscribe.ensures.form form)

pub returns-in-unsubscribe-clause-value : goal.returns-in-unsubscribe-clause-value
returns-in-unsubscribe-clause-value c =
    value_by c.args.word.now _ (texts c.args.fields.now) _ _ c.in-unsubscribe.is (by_unsubscribe (texts c.args.fields.now)) c.unsubscribe.ensures.value

pub returns-in-unsubscribe-clause-form : goal.returns-in-unsubscribe-clause-form
returns-in-unsubscribe-clause-form c form =
    form_by c.args.word.now _ (texts c.args.fields.now) _ c.in-unsubscribe.is (by_unsubscribe (texts c.args.fields.now)) (c.unsubscribe.ensures.form form)

pub returns-in-expel-clause-value : goal.returns-in-expel-clause-value
returns-in-expel-clause-value c =
    value_by c.args.word.now _ (texts c.args.fields.now) _ _ c.in-expel.is (by_expel (texts c.args.fields.now)) c.expel.ensures.value

pub returns-in-expel-clause-form : goal.returns-in-expel-clause-form
returns-in-expel-clause-form c form =
    form_by c.args.word.now _ (texts c.args.fields.now) _ c.in-expel.is (by_expel (texts c.args.fields.now)) (c.expel.ensures.form form)

pub returns-in_default-clause-form : goal.returns-in_default-clause-form
returns-in_default-clause-form c same =
    by_none c.args.word.now (texts c.args.fields.now) c.in_default.not-assign c.in_default.not-deliver c.in_default.not-tick c.in_default.not-cut c.in_default.not-crash c.in_default.not-open c.in_default.not-up c.in_default.not-down c.in_default.not-abandon c.in_default.not-disconnect c.in_default.not-notice c.in_default.not-publish c.in_default.not-subscribe c.in_default.not-unsubscribe c.in_default.not-expel
