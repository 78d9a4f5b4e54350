-- A filter that was not held comes last.
use Rattle.std.proofs.Common.{◌≡◌, ◌∙◌, ap, sym, not, true}
use Rattle.session_base.specs.Subscriptions.{is_subscribed}
use Rattle.session.proofs.FilterSet.{kept_where, not_held, new_comes_last}
use Rattle.session.proofs.subscriptions.Subscriptions.add.Goals as goal

pub returns-in-Ok : goal.returns-in-Ok
returns-in-Ok c =
    let new : not (is_subscribed c.args.filter c.args.self.now) ≡ true = ap not (sym c.contains.ensures) ∙ kept_where (not c.contains.result) c.in_ok-check_form.ensures.exact in
    (new, c.in-Ok.ensures.ok ∙ new_comes_last c.args.filter c.args.qos c.args.self.now (not_held (is_subscribed c.args.filter c.args.self.now) new))
