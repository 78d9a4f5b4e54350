use Rattle.std.proofs.Common.{rules, ◌∙◌, ap, not}
use Rattle.std.specs.Prelude.{bytes_eq}
use Rattle.std.proofs.lemmas.Map.Made.{filter_same_pairs}
use Rattle.session_base.specs.Subscriptions.{GrantedSubscription, without_filter}
use Rattle.session.proofs.subscriptions.Subscriptions.remove.Goals as goal

pub returns : goal.returns
returns c =
    filter_same_pairs _ (λ (held : GrantedSubscription). not (bytes_eq c.args.filter.now held.0)) _ (λ k v b w f' t. search rules) _ _ c.retain.ensures.filtered
    ∙ ap (without_filter c.args.filter.now) c.self.view_is
