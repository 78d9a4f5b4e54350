-- The client's filters were cleared from the tree, or it had none.
use Rattle.std.proofs.Common.{◌∙◌, sym, ap, subst}
use Rattle.subs_base.specs.Content.{without_client}
use Rattle.subs_base.specs.ListIndex.{content_of}
use Rattle.subs.specs.Inside.{cleared}
use Rattle.subs.specs.Shown.{content_of_nodes, IsSoundTree}
use Rattle.subs.proofs.ContentOfTree.{dropped_none, dropped_all}
use Rattle.subs.proofs.tree_index.TreeIndexSubIndex.drop_client.Goals as goal
use Rattle.subs.proofs.tree_index.TreeIndexSubIndex.drop_client.Goals.{in-Some, in_default}

pub invariant_of-self : goal.invariant_of-self
invariant_of-self c =
    elim c.match-filters_of.branch [
      | in-Some w ↦ (
        c.drop_client.ensures
            ∙ ap (λ s. without_client (content_of s.clients) c.args.client.now) w.self-inside-is
            ∙ dropped_all c.self.inside.clients c.args.client.now w.in-Some.filters.now.entries w.in-Some.ensures
            ∙ ap (cleared c.args.client.now w.in-Some.filters.now.entries) c.self.invariant.0
            ∙ sym w.clear_all.ensures.after
            ∙ sym (ap (λ s. content_of_nodes s.nodes) w.self-inside-is),
        subst (λ s. IsSoundTree s.nodes) (sym w.self-inside-is) w.clear_all.ensures.sound,
      )
      | in_default w ↦ (
        c.drop_client.ensures
            ∙ ap (λ s. without_client (content_of s.clients) c.args.client.now) w.self-inside-is
            ∙ dropped_none c.self.inside.clients c.args.client.now w.in_default.ensures
            ∙ c.self.invariant.0
            ∙ sym (ap (λ s. content_of_nodes s.nodes) w.self-inside-is),
        subst (λ s. IsSoundTree s.nodes) (sym w.self-inside-is) c.self.invariant.1,
      )
    ]
