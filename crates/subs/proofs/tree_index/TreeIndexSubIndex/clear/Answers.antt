-- The row went from both.
use Rattle.std.proofs.Common.{◌≡◌, ◌∙◌, sym, ap, subst, None, Option, IsTrue, ◌↔◌, IsSome}
use Rattle.packet_base.specs.declared.qos.QoS.{QoS}
use Rattle.topics.specs.Text.{levels}
use Rattle.subs_base.specs.Content.{Content, without_row}
use Rattle.subs_base.specs.ListIndex.{content_of}
use Rattle.subs.specs.Shown.{rows_at_levels}
use Rattle.subs.proofs.ContentOfTree.{row_put}
use Rattle.subs.proofs.tree_index.TreeIndexSubIndex.clear.Goals as goal

pub invariant_of-self : goal.invariant_of-self
invariant_of-self c = (
  c.clear.ensures.after
      ∙ ap (λ v. without_row v c.args.client.now c.args.filter.now) c.self.invariant.0
      ∙ sym (row_put (rows_at_levels c.self.inside.nodes) (rows_at_levels c.clear-2.new.self) c.as_bytes.result.now c.args.filter.now c.args.client.now None
      (c.as_bytes.ensures.value ∙ c.as_str.ensures.value) c.clear-2.ensures.after),
  c.clear-2.ensures.sound,
)

pub returns-clause-found : goal.returns-clause-found
returns-clause-found c =
    let text : c.as_bytes.result.now ≡ c.args.filter.now = c.as_bytes.ensures.value ∙ c.as_str.ensures.value in
    let shown : rows_at_levels c.self.inside.nodes (levels c.as_bytes.result.now) c.args.client.now ≡ content_of c.args.self.now c.args.client.now c.args.filter.now =
    ap (λ t. rows_at_levels c.self.inside.nodes (levels t) c.args.client.now) text
    ∙ sym (ap (λ (v : Content). v c.args.client.now c.args.filter.now) c.self.invariant.0)
    ∙ ap (λ v. content_of v c.args.client.now c.args.filter.now) c.self.view_is in
    subst (λ (o : Option QoS). IsTrue c.clear-2.result ↔ IsSome o) shown c.clear-2.ensures.found
