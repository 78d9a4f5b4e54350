-- The row was put into both, or was removed again if the tree had no memory for it.
use Rattle.std.proofs.Common.{◌≡◌, ◌∙◌, sym, ap, Some, None}
use Rattle.topics.specs.Text.{levels}
use Rattle.subs_base.specs.Content.{Content, with_row, without_row}
use Rattle.subs_base.specs.ListIndex.{content_of}
use Rattle.subs.specs.Shown.{rows_at_levels}
use Rattle.subs.proofs.ContentOfTree.{anyhow}
use Rattle.subs.proofs.ContentOfTree.{row_put, put_back, at_ok, at_err}
use Rattle.subs.proofs.tree_index.TreeIndexSubIndex.set.Goals as goal

pub invariant_of-self-then-is_err : goal.invariant_of-self-then-is_err
invariant_of-self-then-is_err c =
    let failed = sym c.is_err.ensures.value ∙ c.if-is_err.true in
    let text : c.as_bytes-text.result.now ≡ c.args.filter.now = c.as_bytes-text.ensures.value ∙ c.as_str.ensures.value in
    let none : content_of c.self.inside.clients c.args.client.now c.args.filter.now ≡ None =
    ap (λ (v : Content). v c.args.client.now c.args.filter.now) c.self.invariant.0
    ∙ sym (ap (λ t. rows_at_levels c.self.inside.nodes (levels t) c.args.client.now) text)
    ∙ at_err c.set-set.result failed c.set-set.ensures.absent in (
      c.clear.ensures.after
          ∙ ap (λ v. without_row v c.args.client.now c.args.filter.now) c.in_ok-set.ensures.ok
          ∙ put_back (content_of c.self.inside.clients) c.args.client.now c.args.filter.now c.args.qos none
          ∙ c.self.invariant.0
          ∙ sym (ap (λ a client filter. a (levels filter) client) (at_err c.set-set.result failed c.set-set.ensures.err)),
      c.set-set.ensures.sound,
    )

pub invariant_of-self-else-is_err : goal.invariant_of-self-else-is_err
invariant_of-self-else-is_err c = (
  c.in_ok-set.ensures.ok
      ∙ ap (λ v. with_row v c.args.client.now c.args.filter.now c.args.qos) c.self.invariant.0
      ∙ sym (row_put (rows_at_levels c.self.inside.nodes) (rows_at_levels c.set-set.new.self) c.as_bytes-text.result.now c.args.filter.now c.args.client.now (Some c.args.qos)
      (c.as_bytes-text.ensures.value ∙ c.as_str.ensures.value)
      (at_ok c.set-set.result (sym c.is_err.ensures.value ∙ c.if-is_err.false) c.set-set.ensures.ok)),
  c.set-set.ensures.sound,
)

pub returns-then-is_err-clause-err : goal.returns-then-is_err-clause-err
returns-then-is_err-clause-err c =
    let failed = sym c.is_err.ensures.value ∙ c.if-is_err.true in
    let text : c.as_bytes-text.result.now ≡ c.args.filter.now = c.as_bytes-text.ensures.value ∙ c.as_str.ensures.value in
    let none : content_of c.self.inside.clients c.args.client.now c.args.filter.now ≡ None =
    ap (λ (v : Content). v c.args.client.now c.args.filter.now) c.self.invariant.0
    ∙ sym (ap (λ t. rows_at_levels c.self.inside.nodes (levels t) c.args.client.now) text)
    ∙ at_err c.set-set.result failed c.set-set.ensures.absent in
    anyhow c.set-set.result
    (c.clear.ensures.after
    ∙ ap (λ v. without_row v c.args.client.now c.args.filter.now) c.in_ok-set.ensures.ok
    ∙ put_back (content_of c.self.inside.clients) c.args.client.now c.args.filter.now c.args.qos none
    ∙ ap content_of c.self.view_is)

pub returns-then-is_err-clause-absent : goal.returns-then-is_err-clause-absent
returns-then-is_err-clause-absent c =
    let failed = sym c.is_err.ensures.value ∙ c.if-is_err.true in
    let text : c.as_bytes-text.result.now ≡ c.args.filter.now = c.as_bytes-text.ensures.value ∙ c.as_str.ensures.value in
    anyhow c.set-set.result
    (ap (λ v. content_of v c.args.client.now c.args.filter.now) (sym c.self.view_is)
    ∙ ap (λ (v : Content). v c.args.client.now c.args.filter.now) c.self.invariant.0
    ∙ sym (ap (λ t. rows_at_levels c.self.inside.nodes (levels t) c.args.client.now) text)
    ∙ at_err c.set-set.result failed c.set-set.ensures.absent)
