-- The filter at the head was cleared; at the end none is left.
use Rattle.std.proofs.Common.{rules, ◌≡◌, ◌∷◌, [], ◌∙◌, sym, ap, None}
use Rattle.subs.specs.Inside.{cleared}
use Rattle.subs.specs.Shown.{content_of_nodes, rows_at_levels}
use Rattle.subs.proofs.ContentOfTree.{row_put, cleared_first, cleared_none}
use Rattle.subs.proofs.tree_index.clear_all.Goals as goal

pub loop-filter-preserved : goal.loop-filter-preserved
loop-filter-preserved c =
    let cut : c.loop-filter.filter-iterator ≡ (c.in-Some.filter.now, c.in-Some.field-0-1.now) ∷ c.next.new.self = search rules in (
      ap (cleared c.args.client.now c.next.new.self)
          (row_put (rows_at_levels c.loop-filter.nodes) (rows_at_levels c.clear.new.self) c.as_bytes.result.now c.in-Some.filter.now c.args.client.now None
          (c.as_bytes.ensures.value ∙ c.as_str.ensures.value) c.clear.ensures.after)
          ∙ cleared_first c.args.client.now c.in-Some.filter.now c.in-Some.field-0-1.now c.next.new.self (content_of_nodes c.loop-filter.nodes)
          ∙ ap (λ es. cleared c.args.client.now es (content_of_nodes c.loop-filter.nodes)) (sym cut)
          ∙ c.loop-filter.invariant.0,
      c.clear.ensures.sound,
    )

pub returns-clause-after : goal.returns-clause-after
returns-clause-after c =
    let done : c.loop-filter.filter-iterator ≡ [] = search rules in
    sym (cleared_none c.args.client.now (content_of_nodes c.loop-filter.nodes))
    ∙ ap (λ es. cleared c.args.client.now es (content_of_nodes c.loop-filter.nodes)) (sym done)
    ∙ c.loop-filter.invariant.0
