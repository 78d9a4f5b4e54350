-- The filter at the head was put in; at the end none is left.
use Rattle.std.proofs.Common.{rules, ◌≡◌, ◌∷◌, [], ◌∙◌, sym, ap}
use Rattle.topics.specs.Text.{levels}
use Rattle.subs.specs.Gathered.{all_rows_put, rows_of_group, groups_as_lists}
use Rattle.subs.specs.Shown.{content_of_nodes, rows_at_levels}
use Rattle.subs.proofs.RowsGathered.{group_put, groups_put}
use Rattle.subs.proofs.row_groups.nodes_of.Goals as goal

pub loop-filter-init : goal.loop-filter-init
loop-filter-init c =
    let given = c.into_iter-filter-iterator.ensures.into_iter_gives in
    record {
      whole = ap (λ es. all_rows_put (groups_as_lists es) (content_of_nodes c.new-nodes.result)) given.0
          ∙ ap (all_rows_put (groups_as_lists c.args.groups.entries)) (ap (λ a client filter. a (levels filter) client) c.new-nodes.ensures.rows);
      sound = c.new-nodes.ensures.sound;
      distinct = given.4;
    }

pub loop-filter-preserved : goal.loop-filter-preserved
loop-filter-preserved c =
    let cut : c.loop-filter.filter-iterator ≡ (c.in-Some.filter, c.in-Some.group) ∷ c.next.new.self = search rules in
    record {
      whole = ap (all_rows_put (groups_as_lists c.next.new.self))
          (group_put (rows_at_levels c.loop-filter.nodes) (rows_at_levels c.put.new.self) c.as_bytes.result.now c.in-Some.filter (rows_of_group c.in-Some.group) c.in_ok-rows.rows
          (c.as_bytes.ensures.value ∙ c.as_str.ensures.value) c.in_ok-rows.ensures c.in_ok-put.ensures.ok)
          ∙ ap (λ es. all_rows_put (groups_as_lists es) (content_of_nodes c.loop-filter.nodes)) (sym cut)
          ∙ c.loop-filter.invariant.whole;
      sound = c.in_ok-put.ensures.sound;
      distinct = c.loop-filter.invariant.distinct;
    }

pub returns-clause-content : goal.returns-clause-content
returns-clause-content c =
    let done : c.loop-filter.filter-iterator ≡ [] = search rules in
    sym (ap (λ es. all_rows_put (groups_as_lists es) (content_of_nodes c.loop-filter.nodes)) done)
    ∙ c.loop-filter.invariant.whole
    ∙ groups_put c.args.groups.entries c.loop-filter.invariant.distinct
