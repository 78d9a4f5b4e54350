-- The filter was taken out of the client's map, or there was none.
use Rattle.std.proofs.Common.{rules, ◌∙◌, ap, sym, None}
use Rattle.std.specs.Prelude.{option_and_then}
use Rattle.std.specs.BTreeMap.{get}
use Rattle.std.specs.Cmp.Lexicographic.{slice_cmp}
use Rattle.std.specs.Ordering.{nat_cmp}
use Rattle.subs_base.specs.Content.{without_row}
use Rattle.subs_base.specs.ListIndex.{content_of}
use Rattle.subs_base.specs.Inside.{listed}
use Rattle.subs_base.proofs.ContentAfter.{content_changed, content_held, content_without_client, held_some, found_is}
use Rattle.subs_base.proofs.list_index.ListIndex.clear_row.Goals as goal
use Rattle.subs_base.proofs.list_index.ListIndex.clear_row.Goals.{in-Some, in-None}

pub returns-clause-found : goal.returns-clause-found
returns-clause-found c =
    elim c.match-get_mut.branch [
      | in-Some w ↦
          found_is c.match-get_mut.result (get (slice_cmp nat_cmp) w.in-Some.filters.now c.args.filter.now) (content_of c.args.self.now c.args.client.now c.args.filter.now)
          (w.result-is ∙ w.clear_filter.ensures.found)
          (sym (held_some c.self.inside.clients c.args.client.now c.args.filter.now w.in-Some.filters.now w.in-Some.ensures.value)
          ∙ sym (content_held c.self.inside.clients c.args.client.now c.args.filter.now)
          ∙ ap (λ v. content_of v c.args.client.now c.args.filter.now) c.self.view_is)
      | in-None w ↦
          found_is c.match-get_mut.result None (content_of c.args.self.now c.args.client.now c.args.filter.now)
          w.result-is
          (ap (option_and_then (λ filters. get (slice_cmp nat_cmp) filters c.args.filter.now)) w.in-None.ensures.value
          ∙ sym (content_held c.self.inside.clients c.args.client.now c.args.filter.now)
          ∙ ap (λ v. content_of v c.args.client.now c.args.filter.now) c.self.view_is)
    ]

pub returns-clause-after : goal.returns-clause-after
returns-clause-after c =
    elim c.match-get_mut.branch [
      | in-Some w ↦
          ap (λ s. content_of (listed s.clients.entries)) w.self-inside-is
          ∙ content_changed c.self.inside.clients (c.get_mut.follows.lender w.clear_filter.new.filters) c.args.client.now c.args.filter.now None
          w.in-Some.filters.now w.clear_filter.new.filters
          (λ f. held_some c.self.inside.clients c.args.client.now f w.in-Some.filters.now w.in-Some.ensures.value)
          w.clear_filter.ensures.after.0
          ((c.get_mut.follows.holds w.clear_filter.new.filters).3 (search rules)).0
          ∙ ap (λ v. without_row (content_of v) c.args.client.now c.args.filter.now) c.self.view_is
      | in-None w ↦
          ap (λ s. content_of (listed s.clients.entries)) w.self-inside-is
          ∙ ap (λ m. content_of (listed m.entries)) c.get_mut.follows.holds-at-none
          ∙ content_without_client c.self.inside.clients c.args.client.now c.args.filter.now w.in-None.ensures.value
          ∙ ap (λ v. without_row (content_of v) c.args.client.now c.args.filter.now) c.self.view_is
    ]
