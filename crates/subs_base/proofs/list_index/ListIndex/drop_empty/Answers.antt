-- The client has no map, or one with filters, or its empty one is taken out.
use Rattle.std.proofs.Common.{◌∙◌, ap, sym}
use Rattle.std.proofs.lemmas.Bool.{true≢false}
use Rattle.subs_base.specs.ListIndex.{content_of}
use Rattle.subs_base.proofs.EmptyMapGoes.{content_without_empty, no_entries, gone_none, gone_some}
use Rattle.subs_base.proofs.list_index.ListIndex.drop_empty.Goals as goal
use Rattle.subs_base.proofs.list_index.ListIndex.drop_empty.Goals.{in-Some-1, in-None-1}

pub returns-in_default-clause-gone : goal.returns-in_default-clause-gone
returns-in_default-clause-gone c =
    gone_none c.self.inside.clients c.args.self.now c.args.client.now c.self.view_is c.in_default.ensures.value

pub returns-then-is_empty-clause-same : goal.returns-then-is_empty-clause-same
returns-then-is_empty-clause-same c =
    let same = content_without_empty c.self.inside.clients c.remove-empty.new.self c.args.client.now c.in-Some.filters.now
    c.in-Some.ensures.value (no_entries c.in-Some.filters.now.entries (c.is_empty.ensures.0 c.if-is_empty.true))
    c.remove-empty.ensures.updates.0 in
    elim c.match-empty.branch [
      | in-Some-1 w ↦ ap content_of w.self-is ∙ same ∙ ap content_of c.self.view_is
      | in-None-1 w ↦ ap content_of w.self-is ∙ same ∙ ap content_of c.self.view_is
    ]

pub returns-then-is_empty-clause-gone : goal.returns-then-is_empty-clause-gone
returns-then-is_empty-clause-gone c =
    elim c.match-empty.branch [
      | in-Some-1 w ↦ gone_none c.remove-empty.new.self c.match-empty.self c.args.client.now (sym w.self-is) (sym c.remove-empty.ensures.updates.1)
      | in-None-1 w ↦ gone_none c.remove-empty.new.self c.match-empty.self c.args.client.now (sym w.self-is) (sym c.remove-empty.ensures.updates.1)
    ]

pub returns-else-is_empty-clause-gone : goal.returns-else-is_empty-clause-gone
returns-else-is_empty-clause-gone c =
    gone_some c.self.inside.clients c.args.self.now c.args.client.now c.in-Some.filters.now c.self.view_is c.in-Some.ensures.value
    (λ none. true≢false (sym (c.is_empty.ensures.1 none) ∙ c.if-is_empty.false))
