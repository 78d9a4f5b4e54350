-- The client's map is the one that was put in.
use Rattle.std.proofs.Common.{◌≡◌, ◌∙◌, ap, subst, ℕ, List, Some, cond}
use Rattle.std.specs.BTreeMap.{get, is_at}
use Rattle.std.specs.Cmp.Lexicographic.{slice_cmp}
use Rattle.std.specs.Ordering.{nat_cmp}
use Rattle.subs_base.specs.Content.{with_client_filters}
use Rattle.subs_base.specs.ListIndex.{content_of}
use Rattle.subs_base.proofs.ContentAfter.{content_put, none_put}
use Rattle.subs_base.proofs.EmptyMapGoes.{no_entries}
use Rattle.subs_base.proofs.list_index.ListIndex.put.Goals as goal

pub returns-then-is_empty-clause-ok : goal.returns-then-is_empty-clause-ok
returns-then-is_empty-clause-ok c =
    c.drop_client.ensures
    ∙ none_put (content_of c.args.self.now) c.args.client.now c.args.filters (no_entries c.args.filters.entries (c.is_empty.ensures.0 c.if-is_empty.true))

pub returns-clause-ok : goal.returns-clause-ok
returns-clause-ok c =
    content_put c.self.inside.clients c.insert.new.self c.args.client.now c.args.filters
    (subst
    (λ (k : List ℕ). (q : List ℕ) → get (slice_cmp nat_cmp) c.insert.new.self q ≡ cond (is_at (slice_cmp nat_cmp k) q) (Some c.args.filters) (get (slice_cmp nat_cmp) c.self.inside.clients q))
    c.in_ok-clone.ensures.cases
    c.in_ok-insert.ensures.updates.0)
    ∙ ap (λ v. with_client_filters (content_of v) c.args.client.now (get (slice_cmp nat_cmp) c.args.filters)) c.self.view_is
