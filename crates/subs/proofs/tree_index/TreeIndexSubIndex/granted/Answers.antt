-- The rows that were found are those that the content grants.
use Rattle.std.proofs.Common.{◌≡◌, ◌∙◌, sym, ap, subst, List, ℕ}
use Rattle.std.specs.BTreeMap.{get, is_at}
use Rattle.std.specs.Map.{lookup}
use Rattle.std.specs.Cmp.Lexicographic.{slice_cmp}
use Rattle.std.specs.Ordering.{nat_cmp}
use Rattle.subs_base.specs.Content.{Content}
use Rattle.subs_base.specs.Granted.{AppendsGranted, IsGranted, IsWanted}
use Rattle.subs_base.specs.ListIndex.{content_of}
use Rattle.subs_base.proofs.ContentAfter.{on_err}
use Rattle.subs.specs.Shown.{shape, root_of}
use Rattle.subs.specs.Walk.{greatest, GivesSome, found_for}
use Rattle.subs.proofs.ContentOfTree.{anyhow}
use Rattle.subs.proofs.Raising.{then_ok}
use Rattle.subs.proofs.ContentOfTree.{never_ok}
use Rattle.subs.proofs.TreeGrants.{tree_grants, topic_plain, wanted_by_walk}
use Rattle.subs.proofs.tree_index.TreeIndexSubIndex.granted.Goals as goal
use Rattle.subs.proofs.tree_index.TreeIndexSubIndex.granted.Goals.{then-is_err, else-is_err}

pub returns-clause-ok : goal.returns-clause-ok
returns-clause-ok c =
    let text : c.as_bytes.result.now ≡ c.args.topic.now = c.as_bytes.ensures.value ∙ c.as_str.ensures.value in
    let found : (client : List ℕ) → get (slice_cmp nat_cmp) c.find.new.found client ≡ found_for (shape c.self.inside.nodes) (root_of c.self.inside.nodes) c.args.topic.now client = λ client.
    c.in_ok-find.ensures.ok client
    ∙ ap (λ es. greatest (lookup (is_at (slice_cmp nat_cmp client)) es) (found_for (shape c.self.inside.nodes) (root_of c.self.inside.nodes) c.as_bytes.result.now client)) c.new-found.ensures.empty
    ∙ ap (λ t. found_for (shape c.self.inside.nodes) (root_of c.self.inside.nodes) t client) text in
    let grants : IsGranted (content_of c.args.self.now) c.args.topic.now c.find.new.found.entries =
    subst (λ (v : Content). IsGranted v c.args.topic.now c.find.new.found.entries) (sym c.self.invariant.0 ∙ ap content_of c.self.view_is)
    (tree_grants (shape c.self.inside.nodes) (root_of c.self.inside.nodes) c.args.topic.now c.find.new.found (topic_plain c.args.topic.now c.as_str.ensures.checked) c.append_rows-appended.ensures.ordered found) in
    elim c.if-is_err.branch [
      | then-is_err w ↦
          never_ok (AppendsGranted (content_of c.args.self.now) c.args.topic.now c.args.rows.now.items c.if-is_err.rows.items)
          c.append_rows-appended.result (sym c.is_err.ensures.value ∙ w.if-is_err.true)
      | else-is_err w ↦
          then_ok c.append_rows-appended.result
          (λ is. (c.find.new.found.entries, grants, ap (λ r. r.items) w.rows-is ∙ is))
          c.append_rows-appended.ensures.ok
    ]

pub returns-in_err-find-clause-wanted : goal.returns-in_err-find-clause-wanted
returns-in_err-find-clause-wanted c =
    let text : c.as_bytes.result.now ≡ c.args.topic.now = c.as_bytes.ensures.value ∙ c.as_str.ensures.value in
    anyhow c.from_residual.result
    (subst (λ (v : Content). IsWanted v c.args.topic.now) (sym c.self.invariant.0 ∙ ap content_of c.self.view_is)
    (wanted_by_walk (shape c.self.inside.nodes) (root_of c.self.inside.nodes) c.args.topic.now (topic_plain c.args.topic.now c.as_str.ensures.checked)
    (subst (λ (t : List ℕ). GivesSome (found_for (shape c.self.inside.nodes) (root_of c.self.inside.nodes) t)) text c.in_err-find.ensures.some)))

pub returns-clause-wanted : goal.returns-clause-wanted
returns-clause-wanted c =
    let text : c.as_bytes.result.now ≡ c.args.topic.now = c.as_bytes.ensures.value ∙ c.as_str.ensures.value in
    let found : (client : List ℕ) → get (slice_cmp nat_cmp) c.find.new.found client ≡ found_for (shape c.self.inside.nodes) (root_of c.self.inside.nodes) c.args.topic.now client = λ client.
    c.in_ok-find.ensures.ok client
    ∙ ap (λ es. greatest (lookup (is_at (slice_cmp nat_cmp client)) es) (found_for (shape c.self.inside.nodes) (root_of c.self.inside.nodes) c.as_bytes.result.now client)) c.new-found.ensures.empty
    ∙ ap (λ t. found_for (shape c.self.inside.nodes) (root_of c.self.inside.nodes) t client) text in
    on_err c.append_rows-appended.result
    (λ h.
    subst (λ (v : Content). IsWanted v c.args.topic.now) (sym c.self.invariant.0 ∙ ap content_of c.self.view_is)
    (wanted_by_walk (shape c.self.inside.nodes) (root_of c.self.inside.nodes) c.args.topic.now (topic_plain c.args.topic.now c.as_str.ensures.checked)
    (h.0, h.1, sym (found h.0) ∙ h.2)))
    c.append_rows-appended.ensures.some
