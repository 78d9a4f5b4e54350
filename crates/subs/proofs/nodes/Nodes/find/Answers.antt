-- Whom a walk finds for a topic without `$` at its front.
use Rattle.std.proofs.Common.{rules, ◌≡◌, ◌∙◌, ◌==◌, ℕ, List, [], ◌∷◌, true, false, cond, Option, refl, sym, ap, subst, codes, nat_eq}
use Rattle.std.specs.Prelude.{option_map}
use Rattle.std.specs.List as lists
use Rattle.std.proofs.lemmas.Bool.{eqb-true}
use Rattle.topics.specs.Text.{levels}
use Rattle.topics.specs.Matching.{starts_with}
use Rattle.subs_base.proofs.ContentAfter.{on_err}
use Rattle.subs.specs.Shape.{Shape}
use Rattle.subs.specs.Shown.{shape}
use Rattle.subs.specs.Walk.{GivesSome, found_at, found_named, found_from, found_for}
use Rattle.subs.proofs.nodes.Nodes.find.Goals as goal

no_dollar : (topic : List ℕ) → lists.starts_with nat_eq topic (codes "$") ≡ false → starts_with 36 topic ≡ false
no_dollar [] h = refl
no_dollar (x ∷ xs) h =
    elim (x == 36) as (λ v. (x == 36) ≡ v → v ≡ false) [
      | true ↦ λ e. subst (λ (y : ℕ). lists.starts_with nat_eq (y ∷ xs) (codes "$") ≡ false) (eqb-true x 36 e) h
      | false ↦ λ e. refl
    ] refl

gives : (s : Shape) (root : ℕ) (topic : List ℕ) → starts_with 36 topic ≡ false → GivesSome (found_at s root (levels topic)) → GivesSome (found_from s root topic)
gives s root topic plain h =
    (h.0, h.1, ap (λ b. cond b (found_named s root (levels topic) h.0) (found_at s root (levels topic) h.0)) plain ∙ h.2)

pub returns-then-not-starts_with-clause-some : goal.returns-then-not-starts_with-clause-some
returns-then-not-starts_with-clause-some c =
    let tested : lists.starts_with nat_eq c.args.topic.now (codes "$") ≡ false = search rules in
    on_err c.find_at.result
    (λ h.
    subst (λ (root : Option ℕ). GivesSome (found_for (shape c.args.self.now) root c.args.topic.now)) (sym (ap (λ o. option_map (λ id. id.number) o) c.in-Some.is))
    (gives (shape c.args.self.now) c.in-Some.root.number c.args.topic.now (no_dollar c.args.topic.now tested) h))
    c.find_at.ensures.some
