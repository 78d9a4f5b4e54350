-- One raising after another makes the greatest of all.
use Rattle.std.proofs.Common.{◌≡◌, ◌∙◌, sym, ap, subst, codes, refl, true, false, ℕ, List, Option}
use Rattle.topics.specs.Text.{Levels, levels_of}
use Rattle.packet_base.specs.declared.qos.QoS.{QoS}
use Rattle.subs_base.proofs.ContentAfter.{on_err}
use Rattle.subs.specs.Inside.{shape_of}
use Rattle.subs.specs.Walk.{greatest, Raises, GivesSome, found_at, found_after}
use Rattle.subs.proofs.TextCut.{path}
use Rattle.subs.proofs.NodeSets.{number_of, plus_child}
use Rattle.subs.proofs.NodeAt.{asked_is, child_is, bare_none, nothing_raised}
use Rattle.subs.proofs.ContentOfTree.{anyhow}
use Rattle.subs.proofs.Raising.{both_raise, then_ok, rest_gives, here_gives, below_gives, plus_gives}
use Rattle.subs.proofs.nodes.Nodes.+find_at.Goals as goal

pub find_at-returns-in_default-clause-ok : goal.find_at-returns-in_default-clause-ok
find_at-returns-in_default-clause-ok t c client =
    nothing_raised (shape_of c.args.self.now.slab) c.args.at.number (levels_of c.args.topic) client _
    (bare_none c.args.self.now.slab c.args.at.number (sym c.in_default.ensures))

pub find_at-returns-in_err-raise_all-clause-some : goal.find_at-returns-in_err-raise_all-clause-some
find_at-returns-in_err-raise_all-clause-some t c =
    let asked = asked_is c.args.self.now.slab c.args.at.number c.in-Some.node.now (sym c.in-Some.ensures) true in
    anyhow c.from_residual.result
    (rest_gives (shape_of c.args.self.now.slab) c.args.at.number (levels_of c.args.topic)
    (subst (λ (g : List ℕ → Option QoS). GivesSome g) (sym asked) c.in_err-raise_all.ensures.some))

pub find_at-returns-in_default-topic-clause-ok : goal.find_at-returns-in_default-topic-clause-ok
find_at-returns-in_default-topic-clause-ok t c =
    let s = shape_of c.args.self.now.slab in
    let asked = asked_is c.args.self.now.slab c.args.at.number c.in-Some.node.now (sym c.in-Some.ensures) in
    then_ok c.raise_all-in_default-topic.result
    (λ h.
    subst (λ (f : Levels). Raises c.args.found.now c.raise_all-in_default-topic.new.found (found_at s c.args.at.number f)) (sym (ap levels_of c.in_default-topic.is))
    (both_raise c.args.found.now c.raise_all.new.found c.raise_all-in_default-topic.new.found (s.asked c.args.at.number true) (s.asked c.args.at.number false)
    (subst (λ (g : List ℕ → Option QoS). Raises c.args.found.now c.raise_all.new.found g) (sym (asked true)) c.in_ok-raise_all.ensures.ok)
    (subst (λ (g : List ℕ → Option QoS). Raises c.raise_all.new.found c.raise_all-in_default-topic.new.found g) (sym (asked false)) h)))
    c.raise_all-in_default-topic.ensures.ok

pub find_at-returns-in_default-topic-clause-some : goal.find_at-returns-in_default-topic-clause-some
find_at-returns-in_default-topic-clause-some t c =
    let s = shape_of c.args.self.now.slab in
    let asked = asked_is c.args.self.now.slab c.args.at.number c.in-Some.node.now (sym c.in-Some.ensures) false in
    on_err c.raise_all-in_default-topic.result
    (λ h.
    subst (λ (f : Levels). GivesSome (found_at s c.args.at.number f)) (sym (ap levels_of c.in_default-topic.is))
    (here_gives s c.args.at.number (subst (λ (g : List ℕ → Option QoS). GivesSome g) (sym asked) h)))
    c.raise_all-in_default-topic.ensures.some

pub find_at-returns-in_err-find_after-clause-some : goal.find_at-returns-in_err-find_after-clause-some
find_at-returns-in_err-find_after-clause-some t c =
    let s = shape_of c.args.self.now.slab in
    let named : s.child c.args.at.number c.split_level.result.0.now ≡ number_of c.child.result =
    child_is c.args.self.now.slab c.args.at.number c.in-Some.node.now (sym c.in-Some.ensures) c.split_level.result.0.now ∙ sym c.child.ensures in
    anyhow c.from_residual-in_err-find_after.result
    (subst (λ (f : Levels). GivesSome (found_at s c.args.at.number f))
    (sym (path c.args.topic c.in-Some-topic.text c.split_level.result.0.now c.split_level.result.1 (record { some = c.in-Some-topic.is; cut = c.split_level.ensures })))
    (below_gives s c.args.at.number c.split_level.result.0.now (levels_of c.split_level.result.1)
    (subst (λ (n : Option ℕ). GivesSome (found_after s n (levels_of c.split_level.result.1))) (sym named) c.in_err-find_after.ensures.some)))

pub find_at-returns-clause-ok : goal.find_at-returns-clause-ok
find_at-returns-clause-ok t c =
    let s = shape_of c.args.self.now.slab in
    let there = sym c.in-Some.ensures in
    let asked = asked_is c.args.self.now.slab c.args.at.number c.in-Some.node.now there true in
    let named : s.child c.args.at.number c.split_level.result.0.now ≡ number_of c.child.result =
    child_is c.args.self.now.slab c.args.at.number c.in-Some.node.now there c.split_level.result.0.now ∙ sym c.child.ensures in
    let plus : s.child c.args.at.number (codes "+") ≡ number_of c.in-Some.node.now.plus =
    child_is c.args.self.now.slab c.args.at.number c.in-Some.node.now there (codes "+") ∙ sym (plus_child c.in-Some.node.now (codes "+") refl) in
    then_ok c.find_after-2.result
    (λ h.
    subst (λ (f : Levels). Raises c.args.found.now c.find_after-2.new.found (found_at s c.args.at.number f))
    (sym (path c.args.topic c.in-Some-topic.text c.split_level.result.0.now c.split_level.result.1 (record { some = c.in-Some-topic.is; cut = c.split_level.ensures })))
    (both_raise c.args.found.now c.raise_all.new.found c.find_after-2.new.found
    (s.asked c.args.at.number true)
    (λ client. greatest (found_after s (s.child c.args.at.number c.split_level.result.0.now) (levels_of c.split_level.result.1) client) (found_after s (s.child c.args.at.number (codes "+")) (levels_of c.split_level.result.1) client))
    (subst (λ (g : List ℕ → Option QoS). Raises c.args.found.now c.raise_all.new.found g) (sym asked) c.in_ok-raise_all.ensures.ok)
    (both_raise c.raise_all.new.found c.find_after.new.found c.find_after-2.new.found
    (found_after s (s.child c.args.at.number c.split_level.result.0.now) (levels_of c.split_level.result.1))
    (found_after s (s.child c.args.at.number (codes "+")) (levels_of c.split_level.result.1))
    (subst (λ (n : Option ℕ). Raises c.raise_all.new.found c.find_after.new.found (found_after s n (levels_of c.split_level.result.1))) (sym named) c.in_ok-find_after.ensures.ok)
    (subst (λ (n : Option ℕ). Raises c.find_after.new.found c.find_after-2.new.found (found_after s n (levels_of c.split_level.result.1))) (sym plus) h))))
    c.find_after-2.ensures.ok

pub find_at-returns-clause-some : goal.find_at-returns-clause-some
find_at-returns-clause-some t c =
    let s = shape_of c.args.self.now.slab in
    let plus : s.child c.args.at.number (codes "+") ≡ number_of c.in-Some.node.now.plus =
    child_is c.args.self.now.slab c.args.at.number c.in-Some.node.now (sym c.in-Some.ensures) (codes "+") ∙ sym (plus_child c.in-Some.node.now (codes "+") refl) in
    on_err c.find_after-2.result
    (λ h.
    subst (λ (f : Levels). GivesSome (found_at s c.args.at.number f))
    (sym (path c.args.topic c.in-Some-topic.text c.split_level.result.0.now c.split_level.result.1 (record { some = c.in-Some-topic.is; cut = c.split_level.ensures })))
    (plus_gives s c.args.at.number c.split_level.result.0.now (levels_of c.split_level.result.1)
    (subst (λ (n : Option ℕ). GivesSome (found_after s n (levels_of c.split_level.result.1))) (sym plus) h)))
    c.find_after-2.ensures.some
