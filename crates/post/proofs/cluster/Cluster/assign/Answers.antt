use Rattle.std.proofs.Common.{◌∙◌, ap, refl, sym}
use Rattle.std.proofs.lemmas.Bool.{and_from, and_left, and_right}
use Rattle.ballot_base.specs.LawfulConfig.{is_lawful, max_node}
use Rattle.post.specs.Numbers.{are_nodes}
use Rattle.post.proofs.RefusedByConfig.{stranger}
use Rattle.post.proofs.cluster.Cluster.assign.Goals as goal

pub returns-then-not-has_all-clause-bad : goal.returns-then-not-has_all-clause-bad
returns-then-not-has_all-clause-bad g c = λ _.
    and_right (is_lawful max_node c.args.config.members c.args.config.primary) (are_nodes c.args.self.now c.args.config.members)
    (sym (c.has_all.ensures ∙ ap (are_nodes c.args.self.now) c.as_slice.ensures) ∙ c.if-not-has_all.true)

pub returns-in-Some-clause-bad : goal.returns-in-Some-clause-bad
returns-in-Some-clause-bad g c = λ error.
    and_left (is_lawful max_node c.args.config.members c.args.config.primary) (are_nodes c.args.self.now c.args.config.members)
    (c.assign.ensures.bad error)

pub returns-in-Some-clause-spent : goal.returns-in-Some-clause-spent
returns-in-Some-clause-spent g c = λ error.
    and_from (is_lawful max_node c.args.config.members c.args.config.primary) (are_nodes c.args.self.now c.args.config.members)
    (c.assign.ensures.spent error)
    (sym (c.has_all.ensures ∙ ap (are_nodes c.args.self.now) c.as_slice.ensures) ∙ c.if-not-has_all.false)

pub returns-in-None-clause-bad : goal.returns-in-None-clause-bad
returns-in-None-clause-bad g c = λ _.
    stranger c.args.self.now c.args.config.members c.args.config.primary (c.in-None.ensures.none refl)
