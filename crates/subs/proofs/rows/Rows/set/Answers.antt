-- The client has its row, whether no client, only this one, another one or several had one.
use Rattle.std.proofs.Common.{◌≡◌, ◌∙◌, ℕ, List, sym, ap, subst, true, false, cond, Some, None, bytes_eq}
use Rattle.subs_base.proofs.ContentAfter.{on_ok}
use Rattle.subs.specs.declared.rows.Rows.{Rows}
use Rattle.subs.specs.declared.rows.Rows.TheVariants.{One, Many}
use Rattle.subs.specs.Rows.{qos_of_client, SetsAt}
use Rattle.subs.proofs.ContentOfTree.{anyhow}
use Rattle.subs.proofs.LevelsFound.{updates_client}
use Rattle.subs.proofs.RowsSet.{one_at, none_at, one_set}
use Rattle.subs.proofs.rows.Rows.set.Goals as goal

pub returns-then-eq-clause-ok : goal.returns-then-eq-clause-ok
returns-then-eq-clause-ok c =
    let same : bytes_eq c.in-One.owner c.args.client.now ≡ true = sym c.eq.ensures ∙ c.if-eq.true in
    subst (λ (old : Rows). SetsAt old (One c.in-One.owner c.args.qos) c.args.client.now (Some c.args.qos)) (sym c.in-One.is)
    (one_set c.in-One.owner c.args.client.now c.in-One.kept c.args.qos same)

pub returns-in_err-self-in-One-clause-absent : goal.returns-in_err-self-in-One-clause-absent
returns-in_err-self-in-One-clause-absent c =
    let apart : bytes_eq c.in-One.owner c.args.client.now ≡ false = sym c.eq.ensures ∙ c.if-eq.false in
    anyhow c.from_residual-in_err-self-in-One.result
    (ap (λ rows. qos_of_client rows c.args.client.now) c.in-One.is ∙ none_at c.in-One.owner c.args.client.now c.in-One.kept apart)

pub returns-in_ok-clone-in-Empty-clause-ok : goal.returns-in_ok-clone-in-Empty-clause-ok
returns-in_ok-clone-in-Empty-clause-ok c =
    subst (λ (old : Rows). SetsAt old (One c.in_ok-clone-in-Empty.field-0 c.args.qos) c.args.client.now (Some c.args.qos)) (sym c.in-Empty.is)
    (λ q.
    subst (λ (k : List ℕ). qos_of_client (One k c.args.qos) q ≡ cond (bytes_eq c.args.client.now q) (Some c.args.qos) None) (sym c.in_ok-clone-in-Empty.ensures.cases)
    (one_at c.args.client.now c.args.qos q))

pub returns-in-Many-clause-ok : goal.returns-in-Many-clause-ok
returns-in-Many-clause-ok c =
    on_ok c.set_client.result
    (λ updates.
    subst (λ (old : Rows). SetsAt old (Many c.set_client.new.clients) c.args.client.now (Some c.args.qos)) (sym c.in-Many.is)
    (λ q. updates_client c.in-Many.rows c.set_client.new.clients c.args.client.now (Some c.args.qos) updates q))
    c.set_client.ensures.ok
