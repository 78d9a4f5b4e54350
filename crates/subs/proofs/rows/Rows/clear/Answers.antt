-- The client's row is removed, whether it was the only one or one of several.
use Rattle.std.proofs.Common.{◌≡◌, ◌∙◌, sym, ap, subst, true, false, None, is_some, bytes_eq}
use Rattle.subs.specs.declared.rows.Rows.{Rows}
use Rattle.subs.specs.declared.rows.Rows.TheVariants.{Empty, One, Many}
use Rattle.subs.specs.Rows.{qos_of_client, SetsAt}
use Rattle.subs.proofs.LevelsFound.{updates_client}
use Rattle.subs.proofs.RowsSet.{none_at, some_at, one_cleared, one_stays}
use Rattle.subs.proofs.rows.Rows.clear.Goals as goal

pub returns-then-found-clause-found : goal.returns-then-found-clause-found
returns-then-found-clause-found c =
    let same : bytes_eq c.in-One.owner c.args.client.now ≡ true = sym c.eq-found.ensures ∙ c.if-found.true in
    c.if-found.true
    ∙ sym (ap is_some (ap (λ rows. qos_of_client rows c.args.client.now) c.in-One.is ∙ some_at c.in-One.owner c.args.client.now c.in-One.field-1 same))

pub returns-then-found-clause-after : goal.returns-then-found-clause-after
returns-then-found-clause-after c =
    let same : bytes_eq c.in-One.owner c.args.client.now ≡ true = sym c.eq-found.ensures ∙ c.if-found.true in
    subst (λ (old : Rows). SetsAt old Empty c.args.client.now None) (sym c.in-One.is)
    (one_cleared c.in-One.owner c.args.client.now c.in-One.field-1 same)

pub returns-else-found-clause-found : goal.returns-else-found-clause-found
returns-else-found-clause-found c =
    let apart : bytes_eq c.in-One.owner c.args.client.now ≡ false = sym c.eq-found.ensures ∙ c.if-found.false in
    c.if-found.false
    ∙ sym (ap is_some (ap (λ rows. qos_of_client rows c.args.client.now) c.in-One.is ∙ none_at c.in-One.owner c.args.client.now c.in-One.field-1 apart))

pub returns-else-found-clause-after : goal.returns-else-found-clause-after
returns-else-found-clause-after c =
    let apart : bytes_eq c.in-One.owner c.args.client.now ≡ false = sym c.eq-found.ensures ∙ c.if-found.false in
    subst (λ (old : Rows). SetsAt old (One c.in-One.owner c.in-One.field-1) c.args.client.now None) (sym c.in-One.is)
    (one_stays c.in-One.owner c.args.client.now c.in-One.field-1 apart)

pub returns-in-Many-clause-after : goal.returns-in-Many-clause-after
returns-in-Many-clause-after c =
    subst (λ (old : Rows). SetsAt old (Many c.clear_client.new.clients) c.args.client.now None) (sym c.in-Many.is)
    (λ q. updates_client c.in-Many.rows c.clear_client.new.clients c.args.client.now None c.clear_client.ensures.after q)
