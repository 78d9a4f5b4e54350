use Rattle.std.specs.Prelude.{◌≡◌, ℕ, List, true, false}
use Rattle.std.proofs.Common.{subst, sym}
use Rattle.std.proofs.lemmas.Result.{err_from_is_err_and}
use Rattle.broker_base.specs.form.Needs.{needs_to_thaw}
use Rattle.broker.proofs.RowsCounted.{no_sessions, topics_need}
use Rattle.broker.proofs.table_readers.read_broker.Goals as goal

pub returns-in_err-retained-clause-memory : goal.returns-in_err-retained-clause-memory
returns-in_err-retained-clause-memory c =
    let p = err_from_is_err_and c.from_residual-in_err-retained.result c.from_residual-in_err-retained.ensures.1 in
    rw (p.1, p.2) (λ out. subst (λ (bytes : List ℕ). needs_to_thaw bytes ≡ true) c.new-reader.ensures
    (topics_need c.new-reader.result _ _ _ _ c.in_ok-window.ensures.exact c.in_ok-rows.ensures.exact (c.in_err-retained.ensures.memory cc)))

pub returns-clause-none : goal.returns-clause-none
returns-clause-none c = λ needs. no_sessions c.new-reader.result _ _ _ _ c.in_ok-window.ensures.exact c.in_ok-rows.ensures.exact
    (subst (λ (bytes : List ℕ). needs_to_thaw bytes ≡ false) (sym c.new-reader.ensures) needs)
