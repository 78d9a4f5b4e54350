use Rattle.std.proofs.Common.{◌≡◌, ◌<◌, ℕ, List, length, sym, ◌∙◌, subst, arith}
use Rattle.std.proofs.lemmas.Option.{none-some}
use Rattle.world.proofs.PairsWritten.{fetched_here, fetched_nowhere}
use Rattle.world.proofs.world.World.fetched.Goals as goal

pub returns-in_err-index-clause-none : goal.returns-in_err-index-clause-none
returns-in_err-index-clause-none c = λ same index source f. none-some index (sym c.in_err-index.was ∙ c.first_running.ensures.exact ∙ f.first)

pub returns-then-held-clause-some : goal.returns-then-held-clause-some
returns-then-held-clause-some c =
    let same : c.active.result.1.now ≡ c.args.self.now.nodes.master.members = rw (← c.self.view_is) c.active.ensures.members in
    let below = subst (λ (l : List ℕ). c.in_ok-index.index < length l) (sym same) c.in_ok-index.ensures.below in
    fetched_here c.args.self.now c.active.result.1.now c.in_ok-index.index c.held.result same below
    (sym c.first_running.ensures.exact ∙ c.in_ok-index.was) c.held.ensures (omega arith)

pub returns-else-held-clause-none : goal.returns-else-held-clause-none
returns-else-held-clause-none c = λ none.
    let same : c.active.result.1.now ≡ c.args.self.now.nodes.master.members = rw (← c.self.view_is) c.active.ensures.members in
    let below = subst (λ (l : List ℕ). c.in_ok-index.index < length l) (sym same) c.in_ok-index.ensures.below in
    fetched_nowhere c.args.self.now c.active.result.1.now c.in_ok-index.index c.held.result same below
    (sym c.first_running.ensures.exact ∙ c.in_ok-index.was) c.held.ensures (omega arith)
