-- What is kept of each node's end.
use Rattle.std.specs.Prelude.{◌≡◌, ℕ, ◌+◌, List, [], ◌∷◌, ◌++◌, Some, map}
use Rattle.std.specs.Option.{option_or}
use Rattle.run_history.specs.Log.{events_by}
use Rattle.run_history.specs.Parties.{NodeView}
use Rattle.server.specs.Ended.{EndedView}
use Rattle.server.specs.declared.outcome.Outcome.{Outcome}
use Rattle.server.specs.declared.serve_error.ServeError.{ServeError}

-- the numbers of nodes that ended, in their order
abbrev pub numbers_of : List EndedView → List ℕ
numbers_of = map (λ (one : EndedView). one.report.number)

-- the node is added to the others
abbrev pub AddsEnded : {H : Type 0} → EndedView → Outcome H → Outcome H → Type 0
AddsEnded one old new =
    (new.ended.items ≡ old.ended.items ++ one ∷ []) × (new.failure ≡ old.failure)

-- a node was not served, for this cause, which is kept if it is the first
abbrev pub Fails : {H : Type 0} → ServeError → Outcome H → Outcome H → Type 0
Fails cause old new =
    (new.ended.items ≡ old.ended.items)
    × (new.failure ≡ option_or old.failure (Some cause))

-- the node has done nothing in the run
abbrev pub IsIdle : NodeView → Type 0
IsIdle node = events_by (node.index + 1) node.log ≡ 0
