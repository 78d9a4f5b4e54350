-- The numbers of nodes that are about to serve name their inboxes and first states.
use Rattle.std.specs.Prelude.{◌≡◌, ℕ, ◌+◌, List, []}
use Rattle.atomic_table.specs.Seated.{TableId}
use Rattle.run_history.specs.Log.{events_by}
use Rattle.run_history.specs.Parties.{NodeView}
use Rattle.world_base.specs.node_core.Core.{CountedCore}
use Rattle.lists.specs.Lists.{Each}

-- a node that is about to serve: its number, its inbox, and the node as the run has it on record
pub record OpenedView : Type 0 where
  pub number : ℕ
  pub inbox : TableId
  pub node : NodeView

-- each of these nodes has the inbox and the first state that its number names
abbrev pub AreNamed : (ℕ → TableId) → (ℕ → CountedCore) → List OpenedView → Type 0
AreNamed inbox_of first_of =
    Each (λ (opened : OpenedView).
    (opened.inbox ≡ inbox_of opened.number) × (opened.node.node ≡ first_of opened.number))

-- the node is the one of its number in the run, and did nothing yet
abbrev pub IsFresh : OpenedView → Type 0
IsFresh opened = (opened.node.index + 1 ≡ opened.number)
    × (events_by opened.number opened.node.log ≡ 0)

-- each of these is
abbrev pub AreFresh : List OpenedView → Type 0
AreFresh = Each IsFresh
