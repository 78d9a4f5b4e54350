-- Which inbox and which first state each node's number names.
use Rattle.std.specs.Prelude.{◌≡◌, ◌==◌, ℕ, Bool, true, false, List, [], ◌∷◌, ◌++◌, if◌then◌else◌}
use Rattle.atomic_table.specs.Seated.{TableId}
use Rattle.mailbox.specs.Naming.{no_inbox}
use Rattle.world_base.specs.node_core.Core.{CountedCore, opening_core}
use Rattle.ballot_base.specs.declared.config.Config.{Config}
use Rattle.run_history.specs.Parties.{NodeView}
use Rattle.server.specs.declared.opening.OpenedNodes.{OpenedNodes}
use Rattle.server.specs.node_threads.Named.{OpenedView}

-- the inbox of the node of this number, among nodes that are about to serve
abbrev pub inbox_among : List OpenedView → ℕ → TableId
inbox_among [] number = no_inbox
inbox_among (opened ∷ others) number =
    if opened.number == number then opened.inbox else inbox_among others number

-- the node of this number as it opens in this configuration of ballot 1
abbrev pub first_in : Config → ℕ → CountedCore
first_in config number = record { core = opening_core number config; losses = 0 }

-- one more node is about to serve: the one of this number, with an inbox
pub record AddsServed {H : Type 0} (number : ℕ) (node : NodeView)
    (old new : OpenedNodes H) : Type 0 where
  pub inbox : TableId
  pub served : new.served.items
      ≡ old.served.items ++ record { number = number; inbox = inbox; node = node } ∷ []
  pub others : new.others.items ≡ old.others.items

-- one more node only stands there
pub record AddsOther {H : Type 0} (node : NodeView) (old new : OpenedNodes H) : Type 0 where
  pub served : new.served.items ≡ old.served.items
  pub others : new.others.items ≡ old.others.items ++ node ∷ []

-- the node of this number was added, to those about to serve or to the others
abbrev pub AddsNode : {H : Type 0} → ℕ → NodeView → Bool → OpenedNodes H → OpenedNodes H → Type 0
AddsNode number node true old new = AddsServed number node old new
AddsNode number node false old new = AddsOther node old new
