-- CountsInRun.antt: what a node counts as handed over is what it handed over by the run.
use Rattle.std.proofs.Common.{◌≡◌, ℕ, ◌+◌, ◌-◌, ◌≤◌, ◌==◌, Bool, true, false, if◌then◌else◌, List, [], ◌++◌, Some, length, refl, ◌∙◌, ap, sym, subst, arith, length-append}
use Rattle.std.specs.Prelude.{slice_get}
use Rattle.ballot_base.specs.declared.config.Config.{Config}
use Rattle.ballot_base.specs.declared.message.Effect.{Effect}
use Rattle.broker_spec.specs.declared.command.Command.{Command}
use Rattle.broker_spec.specs.declared.command.Output.{Output}
use Rattle.world_base.specs.declared.node_connections.port.Port.{Port}
use Rattle.world_base.specs.declared.node_core.item.Item.{Item}
use Rattle.world_base.specs.node_connections.PendingOutput.{pending_bytes}
use Rattle.world_base.specs.node_core.PortOutput.{listed_at}
use Rattle.run_history.specs.declared.event.RunEvent.{RunEvent}
use Rattle.run_history.specs.Log.{events_by, items_taken, nodes_in}
use Rattle.run_history.specs.Parties.{HandedOver, NodeView, TookItem}
use Rattle.run_history.proofs.TakenItems.{items_stay}
use Rattle.node.specs.HandedBytes.{handed_at}
use Rattle.node.specs.HandedCounts.{CountsAreRight, counts_after, opening_counts}
use Rattle.node.specs.declared.handed_counts.HandedCount.{HandedCount}
use Rattle.node.proofs.CountsRight.{counts_stay, more_at, opening_right, right_still}
use Rattle.node.proofs.HandedInRun.{hand_overs_add_up, none_handed, steps_hand_over_nothing}

-- how many bytes the node at this index handed over for a port by a log
abbrev bytes_by : ℕ → Config → ℕ → List RunEvent → Port → ℕ
bytes_by nodes config index log port = length (handed_at nodes config index port log)

-- a node that has done nothing
pub none_counted : (nodes : ℕ) (config : Config) (index number : ℕ) (log : List RunEvent) → index + 1 ≡ number → events_by number log ≡ 0
    → CountsAreRight nodes config index log opening_counts
none_counted nodes config index number log named none =
    opening_right (bytes_by nodes config index log)
    (λ port. ap length (none_handed nodes config index port log (subst (λ (n : ℕ). events_by n log ≡ 0) (sym named) none)))

pub none_taken : (number : ℕ) (log : List RunEvent) → events_by number log ≡ 0 → items_taken number log ≡ []
none_taken number log none = items_stay number [] log (log, refl) none

-- a step on an item
pub counts_stepped : (nodes : ℕ) (config : Config) (old new : NodeView) (item : Item) (before after : List (Effect Command Output)) (counts : List HandedCount)
    → TookItem old item new before after → CountsAreRight nodes config old.index old.log counts → CountsAreRight nodes config new.index new.log counts
counts_stepped nodes config old new item before after counts took right =
    subst (λ (index : ℕ). CountsAreRight nodes config index new.log counts) (sym took.did.index)
    (right_still (bytes_by nodes config old.index old.log) (bytes_by nodes config old.index new.log) counts
    (λ port. ap length (steps_hand_over_nothing nodes config old new item port before after took)) right)

-- the size of what one port gets
sized : (port other : Port) (bytes : List ℕ) → length (if port.0 == other.0 then bytes else []) ≡ more_at port (length bytes) other
sized port other bytes = by (port.0 == other.0)
  where
    by : (b : Bool) → length (if b then bytes else []) ≡ (if b then length bytes else 0)
    by true = refl
    by false = refl

-- a hand-over
pub counts_handed : (nodes : ℕ) (config : Config) (old new : NodeView) (port : Port) (counts : List HandedCount)
    → slice_get (nodes_in nodes config old.log) old.index ≡ Some old.node.core → HandedOver old port new
    → CountsAreRight nodes config old.index old.log counts
    → CountsAreRight nodes config new.index new.log (counts_after counts port (length (pending_bytes (listed_at port old.node.core))))
counts_handed nodes config old new port counts at handed right =
    let pending = pending_bytes (listed_at port old.node.core) in
    subst (λ (index : ℕ). CountsAreRight nodes config index new.log (counts_after counts port (length pending))) (sym handed.did.index)
    (counts_stay (bytes_by nodes config old.index old.log) (bytes_by nodes config old.index new.log) counts port (length pending) right
    (λ other same. ap (λ (number : ℕ). bytes_by nodes config old.index old.log (record { 0 = number })) same)
    (λ other.
    ap length (hand_overs_add_up nodes config old new port other at handed)
    ∙ (length-append (handed_at nodes config old.index other old.log) (if port.0 == other.0 then pending else [])
    ∙ ap (λ (n : ℕ). bytes_by nodes config old.index old.log other + n) (sized port other pending))))

-- how many bytes were appended
pub appended : (old new more : List ℕ) (was is : ℕ) → new ≡ old ++ more → was ≡ length old → is ≡ length new → is - was ≡ length more
appended old new more was is bytes first last =
    let size : length new ≡ length old + length more = ap length bytes ∙ length-append old more in
    omega (arith, size, first, last)

pub not_shorter : (old new more : List ℕ) (was is : ℕ) → new ≡ old ++ more → was ≡ length old → is ≡ length new → was ≤ is
not_shorter old new more was is bytes first last =
    let size : length new ≡ length old + length more = ap length bytes ∙ length-append old more in
    omega (arith, size, first, last)
