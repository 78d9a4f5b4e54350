-- A number of each connection, added up, which no change of a connection raises: what lowers it comes to its end.
use Rattle.std.proofs.Common.{◌≡◌, ◌⊎◌, inl, inr, ◌≤◌, ◌<◌, ◌+◌, ℕ, zero, suc, Bool, true, false, nat_le, if◌then◌else◌, length, List, [], ◌∷◌, Some, sym, subst, arith}
use Rattle.std.specs.List.{find, fold}
use Rattle.packet.specs.Spelling.{spelling}
use Rattle.ballot_base.specs.declared.message.Effect.{Effect}
use Rattle.ballot_base.specs.declared.message.Effect.TheVariants.{To, Out}
use Rattle.ballot_base.specs.StepOutcome.{Outcome}
use Rattle.ballot_base.specs.Service.{proposed}
use Rattle.broker_base.specs.State.{State}
use Rattle.broker_spec.specs.declared.command.Command.{Command}
use Rattle.broker_spec.specs.declared.command.Output.{Output}
use Rattle.broker_spec.specs.declared.command.Output.TheVariants as outputs
use Rattle.broker_spec.specs.Connection.{ConnectionName}
use Rattle.world_base.specs.declared.node_connections.connection.Connection.{Connection}
use Rattle.world_base.specs.node_connections.Connections.{is_open_named}
use Rattle.world_base.specs.node_connections.ConnectionChanges.{max_pending, closed_connection, failing, putting, with_queued, changed_where}
use Rattle.world_base.specs.node_core.Core.{CoreState, StepOutcome, rules, serves}
use Rattle.world_base.specs.node_core.Effects.{without_messages, repeated, with_effect, after_replica_step, proposes, changes_named}
use Rattle.headline.proofs.of_node_moves.NamesInOrder.{same_le}
use Rattle.headline.proofs.of_node_moves.Views.{same_some}

abbrev pub total : (Connection → ℕ) → List Connection → ℕ
total w [] = 0
total w (c ∷ cs) = w c + total w cs

pub total_few : (w : Connection → ℕ) (cs : List Connection) → ((c : Connection) → w c ≤ 1) → total w cs ≤ length cs
total_few w [] one = same_le 0
total_few w (c ∷ cs) one = let here = one c in let rest = total_few w cs one in omega (arith, here, rest)

-- a change of one
pub total_changed : (w : Connection → ℕ) (test : Connection → Bool) (f : Connection → Connection) (cs : List Connection)
    → ((c : Connection) → w (f c) ≤ w c) → total w (changed_where test f cs) ≤ total w cs
total_changed w test f [] low = same_le 0
total_changed w test f (c ∷ cs) low = by (test c) (total_changed w test f cs low) (low c)
  where
    by : (b : Bool) → total w (changed_where test f cs) ≤ total w cs → w (f c) ≤ w c → total w (if b then f c ∷ cs else c ∷ changed_where test f cs) ≤ w c + total w cs
    by true rest here = omega (arith, here)
    by false rest here = omega (arith, rest)

pub total_lowered : (w : Connection → ℕ) (test : Connection → Bool) (f : Connection → Connection) (cs : List Connection) (d : Connection)
    → find test cs ≡ Some d → w (f d) < w d → total w (changed_where test f cs) < total w cs
total_lowered w test f [] d found less = cc
total_lowered w test f (c ∷ cs) d found less = by (test c) (λ g. total_lowered w test f cs d g less) found
  where
    by : (b : Bool) → (find test cs ≡ Some d → total w (changed_where test f cs) < total w cs) → (if b then Some c else find test cs) ≡ Some d
        → total w (if b then f c ∷ cs else c ∷ changed_where test f cs) < w c + total w cs
    by true rest g =
        let here : w (f c) < w c = subst (λ (z : Connection). w (f z) < w z) (sym (same_some c d g)) less in
        omega (arith, here)
    by false rest g = let lower = rest g in omega (arith, lower)

-- ---- what is proposed

-- what holds where bytes are queued, and if the connection is closed as lost
pub put_or_failing : (P : Connection → Type 0) (bytes : List ℕ) (c : Connection) → P (putting bytes c) → P (failing c) → P (with_queued bytes c)
put_or_failing P bytes c p q = by (nat_le (length c.pending + length bytes) max_pending)
  where
    by : (b : Bool) → P (if b then putting bytes c else failing c)
    by true = p
    by false = q

-- no output raises it
pub record IsLight (w : Connection → ℕ) : Type 0 where
  pub shut : (c : Connection) → w (closed_connection c) ≤ w c
  pub put : (bytes : List ℕ) (c : Connection) → w (with_queued bytes c) ≤ w c

total_named : (w : Connection → ℕ) (name : ConnectionName) (f : Connection → Connection) (core : CoreState) → ((c : Connection) → w (f c) ≤ w c)
    → total w (changes_named name f core).connections ≤ total w core.connections
unfolding changes_named
total_named w name f core low = total_changed w (is_open_named name) f core.connections low

total_handled : (w : Connection → ℕ) → IsLight w → (core : CoreState) (e : Effect Command Output) → total w (with_effect core e).connections ≤ total w core.connections
total_handled w light core (Out place (outputs.Send name packet)) = total_named w name (with_queued (spelling packet)) core (light.put (spelling packet))
total_handled w light core (Out place (outputs.Close name)) = total_named w name closed_connection core light.shut
total_handled w light core (To receiver message) = same_le (total w core.connections)

total_delivered : (w : Connection → ℕ) → IsLight w → (core : CoreState) (effects : List (Effect Command Output))
    → total w (fold with_effect core effects).connections ≤ total w core.connections
total_delivered w light core [] = same_le (total w core.connections)
total_delivered w light core (e ∷ effects) =
    let first = total_handled w light core e in
    let rest = total_delivered w light (with_effect core e) effects in
    omega (arith, first, rest)

total_moved : (w : Connection → ℕ) → IsLight w → (outcome : Outcome State Command Output) (core : CoreState)
    → total w (after_replica_step outcome core).core.connections ≤ total w core.connections
total_moved w light outcome core =
    total_delivered w light (let k : CoreState = record core { replica = record core.replica { state = outcome.state } } in k) outcome.effects

pub total_proposed : (w : Connection → ℕ) → IsLight w → (command : Command) (core : CoreState)
    → total w (proposes command core).core.connections ≤ total w core.connections
unfolding proposes
total_proposed w light command core = by (serves core)
  where
    by : (b : Bool) → total w (let t : StepOutcome = if b then after_replica_step (proposed rules core.replica.state command) core else without_messages core in t).core.connections
        ≤ total w core.connections
    by true = total_moved w light (proposed rules core.replica.state command) core
    by false = same_le (total w core.connections)

-- ---- this many times

module _ (next : CoreState → StepOutcome) (Done : CoreState → Type 0) where
  stays_done : (n : ℕ) (core : CoreState) → Done core → next core ≡ without_messages core → Done (repeated n next core).core
  unfolding repeated
  stays_done zero core done idle = done
  stays_done (suc n) core done idle =
      subst (λ (t : StepOutcome). Done (repeated n next t.core).core) (sym idle) (stays_done n core done idle)

  -- it does nothing if it is done, and lowers the total elsewhere
  pub comes_to_end : (w : Connection → ℕ)
      → ((core : CoreState) → (Done core × (next core ≡ without_messages core)) ⊎ (total w (next core).core.connections < total w core.connections))
      → (n : ℕ) (core : CoreState) → total w core.connections ≤ n → Done (repeated n next core).core
  unfolding repeated
  comes_to_end w each zero core few = by (each core)
    where
      by : (Done core × (next core ≡ without_messages core)) ⊎ (total w (next core).core.connections < total w core.connections) → Done (repeated 0 next core).core
      by (inl done) = done.0
      by (inr less) = absurd (omega (arith, few, less))
  comes_to_end w each (suc n) core few = by (each core) (λ lower. comes_to_end w each n (next core).core lower)
    where
      by : (Done core × (next core ≡ without_messages core)) ⊎ (total w (next core).core.connections < total w core.connections)
          → (total w (next core).core.connections ≤ n → Done (repeated n next (next core).core).core) → Done (repeated (suc n) next core).core
      by (inl done) rest = stays_done (suc n) core done.0 done.1
      by (inr less) rest = rest (omega (arith, few, less))
