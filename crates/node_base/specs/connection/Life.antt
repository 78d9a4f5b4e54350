-- The writing of a connection over its whole life: a chain of calls, each from the state that the
-- one before left.
use Rattle.std.specs.Prelude.{ℕ, List, [], ◌++◌, Option}
use Rattle.world_base.specs.declared.node_connections.handed.Handed.{Handed}
use Rattle.node_base.specs.declared.connection.flow.Flow.{Flow}
use Rattle.node_base.specs.connection.Written.{Flows}

-- Where a chain of calls leads a tap and a device: the tap now, all bytes that were handed over by
-- it, the device's bytes now, and what is left.
pub data Lives {T : Type 0}
    (hands : T → List ℕ → Handed → T → Type 0) (first : T) (start : Option (List ℕ))
    : T → List ℕ → Option (List ℕ) → List ℕ → Type 0 where
  -- no call yet
  begins : Lives hands first start first [] start []
  -- one more call of the tap or the device
  goes_on : {before : T} {handed left : List ℕ} {old : Option (List ℕ)}
      (flow : Flow) (after : T) (new : Option (List ℕ)) (rest : List ℕ)
      → Lives hands first start before handed old left
      → (flows : Flows hands flow before after old new left rest)
      → Lives hands first start after (handed ++ flows.bytes) new rest
