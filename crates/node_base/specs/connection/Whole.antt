-- A connection's stream from its first byte on.
use Rattle.std.specs.Prelude.{ℕ, List, Option}
use Rattle.std.specs.Io.KnownBytes.{IsAtEnd}
use Rattle.node_base.specs.devices.Counted.{CountedView}
use Rattle.world_base.specs.declared.node_connections.handed.Handed.{Handed}
use Rattle.node_base.specs.connection.Life.{Lives}

-- a tap, the bytes that were handed over by it and are not yet written, and the device that is
-- written to
pub record OutflowView (T W : Type 0) : Type 0 where
  pub tap : T
  pub left : List ℕ
  pub device : CountedView W

-- A stream is whole from its first byte on: its tap was opened, its device held no byte as far as
-- that is known, and then came one write after another. So all that was handed over by the tap is
-- what was written, followed by what is left (`NothingIsLeftOut` of `Theorems`).
pub record IsWhole {T : Type 0} (opens : T → Type 0) (hands : T → List ℕ → Handed → T → Type 0)
    (tap : T) (contents : Option (List ℕ)) (left : List ℕ)
    : Type 0 where
  pub first : T
  pub opened : opens first
  pub start : Option (List ℕ)
  pub empty : IsAtEnd start
  pub handed : List ℕ
  pub lives : Lives hands first start tap handed contents left
