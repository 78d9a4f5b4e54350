-- No byte is left out between a tap and its device.
use Rattle.std.specs.Prelude.{ℕ, List, Option}
use Rattle.world_base.specs.declared.node_connections.handed.Handed.{Handed}
use Rattle.node_base.specs.connection.Life.{Lives}
use Rattle.node_base.specs.connection.Written.{Writes}

-- Over the whole life of a connection, what was handed over is what was written, followed by what
-- is left.
abbrev pub NothingIsLeftOut : {T : Type 0} → (T → List ℕ → Handed → T → Type 0) → Type 0
NothingIsLeftOut {T = T} hands =
    (first : T) (start : Option (List ℕ)) (now : T)
    (handed : List ℕ) (contents : Option (List ℕ)) (left : List ℕ)
    → Lives hands first start now handed contents left → Writes start contents handed left
