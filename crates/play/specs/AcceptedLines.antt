-- The lines of a transcript for accepted publications.
use Rattle.std.specs.Prelude.{ℕ, List, [], ◌∷◌, ◌++◌, Option, Some, None, drop, length}
use Rattle.client.specs.Core.{Core}
use Rattle.client_base.specs.declared.accepted.Accepted.{Accepted}
use Rattle.play.specs.Lines.{accepted_line}
use Rattle.world.specs.Found.{core_named}
use Rattle.world.specs.World.{WorldState}

-- the publications that a client accepted; none if there is no client
abbrev pub accepted_by_core : Option Core → List Accepted
accepted_by_core None = []
accepted_by_core (Some core) = core.state.accepted

-- the publications that the client of this identifier accepted
abbrev pub accepted_by_client : List ℕ → WorldState → List Accepted
accepted_by_client name world = accepted_by_core (core_named name world.clients)

-- a line for each publication that a client accepted
abbrev pub accepted_lines : List ℕ → List Accepted → List ℕ
accepted_lines name [] = []
accepted_lines name (one ∷ more) = accepted_line name one ++ accepted_lines name more

-- a line for each publication that the client accepted after the first `count`
abbrev pub lines_after : ℕ → List ℕ → WorldState → List ℕ
lines_after count name world = accepted_lines name (drop count (accepted_by_client name world))

-- a line for each publication that one of these clients accepted between the two worlds
abbrev pub new_lines : List (List ℕ) → WorldState → WorldState → List ℕ
new_lines [] old new = []
new_lines (name ∷ names) old new =
    lines_after (length (accepted_by_client name old)) name new ++ new_lines names old new
