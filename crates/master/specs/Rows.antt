-- A configuration of the worked example in `src/rows.rt`.
use Rattle.std.specs.Prelude.{ℕ, [], ◌∷◌}
use Rattle.ballot_base.specs.declared.config.Config.{Config}

-- one node is the only member
abbrev pub sole : ℕ → Config
sole node = record { members = node ∷ []; primary = node }
