-- What fields stand for.
use Rattle.std.specs.Prelude.{◌≡◌, true, Some, bytes_eq}
use Rattle.rows.specs.Fields.{Text, number_of}
use Rattle.ballot_base.specs.declared.config.Config.{Config}
use Rattle.world_base.specs.declared.node_connections.port.Port.{Port}

-- a field is this word
abbrev pub Is : Text → Text → Type 0
Is field word = bytes_eq field word ≡ true

-- digits write the number of a port
abbrev pub IsPort : Text → Port → Type 0
IsPort digits port = number_of digits ≡ Some port.0

-- these members, each a byte, and the primary whose number digits write
abbrev pub IsConfig : Text → Text → Config → Type 0
IsConfig members digits config =
    (config.members ≡ members) × (number_of digits ≡ Some config.primary)
