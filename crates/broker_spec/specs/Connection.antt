-- Names of Network Connections.
pub use Rattle.machine.specs.Ballots.{max_ballot}
use Rattle.std.specs.Prelude.{◌≡◌, ℕ, nat_lt, nat_le, Bool, true, ◌==◌, ◌&&◌}
use Rattle.broker_spec.specs.declared.connection_name.TheConstants.{MAX_COUNT}

-- a connection's name: the ballot in which it was accepted, and its number there
pub record ConnectionName : Type 0 where
  pub ballot : ℕ
  pub count : ℕ

-- the first connection of the first ballot
abbrev pub first_connection : ConnectionName
first_connection = record { ballot = 1; count = 1 }

-- the greatest number of a connection in its ballot
abbrev pub max_count : ℕ
max_count = MAX_COUNT

-- ballots are 1 to 2^32, and the connections of a ballot are numbered 1 to 2^40
abbrev pub is_connection_name : ConnectionName → Bool
is_connection_name name =
    (nat_lt 0 name.ballot && nat_le name.ballot max_ballot)
    && (nat_lt 0 name.count && nat_le name.count max_count)

-- the ballot and the number of the name are in their ranges
abbrev pub IsConnectionName : ConnectionName → Type 0
IsConnectionName name = is_connection_name name ≡ true

-- whether two names are equal
abbrev pub same_connection : ConnectionName → ConnectionName → Bool
same_connection name other = (name.ballot == other.ballot) && (name.count == other.count)
