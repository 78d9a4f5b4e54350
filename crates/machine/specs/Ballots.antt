-- The numbers of ballots.
use Rattle.std.specs.Prelude.{ℕ}
use Rattle.machine.specs.declared.ballots.TheConstants.{MAX_BALLOT}

-- the last ballot that can be given, 2^32, and so the greatest in a connection's name
abbrev pub max_ballot : ℕ
max_ballot = MAX_BALLOT
