-- How many messages a recovery has.
use Rattle.std.specs.Prelude.{◌≡◌, ℕ, ◌+◌, ◌*◌, length}
use Rattle.recovery.specs.replicas.Deliveries.{asked_and_answered, recovery_messages}

-- with this many others than its primary, a ballot is led to its start by five messages and four
-- for each other; one command then takes two for each other
abbrev pub RecoveriesAreShort : Type 0
RecoveriesAreShort =
    (sent members index others : ℕ) →
    (length (recovery_messages sent members index others) ≡ 5 + 4 * others)
    × (length (asked_and_answered sent others) ≡ 2 * others)
