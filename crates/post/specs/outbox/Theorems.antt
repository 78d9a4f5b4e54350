-- Why a waiting message may be replaced.
use Rattle.std.specs.Prelude.{◌≡◌, ℕ, true, List, max}
use Rattle.ballot_base.specs.declared.status.Progress.{Progress}
use Rattle.ballot_base.specs.Service.{raised}
use Rattle.ballot_base.specs.declared.message.Body.TheVariants.{Held, Commit}
use Rattle.post.specs.outbox.Replacement.{covers}

-- A Held that replaces an earlier one is of the same ballot, and a primary learns from it alone as
-- much as from both.
abbrev pub LaterCountsSuffice : Type 0
LaterCountsSuffice =
    (ballot held earlier fewer member : ℕ) (progress : List Progress) →
    covers (Held ballot held) (Held earlier fewer) ≡ true →
    (ballot ≡ earlier)
    × (raised member held (raised member fewer progress) ≡ raised member held progress)

-- A Commit that replaces an earlier one is of the same ballot, and a backup applies as many places
-- by it alone as by both.
abbrev pub LaterCommitsSuffice : Type 0
LaterCommitsSuffice =
    (ballot held earlier fewer committed : ℕ) →
    covers (Commit ballot held) (Commit earlier fewer) ≡ true →
    (ballot ≡ earlier) × (max (max committed fewer) held ≡ max committed held)
