-- Which waiting message is replaced by a newer one.
use Rattle.std.specs.Prelude.{ℕ, Bool, false, ◌==◌, ◌&&◌, nat_le}
use Rattle.ballot_base.specs.declared.message.Message.{Message}
use Rattle.ballot_base.specs.declared.message.Body.{Body}
use Rattle.ballot_base.specs.declared.message.Body.TheVariants.{Held, Commit}

-- a Held of this ballot for at most this many places
abbrev pub is_held_within : {C : Type 0} → ℕ → ℕ → Body C → Bool
is_held_within ballot held (Held earlier fewer) = earlier == ballot && nat_le fewer held
is_held_within ballot held _ = false

-- a Commit of this ballot for at most this many places
abbrev pub is_commit_within : {C : Type 0} → ℕ → ℕ → Body C → Bool
is_commit_within ballot held (Commit earlier fewer) = earlier == ballot && nat_le fewer held
is_commit_within ballot held _ = false

-- the newer one says all that the older one said
abbrev pub body_covers : {C : Type 0} → Body C → Body C → Bool
body_covers (Held ballot held) older = is_held_within ballot held older
body_covers (Commit ballot held) older = is_commit_within ballot held older
body_covers _ older = false

-- a Held or Commit of the same node and ballot, with no smaller count
abbrev pub covers : {C : Type 0} → Message C → Message C → Bool
covers newer older = newer.from == older.from && body_covers newer.body older.body
