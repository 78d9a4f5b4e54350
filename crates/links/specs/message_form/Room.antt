-- Appending to a vector, and when memory runs out for it.
use Rattle.std.specs.Prelude.{◌≡◌, ◌⊎◌, ℕ, ◌+◌, ◌<◌, ◌≤◌, Bool, true, false, nat_lt, List, ◌++◌}
use Rattle.std.specs.Prelude.{length, take, vec_len, vec_capacity, Vec}
use Rattle.ballot_base.specs.declared.message.Body.{Body}
use Rattle.ballot_base.specs.declared.message.Body.TheVariants as bodies
use Rattle.ballot_base.specs.declared.message.Message.{Message}
use Rattle.broker_spec.specs.declared.command.Command.{Command}
use Rattle.links.specs.message_form.Messages.{written}

-- the bytes are appended, and the capacity has not shrunk
pub record Appends {Z : Type 0} (old new : Vec ℕ Z) (bytes : List ℕ) : Type 0 where
  pub items : new.items ≡ old.items ++ bytes
  pub capacity : vec_capacity old ≤ vec_capacity new

-- so many bytes more do not fit
abbrev pub IsFull : {Z : Type 0} → Vec ℕ Z → List ℕ → Type 0
IsFull vector bytes = vec_capacity vector < vec_len vector + length bytes

-- a part of the bytes may have been appended: they do not fit, or a buffer was needed
pub record Lacks {Z : Type 0} (old new : Vec ℕ Z) (bytes : List ℕ) (buffered : Bool) : Type 0 where
  pub kept : take (length old.items) new.items ≡ old.items
  pub lack : IsFull old bytes ⊎ (buffered ≡ true)

-- the commands of a log are each made in a buffer, which takes memory of its own
abbrev pub has_commands : Body Command → Bool
has_commands (bodies.State ballot log) = nat_lt 0 (length log.rest)
has_commands (bodies.Install ballot log) = nat_lt 0 (length log.rest)
has_commands _ = false

-- memory may run out for a message: the vector has too little room, or a buffer is needed
abbrev pub MayRunOut : {Z : Type 0} → Vec ℕ Z → Message Command → Type 0
MayRunOut vector message = IsFull vector (written message) ⊎ (has_commands message.body ≡ true)
