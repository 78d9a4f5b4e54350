-- The logs that are sent, by the kind of their message and their ballot.
use Rattle.std.specs.Prelude.{Bool, false, ◌==◌, Option, Some, None}
use Rattle.ballot_base.specs.declared.message.Message.{Message}
use Rattle.ballot_base.specs.declared.message.Body.{Body}
use Rattle.ballot_base.specs.declared.message.Body.TheVariants as bodies
use Rattle.links.specs.declared.link_queue.logs.LogName.{LogName}
use Rattle.links.specs.declared.link_queue.logs.LogName.TheVariants.{State, Install}

-- the log of a body, if it has one
abbrev pub body_name : {C : Type 0} → Body C → Option LogName
body_name (bodies.State ballot log) = Some (State ballot)
body_name (bodies.Install ballot log) = Some (Install ballot)
body_name _ = None

abbrev pub log_name : {C : Type 0} → Message C → Option LogName
log_name message = body_name message.body

-- the same kind and ballot
abbrev pub is_same : LogName → LogName → Bool
is_same (State ballot) (State other) = ballot == other
is_same (Install ballot) (Install other) = ballot == other
is_same _ _ = false

-- a name is this one
abbrev pub is_name : LogName → Option LogName → Bool
is_name name (Some other) = is_same name other
is_name name None = false

-- a message carries the log of this name
abbrev pub is_named : {C : Type 0} → LogName → Message C → Bool
is_named name message = is_name name (log_name message)
