-- What two looks at the status of a node show.
use Rattle.std.specs.Prelude.{◌&&◌, ◌==◌, ℕ, Bool, false, not, nat_lt, Option, Some, None, if◌then◌else◌}
use Rattle.ballot_base.specs.Replica.{is_active}
use Rattle.ballot_base.specs.declared.status.Status.{Status}
use Rattle.jobs.specs.declared.looks.Look.{Look}
use Rattle.jobs.specs.declared.looks.Change.{Change}
use Rattle.jobs.specs.declared.looks.Change.TheVariants as changes

-- before the first look
abbrev pub no_look : Look
no_look = record { has_stopped = false; serves = 0 }

-- whether a node stopped, and the ballot in which it is the active primary; 0 if it is none
abbrev pub look_of : Status → Look
look_of shown = record {
  has_stopped = shown.stopped;
  serves = if not shown.stopped && is_active shown.role then shown.ballot else 0;
}

-- A node has stopped, or it has become the active primary of a ballot. That of ballot 1 is no
-- takeover.
abbrev pub change_of : Look → Look → Option Change
change_of before after =
    if after.has_stopped then (if before.has_stopped then None else Some changes.Stopped) else
    if nat_lt 1 after.serves && not (after.serves == before.serves)
    then Some (changes.Serves after.serves) else None
