-- What each session meets, if one step of a session keeps it, all sessions meet after a step.
use Rattle.std.proofs.Common.{ℕ, Bool, if◌then◌else◌, Option, Some, None, [], ◌∷◌}
use Rattle.std.specs.declared.cmp.Ordering.{Ordering}
use Rattle.std.specs.declared.cmp.Ordering.TheVariants.{Less, Equal, Greater}
use Rattle.std.specs.Ordering.{is_eq, match_ordering}
use Rattle.std.specs.List.{AllByRecursion}
use Rattle.retained.specs.Retained.{RetainedTopics}
use Rattle.broker_spec.specs.Connection.{ConnectionName}
use Rattle.broker_spec.specs.Place.{Client, by_bytes, Mark, Place}
use Rattle.broker_base.specs.ClientSession.{ClientSession}
use Rattle.broker_base.specs.SessionStep.{session_connected}
use Rattle.broker_base.specs.State.{Sessions, keyed, session_in, put_session}
use Rattle.broker_base.specs.Step.{session_after, sessions_left, sessions_with}
use Rattle.broker_spec.specs.declared.command.Command.{Command}
use Rattle.broker_spec.specs.declared.command.Command.TheVariants as commands

-- a session, if there is one, meets it
abbrev pub If : (ClientSession → Type 0) → Option ClientSession → Type 0
If P (Some kept) = P kept
If P None = Unit {0}

abbrev pub AllRows : (ClientSession → Type 0) → Sessions → Type 0
AllRows P rows = AllByRecursion (λ row. P row.1) rows

all_keyed : (P : ClientSession → Type 0) (c : Client) (o : Option ClientSession) (rows : Sessions) → If P o → AllRows P rows → AllRows P (keyed c o rows)
all_keyed P c None rows h k = k
all_keyed P c (Some kept) rows h k = (h, k)

pub all_left : (P Q : ClientSession → Type 0) (w : ℕ) (place : Place) (content : RetainedTopics) →
    ((c : Client) (kept : ClientSession) → P kept → If Q (session_after w place content c kept)) →
    (rows : Sessions) → AllRows P rows → AllRows Q (sessions_left w place content rows)
all_left P Q w place content one [] h = tt
all_left P Q w place content one (row ∷ rows) h =
    all_keyed Q row.0 (session_after w place content row.0 row.1) (sessions_left w place content rows)
    (one row.0 row.1 h.0) (all_left P Q w place content one rows h.1)

pub all_put : (Q : ClientSession → Type 0) (c : Client) (kept : ClientSession) (rows : Sessions) → Q kept → AllRows Q rows → AllRows Q (put_session c kept rows)
all_put Q c kept [] h k = (h, tt)
all_put Q c kept (row ∷ rows) h k = by (by_bytes c row.0) (all_put Q c kept rows h k.1)
  where
    by : (o : Ordering) → AllRows Q (put_session c kept rows) →
        AllRows Q (match_ordering o ((c, kept) ∷ row ∷ rows) ((row.0, kept) ∷ rows) (row ∷ put_session c kept rows))
    by Less more = (h, k)
    by Equal more = (h, k.1)
    by Greater more = (k.0, more)

pub all_found : (P : ClientSession → Type 0) (c : Client) (rows : Sessions) → AllRows P rows → If P (session_in c rows)
all_found P c [] h = tt
all_found P c (row ∷ rows) h = by (by_bytes c row.0) (all_found P c rows h.1)
  where
    by : (o : Ordering) → If P (session_in c rows) → If P (if is_eq o then Some row.1 else session_in c rows)
    by Less k = k
    by Equal k = h.0
    by Greater k = k

pub all_with : (P Q : ClientSession → Type 0) (w : ℕ) (place : Place) (content : RetainedTopics) (rows : Sessions) (command : Command) (mark : Mark) →
    ((opened : ConnectionName × Bool) (old : Option ClientSession) → If P old → Q (session_connected w opened old)) →
    AllRows P rows → AllRows Q (sessions_left w place content rows) → AllRows Q (sessions_with w place content rows command mark)
all_with P Q w place content rows (commands.Connect x c clean) Mark.Accepted connected k h =
    all_put Q c (session_connected w (x, clean) (session_in c rows)) (sessions_left w place content rows)
    (connected (x, clean) (session_in c rows) (all_found P c rows k)) h
all_with P Q w place content rows command mark connected k h = h
