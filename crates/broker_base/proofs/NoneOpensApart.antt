-- If none of the sessions opens a connection, a connection stays that of one session at most.
use Rattle.std.proofs.Common.{◌≡◌, ℕ, Some, None, [], ◌∷◌, ◌∙◌, sym}
use Rattle.retained.specs.Retained.{RetainedTopics}
use Rattle.broker_spec.specs.Connection.{ConnectionName}
use Rattle.broker_spec.specs.Place.{Place}
use Rattle.broker_spec.specs.Sessions.{accepts}
use Rattle.broker_base.specs.State.{Sessions}
use Rattle.broker_base.specs.Step.{session_after, sessions_left}
use Rattle.broker_base.specs.StateTheorems.{IsNobodys, ConnectionsAreApart}
use Rattle.broker_base.proofs.ConnectionsOfSessions.{not_after, nobodys_keyed, old_after, apart_keyed}

-- ---- if none of these opens a connection

abbrev pub NoneOpens : Place → Sessions → Type 0
NoneOpens place (row ∷ rows) = (accepts place.command place.mark row.0 ≡ None) × NoneOpens place rows
NoneOpens place [] = Unit {0}

pub nobodys_kept : (y : ConnectionName) (w : ℕ) (place : Place) (content : RetainedTopics) (rows : Sessions) → NoneOpens place rows → IsNobodys y rows →
    IsNobodys y (sessions_left w place content rows)
nobodys_kept y w place content [] none h = tt
nobodys_kept y w place content (row ∷ rows) none h =
    nobodys_keyed y row.0 (session_after w place content row.0 row.1) (sessions_left w place content rows)
    (not_after y w place content row.0 row.1 (λ a e. absurd (let f : None ≡ Some a = sym none.0 ∙ e in cc)) h.0) (nobodys_kept y w place content rows none.1 h.1)

pub apart_left : (w : ℕ) (place : Place) (content : RetainedTopics) (rows : Sessions) → NoneOpens place rows → ConnectionsAreApart rows → ConnectionsAreApart (sessions_left w place content rows)
apart_left w place content [] none h = tt
apart_left w place content (row ∷ rows) none h =
    apart_keyed row.1.connection row.0 (session_after w place content row.0 row.1) (sessions_left w place content rows)
    (old_after w place content row.0 row.1 none.0) (λ y e. nobodys_kept y w place content rows none.1 (h.0 y e)) (apart_left w place content rows none.1 h.1)
