-- Which part of a frozen session may follow which.
use Rattle.std.specs.Prelude.{ℕ, Bool, true, not, ◌&&◌, ◌||◌, nat_lt, List, Option, Some, None}
use Rattle.lists.specs.Lists.{has_id}
use Rattle.session_base.specs.declared.publication.Publication.{Publication}
use Rattle.session_base.specs.Subscriptions.{GrantedSubscription, is_subscribed}
use Rattle.session_base.specs.Queue.{Flight, ids_of, is_released}
use Rattle.session_base.specs.Counted.{last_of}

-- a filter that the session does not have yet
abbrev pub is_new_filter : List GrantedSubscription → GrantedSubscription → Bool
is_new_filter front granted = not (is_subscribed granted.0 front)

-- an identifier above the last one, if there is one
abbrev pub is_above_last : Option ℕ → ℕ → Bool
is_above_last (Some last) id = nat_lt last id
is_above_last None id = true

-- an identifier above all of those read before
abbrev pub is_above : List ℕ → ℕ → Bool
is_above front id = is_above_last (last_of front) id

-- the last entry, if there is one, is released
abbrev pub was_released : Option Flight → Bool
was_released (Some last) = is_released last
was_released None = true

-- an entry with a new identifier; a released one follows only released ones
abbrev pub may_follow : List Flight → Flight → Bool
may_follow front flight =
    not (has_id flight.0 (ids_of front))
    && (not (is_released flight) || was_released (last_of front))

-- any publication may come after those before it
abbrev pub anything : List Publication → Publication → Bool
anything front publication = true
