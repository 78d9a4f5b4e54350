-- Which sessions a page lists, by their identifiers.
use Rattle.std.specs.Prelude.{◌≡◌, ℕ, ◌⊎◌, List, [], ◌∷◌, Bool, true, Option, Some, None, All, Contains, length, take, filter, string_bytes, ⊤}
use Rattle.std.specs.Cmp.Lexicographic.{slice_cmp}
use Rattle.std.specs.Ordering.{is_lt, nat_cmp}
use Rattle.admin.specs.declared.sessions_page.TheConstants.{MAX_LISTED}
use Rattle.admin.specs.declared.view.SessionLine.{SessionLine}

-- whether an identifier comes before that of a session, byte by byte
abbrev pub is_before : List ℕ → SessionLine → Bool
is_before client session = is_lt (slice_cmp nat_cmp client (string_bytes session.client))

-- whether a session comes after an identifier, if one is given
abbrev pub comes_after : Option (List ℕ) → SessionLine → Bool
comes_after None session = true
comes_after (Some client) session = is_before client session

-- the sessions that a page lists: the first thousand that come after the identifier
abbrev pub listed_sessions : Option (List ℕ) → List SessionLine → List SessionLine
listed_sessions after sessions = take MAX_LISTED (filter (comes_after after) sessions)

-- a session comes before another
abbrev pub Precedes : SessionLine → SessionLine → Type 0
Precedes session other = is_before (string_bytes session.client) other ≡ true

-- each session comes before all that follow
abbrev pub IsRising : List SessionLine → Type 0
IsRising [] = ⊤
IsRising (session ∷ sessions) = All (Precedes session) sessions × IsRising sessions

-- A page of rising sessions is rising. Each session that comes after the identifier is in it, or
-- it is full, and each of its sessions comes before that one.
abbrev pub PagesSkipNoSession : Type 0
PagesSkipNoSession =
    (after : Option (List ℕ)) (sessions : List SessionLine) → IsRising sessions
    → IsRising (listed_sessions after sessions)
    × ((session : SessionLine) → Contains sessions session → comes_after after session ≡ true
    → Contains (listed_sessions after sessions) session
    ⊎ ((length (listed_sessions after sessions) ≡ MAX_LISTED)
    × All (λ listed. Precedes listed session) (listed_sessions after sessions)))
