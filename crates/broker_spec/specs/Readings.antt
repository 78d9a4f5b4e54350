-- What the entries of a session say: origin, times, and what is in flight (MQTT 4.4).
use Rattle.std.specs.Prelude.{ℕ, zero, suc, Bool, true, false, ◌==◌, if◌then◌else◌, List, [], ◌∷◌}
use Rattle.std.specs.Prelude.{◌++◌, filter, Option, Some, None}
use Rattle.session_base.specs.declared.publication.Publication.{Publication}
use Rattle.broker_spec.specs.Entries.{Entry}

-- the origin of an entry: a PUBLISH that was taken at this place, or the retained publications at a
-- SUBSCRIBE
pub data Origin : Type 0 where
  FromPublish : (place : ℕ) → Origin  -- the PUBLISH was taken at this place
  FromRetained : (place : ℕ) → Origin  -- the SUBSCRIBE came at this place

-- the number of the place that made an entry
abbrev pub made_of : Entry → ℕ
made_of (Entry.Queued made publication) = made
made_of (Entry.Sent made publication id start) = made
made_of (Entry.Released made publication id start release) = made
made_of (Entry.Done made publication id start release finish) = made

-- the publication that an entry delivers
abbrev pub publication_in : Entry → Publication
publication_in (Entry.Queued made publication) = publication
publication_in (Entry.Sent made publication id start) = publication
publication_in (Entry.Released made publication id start release) = publication
publication_in (Entry.Done made publication id start release finish) = publication

-- a copy of a retained publication has RETAIN 1 (MQTT 3.3.1.3)
abbrev pub origin_of : Entry → Origin
origin_of entry =
    if (publication_in entry).retain then Origin.FromRetained (made_of entry)
    else Origin.FromPublish (made_of entry)

-- the place at which an entry started, if it did
abbrev pub start_place : Entry → Option ℕ
start_place (Entry.Queued made publication) = None
start_place (Entry.Sent made publication id start) = Some start
start_place (Entry.Released made publication id start release) = Some start
start_place (Entry.Done made publication id start release finish) = Some start

-- the place at which an entry was released, if it was
abbrev pub release_place : Entry → Option ℕ
release_place (Entry.Queued made publication) = None
release_place (Entry.Sent made publication id start) = None
release_place (Entry.Released made publication id start release) = Some release
release_place (Entry.Done made publication id start release finish) = release

-- the place at which an entry was done, if it was
abbrev pub finish_place : Entry → Option ℕ
finish_place (Entry.Done made publication id start release finish) = Some finish
finish_place _ = None

-- ---- all entries of a session

-- the entries that a place made
abbrev pub made_at : ℕ → List Entry → List Entry
made_at place = filter (λ entry. made_of entry == place)

-- the identifiers of the entries that were released at this place and are not done
abbrev pub released_at : ℕ → List Entry → List ℕ
released_at place (Entry.Released made publication id start release ∷ entries) =
    if release == place then id ∷ released_at place entries else released_at place entries
released_at place (_ ∷ entries) = released_at place entries
released_at place [] = []

-- the identifiers that were released below this place and are not done, in the order of release
abbrev pub released_below : ℕ → List Entry → List ℕ
released_below zero entries = []
released_below (suc place) entries = released_below place entries ++ released_at place entries

-- whether an entry is sent, and neither released nor done
abbrev pub is_sent : Entry → Bool
is_sent (Entry.Sent made publication id start) = true
is_sent _ = false

-- the sent entries, in order
abbrev pub sent_entries : List Entry → List Entry
sent_entries = filter is_sent

-- the publications of the queued entries, in order
abbrev pub waiting_of : List Entry → List Publication
waiting_of (Entry.Queued made publication ∷ entries) = publication ∷ waiting_of entries
waiting_of (_ ∷ entries) = waiting_of entries
waiting_of [] = []

-- the identifiers of the entries that are started and not done, in order
abbrev pub busy_ids : List Entry → List ℕ
busy_ids (Entry.Sent made publication id start ∷ entries) = id ∷ busy_ids entries
busy_ids (Entry.Released made publication id start release ∷ entries) = id ∷ busy_ids entries
busy_ids (_ ∷ entries) = busy_ids entries
busy_ids [] = []
