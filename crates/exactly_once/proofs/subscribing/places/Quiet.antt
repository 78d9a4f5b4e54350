-- What a place that opens and ends nothing of a client leaves of its connection and its entries.
use Rattle.std.proofs.Common.{◌≡◌, ◌≤◌, ℕ, Bool, true, false, nat_lt, if◌then◌else◌, List, [], ◌∷◌, ◌++◌, length, map, Option, Some, None, refl, ap, ap₂, sym, subst, ◌⊎◌, inl, inr, arith}
use Rattle.session_base.specs.Identifiers.{least_free}
use Rattle.broker_spec.specs.Connection.{ConnectionName}
use Rattle.broker_spec.specs.Place.{Client, Place, Past, Limits}
use Rattle.broker_spec.specs.Sessions.{accepts, ends_any, newest_connection, current_connection, clean_session_of, begins, in_session}
use Rattle.broker_spec.specs.Entries.{Entry, copies_at, queued}
use Rattle.broker_spec.specs.Times.{answered_by, start_all, started, window_at, entries_of}
use Rattle.broker_spec.specs.Commands.{is_start}
use Rattle.broker_spec.specs.NobodyTheorems.{IsSteady}
use Rattle.broker_spec.proofs.NothingWaits.{IsFull, full-at}
use Rattle.exactly_once.proofs.Starts.{rows_started}
use Rattle.exactly_once.proofs.subscribing.Adding.{rows_at}

-- the connection stays
pub current_same : (place : Place) (past : Past) (c : Client) → accepts place.command place.mark c ≡ None → ends_any place c (current_connection past c) ≡ false
    → current_connection (place ∷ past) c ≡ current_connection past c
unfolding current_connection
current_same place past c a e = ap₂ (λ (o : Option (ConnectionName × Bool)) (b : Bool). newest_connection o b (current_connection past c)) a e

-- the connection is over
pub current_over : (place : Place) (past : Past) (c : Client) → accepts place.command place.mark c ≡ None → ends_any place c (current_connection past c) ≡ true
    → current_connection (place ∷ past) c ≡ None
unfolding current_connection
current_over place past c a e = ap₂ (λ (o : Option (ConnectionName × Bool)) (b : Bool). newest_connection o b (current_connection past c)) a e

-- no session, no entries
none_kept : {A : Type 0} (session : Option Bool) (beginning : Bool) (fresh kept : A) → session ≡ None → in_session session beginning fresh kept ≡ fresh
none_kept None beginning fresh kept e = refl
none_kept (Some clean) beginning fresh kept e = absurd (cc)

-- a client without a session has no entries
pub no_entries : (limits : Limits) (past : Past) (c : Client) → clean_session_of past c ≡ None → entries_of limits past c ≡ []
unfolding entries_of
no_entries limits [] c e = refl
no_entries limits (place ∷ past) c e =
    none_kept (clean_session_of (place ∷ past) c) (begins place past c) []
    (started (window_at limits (place ∷ past)) (length past) (current_connection (place ∷ past) c)
    (answered_by place.command place.mark (length past) c (entries_of limits past c) ++ map (Entry.Queued (length past)) (queued (copies_at place past c)))) e

-- if each that waits has a full window before it, nothing starts
pub full_stays : (w n : ℕ) (ids : List ℕ) (es : List Entry) → IsFull w (length ids) es → start_all w n ids es ≡ es
full_stays w n ids [] f = refl
full_stays w n ids (Entry.Queued made p ∷ es) f = ap (λ b. if b then Entry.Sent made p (least_free ids) n ∷ start_all w n (least_free ids ∷ ids) es else Entry.Queued made p ∷ es) (shut (length ids) w f.0)
  where
    shut : (k w : ℕ) → w ≤ k → nat_lt k w ≡ false
    shut k w h = grind arith
full_stays w n ids (Entry.Sent made p id start ∷ es) f = ap (λ l. Entry.Sent made p id start ∷ l) (full_stays w n (id ∷ ids) es f)
full_stays w n ids (Entry.Released made p id start release ∷ es) f = ap (λ l. Entry.Released made p id start release ∷ l) (full_stays w n (id ∷ ids) es f)
full_stays w n ids (Entry.Done made p id start release finish ∷ es) f = ap (λ l. Entry.Done made p id start release finish ∷ l) (full_stays w n ids es f)

-- and no row of the handshake starts
pub full_rows : (w : ℕ) (ids : List ℕ) (es : List Entry) → IsFull w (length ids) es → rows_started w ids es ≡ []
full_rows w ids [] f = refl
full_rows w ids (Entry.Queued made p ∷ es) f = rw (shut (length ids) w f.0) refl
  where
    shut : (k w : ℕ) → w ≤ k → nat_lt k w ≡ false
    shut k w h = grind arith
full_rows w ids (Entry.Sent made p id start ∷ es) f = full_rows w (id ∷ ids) es f
full_rows w ids (Entry.Released made p id start release ∷ es) f = full_rows w (id ∷ ids) es f
full_rows w ids (Entry.Done made p id start release finish ∷ es) f = full_rows w ids es f

-- by the connection
starts_none : (w n : ℕ) (current : Option ConnectionName) (es : List Entry) → (current ≡ None) ⊎ IsFull w 0 es → (started w n current es ≡ es) × (rows_at w current es ≡ [])
starts_none w n None es f = (refl, refl)
starts_none w n (Some x) es (inl e) = absurd (cc)
starts_none w n (Some x) es (inr f) = (full_stays w n [] es f, full_rows w [] es f)

-- nothing starts at a place that answers nothing and makes nothing, unless a ballot begins
pub nothing_starts : (limits : Limits) (place : Place) (past : Past) (c : Client) → IsSteady limits → is_start place.command ≡ false
    → (started (window_at limits (place ∷ past)) (length past) (current_connection past c) (entries_of limits past c) ≡ entries_of limits past c)
    × (rows_at (window_at limits (place ∷ past)) (current_connection past c) (entries_of limits past c) ≡ [])
nothing_starts limits place past c steady e =
    starts_none (window_at limits (place ∷ past)) (length past) (current_connection past c) (entries_of limits past c)
    (subst (λ (w : ℕ). (current_connection past c ≡ None) ⊎ IsFull w 0 (entries_of limits past c)) (sym (steady place past e)) (full-at limits past c))
