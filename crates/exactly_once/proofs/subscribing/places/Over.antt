-- What a place that leaves a client without a connection leaves of its entries.
use Rattle.std.proofs.Common.{◌≡◌, ℕ, Bool, true, false, List, [], ◌∷◌, ◌++◌, length, map, Option, Some, None, refl, ap₂, sym, ◌∙◌, ◌⊎◌, inl, inr}
use Rattle.std.proofs.lemmas.List.{append-nil}
use Rattle.broker_spec.specs.Connection.{ConnectionName}
use Rattle.broker_spec.specs.Place.{Client, Place, Past, Limits}
use Rattle.broker_spec.specs.Sessions.{accepts, expels, ends_any, newest_clean_session, is_beginning, current_connection, clean_session_of, in_session}
use Rattle.broker_spec.specs.Entries.{Entry, copies_at, queued}
use Rattle.broker_spec.specs.Times.{answered_by, started, window_at, entries_of}
use Rattle.broker_base.proofs.QuietPasts.{entries_none}
use Rattle.exactly_once.proofs.subscribing.places.Quiet.{no_entries}

-- a session that is not clean continues
goes_on : (opened : Option (ConnectionName × Bool)) (expelled over : Bool) (session : Option Bool) (es : List Entry) → opened ≡ None → expelled ≡ false → session ≡ Some false
    → in_session (newest_clean_session opened expelled over session) (is_beginning opened session) [] es ≡ es
goes_on (Some a) expelled over session es e s f = absurd (cc)
goes_on None expelled over None es e s f = absurd (cc)
goes_on None expelled over (Some true) es e s f = absurd (cc)
goes_on None true over (Some false) es e s f = absurd (cc)
goes_on None false over (Some false) es e s f = refl

-- without a connection nothing starts
none_starts : (w n : ℕ) (current : Option ConnectionName) (es : List Entry) → current ≡ None → started w n current es ≡ es
none_starts w n None es e = refl
none_starts w n (Some x) es e = absurd (cc)

-- its entries stay
pub entries_over : (limits : Limits) (place : Place) (past : Past) (c : Client) → (clean_session_of past c ≡ None) ⊎ (clean_session_of past c ≡ Some false)
    → accepts place.command place.mark c ≡ None → expels place.command c ≡ false → current_connection (place ∷ past) c ≡ None
    → answered_by place.command place.mark (length past) c (entries_of limits past c) ≡ entries_of limits past c → copies_at place past c ≡ []
    → entries_of limits (place ∷ past) c ≡ entries_of limits past c
unfolding entries_of clean_session_of
entries_over limits place past c (inl e) a s o r k = entries_none limits place past c a e ∙ sym (no_entries limits past c e)
entries_over limits place past c (inr e) a s o r k =
    let all = answered_by place.command place.mark (length past) c (entries_of limits past c) ++ map (Entry.Queued (length past)) (queued (copies_at place past c)) in
    goes_on (accepts place.command place.mark c) (expels place.command c) (ends_any place c (current_connection past c)) (clean_session_of past c) (started (window_at limits (place ∷ past)) (length past) (current_connection (place ∷ past) c) all) a s e
    ∙ none_starts (window_at limits (place ∷ past)) (length past) (current_connection (place ∷ past) c) all o
    ∙ ap₂ (λ (l : List Entry) ps. l ++ map (Entry.Queued (length past)) (queued ps)) r k
    ∙ append-nil (entries_of limits past c)
