-- What one more place leaves of a client's connection, session and received identifiers, if its
-- session is not clean.
use Rattle.std.proofs.Common.{◌≡◌, Bool, true, false, [], ◌∷◌, Option, Some, None, ap, ap₂, sym, ◌∙◌, inl, inr, ◌⊎◌}
use Rattle.broker_spec.specs.Connection.{ConnectionName}
use Rattle.broker_spec.specs.Place.{Client, Place, Past}
use Rattle.broker_spec.specs.Sessions.{accepts, expels, ends_any, newest_connection, newest_clean_session, current_connection, clean_session_of, is_beginning, in_session}
use Rattle.broker_spec.specs.Received.{received_by, received_of}
use Rattle.broker_spec.specs.declared.command.Command.{Command}
use Rattle.exactly_once.proofs.places.Sessions.{received_outside}

-- the client has no session, or one that is not clean
abbrev pub IsKeptSession : Option Bool → Type 0
IsKeptSession session = (session ≡ None) ⊎ (session ≡ Some false)

-- no session of the client is expelled: another client is, if any, or it has none
abbrev pub IsSpared : Command → Past → Client → Type 0
IsSpared command past c = (expels command c ≡ false) ⊎ (clean_session_of past c ≡ None)

-- ---- connections

pub current_stays : (place : Place) (past : Past) (c : Client) → accepts place.command place.mark c ≡ None → ends_any place c (current_connection past c) ≡ false
    → current_connection (place ∷ past) c ≡ current_connection past c
unfolding current_connection
current_stays place past c none over = ap₂ (λ o b. newest_connection o b (current_connection past c)) none over

pub current_ends : (place : Place) (past : Past) (c : Client) → accepts place.command place.mark c ≡ None → ends_any place c (current_connection past c) ≡ true → current_connection (place ∷ past) c ≡ None
unfolding current_connection
current_ends place past c none over = ap₂ (λ o b. newest_connection o b (current_connection past c)) none over

pub current_opens : (place : Place) (past : Past) (c : Client) (opened : ConnectionName × Bool) → accepts place.command place.mark c ≡ Some opened
    → current_connection (place ∷ past) c ≡ Some opened.0
unfolding current_connection
current_opens place past c opened e = ap (λ o. newest_connection o (ends_any place c (current_connection past c)) (current_connection past c)) e

-- ---- sessions

kept_session : (over : Bool) (session : Option Bool) → IsKeptSession session → newest_clean_session None false over session ≡ session
kept_session over session (inl e) = ap (newest_clean_session None false over) e ∙ sym e
kept_session over session (inr e) = ap (newest_clean_session None false over) e ∙ sym e

pub session_stays : (place : Place) (past : Past) (c : Client) → accepts place.command place.mark c ≡ None → expels place.command c ≡ false → IsKeptSession (clean_session_of past c) → clean_session_of (place ∷ past) c ≡ clean_session_of past c
unfolding clean_session_of
session_stays place past c none spared kept =
    ap₂ (λ o b. newest_clean_session o b (ends_any place c (current_connection past c)) (clean_session_of past c)) none spared
    ∙ kept_session (ends_any place c (current_connection past c)) (clean_session_of past c) kept

-- if there is none and none is opened there is none after
pub none_opens : (place : Place) (past : Past) (c : Client) → accepts place.command place.mark c ≡ None → clean_session_of past c ≡ None → clean_session_of (place ∷ past) c ≡ None
unfolding clean_session_of
none_opens place past c none e = ap₂ (λ o s. newest_clean_session o (expels place.command c) (ends_any place c (current_connection past c)) s) none e

pub session_spared : (place : Place) (past : Past) (c : Client) → accepts place.command place.mark c ≡ None → IsSpared place.command past c → IsKeptSession (clean_session_of past c) → clean_session_of (place ∷ past) c ≡ clean_session_of past c
session_spared place past c none (inl spared) kept = session_stays place past c none spared kept
session_spared place past c none (inr e) kept = none_opens place past c none e ∙ sym e

pub session_opens : (place : Place) (past : Past) (c : Client) (opened : ConnectionName × Bool) → accepts place.command place.mark c ≡ Some opened → clean_session_of (place ∷ past) c ≡ Some opened.1
unfolding clean_session_of
session_opens place past c opened e = ap (λ o. newest_clean_session o (expels place.command c) (ends_any place c (current_connection past c)) (clean_session_of past c)) e

-- ---- received identifiers

-- in a session that is not clean
pub received_live : (place : Place) (past : Past) (c : Client) → accepts place.command place.mark c ≡ None → expels place.command c ≡ false → clean_session_of past c ≡ Some false
    → received_of (place ∷ past) c ≡ received_by place.command place.mark c (received_of past c)
unfolding received_of
received_live place past c none spared live =
    ap₂ (λ session b. in_session session b [] (received_by place.command place.mark c (received_of past c)))
    (session_stays place past c none spared (inr live) ∙ live) (ap (λ o. is_beginning o (clean_session_of past c)) none)

-- if the place itself leaves them as they are
pub received_stays : (place : Place) (past : Past) (c : Client) → accepts place.command place.mark c ≡ None → expels place.command c ≡ false → IsKeptSession (clean_session_of past c)
    → received_by place.command place.mark c (received_of past c) ≡ received_of past c → received_of (place ∷ past) c ≡ received_of past c
received_stays place past c none spared (inl e) same =
    received_outside (place ∷ past) c (session_stays place past c none spared (inl e) ∙ e) ∙ sym (received_outside past c e)
received_stays place past c none spared (inr e) same = received_live place past c none spared e ∙ same

pub received_spared : (place : Place) (past : Past) (c : Client) → accepts place.command place.mark c ≡ None → IsSpared place.command past c → IsKeptSession (clean_session_of past c)
    → received_by place.command place.mark c (received_of past c) ≡ received_of past c → received_of (place ∷ past) c ≡ received_of past c
received_spared place past c none (inl spared) kept same = received_stays place past c none spared kept same
received_spared place past c none (inr e) kept same = received_outside (place ∷ past) c (none_opens place past c none e) ∙ sym (received_outside past c e)

-- at an accepted Connect without CleanSession
pub received_opens : (place : Place) (past : Past) (c : Client) (x : ConnectionName) → accepts place.command place.mark c ≡ Some (x, false) → IsKeptSession (clean_session_of past c)
    → received_by place.command place.mark c (received_of past c) ≡ received_of past c → received_of (place ∷ past) c ≡ received_of past c
unfolding received_of
received_opens place past c x e (inl none) same =
    ap₂ (λ session b. in_session session b [] (received_by place.command place.mark c (received_of past c))) (session_opens place past c (x, false) e)
    (ap₂ is_beginning e none)
    ∙ sym (received_outside past c none)
received_opens place past c x e (inr live) same =
    ap₂ (λ session b. in_session session b [] (received_by place.command place.mark c (received_of past c))) (session_opens place past c (x, false) e)
    (ap₂ is_beginning e live)
    ∙ same
