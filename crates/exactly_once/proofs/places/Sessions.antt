-- A client with a current connection has a session, and without one nothing is received.
use Rattle.std.proofs.Common.{◌≡◌, Bool, true, false, not, ◌||◌, [], ◌∷◌, Option, Some, None, refl}
use Rattle.std.specs.Prelude.{is_some}
use Rattle.broker_spec.specs.Connection.{ConnectionName}
use Rattle.broker_spec.specs.Place.{Client, Past}
use Rattle.broker_spec.specs.Sessions.{accepts, any_connection, ends, expels, ends_any, newest_connection, newest_clean_session, current_connection, clean_session_of, begins, in_session}
use Rattle.broker_spec.specs.Received.{received_by, received_of}
use Rattle.exactly_once.proofs.places.Counts.{only_there}

-- a session stays while its connection does
still_some : (expelled over : Bool) (session : Option Bool) → not (expelled || over) ≡ true → is_some session ≡ true → is_some (newest_clean_session None expelled (expelled || over) session) ≡ true
still_some true over session e s = cc
still_some false true session e s = cc
still_some false false None e s = s
still_some false false (Some true) e s = refl
still_some false false (Some false) e s = refl

pub current_has_session : (past : Past) (c : Client) (x : ConnectionName) → current_connection past c ≡ Some x → is_some (clean_session_of past c) ≡ true
unfolding current_connection clean_session_of
current_has_session [] c x e = cc
current_has_session (place ∷ past) c x e = by (accepts place.command place.mark c) e (current_has_session past c x)
  where
    by : (o : Option (ConnectionName × Bool)) → newest_connection o (ends_any place c (current_connection past c)) (current_connection past c) ≡ Some x
        → (current_connection past c ≡ Some x → is_some (clean_session_of past c) ≡ true) → is_some (newest_clean_session o (expels place.command c) (ends_any place c (current_connection past c)) (clean_session_of past c)) ≡ true
    by (Some opened) f ih = refl
    by None f ih =
        let old = only_there (not (ends_any place c (current_connection past c))) (current_connection past c) x f in
        still_some (expels place.command c) (any_connection (ends place.command place.mark) (current_connection past c)) (clean_session_of past c) old.0 (ih old.1)

-- outside of a session nothing is kept
outside : {A : Type 0} (session : Option Bool) (begins : Bool) (fresh kept : A) → session ≡ None → in_session session begins fresh kept ≡ fresh
outside None begins fresh kept e = refl
outside (Some clean) begins fresh kept e = cc

pub received_outside : (past : Past) (c : Client) → clean_session_of past c ≡ None → received_of past c ≡ []
unfolding received_of
received_outside [] c e = refl
received_outside (place ∷ past) c e = outside (clean_session_of (place ∷ past) c) (begins place past c) [] (received_by place.command place.mark c (received_of past c)) e
