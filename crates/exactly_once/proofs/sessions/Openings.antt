-- In which session a connection was opened, and when that session began, after one more place.
use Rattle.std.proofs.Common.{◌≡◌, ◌<◌, ℕ, suc, Bool, true, false, ◌||◌, if◌then◌else◌, [], ◌∷◌, length, Option, Some, None, refl, sym, ◌∙◌, ap, ap₂, arith, inl, inr, ◌⊎◌}
use Rattle.std.specs.Prelude.{is_some}
use Rattle.std.proofs.lemmas.Bool.{both_ways, cases_Bool}
use Rattle.lists.proofs.Tests.{or_right}
use Rattle.broker_spec.specs.Connection.{ConnectionName, same_connection}
use Rattle.broker_spec.specs.Place.{Client, Mark, Place, Past, only_if}
use Rattle.broker_spec.specs.Sessions.{accepts, expels, ends_any, newest_clean_session, is_beginning, current_connection, clean_session_of, session_start, begins}
use Rattle.broker_spec.specs.declared.command.Command.{Command}
use Rattle.broker_spec.proofs.ConnectionNames.{same_name}
use Rattle.exactly_once.specs.StoryCommands.{is_packet_of, packet_count}
use Rattle.exactly_once.specs.InStep.{has_begun, opens_on, opened_in}
use Rattle.exactly_once.proofs.places.Counts.{accepted_counts}
use Rattle.exactly_once.proofs.sessions.Starts.{began_below}

-- ---- sessions

-- one that is there, and did not begin here, was there before
session_before : (opened : Option (ConnectionName × Bool)) (expelled over : Bool) (old : Option Bool) → is_beginning opened old ≡ false → is_some (newest_clean_session opened expelled over old) ≡ true → is_some old ≡ true
session_before (Some opened) expelled over None e s = cc
session_before (Some opened) expelled over (Some old) e s = refl
session_before None expelled over None e s = s
session_before None expelled over (Some old) e s = refl

-- it began at a place
pub session_began : (past : Past) (c : Client) → is_some (clean_session_of past c) ≡ true → is_some (session_start past c) ≡ true
unfolding clean_session_of session_start
session_began [] c e = cc
session_began (place ∷ past) c e = by (begins place past c) refl (session_began past c)
  where
    by : (b : Bool) → begins place past c ≡ b → (is_some (clean_session_of past c) ≡ true → is_some (session_start past c) ≡ true)
        → is_some (if b then Some (length past) else only_if (is_some (clean_session_of (place ∷ past) c)) (session_start past c)) ≡ true
    by true f ih = refl
    by false f ih =
        ap (λ b. is_some (only_if b (session_start past c))) e
        ∙ ih (session_before (accepts place.command place.mark c) (expels place.command c) (ends_any place c (current_connection past c)) (clean_session_of past c) f e)

-- without a session none began that lasts
pub no_start : (past : Past) (c : Client) → clean_session_of past c ≡ None → session_start past c ≡ None
unfolding clean_session_of session_start
no_start [] c e = refl
no_start (place ∷ past) c e = by (accepts place.command place.mark c) refl
  where
    by : (o : Option (ConnectionName × Bool)) → accepts place.command place.mark c ≡ o → session_start (place ∷ past) c ≡ None
    by (Some opened) f = absurd (let g : None ≡ Some opened.1 = sym e ∙ ap (λ o. newest_clean_session o (expels place.command c) (ends_any place c (current_connection past c)) (clean_session_of past c)) f in cc)
    by None f =
        ap₂ (λ b s. if b then Some (length past) else only_if (is_some s) (session_start past c)) (ap (λ o. is_beginning o (clean_session_of past c)) f) e

-- if none begins, and one is there, it began where it did
pub start_stays : (place : Place) (past : Past) (c : Client) → begins place past c ≡ false → is_some (clean_session_of (place ∷ past) c) ≡ true → session_start (place ∷ past) c ≡ session_start past c
unfolding session_start
start_stays place past c e s = ap₂ (λ b t. if b then Some (length past) else only_if t (session_start past c)) e s

pub start_here : (place : Place) (past : Past) (c : Client) → begins place past c ≡ true → session_start (place ∷ past) c ≡ Some (length past)
unfolding session_start
start_here place past c e = ap (λ b. if b then Some (length past) else only_if (is_some (clean_session_of (place ∷ past) c)) (session_start past c)) e

-- a session that began has begun
pub started_begun : (past : Past) (c : Client) (n : ℕ) → session_start past c ≡ Some n → has_begun past c ≡ true
unfolding session_start
started_begun [] c n e = cc
started_begun (place ∷ past) c n e = by (begins place past c) (is_some (clean_session_of (place ∷ past) c)) e (started_begun past c n)
  where
    by : (b s : Bool) → (if b then Some (length past) else only_if s (session_start past c)) ≡ Some n → (session_start past c ≡ Some n → has_begun past c ≡ true) → (b || has_begun past c) ≡ true
    by true s f ih = refl
    by false true f ih = ih f
    by false false f ih = cc

-- ---- a connection

-- an accepted Connect of it is one of its packets
pub opens_packet : (command : Command) (mark : Mark) (c : Client) (x : ConnectionName) → is_packet_of command x ≡ false → opens_on x (accepts command mark c) ≡ false
opens_packet command mark c x other = by (accepts command mark c) refl
  where
    by : (o : Option (ConnectionName × Bool)) → accepts command mark c ≡ o → opens_on x o ≡ false
    by None e = refl
    by (Some opened) e = two (cases_Bool (same_connection x opened.0))
      where
        two : (same_connection x opened.0 ≡ true) ⊎ (same_connection x opened.0 ≡ false) → same_connection x opened.0 ≡ false
        two (inr f) = f
        two (inl f) = absurd (both_ways (is_packet_of command x) other (ap (is_packet_of command) (same_name x opened.0 f) ∙ accepted_counts command mark c opened e))

pub opened_same : (place : Place) (past : Past) (c : Client) (x : ConnectionName) → opens_on x (accepts place.command place.mark c) ≡ false → opened_in (place ∷ past) c x ≡ opened_in past c x
opened_same place past c x e = ap (λ b. if b then session_start (place ∷ past) c else opened_in past c x) e

pub opened_here : (place : Place) (past : Past) (c : Client) (x : ConnectionName) → opens_on x (accepts place.command place.mark c) ≡ true → opened_in (place ∷ past) c x ≡ session_start (place ∷ past) c
opened_here place past c x e = ap (λ b. if b then session_start (place ∷ past) c else opened_in past c x) e

-- one of which nothing is in the list was not opened
pub unopened : (past : Past) (c : Client) (x : ConnectionName) → packet_count x past ≡ 0 → opened_in past c x ≡ None
unopened [] c x e = refl
unopened (place ∷ past) c x e = by (is_packet_of place.command x) refl e (unopened past c x)
  where
    by : (b : Bool) → is_packet_of place.command x ≡ b → (if b then suc (packet_count x past) else packet_count x past) ≡ 0 → (packet_count x past ≡ 0 → opened_in past c x ≡ None) → opened_in (place ∷ past) c x ≡ None
    by true f g ih = absurd (omega (arith, g))
    by false f g ih = opened_same place past c x (opens_packet place.command place.mark c x f) ∙ ih g

-- one that was opened was in a session that began below
pub opened_below : (past : Past) (c : Client) (x : ConnectionName) (n : ℕ) → opened_in past c x ≡ Some n → n < length past
opened_below [] c x n e = cc
opened_below (place ∷ past) c x n e = by (opens_on x (accepts place.command place.mark c)) e (opened_below past c x n)
  where
    by : (b : Bool) → (if b then session_start (place ∷ past) c else opened_in past c x) ≡ Some n → (opened_in past c x ≡ Some n → n < length past) → n < suc (length past)
    by true f ih = began_below (place ∷ past) c n f
    by false f ih = let g = ih f in omega (arith, g)

-- and one began
pub opened_begun : (past : Past) (c : Client) (x : ConnectionName) (n : ℕ) → opened_in past c x ≡ Some n → has_begun past c ≡ true
opened_begun [] c x n e = cc
opened_begun (place ∷ past) c x n e = by (opens_on x (accepts place.command place.mark c)) e (opened_begun past c x n)
  where
    by : (b : Bool) → (if b then session_start (place ∷ past) c else opened_in past c x) ≡ Some n → (opened_in past c x ≡ Some n → has_begun past c ≡ true) → has_begun (place ∷ past) c ≡ true
    by true f ih = started_begun (place ∷ past) c n f
    by false f ih = or_right (begins place past c) (has_begun past c) (ih f)
