-- A place that is no Expel of the client keeps the session that is there.
use Rattle.std.proofs.Common.{◌≡◌, ℕ, Bool, false, ◌∷◌, Option, Some, None, refl, sym, ◌∙◌, ap, ap₂, inl, inr}
use Rattle.std.specs.Prelude.{is_some}
use Rattle.broker_spec.specs.Connection.{ConnectionName}
use Rattle.broker_spec.specs.Place.{Client, Place, Past}
use Rattle.broker_spec.specs.Sessions.{accepts, clean_session_of, session_start, begins_session, is_beginning}
use Rattle.exactly_once.proofs.places.After.{IsKeptSession, IsSpared, session_spared, session_opens}
use Rattle.exactly_once.proofs.publishing.kept.KeepsNames.{OpensKept}
use Rattle.exactly_once.proofs.sessions.Openings.{no_start, start_stays}

-- it began, so it exists, and is not clean
pub started_there : (past : Past) (c : Client) (n : ℕ) → IsKeptSession (clean_session_of past c) → session_start past c ≡ Some n → clean_session_of past c ≡ Some false
started_there past c n (inl none) e = absurd (let f : None ≡ Some n = sym (no_start past c none) ∙ e in cc)
started_there past c n (inr live) e = live

pub start_keeps : (place : Place) (past : Past) (c : Client) (n : ℕ) → IsKeptSession (clean_session_of past c) → OpensKept c place → IsSpared place.command past c → session_start past c ≡ Some n
    → session_start (place ∷ past) c ≡ Some n
start_keeps place past c n kept opens spared e = by (accepts place.command place.mark c) refl
  where
    live : clean_session_of past c ≡ Some false
    live = started_there past c n kept e

    by : (o : Option (ConnectionName × Bool)) → accepts place.command place.mark c ≡ o → session_start (place ∷ past) c ≡ Some n
    by (Some opened) f =
        start_stays place past c (ap₂ is_beginning f live ∙ ap (λ b. begins_session b (Some false)) (opens opened f)) (ap is_some (session_opens place past c opened f)) ∙ e
    by None f = start_stays place past c (ap₂ is_beginning f live) (ap is_some (session_spared place past c f spared kept ∙ live)) ∙ e
