-- While the first session of a client lasts, it is promised what it was if no session is ended.
use Rattle.std.proofs.Common.{◌≡◌, ℕ, Bool, true, List, [], ◌∷◌, ◌++◌, map, Option, Some, None, is_some, refl, sym, ap, ◌∙◌, inl, inr}
use Rattle.std.specs.List.{flat_map}
use Rattle.std.proofs.lemmas.Bool.{both_ways}
use Rattle.std.proofs.lemmas.List.{append-nil}
use Rattle.session_base.specs.declared.publication.Publication.{Publication}
use Rattle.broker_spec.specs.Commands.{usual_limits}
use Rattle.broker_spec.specs.Sessions.{clean_session_of, session_start}
use Rattle.broker_spec.specs.Place.{Client, Past}
use Rattle.broker_spec.specs.Readings.{publication_in}
use Rattle.client_base.specs.State.{ClientState}
use Rattle.exactly_once.specs.Acceptance.{qos2_entries}
use Rattle.exactly_once.specs.InStep.{IsFirstSession, starts_of}
use Rattle.exactly_once.proofs.sessions.LastingAccepts.{entries_now}
use Rattle.exactly_once.proofs.sessions.Openings.{session_began}
use Rattle.exactly_once.proofs.sessions.Turns.{IsLastOf, started_last}
use Rattle.exactly_once.proofs.subscribing.places.Quiet.{no_entries}
use Rattle.headline.specs.OneSession.{OneSessionIsPromised, PromiseOfOne}
use Rattle.headline.specs.Promise.{PromiseInStep}

no_last : (starts : List ℕ) (n : ℕ) → starts ≡ [] → IsLastOf starts n → ⊥
no_last starts n none l = by l.before (sym none ∙ l.are)
  where
    by : (before : List ℕ) → [] ≡ before ++ n ∷ [] → ⊥
    by [] e = absurd (cc)
    by (m ∷ before) e = absurd (cc)

-- without a beginning there is no session
none_there : (past : Past) (c : Client) → starts_of past c ≡ [] → clean_session_of past c ≡ None
none_there past c none = by (clean_session_of past c) refl
  where
    start : (o : Option ℕ) → session_start past c ≡ o → is_some (session_start past c) ≡ true → ⊥
    start None e s = both_ways (is_some (session_start past c)) (ap is_some e) s
    start (Some n) e s = no_last (starts_of past c) n none (started_last past c n e)

    by : (o : Option Bool) → clean_session_of past c ≡ o → o ≡ None
    by None e = refl
    by (Some clean) e = absurd (start (session_start past c) refl (session_began past c (ap is_some e)))

module _ (c : Client) (published : List Publication) (past : Past) (state : ClientState) (p : PromiseInStep c published past state) where
  abbrev turn : ℕ → List Publication
  turn start = map publication_in (p.accepts.session start).prefix

  by_first : (first : IsFirstSession past c) → IsFirstSession past c → PromiseOfOne c published past state
  by_first first (inl none) =
      let kept = p.unacknowledged first in
      record {
        waiting = kept.waiting;
        in_order = kept.published_are;
        again = kept.again;
        unacknowledged = kept.unacknowledged_are;
        prefix = [];
        others = [];
        entries = ap qos2_entries (no_entries usual_limits past c (none_there past c none));
        accepted = p.accepts.accepted ∙ ap (flat_map turn) none;
        rest = tt;
      }
  by_first first (inr (start, are, e)) =
      let kept = p.unacknowledged first in
      let session = p.accepts.session start in
      record {
        waiting = kept.waiting;
        in_order = kept.published_are;
        again = kept.again;
        unacknowledged = kept.unacknowledged_are;
        prefix = session.prefix;
        others = session.others;
        entries = sym (ap qos2_entries (entries_now usual_limits past c start e)) ∙ session.entries;
        accepted = p.accepts.accepted ∙ ap (flat_map turn) are ∙ append-nil (turn start);
        rest = session.rest;
      }

pub one_session_is_promised : OneSessionIsPromised
one_session_is_promised c published past state first p = by_first c published past state p first first
