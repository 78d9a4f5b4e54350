-- How many entries a place gives a session.
use Rattle.std.proofs.Common.{◌≡◌, ℕ, suc, ◌+◌, Bool, true, false, nat_lt, if◌then◌else◌, List, [], ◌∷◌, length, map, Option, Some, None, refl, ◌∙◌, ap, length-append}
use Rattle.std.specs.Prelude.{is_some}
use Rattle.packet_base.specs.declared.qos.QoS.{QoS}
use Rattle.packet_base.specs.declared.qos.QoS.TheVariants as qos_levels
use Rattle.broker_spec.specs.Connection.{ConnectionName}
use Rattle.broker_spec.specs.Sessions.{current_connection, clean_session_of, in_session}
use Rattle.session_base.specs.declared.publication.Publication.{Publication}
use Rattle.session_base.specs.Publication.{publication_of}
use Rattle.broker_spec.specs.Subscriptions.{effective_qos}
use Rattle.broker_spec.specs.Marks.{is_queued_at}
use Rattle.broker_spec.specs.Entries.{Entry, copy_of, queued}
use Rattle.session_base.specs.Identifiers.{least_free}
use Rattle.broker_spec.specs.Times.{entries_of, window_at, start_all, started}
use Rattle.broker_spec.specs.EntryTheorems.{place_of_taken, TakenPublishAddsOne}

start-length : (w n : ℕ) (busy : List ℕ) (es : List Entry) → length (start_all w n busy es) ≡ length es
start-length w n busy [] = refl
start-length w n busy (Entry.Queued made p ∷ es) = by (nat_lt (length busy) w) (start-length w n (least_free busy ∷ busy) es)
  where
    by : (b : Bool) → length (start_all w n (least_free busy ∷ busy) es) ≡ length es
        → length (if b then Entry.Sent made p (least_free busy) n ∷ start_all w n (least_free busy ∷ busy) es else Entry.Queued made p ∷ es) ≡ suc (length es)
    by true ih = ap suc ih
    by false ih = refl
start-length w n busy (Entry.Sent made p id start ∷ es) = ap suc (start-length w n (id ∷ busy) es)
start-length w n busy (Entry.Released made p id start release ∷ es) = ap suc (start-length w n (id ∷ busy) es)
start-length w n busy (Entry.Done made p id start release finish ∷ es) = ap suc (start-length w n busy es)

started-length : (w n : ℕ) (current : Option ConnectionName) (es : List Entry) → length (started w n current es) ≡ length es
started-length w n None es = refl
started-length w n (Some x) es = start-length w n [] es

queued-length : (p : Publication) (qos : Option QoS) (n : ℕ) → length (map (Entry.Queued n) (queued (copy_of p qos))) ≡ (if is_queued_at qos then 1 else 0)
queued-length p None n = refl
queued-length p (Some qos_levels.AtMostOnce) n = refl
queued-length p (Some qos_levels.AtLeastOnce) n = refl
queued-length p (Some qos_levels.ExactlyOnce) n = refl

in-session : (session : Option Bool) (es : List Entry) → is_some session ≡ true → in_session session false [] es ≡ es
in-session (Some clean) es s = refl
in-session None es s = cc

pub taken_publish_adds_one : TakenPublishAddsOne
unfolding entries_of
taken_publish_adds_one limits past x p d c s =
    ap length (in-session (clean_session_of (place_of_taken x p d ∷ past) c) _ s)
    ∙ started-length (window_at limits (place_of_taken x p d ∷ past)) (length past) (current_connection (place_of_taken x p d ∷ past) c) _
    ∙ length-append (entries_of limits past c) _
    ∙ ap (λ z. length (entries_of limits past c) + z) (queued-length (publication_of p) (effective_qos past c (publication_of p)) (length past))
