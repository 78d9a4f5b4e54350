-- At the place where it is taken, a publication enters exactly the sessions with an effective QoS of 1 or 2, once.
use Rattle.std.proofs.Common.{◌≡◌, ℕ, Bool, true, false, ◌&&◌, ◌==◌, if◌then◌else◌, [], ◌∷◌, ◌++◌, length, map, Option, Some, None, refl, sym, ◌∙◌, ap, arith}
use Rattle.std.specs.Prelude.{option_map}
use Rattle.packet_base.specs.declared.qos.QoS.{QoS}
use Rattle.packet_base.specs.declared.qos.QoS.TheVariants as qos_levels
use Rattle.packet.specs.declared.publish.Publish.{Publish}
use Rattle.session_base.specs.declared.publication.Publication.{Publication}
use Rattle.session_base.specs.Publication.{publication_of}
use Rattle.packet_base.specs.QoS.{lower_qos}
use Rattle.session_base.specs.Subscriptions.{granted_qos}
use Rattle.broker_spec.specs.Connection.{ConnectionName, same_connection}
use Rattle.broker_spec.specs.Place.{Client, Past, Limits}
use Rattle.broker_spec.specs.Sessions.{current_connection, clean_session_of, begins, in_session, newest_clean_session, ends_any}
use Rattle.broker_spec.specs.Subscriptions.{subscriptions_of, effective_qos}
use Rattle.broker_spec.specs.Marks.{is_queued_at}
use Rattle.broker_spec.specs.Entries.{Entry, copy_of, queued}
use Rattle.broker_spec.specs.Times.{entries_of, window_at, started}
use Rattle.broker_spec.specs.EntryTheorems.{place_of_taken, PublicationEnters}
use Rattle.broker_spec.proofs.EntersOnce.{times, times-started, times-more, none-yet, made-below, count}

-- ---- if there is no session there is no filter

-- a taken publication ends no connection
ends_none : (x : ConnectionName) (p : Publish) (d c : Client) (current : Option ConnectionName) → ends_any (place_of_taken x p d) c current ≡ false
ends_none x p d c (Some y) = by (same_connection x y)
  where
    by : (b : Bool) → (b && false) ≡ false
    by true = refl
    by false = refl
ends_none x p d c None = refl

no_session : (over : Bool) (session : Option Bool) → over ≡ false → newest_clean_session None false over session ≡ None → session ≡ None
no_session over None e n = refl
no_session false (Some true) e n = cc
no_session false (Some false) e n = cc
no_session true (Some clean) e n = cc

nothing_kept : {A : Type 0} (session : Option Bool) (beginning : Bool) (fresh kept : A) → session ≡ None → in_session session beginning fresh kept ≡ fresh
nothing_kept None beginning fresh kept e = refl
nothing_kept (Some clean) beginning fresh kept e = cc

no_filters : (past : Past) (c : Client) → clean_session_of past c ≡ None → subscriptions_of past c ≡ []
unfolding subscriptions_of
no_filters [] c e = refl
no_filters (place ∷ past) c e = nothing_kept (clean_session_of (place ∷ past) c) (begins place past c) [] _ e

pub no_qos : (past : Past) (c : Client) (p : Publication) → clean_session_of past c ≡ None → effective_qos past c p ≡ None
no_qos past c p e = ap (λ held. option_map (lower_qos p.qos) (granted_qos p.topic held)) (no_filters past c e)

pub gone_before : (past : Past) (x : ConnectionName) (p : Publish) (d c : Client) → clean_session_of (place_of_taken x p d ∷ past) c ≡ None → clean_session_of past c ≡ None
unfolding clean_session_of
gone_before past x p d c e =
    no_session (ends_any (place_of_taken x p d) c (current_connection past c)) (clean_session_of past c) (ends_none x p d c (current_connection past c)) e

-- ---- if there is one

pub same_number : (n : ℕ) → (n == n) ≡ true
same_number n = grind arith

-- the copy is of this place, and has RETAIN 0
times_copy : (n : ℕ) (p : Publication) (qos : Option QoS) → times n (map (Entry.Queued n) (queued (copy_of p qos))) ≡ (if is_queued_at qos then 1 else 0)
times_copy n p None = refl
times_copy n p (Some qos_levels.AtMostOnce) = refl
times_copy n p (Some qos_levels.AtLeastOnce) = rw (same_number n) refl
times_copy n p (Some qos_levels.ExactlyOnce) = rw (same_number n) refl

times_taken : (limits : Limits) (past : Past) (x : ConnectionName) (p : Publish) (d c : Client) (session : Option Bool)
    → clean_session_of (place_of_taken x p d ∷ past) c ≡ session
    → times (length past) (entries_of limits (place_of_taken x p d ∷ past) c) ≡ (if is_queued_at (effective_qos past c (publication_of p)) then 1 else 0)
unfolding entries_of
times_taken limits past x p d c (Some clean) s =
    let n = length past in
    let copies = map (Entry.Queued n) (queued (copy_of (publication_of p) (effective_qos past c (publication_of p)))) in
    let kept = started (window_at limits (place_of_taken x p d ∷ past)) n (current_connection (place_of_taken x p d ∷ past) c) (entries_of limits past c ++ copies) in
    let more = times-more n (entries_of limits past c) copies in
    let before = none-yet n (entries_of limits past c) (made-below limits past c) in
    let only_copies : times n (entries_of limits past c ++ copies) ≡ times n copies = omega (arith, more, before) in
    ap (λ z. times n (in_session z false [] kept)) s
    ∙ times-started n (window_at limits (place_of_taken x p d ∷ past)) n (current_connection (place_of_taken x p d ∷ past) c) (entries_of limits past c ++ copies)
    ∙ only_copies
    ∙ times_copy n (publication_of p) (effective_qos past c (publication_of p))
times_taken limits past x p d c None s =
    let n = length past in
    let copies = map (Entry.Queued n) (queued (copy_of (publication_of p) (effective_qos past c (publication_of p)))) in
    let kept = started (window_at limits (place_of_taken x p d ∷ past)) n (current_connection (place_of_taken x p d ∷ past) c) (entries_of limits past c ++ copies) in
    ap (λ z. times n (in_session z false [] kept)) s
    ∙ sym (ap (λ z. if is_queued_at z then 1 else 0) (no_qos past c (publication_of p) (gone_before past x p d c s)))

pub publication_enters : PublicationEnters
publication_enters limits past x p d c =
    count (length past) (entries_of limits (place_of_taken x p d ∷ past) c)
    ∙ times_taken limits past x p d c (clean_session_of (place_of_taken x p d ∷ past) c) refl
