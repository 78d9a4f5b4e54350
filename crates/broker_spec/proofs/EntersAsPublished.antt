-- At the place where it is taken a publication enters a session as it was published, at the effective QoS.
use Rattle.std.proofs.Common.{◌≡◌, ℕ, Bool, true, false, not, ◌&&◌, ◌==◌, nat_lt, if◌then◌else◌, List, [], ◌∷◌, ◌++◌, length, map, filter, Option, Some, None, refl, sym, ◌∙◌, ap, ap₂, arith}
use Rattle.packet_base.specs.declared.qos.QoS.{QoS}
use Rattle.packet_base.specs.declared.qos.QoS.TheVariants as qos_levels
use Rattle.packet.specs.declared.publish.Publish.{Publish}
use Rattle.session_base.specs.declared.publication.Publication.{Publication}
use Rattle.session_base.specs.Publication.{publication_of}
use Rattle.session_base.specs.Identifiers.{least_free}
use Rattle.broker_spec.specs.Connection.{ConnectionName}
use Rattle.broker_spec.specs.Place.{Client, Past, Limits}
use Rattle.broker_spec.specs.Sessions.{current_connection, clean_session_of, in_session}
use Rattle.broker_spec.specs.Subscriptions.{effective_qos}
use Rattle.broker_spec.specs.Entries.{Entry, copy_of, queued}
use Rattle.broker_spec.specs.Readings.{made_of, publication_in}
use Rattle.broker_spec.specs.Times.{entries_of, window_at, start_all, started}
use Rattle.broker_spec.specs.OriginTheorems.{is_from_publish}
use Rattle.broker_spec.specs.EntryTheorems.{place_of_taken}
use Rattle.broker_spec.specs.TakenTheorems.{queued_at, EntersAsPublished}
use Rattle.broker_spec.proofs.EntersOnce.{MadeBelow, made-below}
use Rattle.broker_spec.proofs.PublicationEnters.{no_qos, gone_before, same_number}

-- the publications of those that a place made of a PUBLISH
abbrev from_place : ℕ → List Entry → List Publication
from_place n es = map publication_in (filter (is_from_publish n) es)

cons_same : (n : ℕ) (b : Bool) (e f : Entry) (es fs : List Entry) → publication_in e ≡ publication_in f → from_place n es ≡ from_place n fs
    → map publication_in (if b then e ∷ filter (is_from_publish n) es else filter (is_from_publish n) es) ≡ map publication_in (if b then f ∷ filter (is_from_publish n) fs else filter (is_from_publish n) fs)
cons_same n true e f es fs same rest = ap₂ (λ p l. p ∷ l) same rest
cons_same n false e f es fs same rest = rest

-- starts change none of it
from_start : (n w m : ℕ) (busy : List ℕ) (es : List Entry) → from_place n (start_all w m busy es) ≡ from_place n es
from_start n w m busy [] = refl
from_start n w m busy (Entry.Queued made p ∷ es) = by (nat_lt (length busy) w) (from_start n w m (least_free busy ∷ busy) es)
  where
    by : (b : Bool) → from_place n (start_all w m (least_free busy ∷ busy) es) ≡ from_place n es
        → from_place n (if b then Entry.Sent made p (least_free busy) m ∷ start_all w m (least_free busy ∷ busy) es else Entry.Queued made p ∷ es) ≡ from_place n (Entry.Queued made p ∷ es)
    by true ih = cons_same n ((made == n) && not p.retain) (Entry.Sent made p (least_free busy) m) (Entry.Queued made p) (start_all w m (least_free busy ∷ busy) es) es refl ih
    by false ih = refl
from_start n w m busy (Entry.Sent made p id start ∷ es) =
    cons_same n ((made == n) && not p.retain) (Entry.Sent made p id start) (Entry.Sent made p id start) (start_all w m (id ∷ busy) es) es refl (from_start n w m (id ∷ busy) es)
from_start n w m busy (Entry.Released made p id start release ∷ es) =
    cons_same n ((made == n) && not p.retain) (Entry.Released made p id start release) (Entry.Released made p id start release) (start_all w m (id ∷ busy) es) es refl (from_start n w m (id ∷ busy) es)
from_start n w m busy (Entry.Done made p id start release finish ∷ es) =
    cons_same n ((made == n) && not p.retain) (Entry.Done made p id start release finish) (Entry.Done made p id start release finish) (start_all w m busy es) es refl (from_start n w m busy es)

from_started : (n w m : ℕ) (current : Option ConnectionName) (es : List Entry) → from_place n (started w m current es) ≡ from_place n es
from_started n w m None es = refl
from_started n w m (Some x) es = from_start n w m [] es

-- what was there before is of other places
other_made : (a b : Bool) → a ≡ false → (a && b) ≡ false
other_made false b e = refl
other_made true b e = cc

new_alone : (n : ℕ) (es more : List Entry) → MadeBelow n es → from_place n (es ++ more) ≡ from_place n more
new_alone n [] more h = refl
new_alone n (e ∷ es) more h =
    let other : (made_of e == n) ≡ false = (let l = h.0 in grind (arith, l)) in
    ap (λ b. map publication_in (if b then e ∷ filter (is_from_publish n) (es ++ more) else filter (is_from_publish n) (es ++ more))) (other_made (made_of e == n) (not (publication_in e).retain) other)
    ∙ new_alone n es more h.1

-- the copy
from_copy : (n : ℕ) (p : Publication) (qos : Option QoS) → from_place n (map (Entry.Queued n) (queued (copy_of p qos))) ≡ queued_at p qos
from_copy n p None = refl
from_copy n p (Some qos_levels.AtMostOnce) = refl
from_copy n p (Some qos_levels.AtLeastOnce) = rw (same_number n) refl
from_copy n p (Some qos_levels.ExactlyOnce) = rw (same_number n) refl

enters_in : (limits : Limits) (past : Past) (x : ConnectionName) (p : Publish) (d c : Client) (session : Option Bool) → clean_session_of (place_of_taken x p d ∷ past) c ≡ session
    → from_place (length past) (entries_of limits (place_of_taken x p d ∷ past) c) ≡ queued_at (publication_of p) (effective_qos past c (publication_of p))
unfolding entries_of
enters_in limits past x p d c (Some clean) s =
    let n = length past in
    let copies = map (Entry.Queued n) (queued (copy_of (publication_of p) (effective_qos past c (publication_of p)))) in
    let kept = started (window_at limits (place_of_taken x p d ∷ past)) n (current_connection (place_of_taken x p d ∷ past) c) (entries_of limits past c ++ copies) in
    ap (λ z. from_place n (in_session z false [] kept)) s
    ∙ from_started n (window_at limits (place_of_taken x p d ∷ past)) n (current_connection (place_of_taken x p d ∷ past) c) (entries_of limits past c ++ copies)
    ∙ new_alone n (entries_of limits past c) copies (made-below limits past c)
    ∙ from_copy n (publication_of p) (effective_qos past c (publication_of p))
enters_in limits past x p d c None s =
    let n = length past in
    let copies = map (Entry.Queued n) (queued (copy_of (publication_of p) (effective_qos past c (publication_of p)))) in
    let kept = started (window_at limits (place_of_taken x p d ∷ past)) n (current_connection (place_of_taken x p d ∷ past) c) (entries_of limits past c ++ copies) in
    ap (λ z. from_place n (in_session z false [] kept)) s
    ∙ sym (ap (queued_at (publication_of p)) (no_qos past c (publication_of p) (gone_before past x p d c s)))

pub enters_as_published : EntersAsPublished
enters_as_published limits past x p d c = enters_in limits past x p d c (clean_session_of (place_of_taken x p d ∷ past) c) refl
