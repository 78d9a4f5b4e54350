-- One start, and a fill.
use native.Mathlib.Omega.{arith}
use Rattle.std.proofs.Common.{◌≡◌, ◌≤◌, ◌<◌, ◌+◌, ℕ, zero, suc, true, false, nat_lt, List, [], ◌∷◌, ◌++◌, length, take, drop, refl, sym, ap, ap₂, ◌∙◌, append_assoc}
use Rattle.std.proofs.lemmas.List.{length-append, length-take, take-append-le, take-take}
use Rattle.packet.specs.declared.packet.Packet.{Packet}
use Rattle.packet.specs.declared.packet.Packet.TheVariants as packets
use Rattle.session_base.specs.declared.publication.Publication.{Publication}
use Rattle.session_base.specs.Publication.{publish_for}
use Rattle.session_base.specs.Queue.{Flight, fill, started_flight}
use Rattle.session_base.specs.EntryPackets.{fill_sends}
use Rattle.session.specs.Inside.{started_with, sends_with}

open_window : (k w : ℕ) → k < w → nat_lt k w ≡ true
open_window k w e = grind arith

shut_window : (k w : ℕ) → w ≤ k → nat_lt k w ≡ false
shut_window k w e = grind arith

pub fill_shut : (w : ℕ) (fs : List Flight) (ps : List Publication) → w ≤ length fs → fill w fs ps ≡ record { in_flight = fs; waiting = ps }
fill_shut w fs [] e = refl
fill_shut w fs (p ∷ ps) e = rw (shut_window (length fs) w e) refl

pub sends_shut : (w : ℕ) (fs : List Flight) (ps : List Publication) → w ≤ length fs → fill_sends w fs ps ≡ []
sends_shut w fs [] e = refl
sends_shut w fs (p ∷ ps) e = rw (shut_window (length fs) w e) refl

-- what waits after the one at this index
after_this : (fs : List Flight) (ps : List Publication) (i : ℕ) → (started_with fs (drop i ps)).waiting ≡ drop (suc i) ps
after_this fs [] zero = refl
after_this fs [] (suc i) = refl
after_this fs (p ∷ ps) zero = refl
after_this fs (p ∷ ps) (suc i) = after_this fs ps i

next_waiting : (fs : List Flight) (ps : List Publication) (i : ℕ) → (started_with fs (drop i ps)).waiting ≡ drop (i + 1) ps
next_waiting fs ps i = let e : suc i ≡ i + 1 = omega arith in after_this fs ps i ∙ ap (λ n. drop n ps) e

starts : (w : ℕ) (fs : List Flight) (ps : List Publication) → length fs < w →
    fill w (started_with fs ps).in_flight (started_with fs ps).waiting ≡ fill w fs ps
starts w fs [] e = refl
starts w fs (p ∷ ps) e = rw (open_window (length fs) w e) refl

sends : (w : ℕ) (fs : List Flight) (ps : List Publication) → length fs < w →
    sends_with fs ps ++ fill_sends w (started_with fs ps).in_flight (started_with fs ps).waiting ≡ fill_sends w fs ps
sends w fs [] e = refl
sends w fs (p ∷ ps) e = rw (open_window (length fs) w e) refl

-- one start, and the fill of what waits after it
pub fill_next : (w : ℕ) (fs gs : List Flight) (ps : List Publication) (i : ℕ) → length fs < w → gs ≡ (started_with fs (drop i ps)).in_flight →
    fill w gs (drop (i + 1) ps) ≡ fill w fs (drop i ps)
fill_next w fs gs ps i e is =
    ap₂ (λ (hs : List Flight) (qs : List Publication). fill w hs qs) is (sym (next_waiting fs ps i)) ∙ starts w fs (drop i ps) e

pub sends_next : (w : ℕ) (fs gs : List Flight) (ps : List Publication) (i : ℕ) → length fs < w → gs ≡ (started_with fs (drop i ps)).in_flight →
    sends_with fs (drop i ps) ++ fill_sends w gs (drop (i + 1) ps) ≡ fill_sends w fs (drop i ps)
sends_next w fs gs ps i e is =
    ap₂ (λ (hs : List Flight) (qs : List Publication). sends_with fs (drop i ps) ++ fill_sends w hs qs) is (sym (next_waiting fs ps i)) ∙ sends w fs (drop i ps) e

-- what is known about the next start, from what was known
pub sent_next : (w : ℕ) (fs gs : List Flight) (ps : List Publication) (i : ℕ) (out more all : List Packet) → length fs < w → gs ≡ (started_with fs (drop i ps)).in_flight →
    more ≡ out ++ sends_with fs (drop i ps) → out ++ fill_sends w fs (drop i ps) ≡ all → more ++ fill_sends w gs (drop (i + 1) ps) ≡ all
sent_next w fs gs ps i out more all e is appended known =
    ap (λ (z : List Packet). z ++ fill_sends w gs (drop (i + 1) ps)) appended
    ∙ append_assoc out (sends_with fs (drop i ps)) (fill_sends w gs (drop (i + 1) ps))
    ∙ ap (λ (z : List Packet). out ++ z) (sends_next w fs gs ps i e is)
    ∙ known

-- a start puts an entry after those in flight, or none
pub flights_before : (fs gs before : List Flight) (ps : List Publication) → gs ≡ (started_with fs ps).in_flight → before ≡ take (length before) fs → before ≡ take (length before) gs
flights_before fs gs before [] is e = e ∙ ap (take (length before)) (sym is)
flights_before fs gs before (p ∷ ps) is e =
    let long = ap length e in let cut = length-take (length before) fs in
    e ∙ sym (take-append-le (length before) fs (started_flight fs p ∷ []) (omega (arith, long, cut))) ∙ ap (take (length before)) (sym is)

-- of a front of a front
pub front_of : {X : Type 0} (before middle after : List X) → before ≡ take (length before) middle → middle ≡ take (length middle) after → before ≡ take (length before) after
front_of before middle after e f =
    let long = ap length e in let cut = length-take (length before) middle in
    e ∙ ap (take (length before)) f ∙ take-take (length before) (length middle) after (omega (arith, long, cut))

-- after the last index nothing waits
pub none_after : (ps : List Publication) (n : ℕ) → length ps ≤ n → drop n ps ≡ []
none_after [] zero e = refl
none_after [] (suc n) e = refl
none_after (p ∷ ps) zero e = absurd (omega (arith, e))
none_after (p ∷ ps) (suc n) e = none_after ps n (omega (arith, e))

-- if a fill sends nothing, nothing is started: an entry that starts is sent
pub always_sends : (w : ℕ) (fs : List Flight) (p : Publication) (ps : List Publication) (out before : List Packet) →
    length fs < w → out ++ fill_sends w fs (p ∷ ps) ≡ before ++ [] → before ≡ take (length before) out → ⊥
always_sends w fs p ps out before e known front =
    let sent : fill_sends w fs (p ∷ ps) ≡ packets.Publish (publish_for false (started_flight fs p).0 p) ∷ fill_sends w (fs ++ started_flight fs p ∷ []) ps =
    rw (open_window (length fs) w e) refl in
    let all = ap length (sym (ap (λ (z : List Packet). out ++ z) sent) ∙ known) in
    let more = length-append out (packets.Publish (publish_for false (started_flight fs p).0 p) ∷ fill_sends w (fs ++ started_flight fs p ∷ []) ps) in
    let none = length-append before [] in
    let long = ap length front in let cut = length-take (length before) out in
    absurd (omega (arith, all, more, none, long, cut))

-- what was in front is in front of more
pub still_front : {X : Type 0} (before out xs more : List X) → more ≡ out ++ xs → before ≡ take (length before) out → before ≡ take (length before) more
still_front before out xs more is e =
    let long = ap length e in let cut = length-take (length before) out in
    e ∙ sym (take-append-le (length before) out xs (omega (arith, long, cut))) ∙ ap (take (length before)) (sym is)

-- so if one may start, a fill sends something
pub fill_of_nothing_starts_none : (w : ℕ) (fs : List Flight) (ps : List Publication) (i : ℕ) (out before more : List Packet) →
    length fs < w → i < length ps → out ++ fill_sends w fs (drop i ps) ≡ before ++ more → more ≡ [] → before ≡ take (length before) out → ⊥
fill_of_nothing_starts_none w fs [] i out before more room below known sends_none front = absurd (omega (arith, below))
fill_of_nothing_starts_none w fs (p ∷ ps) zero out before more room below known sends_none front =
    always_sends w fs p ps out before room (known ∙ ap (λ (z : List Packet). before ++ z) sends_none) front
fill_of_nothing_starts_none w fs (p ∷ ps) (suc i) out before more room below known sends_none front =
    fill_of_nothing_starts_none w fs ps i out before more room (omega (arith, below)) known sends_none front
