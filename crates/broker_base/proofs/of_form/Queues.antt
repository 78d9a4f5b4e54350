-- What fills, copies and the client's answers leave of a queue: entries in their ranges, and how many.
use Rattle.std.proofs.Common.{◌≡◌, ℕ, ◌+◌, ◌≤◌, ◌<◌, ◌^◌, suc, Bool, true, false, not, nat_lt, if◌then◌else◌, List, [], ◌∷◌, ◌++◌, length, filter, refl, arith}
use Rattle.std.specs.List.{AllByRecursion, list_any}
use Rattle.std.proofs.lemmas.List.{length-append, length-map}
use Rattle.packet_base.specs.Spelling.{IsId}
use Rattle.packet_base.specs.declared.qos.QoS.{QoS}
use Rattle.packet_base.specs.declared.qos.QoS.TheVariants as qos_levels
use Rattle.lists.specs.Lists.{IsDistinct}
use Rattle.session_base.specs.declared.publication.Publication.{Publication}
use Rattle.session_base.specs.Publication.{is_answered}
use Rattle.session_base.specs.Queue.{Flight, Queue, ids_of, awaited, is_released, awaits_puback, awaits_pubrec, awaits_pubcomp, started_flight, on_puback, on_pubrec, on_pubcomp, released_with, enqueue, fill, filled}
use Rattle.session_base.specs.Copies.{copies_left, copies_waiting}
use Rattle.session_base.proofs.IdentifiersStayApart.{pubrec_length}
use Rattle.broker_spec.proofs.LeastFree.{least-in-reach}
use Rattle.broker_spec.specs.Entries.{queued}
use Rattle.session_base.specs.InRange.{CanBeSent, MayWait, IsInFlight, IsQueue}
use Rattle.broker_base.proofs.of_form.Publications.{made}

-- ---- lists

pub all_append : {A : Type 0} (P : A → Type 0) (xs ys : List A) → AllByRecursion P xs → AllByRecursion P ys → AllByRecursion P (xs ++ ys)
all_append P [] ys h k = k
all_append P (x ∷ xs) ys h k = (h.0, all_append P xs ys h.1 k)

pub all_filter : {A : Type 0} (P : A → Type 0) (test : A → Bool) (xs : List A) → AllByRecursion P xs → AllByRecursion P (filter test xs)
all_filter P test [] h = tt
all_filter P test (x ∷ xs) h = by (test x) (all_filter P test xs h.1)
  where
    by : (b : Bool) → AllByRecursion P (filter test xs) → AllByRecursion P (if b then x ∷ filter test xs else filter test xs)
    by true k = (h.0, k)
    by false k = k

pub fewer : {A : Type 0} (test : A → Bool) (xs : List A) → length (filter test xs) ≤ length xs
fewer test [] = omega arith
fewer test (x ∷ xs) = by (test x) (fewer test xs)
  where
    by : (b : Bool) → length (filter test xs) ≤ length xs → length (if b then x ∷ filter test xs else filter test xs) ≤ suc (length xs)
    by true k = omega (arith, k)
    by false k = omega (arith, k)

-- ---- fills

-- with more room it is in range all the more
pub wider : (m n : ℕ) (q : Queue) → m ≤ n → IsQueue m q → IsQueue n q
wider m n q h k = record { in_flight = k.in_flight; waiting = k.waiting; few = (let f = k.few in omega (arith, f, h)) }

-- the least identifier that is not in flight is one
pub free_is_id : (fs : List Flight) (p : Publication) → suc (length fs) < 2 ^ 16 → IsId (started_flight fs p).0
free_is_id fs p h =
    let r = least-in-reach (ids_of fs) in let low = r.0 in let high = r.1 in
    let same : length (ids_of fs) ≡ length fs = length-map fs (λ (flight : Flight). flight.0) in
    (omega (arith, low), omega (arith, high, same, h))

-- a publication that starts
pub started_in_range : (fs : List Flight) (p : Publication) → suc (length fs) < 2 ^ 16 → MayWait p → IsInFlight (started_flight fs p)
started_in_range fs p h k = by p.qos k
  where
    by : (q : QoS) → MayWait (made p.retain q p.topic p.payload) → IsInFlight ((started_flight fs p).0, awaited (made p.retain q p.topic p.payload))
    by qos_levels.AtMostOnce k = absurd (cc)
    by qos_levels.AtLeastOnce k = (free_is_id fs p h, refl, k.1)
    by qos_levels.ExactlyOnce k = (free_is_id fs p h, refl, k.1)

filled_in_range : (w n : ℕ) (fs : List Flight) (ps : List Publication) → n < 2 ^ 16 → AllByRecursion IsInFlight fs → AllByRecursion MayWait ps →
    length fs + length ps ≤ n → IsQueue n (fill w fs ps)
filled_in_range w n fs [] m h k few = record { in_flight = h; waiting = tt; few = few }
filled_in_range w n fs (p ∷ ps) m h k few =
    by (nat_lt (length fs) w)
    (filled_in_range w n (fs ++ started_flight fs p ∷ []) ps m
    (all_append IsInFlight fs (started_flight fs p ∷ []) h (started_in_range fs p (omega (arith, few, m)) k.0, tt)) k.1
    (let e = length-append fs (started_flight fs p ∷ []) in let f : length (fs ++ started_flight fs p ∷ []) ≡ length fs + 1 = e in omega (arith, f, few)))
  where
    by : (b : Bool) → IsQueue n (fill w (fs ++ started_flight fs p ∷ []) ps) →
        IsQueue n (if b then fill w (fs ++ started_flight fs p ∷ []) ps else record { in_flight = fs; waiting = p ∷ ps })
    by true r = r
    by false r = record { in_flight = h; waiting = k; few = few }

pub fill_in_range : (w n : ℕ) (q : Queue) → n < 2 ^ 16 → IsQueue n q → IsQueue n (filled w q)
fill_in_range w n q m h = filled_in_range w n q.in_flight q.waiting m h.in_flight h.waiting h.few

-- ---- the client's answers

pub puback_in_range : (n id : ℕ) (q : Queue) → IsQueue n q → IsQueue n (record { in_flight = on_puback id q.in_flight; waiting = q.waiting })
puback_in_range n id q h = record {
  in_flight = all_filter IsInFlight (λ flight. not (awaits_puback id flight)) q.in_flight h.in_flight;
  waiting = h.waiting;
  few = (let f = fewer (λ flight. not (awaits_puback id flight)) q.in_flight in let g = h.few in omega (arith, f, g));
}

pub pubcomp_in_range : (n id : ℕ) (q : Queue) → IsQueue n q → IsQueue n (record { in_flight = on_pubcomp id q.in_flight; waiting = q.waiting })
pubcomp_in_range n id q h = record {
  in_flight = all_filter IsInFlight (λ flight. not (awaits_pubcomp id flight)) q.in_flight h.in_flight;
  waiting = h.waiting;
  few = (let f = fewer (λ flight. not (awaits_pubcomp id flight)) q.in_flight in let g = h.few in omega (arith, f, g));
}

pub pubrec_in_range : (n id : ℕ) (q : Queue) → IsId id → IsDistinct (ids_of q.in_flight) → IsQueue n q →
    IsQueue n (record { in_flight = on_pubrec id q.in_flight; waiting = q.waiting })
pubrec_in_range n id q i apart h = record {
  in_flight = by (list_any (awaits_pubrec id) q.in_flight);
  waiting = h.waiting;
  few = (let f = pubrec_length id q.in_flight apart in let g = h.few in omega (arith, f, g));
}
  where
    by : (b : Bool) → AllByRecursion IsInFlight (if b then released_with id q.in_flight else q.in_flight)
    by true =
        all_append IsInFlight (filter is_released q.in_flight) _ (all_filter IsInFlight is_released q.in_flight h.in_flight)
        (i, all_filter IsInFlight _ q.in_flight h.in_flight)
    by false = h.in_flight

-- ---- copies

pub enqueued_in_range : (n : ℕ) (p : Publication) (q : Queue) → MayWait p → IsQueue n q → IsQueue (suc n) (enqueue p q)
enqueued_in_range n p q k h = record {
  in_flight = h.in_flight;
  waiting = all_append MayWait q.waiting (p ∷ []) h.waiting (k, tt);
  few = (let e : length (q.waiting ++ p ∷ []) ≡ length q.waiting + 1 = length-append q.waiting (p ∷ []) in let g = h.few in omega (arith, e, g));
}

pub copies_in_range : (w n : ℕ) (copies : List Publication) (q : Queue) → n + length (queued copies) < 2 ^ 16 → AllByRecursion CanBeSent copies →
    IsQueue n q → IsQueue (n + length (queued copies)) (copies_left w copies q)
copies_in_range w n [] q m k h = wider n (n + 0) q (omega arith) h
copies_in_range w n (p ∷ copies) q m k h =
    elim (is_answered p.qos) as (λ (b : Bool). is_answered p.qos ≡ b → n + length (if b then p ∷ queued copies else queued copies) < 2 ^ 16 →
    IsQueue (n + length (if b then p ∷ queued copies else queued copies))
    (if b then copies_left w copies (filled w (enqueue p q)) else copies_left w copies q)) [
      | true ↦ λ e m.
          wider (suc n + length (queued copies)) (n + suc (length (queued copies))) _ (omega arith)
          (copies_in_range w (suc n) copies (filled w (enqueue p q)) (omega (arith, m)) k.1
          (fill_in_range w (suc n) (enqueue p q) (omega (arith, m)) (enqueued_in_range n p q (e, k.0) h)))
      | false ↦ λ e m. copies_in_range w n copies q m k.1 h
    ] refl m

pub waiting_in_range : (n : ℕ) (copies : List Publication) (q : Queue) → AllByRecursion CanBeSent copies → IsQueue n q →
    IsQueue (n + length (queued copies)) (copies_waiting copies q)
waiting_in_range n copies q k h = record {
  in_flight = h.in_flight;
  waiting = all_append MayWait q.waiting (queued copies) h.waiting (all_queued copies k);
  few = (let e = length-append q.waiting (queued copies) in let g = h.few in omega (arith, e, g));
}
  where
    all_queued : (copies : List Publication) → AllByRecursion CanBeSent copies → AllByRecursion MayWait (queued copies)
    all_queued [] k = tt
    all_queued (p ∷ copies) k =
        elim (is_answered p.qos) as (λ (b : Bool). is_answered p.qos ≡ b → AllByRecursion MayWait (if b then p ∷ queued copies else queued copies)) [
          | true ↦ λ e. ((e, k.0), all_queued copies k.1)
          | false ↦ λ e. all_queued copies k.1
        ] refl
