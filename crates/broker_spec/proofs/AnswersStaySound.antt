-- The client's answers keep the entries sound.
use Rattle.std.proofs.Common.{ℕ, ◌+◌, ◌≤◌, suc, Bool, true, false, not, ◌&&◌, ◌==◌, if◌then◌else◌, Some, None, List, [], ◌∷◌, map, arith}
use Rattle.session_base.specs.Publication.{is_qos1}
use Rattle.broker_spec.specs.Entries.{Entry}
use Rattle.broker_spec.specs.Readings.{busy_ids}
use Rattle.broker_spec.specs.Times.{at_puback, at_pubrec, at_pubcomp}
use Rattle.session_base.proofs.CountedIdentifiers.{one_if, count}
use Rattle.broker_spec.proofs.SoundEntries.{AllWait, InOrder, Sound, below_puback, below_pubrec, below_pubcomp, below_more}

wait_puback : (n i : ℕ) (es : List Entry) → AllWait es → AllWait (map (at_puback n i) es)
wait_puback n i [] h = tt
wait_puback n i (Entry.Queued made p ∷ es) h = wait_puback n i es h
wait_puback n i (Entry.Sent made p id start ∷ es) h = absurd h
wait_puback n i (Entry.Released made p id start release ∷ es) h = absurd h
wait_puback n i (Entry.Done made p id start release finish ∷ es) h = absurd h

wait_pubrec : (n i : ℕ) (es : List Entry) → AllWait es → AllWait (map (at_pubrec n i) es)
wait_pubrec n i [] h = tt
wait_pubrec n i (Entry.Queued made p ∷ es) h = wait_pubrec n i es h
wait_pubrec n i (Entry.Sent made p id start ∷ es) h = absurd h
wait_pubrec n i (Entry.Released made p id start release ∷ es) h = absurd h
wait_pubrec n i (Entry.Done made p id start release finish ∷ es) h = absurd h

wait_pubcomp : (n i : ℕ) (es : List Entry) → AllWait es → AllWait (map (at_pubcomp n i) es)
wait_pubcomp n i [] h = tt
wait_pubcomp n i (Entry.Queued made p ∷ es) h = wait_pubcomp n i es h
wait_pubcomp n i (Entry.Sent made p id start ∷ es) h = absurd h
wait_pubcomp n i (Entry.Released made p id start release ∷ es) h = absurd h
wait_pubcomp n i (Entry.Done made p id start release finish ∷ es) h = absurd h

order_puback : (n i : ℕ) (es : List Entry) → InOrder es → InOrder (map (at_puback n i) es)
order_puback n i [] h = tt
order_puback n i (Entry.Queued made p ∷ es) h = wait_puback n i es h
order_puback n i (Entry.Sent made p id start ∷ es) h = one ((i == id) && is_qos1 p.qos) (order_puback n i es h)
  where
    one : (b : Bool) → InOrder (map (at_puback n i) es) →
        InOrder ((if b then Entry.Done made p id start None n else Entry.Sent made p id start) ∷ map (at_puback n i) es)
    one true k = k
    one false k = k
order_puback n i (Entry.Released made p id start release ∷ es) h = order_puback n i es h
order_puback n i (Entry.Done made p id start release finish ∷ es) h = order_puback n i es h

order_pubrec : (n i : ℕ) (es : List Entry) → InOrder es → InOrder (map (at_pubrec n i) es)
order_pubrec n i [] h = tt
order_pubrec n i (Entry.Queued made p ∷ es) h = wait_pubrec n i es h
order_pubrec n i (Entry.Sent made p id start ∷ es) h = one ((i == id) && not (is_qos1 p.qos)) (order_pubrec n i es h)
  where
    one : (b : Bool) → InOrder (map (at_pubrec n i) es) →
        InOrder ((if b then Entry.Released made p id start n else Entry.Sent made p id start) ∷ map (at_pubrec n i) es)
    one true k = k
    one false k = k
order_pubrec n i (Entry.Released made p id start release ∷ es) h = order_pubrec n i es h
order_pubrec n i (Entry.Done made p id start release finish ∷ es) h = order_pubrec n i es h

order_pubcomp : (n i : ℕ) (es : List Entry) → InOrder es → InOrder (map (at_pubcomp n i) es)
order_pubcomp n i [] h = tt
order_pubcomp n i (Entry.Queued made p ∷ es) h = wait_pubcomp n i es h
order_pubcomp n i (Entry.Sent made p id start ∷ es) h = order_pubcomp n i es h
order_pubcomp n i (Entry.Released made p id start release ∷ es) h = one (i == id) (order_pubcomp n i es h)
  where
    one : (b : Bool) → InOrder (map (at_pubcomp n i) es) →
        InOrder ((if b then Entry.Done made p id start (Some release) n else Entry.Released made p id start release) ∷ map (at_pubcomp n i) es)
    one true k = k
    one false k = k
order_pubcomp n i (Entry.Done made p id start release finish ∷ es) h = order_pubcomp n i es h

busy_puback : (test : ℕ → Bool) (n i : ℕ) (es : List Entry) → count test (busy_ids (map (at_puback n i) es)) ≤ count test (busy_ids es)
busy_puback test n i [] = omega arith
busy_puback test n i (Entry.Queued made p ∷ es) = busy_puback test n i es
busy_puback test n i (Entry.Sent made p id start ∷ es) = one ((i == id) && is_qos1 p.qos) (busy_puback test n i es)
  where
    one : (b : Bool) → count test (busy_ids (map (at_puback n i) es)) ≤ count test (busy_ids es) →
        count test (busy_ids ((if b then Entry.Done made p id start None n else Entry.Sent made p id start) ∷ map (at_puback n i) es))
        ≤ one_if (test id) + count test (busy_ids es)
    one true k = omega (arith, k)
    one false k = omega (arith, k)
busy_puback test n i (Entry.Released made p id start release ∷ es) = omega (arith, busy_puback test n i es)
busy_puback test n i (Entry.Done made p id start release finish ∷ es) = busy_puback test n i es

busy_pubrec : (test : ℕ → Bool) (n i : ℕ) (es : List Entry) → count test (busy_ids (map (at_pubrec n i) es)) ≤ count test (busy_ids es)
busy_pubrec test n i [] = omega arith
busy_pubrec test n i (Entry.Queued made p ∷ es) = busy_pubrec test n i es
busy_pubrec test n i (Entry.Sent made p id start ∷ es) = one ((i == id) && not (is_qos1 p.qos)) (busy_pubrec test n i es)
  where
    one : (b : Bool) → count test (busy_ids (map (at_pubrec n i) es)) ≤ count test (busy_ids es) →
        count test (busy_ids ((if b then Entry.Released made p id start n else Entry.Sent made p id start) ∷ map (at_pubrec n i) es))
        ≤ one_if (test id) + count test (busy_ids es)
    one true k = omega (arith, k)
    one false k = omega (arith, k)
busy_pubrec test n i (Entry.Released made p id start release ∷ es) = omega (arith, busy_pubrec test n i es)
busy_pubrec test n i (Entry.Done made p id start release finish ∷ es) = busy_pubrec test n i es

busy_pubcomp : (test : ℕ → Bool) (n i : ℕ) (es : List Entry) → count test (busy_ids (map (at_pubcomp n i) es)) ≤ count test (busy_ids es)
busy_pubcomp test n i [] = omega arith
busy_pubcomp test n i (Entry.Queued made p ∷ es) = busy_pubcomp test n i es
busy_pubcomp test n i (Entry.Sent made p id start ∷ es) = omega (arith, busy_pubcomp test n i es)
busy_pubcomp test n i (Entry.Released made p id start release ∷ es) = one (i == id) (busy_pubcomp test n i es)
  where
    one : (b : Bool) → count test (busy_ids (map (at_pubcomp n i) es)) ≤ count test (busy_ids es) →
        count test (busy_ids ((if b then Entry.Done made p id start (Some release) n else Entry.Released made p id start release) ∷ map (at_pubcomp n i) es))
        ≤ one_if (test id) + count test (busy_ids es)
    one true k = omega (arith, k)
    one false k = omega (arith, k)
busy_pubcomp test n i (Entry.Done made p id start release finish ∷ es) = busy_pubcomp test n i es

pub sound_puback : (n i : ℕ) (es : List Entry) → Sound n es → Sound (suc n) (map (at_puback n i) es)
sound_puback n i es s = record {
  below = below_puback n i es s.below;
  in_order = order_puback n i es s.in_order;
  unique = λ j. omega (arith, busy_puback (λ id. j == id) n i es, s.unique j);
}

pub sound_pubrec : (n i : ℕ) (es : List Entry) → Sound n es → Sound (suc n) (map (at_pubrec n i) es)
sound_pubrec n i es s = record {
  below = below_pubrec n i es s.below;
  in_order = order_pubrec n i es s.in_order;
  unique = λ j. omega (arith, busy_pubrec (λ id. j == id) n i es, s.unique j);
}

pub sound_pubcomp : (n i : ℕ) (es : List Entry) → Sound n es → Sound (suc n) (map (at_pubcomp n i) es)
sound_pubcomp n i es s = record {
  below = below_pubcomp n i es s.below;
  in_order = order_pubcomp n i es s.in_order;
  unique = λ j. omega (arith, busy_pubcomp (λ id. j == id) n i es, s.unique j);
}

pub sound_more : (n : ℕ) (es : List Entry) → Sound n es → Sound (suc n) es
sound_more n es s = record { below = below_more n es s.below; in_order = s.in_order; unique = s.unique }
