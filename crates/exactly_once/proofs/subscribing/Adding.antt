-- What a place adds to the entries and starts of them is a run of the handshake.
use Rattle.std.proofs.Common.{◌≡◌, ℕ, suc, Bool, true, false, if◌then◌else◌, List, [], ◌∷◌, ◌++◌, map, Option, Some, None, refl, ap, sym, ◌∙◌, append_assoc}
use Rattle.std.proofs.lemmas.List.{append-nil}
use Rattle.std.specs.List.{AllByRecursion}
use Rattle.session_base.specs.declared.publication.Publication.{Publication}
use Rattle.broker_spec.specs.Connection.{ConnectionName}
use Rattle.broker_spec.specs.Entries.{Entry}
use Rattle.broker_spec.specs.Times.{started}
use Rattle.broker_spec.specs.IdentifierTheorems.{WaitingAreLast, IsWaitingEntry}
use Rattle.broker_spec.proofs.SoundEntries.{AllWait, InOrder, Sound}
use Rattle.broker_spec.proofs.SoundStarts.{sound_new}
use Rattle.exactly_once.specs.Items.{SenderItem}
use Rattle.exactly_once.specs.Handshake.{Handshake, with_items}
use Rattle.exactly_once.specs.HandshakeSteps.{HandshakeTrace}
use Rattle.exactly_once.specs.HandshakeSteps.HandshakeStep.{adds}
use Rattle.exactly_once.specs.HandshakeSteps.HandshakeTrace.{stays, goes_on}
use Rattle.exactly_once.proofs.Exact.{run_then}
use Rattle.exactly_once.specs.Carried.{is_qos2}
use Rattle.exactly_once.specs.Inside.Projections.{GoesTo}
use Rattle.exactly_once.specs.Inside.AsSubscriber.{items_of_entries}
use Rattle.exactly_once.proofs.Items.{items_append}
use Rattle.exactly_once.proofs.Starts.{Starts, rows_started, sending_all, all_starts}

-- ---- new entries

-- those of QoS 2 are added, one after another
pub adds_all : (n : ℕ) (ps : List Publication) (h : Handshake Publication) → Starts h (h.items ++ items_of_entries (map (Entry.Queued n) ps)) []
adds_all n [] h = record { after = h; run = stays; items_are = sym (append-nil h.items); accepted = refl; received = refl; transit = refl }
adds_all n (p ∷ ps) h = by (is_qos2 p.qos) (adds_all n ps (with_items (h.items ++ SenderItem.Queued p ∷ []) h.transit h)) (adds_all n ps h)
  where
    by : (b : Bool) → Starts (with_items (h.items ++ SenderItem.Queued p ∷ []) h.transit h) ((h.items ++ SenderItem.Queued p ∷ []) ++ items_of_entries (map (Entry.Queued n) ps)) []
        → Starts h (h.items ++ items_of_entries (map (Entry.Queued n) ps)) []
        → Starts h (h.items ++ (if b then SenderItem.Queued p ∷ items_of_entries (map (Entry.Queued n) ps) else items_of_entries (map (Entry.Queued n) ps))) []
    by true r q =
        record {
          after = r.after;
          run = run_then (goes_on stays (adds p)) r.run;
          items_are = r.items_are ∙ append_assoc h.items (SenderItem.Queued p ∷ []) (items_of_entries (map (Entry.Queued n) ps));
          accepted = r.accepted;
          received = r.received;
          transit = r.transit;
        }
    by false r q = q

-- ---- what starts

-- the QoS 2 entries that start at a place
abbrev pub rows_at : ℕ → Option ConnectionName → List Entry → List (ℕ × Publication)
rows_at w (Some x) es = rows_started w [] es
rows_at w None es = []

-- all that wait
all_wait : (es : List Entry) → AllWait es → AllByRecursion IsWaitingEntry es
all_wait [] h = tt
all_wait (Entry.Queued made p ∷ es) h = (tt, all_wait es h)
all_wait (Entry.Sent made p id start ∷ es) h = absurd h
all_wait (Entry.Released made p id start release ∷ es) h = absurd h
all_wait (Entry.Done made p id start release finish ∷ es) h = absurd h

-- the two ways to say that those that wait come last
waits_last : (es : List Entry) → InOrder es → WaitingAreLast es
waits_last [] h = tt
waits_last (Entry.Queued made p ∷ es) h = all_wait es h
waits_last (Entry.Sent made p id start ∷ es) h = waits_last es h
waits_last (Entry.Released made p id start release ∷ es) h = waits_last es h
waits_last (Entry.Done made p id start release finish ∷ es) h = waits_last es h

-- a place adds, then starts
pub place_starts : (w n : ℕ) (current : Option ConnectionName) (es : List Entry) (ps : List Publication) (h : Handshake Publication) → h.items ≡ items_of_entries es → Sound (suc n) es
    → Starts h (items_of_entries (started w n current (es ++ map (Entry.Queued n) ps))) (rows_at w current (es ++ map (Entry.Queued n) ps))
place_starts w n current es ps h e s = by current (adds_all n ps h)
  where
    items : h.items ++ items_of_entries (map (Entry.Queued n) ps) ≡ items_of_entries (es ++ map (Entry.Queued n) ps)
    items = ap (λ l. l ++ items_of_entries (map (Entry.Queued n) ps)) e ∙ sym (items_append es (map (Entry.Queued n) ps))

    by : (current : Option ConnectionName) → Starts h (h.items ++ items_of_entries (map (Entry.Queued n) ps)) []
        → Starts h (items_of_entries (started w n current (es ++ map (Entry.Queued n) ps))) (rows_at w current (es ++ map (Entry.Queued n) ps))
    by None r = record { after = r.after; run = r.run; items_are = r.items_are ∙ items; accepted = r.accepted; received = r.received; transit = r.transit }
    by (Some x) r =
        let q = all_starts w n [] [] (es ++ map (Entry.Queued n) ps) r.after (r.items_are ∙ items) tt (λ i e. refl) (waits_last (es ++ map (Entry.Queued n) ps) (sound_new n es ps s).in_order) in
        record {
          after = q.after;
          run = run_then r.run q.run;
          items_are = q.items_are;
          accepted = q.accepted ∙ r.accepted;
          received = q.received ∙ r.received;
          transit = q.transit ∙ ap (sending_all (rows_started w [] (es ++ map (Entry.Queued n) ps))) r.transit;
        }

-- after a run
pub goes_started : (h k t : Handshake Publication) (w n : ℕ) (current : Option ConnectionName) (es : List Entry) (ps : List Publication)
    → HandshakeTrace h k → k.items ≡ items_of_entries es → Sound (suc n) es → k.accepted ≡ t.accepted → ((id : ℕ) → k.received id ≡ t.received id)
    → t.items ≡ items_of_entries (started w n current (es ++ map (Entry.Queued n) ps)) → t.transit ≡ sending_all (rows_at w current (es ++ map (Entry.Queued n) ps)) k.transit → GoesTo h t
goes_started h k t w n current es ps run e s a r i l =
    let q = place_starts w n current es ps k e s in
    record {
      between = q.after;
      run = run_then run q.run;
      like = record { items = q.items_are ∙ sym i; accepted = q.accepted ∙ a; received = λ id. ap (λ (f : ℕ → Bool). f id) q.received ∙ r id; transit = q.transit ∙ sym l };
    }
