-- The entries that start at a place are starts of the handshake, one after another.
use Rattle.std.proofs.Common.{◌≡◌, ℕ, Bool, true, false, ◌||◌, ◌==◌, nat_lt, if◌then◌else◌, List, [], ◌∷◌, ◌++◌, length, Some, refl, ap, sym, ◌∙◌, append_assoc}
use Rattle.std.proofs.lemmas.List.{append-nil}
use Rattle.session_base.specs.declared.publication.Publication.{Publication}
use Rattle.lists.specs.Lists.{has_id}
use Rattle.session_base.specs.Identifiers.{least_free}
use Rattle.broker_spec.specs.Entries.{Entry}
use Rattle.broker_spec.specs.Times.{start_all}
use Rattle.broker_spec.specs.IdentifierTheorems.{WaitingAreLast, IsWaitingEntry}
use Rattle.broker_spec.proofs.LeastFree.{least-is-free}
use Rattle.exactly_once.specs.Items.{SenderItem, busy, start_first, first_waiting}
use Rattle.exactly_once.specs.Handshake.{sender_sends, with_items, Forward, Transit, Handshake}
use Rattle.exactly_once.specs.HandshakeSteps.{HandshakeTrace}
use Rattle.exactly_once.specs.HandshakeSteps.HandshakeStep.{starts}
use Rattle.exactly_once.specs.HandshakeSteps.HandshakeTrace.{stays, goes_on}
use Rattle.lists.proofs.Identifiers.{has_append}
use Rattle.lists.proofs.Tests.{or_none, none_or}
use Rattle.exactly_once.proofs.BusyIdentifiers.{busy_append}
use Rattle.exactly_once.proofs.Exact.{run_then}
use Rattle.exactly_once.specs.Carried.{is_qos2}
use Rattle.exactly_once.specs.Inside.AsSubscriber.{items_of_entries}
use Rattle.std.specs.List.{AllByRecursion}

-- items of which none waits
abbrev pub NoneWaits : {V : Type 0} → List (SenderItem V) → Type 0
NoneWaits (SenderItem.Queued v ∷ items) = ⊥
NoneWaits (_ ∷ items) = NoneWaits items
NoneWaits [] = Unit {0}

none_more : {V : Type 0} (pre more : List (SenderItem V)) → NoneWaits pre → NoneWaits more → NoneWaits (pre ++ more)
none_more [] more n m = m
none_more (SenderItem.Queued v ∷ pre) more n m = elim n [ ]
none_more (SenderItem.Sent v id ∷ pre) more n m = none_more pre more n m
none_more (SenderItem.Released v id ∷ pre) more n m = none_more pre more n m
none_more (SenderItem.Done v ∷ pre) more n m = none_more pre more n m

first_after : {V : Type 0} (pre more : List (SenderItem V)) → NoneWaits pre → first_waiting (pre ++ more) ≡ first_waiting more
first_after [] more n = refl
first_after (SenderItem.Queued v ∷ pre) more n = elim n [ ]
first_after (SenderItem.Sent v id ∷ pre) more n = first_after pre more n
first_after (SenderItem.Released v id ∷ pre) more n = first_after pre more n
first_after (SenderItem.Done v ∷ pre) more n = first_after pre more n

start_after : {V : Type 0} (id : ℕ) (pre more : List (SenderItem V)) → NoneWaits pre → start_first id (pre ++ more) ≡ pre ++ start_first id more
start_after id [] more n = refl
start_after id (SenderItem.Queued v ∷ pre) more n = elim n [ ]
start_after id (SenderItem.Sent v i ∷ pre) more n = ap (λ l. SenderItem.Sent v i ∷ l) (start_after id pre more n)
start_after id (SenderItem.Released v i ∷ pre) more n = ap (λ l. SenderItem.Released v i ∷ l) (start_after id pre more n)
start_after id (SenderItem.Done v ∷ pre) more n = ap (λ l. SenderItem.Done v ∷ l) (start_after id pre more n)

-- what waits is not busy
waiting_free : (es : List Entry) → AllByRecursion IsWaitingEntry es → busy (items_of_entries es) ≡ []
waiting_free [] w = refl
waiting_free (Entry.Queued made p ∷ es) w = by (is_qos2 p.qos) (waiting_free es w.1)
  where
    by : (b : Bool) → busy (items_of_entries es) ≡ [] → busy (if b then SenderItem.Queued p ∷ items_of_entries es else items_of_entries es) ≡ []
    by true ih = ih
    by false ih = ih
waiting_free (Entry.Sent made p id start ∷ es) w = elim w.0 [ ]
waiting_free (Entry.Released made p id start release ∷ es) w = elim w.0 [ ]
waiting_free (Entry.Done made p id start release finish ∷ es) w = elim w.0 [ ]

-- ---- what starts

-- the identifiers and publications of the QoS 2 entries that start
abbrev pub rows_started : ℕ → List ℕ → List Entry → List (ℕ × Publication)
rows_started w ids (Entry.Queued made p ∷ es) =
    if nat_lt (length ids) w
    then (if is_qos2 p.qos then (least_free ids, p) ∷ rows_started w (least_free ids ∷ ids) es else rows_started w (least_free ids ∷ ids) es)
    else []
rows_started w ids (Entry.Sent made p id start ∷ es) = rows_started w (id ∷ ids) es
rows_started w ids (Entry.Released made p id start release ∷ es) = rows_started w (id ∷ ids) es
rows_started w ids (Entry.Done made p id start release finish ∷ es) = rows_started w ids es
rows_started w ids [] = []

abbrev pub sending_all : List (ℕ × Publication) → Transit Publication → Transit Publication
sending_all (row ∷ rows) l = sending_all rows (sender_sends (Forward.Publish row.0 row.1) l)
sending_all [] l = l

-- what is in front uses no other identifiers than these
abbrev pub Covers : List ℕ → List (SenderItem Publication) → Type 0
Covers ids pre = (i : ℕ) → has_id i ids ≡ false → has_id i (busy pre) ≡ false

pub record Starts (h : Handshake Publication) (items : List (SenderItem Publication)) (rows : List (ℕ × Publication)) : Type 0 where
  pub after : Handshake Publication
  pub run : HandshakeTrace h after
  pub items_are : after.items ≡ items
  pub accepted : after.accepted ≡ h.accepted
  pub received : after.received ≡ h.received
  pub transit : after.transit ≡ sending_all rows h.transit

covers_more : (ids : List ℕ) (pre : List (SenderItem Publication)) (id : ℕ) → Covers ids pre → Covers (id ∷ ids) pre
covers_more ids pre id c i e = c i (or_none (i == id) (has_id i ids) e).1

covers_one : (ids : List ℕ) (pre : List (SenderItem Publication)) (item : SenderItem Publication) (id : ℕ) → busy (item ∷ []) ≡ id ∷ [] → Covers ids pre → Covers (id ∷ ids) (pre ++ item ∷ [])
covers_one ids pre item id b c i e =
    let h = or_none (i == id) (has_id i ids) e in
    ap (has_id i) (busy_append pre (item ∷ []) ∙ ap (λ l. busy pre ++ l) b) ∙ has_append i (busy pre) (id ∷ [])
    ∙ none_or (has_id i (busy pre)) ((i == id) || false) (c i h.1) (none_or (i == id) false h.0 refl)

covers_free : (ids : List ℕ) (pre : List (SenderItem Publication)) (item : SenderItem Publication) → busy (item ∷ []) ≡ [] → Covers ids pre → Covers ids (pre ++ item ∷ [])
covers_free ids pre item b c i e = ap (has_id i) (busy_append pre (item ∷ []) ∙ ap (λ l. busy pre ++ l) b ∙ append-nil (busy pre)) ∙ c i e

-- an item more in front
in_front : (h : Handshake Publication) (pre items : List (SenderItem Publication)) (item : SenderItem Publication) (rows : List (ℕ × Publication))
    → Starts h ((pre ++ item ∷ []) ++ items) rows → Starts h (pre ++ item ∷ items) rows
in_front h pre items item rows s =
    record { after = s.after; run = s.run; items_are = s.items_are ∙ append_assoc pre (item ∷ []) items; accepted = s.accepted; received = s.received; transit = s.transit }

-- the start of one that waits
starts_one : (h : Handshake Publication) (pre : List (SenderItem Publication)) (id : ℕ) (p : Publication) (es : List Entry) (ids : List ℕ)
    → h.items ≡ pre ++ SenderItem.Queued p ∷ items_of_entries es → NoneWaits pre → Covers ids pre → has_id id ids ≡ false → AllByRecursion IsWaitingEntry es
    → HandshakeTrace h (with_items (start_first id h.items) (sender_sends (Forward.Publish id p) h.transit) h) × (start_first id h.items ≡ (pre ++ SenderItem.Sent p id ∷ []) ++ items_of_entries es)
starts_one h pre id p es ids e n c free w =
    let fresh : has_id id (busy h.items) ≡ false =
    ap (λ l. has_id id (busy l)) e ∙ ap (has_id id) (busy_append pre (SenderItem.Queued p ∷ items_of_entries es) ∙ ap (λ l. busy pre ++ l) (waiting_free es w) ∙ append-nil (busy pre)) ∙ c id free in
    let first : first_waiting h.items ≡ Some p = ap first_waiting e ∙ first_after pre (SenderItem.Queued p ∷ items_of_entries es) n in (
      goes_on stays (starts id p fresh first),
      ap (start_first id) e ∙ start_after id pre (SenderItem.Queued p ∷ items_of_entries es) n ∙ sym (append_assoc pre (SenderItem.Sent p id ∷ []) (items_of_entries es)),
    )

waits_after : (es : List Entry) → AllByRecursion IsWaitingEntry es → WaitingAreLast es
waits_after [] w = tt
waits_after (Entry.Queued made p ∷ es) w = w.1
waits_after (Entry.Sent made p id start ∷ es) w = elim w.0 [ ]
waits_after (Entry.Released made p id start release ∷ es) w = elim w.0 [ ]
waits_after (Entry.Done made p id start release finish ∷ es) w = elim w.0 [ ]

-- all starts of a place
pub all_starts : (w n : ℕ) (ids : List ℕ) (pre : List (SenderItem Publication)) (es : List Entry) (h : Handshake Publication)
    → h.items ≡ pre ++ items_of_entries es → NoneWaits pre → Covers ids pre → WaitingAreLast es
    → Starts h (pre ++ items_of_entries (start_all w n ids es)) (rows_started w ids es)
all_starts w n ids pre [] h e nw c l = record { after = h; run = stays; items_are = e; accepted = refl; received = refl; transit = refl }
all_starts w n ids pre (Entry.Sent made p id start ∷ es) h e nw c l =
    by (is_qos2 p.qos) e (λ e'. all_starts w n (id ∷ ids) pre es h e' nw (covers_more ids pre id c) l)
    (λ e'. all_starts w n (id ∷ ids) (pre ++ SenderItem.Sent p id ∷ []) es h e' (none_more pre (SenderItem.Sent p id ∷ []) nw tt) (covers_one ids pre (SenderItem.Sent p id) id refl c) l)
  where
    by : (b : Bool) → h.items ≡ pre ++ (if b then SenderItem.Sent p id ∷ items_of_entries es else items_of_entries es)
        → (h.items ≡ pre ++ items_of_entries es → Starts h (pre ++ items_of_entries (start_all w n (id ∷ ids) es)) (rows_started w (id ∷ ids) es))
        → (h.items ≡ (pre ++ SenderItem.Sent p id ∷ []) ++ items_of_entries es → Starts h ((pre ++ SenderItem.Sent p id ∷ []) ++ items_of_entries (start_all w n (id ∷ ids) es)) (rows_started w (id ∷ ids) es))
        → Starts h (pre ++ (if b then SenderItem.Sent p id ∷ items_of_entries (start_all w n (id ∷ ids) es) else items_of_entries (start_all w n (id ∷ ids) es))) (rows_started w (id ∷ ids) es)
    by true e f g = in_front h pre (items_of_entries (start_all w n (id ∷ ids) es)) (SenderItem.Sent p id) (rows_started w (id ∷ ids) es) (g (e ∙ sym (append_assoc pre (SenderItem.Sent p id ∷ []) (items_of_entries es))))
    by false e f g = f e
all_starts w n ids pre (Entry.Released made p id start release ∷ es) h e nw c l =
    by (is_qos2 p.qos) e (λ e'. all_starts w n (id ∷ ids) pre es h e' nw (covers_more ids pre id c) l)
    (λ e'. all_starts w n (id ∷ ids) (pre ++ SenderItem.Released p id ∷ []) es h e' (none_more pre (SenderItem.Released p id ∷ []) nw tt) (covers_one ids pre (SenderItem.Released p id) id refl c) l)
  where
    by : (b : Bool) → h.items ≡ pre ++ (if b then SenderItem.Released p id ∷ items_of_entries es else items_of_entries es)
        → (h.items ≡ pre ++ items_of_entries es → Starts h (pre ++ items_of_entries (start_all w n (id ∷ ids) es)) (rows_started w (id ∷ ids) es))
        → (h.items ≡ (pre ++ SenderItem.Released p id ∷ []) ++ items_of_entries es → Starts h ((pre ++ SenderItem.Released p id ∷ []) ++ items_of_entries (start_all w n (id ∷ ids) es)) (rows_started w (id ∷ ids) es))
        → Starts h (pre ++ (if b then SenderItem.Released p id ∷ items_of_entries (start_all w n (id ∷ ids) es) else items_of_entries (start_all w n (id ∷ ids) es))) (rows_started w (id ∷ ids) es)
    by true e f g = in_front h pre (items_of_entries (start_all w n (id ∷ ids) es)) (SenderItem.Released p id) (rows_started w (id ∷ ids) es) (g (e ∙ sym (append_assoc pre (SenderItem.Released p id ∷ []) (items_of_entries es))))
    by false e f g = f e
all_starts w n ids pre (Entry.Done made p id start release finish ∷ es) h e nw c l =
    by (is_qos2 p.qos) e (λ e'. all_starts w n ids pre es h e' nw c l)
    (λ e'. all_starts w n ids (pre ++ SenderItem.Done p ∷ []) es h e' (none_more pre (SenderItem.Done p ∷ []) nw tt) (covers_free ids pre (SenderItem.Done p) refl c) l)
  where
    by : (b : Bool) → h.items ≡ pre ++ (if b then SenderItem.Done p ∷ items_of_entries es else items_of_entries es)
        → (h.items ≡ pre ++ items_of_entries es → Starts h (pre ++ items_of_entries (start_all w n ids es)) (rows_started w ids es))
        → (h.items ≡ (pre ++ SenderItem.Done p ∷ []) ++ items_of_entries es → Starts h ((pre ++ SenderItem.Done p ∷ []) ++ items_of_entries (start_all w n ids es)) (rows_started w ids es))
        → Starts h (pre ++ (if b then SenderItem.Done p ∷ items_of_entries (start_all w n ids es) else items_of_entries (start_all w n ids es))) (rows_started w ids es)
    by true e f g = in_front h pre (items_of_entries (start_all w n ids es)) (SenderItem.Done p) (rows_started w ids es) (g (e ∙ sym (append_assoc pre (SenderItem.Done p ∷ []) (items_of_entries es))))
    by false e f g = f e
all_starts w n ids pre (Entry.Queued made p ∷ es) h e nw c l =
    by (nat_lt (length ids) w)
    (two (is_qos2 p.qos) e
    (λ e'. all_starts w n (least_free ids ∷ ids) pre es h e' nw (covers_more ids pre (least_free ids) c) (waits_after es l))
    (λ k e'. all_starts w n (least_free ids ∷ ids) (pre ++ SenderItem.Sent p (least_free ids) ∷ []) es k e' (none_more pre (SenderItem.Sent p (least_free ids) ∷ []) nw tt)
    (covers_one ids pre (SenderItem.Sent p (least_free ids)) (least_free ids) refl c) (waits_after es l)))
  where
    two : (b : Bool) → h.items ≡ pre ++ (if b then SenderItem.Queued p ∷ items_of_entries es else items_of_entries es)
        → (h.items ≡ pre ++ items_of_entries es → Starts h (pre ++ items_of_entries (start_all w n (least_free ids ∷ ids) es)) (rows_started w (least_free ids ∷ ids) es))
        → ((k : Handshake Publication) → k.items ≡ (pre ++ SenderItem.Sent p (least_free ids) ∷ []) ++ items_of_entries es
        → Starts k ((pre ++ SenderItem.Sent p (least_free ids) ∷ []) ++ items_of_entries (start_all w n (least_free ids ∷ ids) es)) (rows_started w (least_free ids ∷ ids) es))
        → Starts h (pre ++ (if b then SenderItem.Sent p (least_free ids) ∷ items_of_entries (start_all w n (least_free ids ∷ ids) es) else items_of_entries (start_all w n (least_free ids ∷ ids) es)))
        (if b then (least_free ids, p) ∷ rows_started w (least_free ids ∷ ids) es else rows_started w (least_free ids ∷ ids) es)
    two false a f g = f a
    two true a f g =
        let s = starts_one h pre (least_free ids) p es ids a nw c (least-is-free ids) l in
        let k = with_items (start_first (least_free ids) h.items) (sender_sends (Forward.Publish (least_free ids) p) h.transit) h in
        let r = g k s.1 in
        record {
          after = r.after;
          run = run_then s.0 r.run;
          items_are = r.items_are ∙ append_assoc pre (SenderItem.Sent p (least_free ids) ∷ []) (items_of_entries (start_all w n (least_free ids ∷ ids) es));
          accepted = r.accepted;
          received = r.received;
          transit = r.transit;
        }

    by : (room : Bool)
        → Starts h (pre ++ items_of_entries (Entry.Sent made p (least_free ids) n ∷ start_all w n (least_free ids ∷ ids) es))
        (if is_qos2 p.qos then (least_free ids, p) ∷ rows_started w (least_free ids ∷ ids) es else rows_started w (least_free ids ∷ ids) es)
        → Starts h (pre ++ items_of_entries (if room then Entry.Sent made p (least_free ids) n ∷ start_all w n (least_free ids ∷ ids) es else Entry.Queued made p ∷ es))
        (if room then (if is_qos2 p.qos then (least_free ids, p) ∷ rows_started w (least_free ids ∷ ids) es else rows_started w (least_free ids ∷ ids) es) else [])
    by true r = r
    by false r = record { after = h; run = stays; items_are = e; accepted = refl; received = refl; transit = refl }
