-- A publication enters a session at most once.
use Rattle.std.proofs.Common.{◌≡◌, ℕ, suc, ◌≤◌, ◌<◌, ◌+◌, Bool, true, false, not, ◌&&◌, ◌==◌, nat_lt, if◌then◌else◌, List, [], ◌∷◌, ◌++◌, length, map, filter, Option, Some, None, inl, inr, refl, ◌∙◌, ap, arith}
use Rattle.packet_base.specs.declared.qos.QoS.{QoS}
use Rattle.packet.specs.declared.subscribe.Subscription.{Subscription}
use Rattle.packet.specs.declared.packet.Packet.TheVariants as packets
use Rattle.retained.specs.declared.retained_publication.RetainedPublication.{RetainedPublication}
use Rattle.retained.specs.Retained.{RetainedTopics, matching_entries}
use Rattle.broker_spec.specs.Connection.{ConnectionName}
use Rattle.broker_spec.specs.Place.{Client, same_client, Mark, Past, Limits}
use Rattle.broker_spec.specs.Sessions.{current_connection, clean_session_of, begins, in_session}
use Rattle.session_base.specs.declared.publication.Publication.{Publication}
use Rattle.session_base.specs.Publication.{publication_of, is_answered}
use Rattle.broker_spec.specs.Subscriptions.{effective_qos, granted_of}
use Rattle.broker_spec.specs.Retained.{retained_publications}
use Rattle.broker_spec.specs.Entries.{Entry, copy_of, retained_copy, copies_for, copies_for_all, copies_by, copies_at, queued}
use Rattle.broker_spec.specs.Readings.{made_of, publication_in}
use Rattle.session_base.specs.Identifiers.{least_free}
use Rattle.broker_spec.specs.Times.{entries_of, window_at, start_all, started}
use Rattle.broker_spec.specs.OriginTheorems.{is_from_publish, EntersOnce}
use Rattle.broker_spec.specs.declared.command.Command.{Command}
use Rattle.broker_spec.specs.declared.command.Command.TheVariants as commands
use Rattle.broker_spec.proofs.EntriesGrow.{Answered, Answering, answers-by}

abbrev pub one_if : Bool → ℕ
one_if true = 1
one_if false = 0

-- how many of these are of the publication taken at place n
abbrev pub times : ℕ → List Entry → ℕ
times n [] = 0
times n (e ∷ es) = one_if (is_from_publish n e) + times n es

-- ---- answers and starts change none of it

same-kind : (n m : ℕ) (f : Entry → Entry) → Answering m f → (e : Entry) → is_from_publish n (f e) ≡ is_from_publish n e
same-kind n m f a (Entry.Queued made p) = ap (is_from_publish n) (a (Entry.Queued made p))
same-kind n m f a (Entry.Sent made p id start) = by (a (Entry.Sent made p id start))
  where
    by : Answered m (Entry.Sent made p id start) (f (Entry.Sent made p id start)) → is_from_publish n (f (Entry.Sent made p id start)) ≡ is_from_publish n (Entry.Sent made p id start)
    by (inl e) = ap (is_from_publish n) e
    by (inr (inl e)) = ap (is_from_publish n) e
    by (inr (inr e)) = ap (is_from_publish n) e
same-kind n m f a (Entry.Released made p id start release) = by (a (Entry.Released made p id start release))
  where
    by : Answered m (Entry.Released made p id start release) (f (Entry.Released made p id start release)) → is_from_publish n (f (Entry.Released made p id start release)) ≡ is_from_publish n (Entry.Released made p id start release)
    by (inl e) = ap (is_from_publish n) e
    by (inr e) = ap (is_from_publish n) e
same-kind n m f a (Entry.Done made p id start release finish) = ap (is_from_publish n) (a (Entry.Done made p id start release finish))

pub times-answered : (n m : ℕ) (f : Entry → Entry) → Answering m f → (es : List Entry) → times n (map f es) ≡ times n es
times-answered n m f a [] = refl
times-answered n m f a (e ∷ es) = ap (λ z. one_if z + times n (map f es)) (same-kind n m f a e) ∙ ap (λ z. one_if (is_from_publish n e) + z) (times-answered n m f a es)

pub times-more : (n : ℕ) (es more : List Entry) → times n (es ++ more) ≡ times n es + times n more
times-more n [] more = omega arith
times-more n (e ∷ es) more = let h = times-more n es more in omega (arith, h)

start-by : (n w m : ℕ) (busy : List ℕ) (made : ℕ) (p : Publication) (es : List Entry) → times n (start_all w m (least_free busy ∷ busy) es) ≡ times n es
    → (b : Bool)
    → times n (if b then Entry.Sent made p (least_free busy) m ∷ start_all w m (least_free busy ∷ busy) es else Entry.Queued made p ∷ es) ≡ times n (Entry.Queued made p ∷ es)
start-by n w m busy made p es ih true = ap (λ z. one_if (is_from_publish n (Entry.Queued made p)) + z) ih
start-by n w m busy made p es ih false = refl

times-start : (n w m : ℕ) (busy : List ℕ) (es : List Entry) → times n (start_all w m busy es) ≡ times n es
times-start n w m busy [] = refl
times-start n w m busy (Entry.Queued made p ∷ es) = start-by n w m busy made p es (times-start n w m (least_free busy ∷ busy) es) (nat_lt (length busy) w)
times-start n w m busy (Entry.Sent made p id start ∷ es) = ap (λ z. one_if (is_from_publish n (Entry.Queued made p)) + z) (times-start n w m (id ∷ busy) es)
times-start n w m busy (Entry.Released made p id start release ∷ es) = ap (λ z. one_if (is_from_publish n (Entry.Queued made p)) + z) (times-start n w m (id ∷ busy) es)
times-start n w m busy (Entry.Done made p id start release finish ∷ es) = ap (λ z. one_if (is_from_publish n (Entry.Queued made p)) + z) (times-start n w m busy es)

pub times-started : (n w m : ℕ) (current : Option ConnectionName) (es : List Entry) → times n (started w m current es) ≡ times n es
times-started n w m None es = refl
times-started n w m (Some x) es = times-start n w m [] es

-- ---- what a place makes

-- copies with RETAIN 0, of QoS 1 and 2
abbrev pub fresh : List Publication → ℕ
fresh [] = 0
fresh (p ∷ ps) = one_if (not p.retain) + fresh ps

and-less : (a b : Bool) → one_if (a && b) ≤ one_if b
and-less true b = omega arith
and-less false true = omega arith
and-less false false = omega arith

pub times-new : (n m : ℕ) (ps : List Publication) → times n (map (Entry.Queued m) ps) ≤ fresh ps
times-new n m [] = omega arith
times-new n m (p ∷ ps) = let h = times-new n m ps in let g = and-less (m == n) (not p.retain) in omega (arith, h, g)

other-place : (a b : Bool) → a ≡ false → one_if (a && b) ≡ 0
other-place false b e = refl
other-place true b e = cc

pub times-elsewhere : (n m : ℕ) (ps : List Publication) → (m == n) ≡ false → times n (map (Entry.Queued m) ps) ≡ 0
times-elsewhere n m [] e = refl
times-elsewhere n m (p ∷ ps) e = let h = times-elsewhere n m ps e in let g = other-place (m == n) (not p.retain) e in omega (arith, h, g)

fresh-queued-by : (b : Bool) (p : Publication) (ps qs : List Publication) → fresh qs ≤ fresh ps → fresh (if b then p ∷ qs else qs) ≤ fresh (p ∷ ps)
fresh-queued-by true p ps qs h = omega (arith, h)
fresh-queued-by false p ps qs h = omega (arith, h)

pub fresh-queued : (ps : List Publication) → fresh (queued ps) ≤ fresh ps
fresh-queued [] = omega arith
fresh-queued (p ∷ ps) = fresh-queued-by (is_answered p.qos) p ps (queued ps) (fresh-queued ps)

pub fresh-copy : (p : Publication) (qos : Option QoS) → fresh (copy_of p qos) ≤ 1
fresh-copy p None = omega arith
fresh-copy p (Some q) = omega arith

fresh-retained : (asked : QoS) (rows : List (List ℕ × RetainedPublication)) → fresh (map (retained_copy asked) rows) ≡ 0
fresh-retained asked [] = refl
fresh-retained asked (row ∷ rows) = let h = fresh-retained asked rows in omega (arith, h)

fresh-more : (ps qs : List Publication) → fresh (ps ++ qs) ≡ fresh ps + fresh qs
fresh-more [] qs = omega arith
fresh-more (p ∷ ps) qs = let h = fresh-more ps qs in omega (arith, h)

pub fresh-all : (content : RetainedTopics) (filters : List Subscription) → fresh (copies_for_all content filters) ≡ 0
fresh-all content [] = refl
fresh-all content (s ∷ more) =
    fresh-more (copies_for content s) (copies_for_all content more)
    ∙ (let g = fresh-retained s.qos (matching_entries content s.filter) in let h = fresh-all content more in omega (arith, g, h))

subscribe-by : (b : Bool) (content : RetainedTopics) (filters : List Subscription) → fresh (if b then copies_for_all content filters else []) ≤ 1
subscribe-by true content filters = let h = fresh-all content filters in omega (arith, h)
subscribe-by false content filters = omega arith

fresh-by : (k : Command) (m : Mark) (past : Past) (c : Client) → fresh (copies_by k m past c) ≤ 1
fresh-by (commands.Packet x (packets.Connect q)) m past c = omega arith
fresh-by (commands.Packet x (packets.Connack q)) m past c = omega arith
fresh-by (commands.Packet x (packets.Publish p)) Mark.Unmarked past c = omega arith
fresh-by (commands.Packet x (packets.Publish p)) Mark.Accepted past c = omega arith
fresh-by (commands.Packet x (packets.Publish p)) Mark.Full past c = omega arith
fresh-by (commands.Packet x (packets.Publish p)) (Mark.Leaves d) past c = omega arith
fresh-by (commands.Packet x (packets.Publish p)) (Mark.Refused d) past c = omega arith
fresh-by (commands.Packet x (packets.Publish p)) (Mark.Repeat d) past c = omega arith
fresh-by (commands.Packet x (packets.Publish p)) (Mark.Taken d) past c = fresh-copy (publication_of p) (effective_qos past c (publication_of p))
fresh-by (commands.Packet x (packets.Publish p)) (Mark.Granted d which) past c = omega arith
fresh-by (commands.Packet x (packets.Publish p)) (Mark.Handled d) past c = omega arith
fresh-by (commands.Packet x (packets.Puback i)) m past c = omega arith
fresh-by (commands.Packet x (packets.Pubrec i)) m past c = omega arith
fresh-by (commands.Packet x (packets.Pubrel i)) m past c = omega arith
fresh-by (commands.Packet x (packets.Pubcomp i)) m past c = omega arith
fresh-by (commands.Packet x (packets.Subscribe s)) Mark.Unmarked past c = omega arith
fresh-by (commands.Packet x (packets.Subscribe s)) Mark.Accepted past c = omega arith
fresh-by (commands.Packet x (packets.Subscribe s)) Mark.Full past c = omega arith
fresh-by (commands.Packet x (packets.Subscribe s)) (Mark.Leaves d) past c = omega arith
fresh-by (commands.Packet x (packets.Subscribe s)) (Mark.Refused d) past c = omega arith
fresh-by (commands.Packet x (packets.Subscribe s)) (Mark.Repeat d) past c = omega arith
fresh-by (commands.Packet x (packets.Subscribe s)) (Mark.Taken d) past c = omega arith
fresh-by (commands.Packet x (packets.Subscribe s)) (Mark.Granted d which) past c = subscribe-by (same_client d c) (retained_publications past) (granted_of s.filters which)
fresh-by (commands.Packet x (packets.Subscribe s)) (Mark.Handled d) past c = omega arith
fresh-by (commands.Packet x (packets.Suback q)) m past c = omega arith
fresh-by (commands.Packet x (packets.Unsubscribe u)) m past c = omega arith
fresh-by (commands.Packet x (packets.Unsuback i)) m past c = omega arith
fresh-by (commands.Packet x packets.Pingreq) m past c = omega arith
fresh-by (commands.Packet x packets.Pingresp) m past c = omega arith
fresh-by (commands.Packet x packets.Disconnect) m past c = omega arith
fresh-by (commands.Connect x d clean) m past c = omega arith
fresh-by (commands.Lost x) m past c = omega arith
fresh-by (commands.Start ballot) m past c = omega arith
fresh-by (commands.Expel d) m past c = omega arith

-- ---- entries come from places below

abbrev pub MadeBelow : ℕ → List Entry → Type 0
MadeBelow n [] = Unit {0}
MadeBelow n (e ∷ es) = (made_of e < n) × MadeBelow n es

pub none-yet : (n : ℕ) (es : List Entry) → MadeBelow n es → times n es ≡ 0
none-yet n [] h = refl
none-yet n (e ∷ es) h =
    let g = other-place (made_of e == n) (not (publication_in e).retain) (let l = h.0 in grind (arith, l)) in
    let i = none-yet n es h.1 in omega (arith, g, i)

same-place : (m : ℕ) (f : Entry → Entry) → Answering m f → (e : Entry) → made_of (f e) ≡ made_of e
same-place m f a (Entry.Queued made p) = ap made_of (a (Entry.Queued made p))
same-place m f a (Entry.Sent made p id start) = by (a (Entry.Sent made p id start))
  where
    by : Answered m (Entry.Sent made p id start) (f (Entry.Sent made p id start)) → made_of (f (Entry.Sent made p id start)) ≡ made
    by (inl e) = ap made_of e
    by (inr (inl e)) = ap made_of e
    by (inr (inr e)) = ap made_of e
same-place m f a (Entry.Released made p id start release) = by (a (Entry.Released made p id start release))
  where
    by : Answered m (Entry.Released made p id start release) (f (Entry.Released made p id start release)) → made_of (f (Entry.Released made p id start release)) ≡ made
    by (inl e) = ap made_of e
    by (inr e) = ap made_of e
same-place m f a (Entry.Done made p id start release finish) = ap made_of (a (Entry.Done made p id start release finish))

below-answered : (n m : ℕ) (f : Entry → Entry) → Answering m f → (es : List Entry) → MadeBelow n es → MadeBelow n (map f es)
below-answered n m f a [] h = tt
below-answered n m f a (e ∷ es) h = (rw (same-place m f a e) h.0, below-answered n m f a es h.1)

below-new : (n : ℕ) (ps : List Publication) → MadeBelow (suc n) (map (Entry.Queued n) ps)
below-new n [] = tt
below-new n (p ∷ ps) = (omega arith, below-new n ps)

below-more : (n : ℕ) (es more : List Entry) → MadeBelow n es → MadeBelow (suc n) more → MadeBelow (suc n) (es ++ more)
below-more n [] more h m = m
below-more n (e ∷ es) more h m = ((let l = h.0 in omega (arith, l)), below-more n es more h.1 m)

below-by : (n w m : ℕ) (busy : List ℕ) (made : ℕ) (p : Publication) (es : List Entry) → (made < n) × MadeBelow n es → MadeBelow n (start_all w m (least_free busy ∷ busy) es)
    → (b : Bool) → MadeBelow n (if b then Entry.Sent made p (least_free busy) m ∷ start_all w m (least_free busy ∷ busy) es else Entry.Queued made p ∷ es)
below-by n w m busy made p es h ih true = (h.0, ih)
below-by n w m busy made p es h ih false = h

below-start : (n w m : ℕ) (busy : List ℕ) (es : List Entry) → MadeBelow n es → MadeBelow n (start_all w m busy es)
below-start n w m busy [] h = tt
below-start n w m busy (Entry.Queued made p ∷ es) h = below-by n w m busy made p es h (below-start n w m (least_free busy ∷ busy) es h.1) (nat_lt (length busy) w)
below-start n w m busy (Entry.Sent made p id start ∷ es) h = (h.0, below-start n w m (id ∷ busy) es h.1)
below-start n w m busy (Entry.Released made p id start release ∷ es) h = (h.0, below-start n w m (id ∷ busy) es h.1)
below-start n w m busy (Entry.Done made p id start release finish ∷ es) h = (h.0, below-start n w m busy es h.1)

below-started : (n w m : ℕ) (current : Option ConnectionName) (es : List Entry) → MadeBelow n es → MadeBelow n (started w m current es)
below-started n w m None es h = h
below-started n w m (Some x) es h = below-start n w m [] es h

below-kept : (n : ℕ) (session : Option Bool) (beginning : Bool) (es : List Entry) → MadeBelow n es → MadeBelow n (in_session session beginning [] es)
below-kept n (Some clean) false es h = h
below-kept n (Some clean) true es h = tt
below-kept n None beginning es h = tt

pub made-below : (limits : Limits) (past : Past) (c : Client) → MadeBelow (length past) (entries_of limits past c)
unfolding entries_of
made-below limits [] c = tt
made-below limits (place ∷ past) c =
    let by = answers-by place.command place.mark (length past) c in
    below-kept (suc (length past)) (clean_session_of (place ∷ past) c) (begins place past c) _
    (rw (by.done_is (entries_of limits past c))
    (below-started (suc (length past)) (window_at limits (place ∷ past)) (length past) (current_connection (place ∷ past) c)
    (map by.on_each (entries_of limits past c) ++ map (Entry.Queued (length past)) (queued (copies_at place past c)))
    (below-more (length past) (map by.on_each (entries_of limits past c)) (map (Entry.Queued (length past)) (queued (copies_at place past c)))
    (below-answered (length past) (length past) by.on_each by.answering (entries_of limits past c) (made-below limits past c))
    (below-new (length past) (queued (copies_at place past c))))))

-- ---- at most once

once-by : (n m : ℕ) (es : List Entry) (ps : List Publication) → MadeBelow m es → times n es ≤ 1 → fresh ps ≤ 1 → (b : Bool) → (m == n) ≡ b
    → times n es + times n (map (Entry.Queued m) ps) ≤ 1
once-by n m es ps below before made true e =
    let s : m ≡ n = grind (arith, e) in let z = none-yet m es below in let t = ap (λ k. times k es) s in
    let h = times-new n m ps in omega (arith, z, t, h, made)
once-by n m es ps below before made false e = let z = times-elsewhere n m ps e in omega (arith, z, before)

times-kept : (n : ℕ) (session : Option Bool) (beginning : Bool) (es : List Entry) → times n es ≤ 1 → times n (in_session session beginning [] es) ≤ 1
times-kept n (Some clean) false es h = h
times-kept n (Some clean) true es h = omega arith
times-kept n None beginning es h = omega arith

once : (limits : Limits) (past : Past) (c : Client) (n : ℕ) → times n (entries_of limits past c) ≤ 1
unfolding entries_of
once limits [] c n = omega arith
once limits (place ∷ past) c n =
    let by = answers-by place.command place.mark (length past) c in
    times-kept n (clean_session_of (place ∷ past) c) (begins place past c) _
    (rw (
      by.done_is (entries_of limits past c),
      times-started n (window_at limits (place ∷ past)) (length past) (current_connection (place ∷ past) c) (map by.on_each (entries_of limits past c) ++ map (Entry.Queued (length past)) (queued (copies_at place past c))),
      times-more n (map by.on_each (entries_of limits past c)) (map (Entry.Queued (length past)) (queued (copies_at place past c))),
      times-answered n (length past) by.on_each by.answering (entries_of limits past c),
    )
    (once-by n (length past) (entries_of limits past c) (queued (copies_at place past c)) (made-below limits past c) (once limits past c n)
    (let q = fresh-queued (copies_at place past c) in let f = fresh-by place.command place.mark past c in omega (arith, q, f)) (length past == n) refl))

count-by : (b : Bool) (e : Entry) (es : List Entry) (n : ℕ) → length es ≡ n → length (if b then e ∷ es else es) ≡ one_if b + n
count-by true e es n h = omega (arith, h)
count-by false e es n h = omega (arith, h)

pub count : (n : ℕ) (es : List Entry) → length (filter (is_from_publish n) es) ≡ times n es
count n [] = refl
count n (e ∷ es) = count-by (is_from_publish n e) e (filter (is_from_publish n) es) (times n es) (count n es)

pub enters_once : EntersOnce
enters_once limits past c n = let h = once limits past c n in let k = count n (entries_of limits past c) in omega (arith, h, k)
