-- Copies that come in parts: what they leave, what they send, and how much room they take.
use Rattle.std.proofs.Common.{◌≡◌, ℕ, ◌+◌, ◌-◌, suc, Bool, true, false, nat_lt, if◌then◌else◌, List, [], ◌∷◌, ◌++◌, length, refl, ap, ◌∙◌, sym, arith}
use Rattle.std.proofs.lemmas.List.{append_assoc, length-append}
use Rattle.std.proofs.lemmas.List.Elements.{filter-append}
use Rattle.std.proofs.lemmas.Bool.Decides.{nat_tests}
use Rattle.packet.specs.declared.packet.Packet.{Packet}
use Rattle.packet.specs.declared.packet.Packet.TheVariants as packets
use Rattle.session_base.specs.declared.publication.Publication.{Publication}
use Rattle.session_base.specs.Publication.{is_answered, publish_for}
use Rattle.session_base.specs.Queue.{Flight, Queue, started_flight, enqueue, fill, filled, room}
use Rattle.session_base.specs.Copies.{copies_left}
use Rattle.session_base.specs.EntryPackets.{fill_sends, copies_sent}
use Rattle.broker_spec.specs.Entries.{queued}
use Rattle.broker_base.specs.rows.CopyTheorems.{CopiesJoin, CopiesTakeRoom, CopiesFindRoom}

-- ---- two parts

-- what they leave
left_joins : (w : ℕ) (copies more : List Publication) (queue : Queue) → copies_left w (copies ++ more) queue ≡ copies_left w more (copies_left w copies queue)
left_joins w [] more queue = refl
left_joins w (p ∷ copies) more queue = by (is_answered p.qos) (left_joins w copies more (filled w (enqueue p queue))) (left_joins w copies more queue)
  where
    by : (b : Bool) → copies_left w (copies ++ more) (filled w (enqueue p queue)) ≡ copies_left w more (copies_left w copies (filled w (enqueue p queue))) →
        copies_left w (copies ++ more) queue ≡ copies_left w more (copies_left w copies queue) →
        (if b then copies_left w (copies ++ more) (filled w (enqueue p queue)) else copies_left w (copies ++ more) queue)
        ≡ copies_left w more (if b then copies_left w copies (filled w (enqueue p queue)) else copies_left w copies queue)
    by true answered other = answered
    by false answered other = other

-- what they send
sent_joins : (w : ℕ) (copies more : List Publication) (queue : Queue) →
    copies_sent w (copies ++ more) queue ≡ copies_sent w copies queue ++ copies_sent w more (copies_left w copies queue)
sent_joins w [] more queue = refl
sent_joins w (p ∷ copies) more queue = by (is_answered p.qos) (sent_joins w copies more (filled w (enqueue p queue))) (sent_joins w copies more queue)
  where
    starts : List Packet
    starts = fill_sends w queue.in_flight (enqueue p queue).waiting

    at_once : Packet
    at_once = packets.Publish (publish_for false 0 p)

    by : (b : Bool) →
        copies_sent w (copies ++ more) (filled w (enqueue p queue))
        ≡ copies_sent w copies (filled w (enqueue p queue)) ++ copies_sent w more (copies_left w copies (filled w (enqueue p queue))) →
        copies_sent w (copies ++ more) queue ≡ copies_sent w copies queue ++ copies_sent w more (copies_left w copies queue) →
        (if b then starts ++ copies_sent w (copies ++ more) (filled w (enqueue p queue)) else at_once ∷ copies_sent w (copies ++ more) queue)
        ≡ (if b then starts ++ copies_sent w copies (filled w (enqueue p queue)) else at_once ∷ copies_sent w copies queue)
        ++ copies_sent w more (if b then copies_left w copies (filled w (enqueue p queue)) else copies_left w copies queue)
    by true answered other =
        ap (λ rest. starts ++ rest) answered
        ∙ sym (append_assoc starts (copies_sent w copies (filled w (enqueue p queue))) (copies_sent w more (copies_left w copies (filled w (enqueue p queue)))))
    by false answered other = ap (λ rest. at_once ∷ rest) other

-- both
pub copies_join : CopiesJoin
copies_join w copies more queue = (left_joins w copies more queue, sent_joins w copies more queue)

-- ---- room

-- a fill keeps how many entries a queue holds
fill_holds : (w : ℕ) (fs : List Flight) (ps : List Publication) → length (fill w fs ps).in_flight + length (fill w fs ps).waiting ≡ length fs + length ps
fill_holds w fs [] = refl
fill_holds w fs (p ∷ ps) = by (nat_lt (length fs) w) (fill_holds w (fs ++ started_flight fs p ∷ []) ps)
  where
    by : (b : Bool) →
        length (fill w (fs ++ started_flight fs p ∷ []) ps).in_flight + length (fill w (fs ++ started_flight fs p ∷ []) ps).waiting
        ≡ length (fs ++ started_flight fs p ∷ []) + length ps →
        length (if b then fill w (fs ++ started_flight fs p ∷ []) ps else record { in_flight = fs; waiting = p ∷ ps }).in_flight
        + length (if b then fill w (fs ++ started_flight fs p ∷ []) ps else record { in_flight = fs; waiting = p ∷ ps }).waiting
        ≡ length fs + suc (length ps)
    by true more = let one : length (fs ++ started_flight fs p ∷ []) ≡ length fs + 1 = length-append fs (started_flight fs p ∷ []) in omega (arith, more, one)
    by false more = refl

-- how many a queue holds
abbrev held : Queue → ℕ
held queue = length queue.in_flight + length queue.waiting

-- one copy that is enqueued is one more
one_more : (w : ℕ) (p : Publication) (queue : Queue) → held (filled w (enqueue p queue)) ≡ suc (held queue)
one_more w p queue =
    let more : length (queue.waiting ++ p ∷ []) ≡ length queue.waiting + 1 = length-append queue.waiting (p ∷ []) in
    let same : held (filled w (enqueue p queue)) ≡ length queue.in_flight + length (queue.waiting ++ p ∷ []) = fill_holds w queue.in_flight (queue.waiting ++ p ∷ []) in
    omega (arith, more, same)

-- of all copies
copies_hold : (w : ℕ) (copies : List Publication) (queue : Queue) → held (copies_left w copies queue) ≡ held queue + length (queued copies)
copies_hold w [] queue = omega arith
copies_hold w (p ∷ copies) queue = by (is_answered p.qos) (copies_hold w copies (filled w (enqueue p queue))) (copies_hold w copies queue)
  where
    by : (b : Bool) → held (copies_left w copies (filled w (enqueue p queue))) ≡ held (filled w (enqueue p queue)) + length (queued copies) →
        held (copies_left w copies queue) ≡ held queue + length (queued copies) →
        held (if b then copies_left w copies (filled w (enqueue p queue)) else copies_left w copies queue)
        ≡ held queue + length (if b then p ∷ queued copies else queued copies)
    by true answered other = let one : held (filled w (enqueue p queue)) ≡ suc (held queue) = one_more w p queue in omega (arith, answered, one)
    by false answered other = other

-- each takes one place
pub copies_take_room : CopiesTakeRoom
copies_take_room w limit copies queue = ap (λ n. limit - n) (copies_hold w copies queue) ∙ apart limit (held queue) (length (queued copies))
  where
    apart : (limit n k : ℕ) → limit - (n + k) ≡ limit - n - k
    apart limit n k = omega arith

-- how many are queued of these
queued_among : (before : List Publication) (p : Publication) (after : List Publication) → is_answered p.qos ≡ true →
    length (queued (before ++ p ∷ after)) ≡ length (queued before) + suc (length (queued after))
queued_among before p after answered =
    ap length (filter-append (λ (q : Publication). is_answered q.qos) before (p ∷ after))
    ∙ length-append (queued before) (queued (p ∷ after))
    ∙ ap (λ b. length (queued before) + length (if b then p ∷ queued after else queued after)) answered

-- so each finds some
pub copies_find_room : CopiesFindRoom
copies_find_room w limit before p after queue enough answered =
    let many = queued_among before p after answered in
    let left = copies_take_room w limit before queue in
    by (room limit queue) (length (queued (before ++ p ∷ after))) (length (queued before)) (length (queued after)) (room limit (copies_left w before queue)) enough many left
  where
    by : (r n k m l : ℕ) → nat_lt r n ≡ false → n ≡ k + suc m → l ≡ r - k → nat_lt 0 l ≡ true
    by r n k m l enough many left = grind (arith, nat_tests)
