-- Copies that find room one after another.
use native.Mathlib.Omega.{arith}
use Rattle.std.proofs.Common.{◌≡◌, ◌≤◌, ◌+◌, ◌-◌, ◌==◌, ◌&&◌, if◌then◌else◌, ℕ, zero, suc, Bool, true, false, List, [], ◌∷◌, ◌++◌, length, refl, ap, sym, ◌∙◌, append_assoc}
use Rattle.session_base.specs.declared.limits.TheConstants.{MAX_ENTRIES}
use Rattle.packet.specs.declared.packet.Packet.{Packet}
use Rattle.session_base.specs.declared.publication.Publication.{Publication}
use Rattle.session_base.specs.Publication.{is_answered}
use Rattle.session_base.specs.Queue.{Queue, room}
use Rattle.session_base.specs.Copies.{copies_left}
use Rattle.session_base.specs.EntryPackets.{copies_sent}
use Rattle.broker_spec.specs.Entries.{queued}
use Rattle.broker_base.proofs.of_rows.publications.CopiesInParts.{copies_join, copies_take_room}

-- if a copy would be queued and the queue is not full, there is room
pub room_where_not_full : (would : Bool) (places : ℕ) → (would && (places == 0)) ≡ false → would ≡ true → 1 ≤ places
room_where_not_full true zero e h = absurd (cc)
room_where_not_full true (suc places) e h = omega arith
room_where_not_full false places e h = absurd (cc)

-- how many are queued of a copy and others
queued_first : (copy : Publication) (others : List Publication) → length (queued (copy ∷ others)) ≡ length (queued (copy ∷ [])) + length (queued others)
queued_first copy others = by (is_answered copy.qos)
  where
    by : (b : Bool) → length (if b then copy ∷ queued others else queued others) ≡ length (if b then copy ∷ [] else []) + length (queued others)
    by true = omega arith
    by false = omega arith

-- the first of them finds room
pub first_finds_room : (copy : Publication) (others : List Publication) (queue : Queue) → length (queued (copy ∷ others)) ≤ room MAX_ENTRIES queue →
    is_answered copy.qos ≡ true → 1 ≤ room MAX_ENTRIES queue
first_finds_room copy others queue enough answered =
    let many : length (queued (copy ∷ others)) ≡ suc (length (queued others)) = rw answered refl in
    omega (arith, enough, many)

-- and leaves room for the others
pub others_find_room : (w : ℕ) (copy : Publication) (others : List Publication) (queue : Queue) → length (queued (copy ∷ others)) ≤ room MAX_ENTRIES queue →
    length (queued others) ≤ room MAX_ENTRIES (copies_left w (copy ∷ []) queue)
others_find_room w copy others queue enough =
    let left : room MAX_ENTRIES (copies_left w (copy ∷ []) queue) ≡ room MAX_ENTRIES queue - length (queued (copy ∷ [])) = copies_take_room w MAX_ENTRIES (copy ∷ []) queue in
    let many = queued_first copy others in
    omega (arith, enough, left, many)

-- what is sent of the first comes before what is sent of the others
pub sent_first : (w : ℕ) (copy : Publication) (others all : List Publication) (queue after : Queue) (sent more : List Packet) →
    all ≡ copy ∷ others → after ≡ copies_left w (copy ∷ []) queue → more ≡ sent ++ copies_sent w (copy ∷ []) queue →
    more ++ copies_sent w others after ≡ sent ++ copies_sent w all queue
sent_first w copy others all queue after sent more cut left is =
    ap (λ (s : List Packet). s ++ copies_sent w others after) is
    ∙ ap (λ (q : Queue). (sent ++ copies_sent w (copy ∷ []) queue) ++ copies_sent w others q) left
    ∙ append_assoc sent (copies_sent w (copy ∷ []) queue) (copies_sent w others (copies_left w (copy ∷ []) queue))
    ∙ ap (λ (s : List Packet). sent ++ s) (sym (copies_join w (copy ∷ []) others queue).1)
    ∙ ap (λ (copies : List Publication). sent ++ copies_sent w copies queue) (sym cut)
