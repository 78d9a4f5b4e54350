-- What is in transit when an item starts, waits, or a side leaves.
use Rattle.std.proofs.Common.{◌≡◌, ℕ, Bool, true, false, ◌==◌, List, [], ◌∷◌, ◌++◌, map, refl, ap, sym, ◌∙◌, subst, append_assoc}
use Rattle.std.proofs.lemmas.List.{append-nil, map-append}
use Rattle.lists.specs.Lists.{has_id, IsDistinct, Each}
use Rattle.exactly_once.specs.Items.{SenderItem, busy, sent, start_first}
use Rattle.exactly_once.specs.Handshake.{Forward, Backward, Transit, sender_sends}
use Rattle.exactly_once.specs.HandshakeInvariant.{publishes_in_transit, forward_id, backward_id, IsMeant, IsDue, IsSent, ComesToReceiver, IsJoined, IsBehind, IsAhead, FitsTransit}
use Rattle.lists.proofs.Tests.{or_none, none_or}
use Rattle.lists.proofs.Identifiers.{other_id, distinct_after, distinct_insert}
use Rattle.lists.proofs.OfEach.{each_append, each_then}
use Rattle.exactly_once.proofs.RowsSent.{row_sent}
use Rattle.exactly_once.proofs.BusyIdentifiers.{sent_busy, released_busy}
use Rattle.exactly_once.proofs.ItemsStarted.{Started}
use Rattle.exactly_once.proofs.LinksTaken.{publishes_append}

-- ---- one starts

-- what is in transit has identifiers that are busy
not_busy : {V : Type 0} (i j : ℕ) (old : List (SenderItem V)) → has_id i (busy old) ≡ false → has_id j (busy old) ≡ true → (i == j) ≡ false
not_busy i j old n h = other_id i j (busy old) n h

rows_away : {V : Type 0} (i : ℕ) (new : List (SenderItem V)) → has_id i (busy new) ≡ false → Each (λ (row : ℕ × V). (i == row.0) ≡ false) (sent new)
rows_away i [] n = tt
rows_away i (SenderItem.Queued v ∷ new) n = rows_away i new n
rows_away i (SenderItem.Sent v id ∷ new) n = let h = or_none (i == id) (has_id i (busy new)) n in (h.0, rows_away i new h.1)
rows_away i (SenderItem.Released v id ∷ new) n = let h = or_none (i == id) (has_id i (busy new)) n in rows_away i new h.1
rows_away i (SenderItem.Done v ∷ new) n = rows_away i new n

forward_away : {V : Type 0} (i : ℕ) (old : List (SenderItem V)) (f : List (Forward V)) → has_id i (busy old) ≡ false → Each (IsMeant old) f
    → Each (λ (row : ℕ × V). (i == row.0) ≡ false) (publishes_in_transit f) → has_id i (map forward_id f) ≡ false
forward_away i old [] n m r = refl
forward_away i old (Forward.Publish id v ∷ f) n m r = none_or (i == id) (has_id i (map forward_id f)) r.0 (forward_away i old f n m.1 r.1)
forward_away i old (Forward.Pubrel id ∷ f) n m r =
    none_or (i == id) (has_id i (map forward_id f)) (not_busy i id old n (released_busy id old m.0)) (forward_away i old f n m.1 r)

backward_away : {V : Type 0} (received : ℕ → Bool) (i : ℕ) (old : List (SenderItem V)) (b : List Backward) → has_id i (busy old) ≡ false → Each (IsDue received old) b → has_id i (map backward_id b) ≡ false
backward_away received i old [] n d = refl
backward_away received i old (Backward.Pubrec id ∷ b) n d =
    none_or (i == id) (has_id i (map backward_id b)) (not_busy i id old n (sent_busy id old d.0)) (backward_away received i old b n d.1)
backward_away received i old (Backward.Pubcomp id ∷ b) n d =
    none_or (i == id) (has_id i (map backward_id b)) (not_busy i id old n (released_busy id old d.0.0)) (backward_away received i old b n d.1)

pub linked_start : {V : Type 0} (received : ℕ → Bool) (old new : List (SenderItem V)) (id : ℕ) (v : V) (l : Transit V) → has_id id (busy old) ≡ false → has_id id (busy new) ≡ false
    → Started received id v new → FitsTransit received old new l → FitsTransit received old (start_first id new) (sender_sends (Forward.Publish id v) l)
linked_start {V = X} received old new id v (Transit.Joined f b) n n' s j =
    let known = each_then (IsSent old) (λ (row : ℕ × X). (id == row.0) ≡ false) j.comes.again
    (λ row h. not_busy id row.0 old n (sent_busy row.0 old (row_sent row old h))) j.comes.known in
    let rows = subst (Each (λ (row : ℕ × X). (id == row.0) ≡ false)) (sym j.comes.is)
    (each_append (λ (row : ℕ × X). (id == row.0) ≡ false) j.comes.again (sent new) known (rows_away id new n')) in
    let away = forward_away id old f n j.comes.meant rows in
    record {
      comes = record {
        again = j.comes.again;
        is = publishes_append f (Forward.Publish id v ∷ []) ∙ ap (λ z. z ++ (id, v) ∷ []) j.comes.is ∙ append_assoc j.comes.again (sent new) ((id, v) ∷ []) ∙ ap (λ z. j.comes.again ++ z) (sym s.sent_is);
        known = j.comes.known;
        meant = each_append (IsMeant old) f (Forward.Publish id v ∷ []) j.comes.meant (tt, tt);
      };
      due = j.due;
      apart = subst IsDistinct (sym (ap (λ z. z ++ map backward_id b) (map-append forward_id f (Forward.Publish id v ∷ [])) ∙ append_assoc (map forward_id f) (id ∷ []) (map backward_id b)))
          (distinct_insert (map forward_id f) id (map backward_id b) j.apart away (backward_away received id old b n j.due));
    }
linked_start received old new id v (Transit.Behind b) n n' s j = j
linked_start received old new id v (Transit.Ahead f) n n' s j =
    record {
      next = j.next;
      more = j.more ++ (id, v) ∷ [];
      comes = j.comes;
      prefix = s.sent_is ∙ ap (λ z. z ++ (id, v) ∷ []) j.prefix ∙ append_assoc j.next j.more ((id, v) ∷ []);
    }

-- ---- one more waits

pub linked_add : {V : Type 0} (received : ℕ → Bool) (old new new' : List (SenderItem V)) (l : Transit V) → sent new' ≡ sent new → FitsTransit received old new l → FitsTransit received old new' l
linked_add {V = X} received old new new' (Transit.Joined f b) e j =
    record { comes = subst (λ (z : List (ℕ × X)). ComesToReceiver old f z) (sym e) j.comes; due = j.due; apart = j.apart }
linked_add received old new new' (Transit.Behind b) e j = j
linked_add received old new new' (Transit.Ahead f) e j = record { next = j.next; more = j.more; comes = j.comes; prefix = e ∙ j.prefix }

-- ---- leaving

pub joined_ahead : {V : Type 0} (received : ℕ → Bool) (old new : List (SenderItem V)) (f : List (Forward V)) (b : List Backward) → IsJoined received old new f b → IsAhead old new f
joined_ahead received old new f b j = record { next = sent new; more = []; comes = j.comes; prefix = sym (append-nil (sent new)) }

pub joined_behind : {V : Type 0} (received : ℕ → Bool) (old new : List (SenderItem V)) (f : List (Forward V)) (b : List Backward) → IsJoined received old new f b → IsBehind received old b
joined_behind received old new f b j = record { due = j.due; apart = distinct_after (map forward_id f) (map backward_id b) j.apart }
