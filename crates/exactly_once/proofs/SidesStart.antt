-- The two sides when an item is added or starts.
use Rattle.std.proofs.Common.{◌≡◌, ℕ, Bool, true, false, List, [], ◌∷◌, ◌++◌, Some, ap, sym, ◌∙◌, subst, inl, inr, ◌⊎◌, append_assoc}
use Rattle.std.proofs.lemmas.List.{append-nil}
use Rattle.std.proofs.lemmas.Bool.{both_ways, cases_Bool}
use Rattle.lists.specs.Lists.{has_id, IsDistinct}
use Rattle.exactly_once.specs.Items.{SenderItem, busy, sent, start_first, first_waiting}
use Rattle.exactly_once.specs.HandshakeInvariant.{IsNew, IsQueued, QueuedAreLast, AreSides}
use Rattle.lists.proofs.Identifiers.{has_join, has_split, distinct_push}
use Rattle.lists.proofs.OfEach.{each_append}
use Rattle.exactly_once.proofs.BusyIdentifiers.{busy_append, sent_append}
use Rattle.exactly_once.proofs.ItemsStarted.{start_after, waiting_after, Started, starts_new}

-- ---- a publication comes

waits_more : {V : Type 0} (items : List (SenderItem V)) (v : V) → QueuedAreLast items → QueuedAreLast (items ++ SenderItem.Queued v ∷ [])
waits_more [] v w = tt
waits_more (SenderItem.Queued u ∷ items) v w = each_append IsQueued items (SenderItem.Queued v ∷ []) w (tt, tt)
waits_more (SenderItem.Sent u id ∷ items) v w = waits_more items v w
waits_more (SenderItem.Released u id ∷ items) v w = waits_more items v w
waits_more (SenderItem.Done u ∷ items) v w = waits_more items v w

pub busy_waits : {V : Type 0} (items : List (SenderItem V)) (v : V) → busy (items ++ SenderItem.Queued v ∷ []) ≡ busy items
busy_waits items v = busy_append items (SenderItem.Queued v ∷ []) ∙ append-nil (busy items)

pub sent_waits : {V : Type 0} (items : List (SenderItem V)) (v : V) → sent (items ++ SenderItem.Queued v ∷ []) ≡ sent items
sent_waits items v = sent_append items (SenderItem.Queued v ∷ []) ∙ append-nil (sent items)

pub sides_add : {V : Type 0} (items : List (SenderItem V)) (accepted : List V) (received : ℕ → Bool) (old new : List (SenderItem V)) (v : V)
    → AreSides items accepted received old new → AreSides (items ++ SenderItem.Queued v ∷ []) accepted received old (new ++ SenderItem.Queued v ∷ [])
sides_add items accepted received old new v s =
    record {
      is = ap (λ l. l ++ SenderItem.Queued v ∷ []) s.is ∙ append_assoc old new (SenderItem.Queued v ∷ []);
      accepted_is = s.accepted_is;
      olds = s.olds;
      news = each_append (IsNew received) new (SenderItem.Queued v ∷ []) s.news (tt, tt);
      waits_last = waits_more new v s.waits_last;
      apart = subst IsDistinct (sym (ap busy (sym (append_assoc old new (SenderItem.Queued v ∷ []))) ∙ busy_waits (old ++ new) v)) s.apart;
      known = s.known;
    }

-- ---- one starts

free_is_new : (received : ℕ → Bool) (ids : List ℕ) (id : ℕ) → ((i : ℕ) → received i ≡ true → has_id i ids ≡ true) → has_id id ids ≡ false → received id ≡ false
free_is_new received ids id known e = by (cases_Bool (received id))
  where
    by : (received id ≡ true) ⊎ (received id ≡ false) → received id ≡ false
    by (inr h) = h
    by (inl h) = absurd (both_ways (has_id id ids) e (known id h))

pub free_of : {V : Type 0} (items : List (SenderItem V)) (old new : List (SenderItem V)) (id : ℕ) → items ≡ old ++ new → has_id id (busy items) ≡ false
    → (has_id id (busy old) ≡ false) × (has_id id (busy new) ≡ false)
free_of items old new id is e =
    has_split id (busy old) (busy new) (subst (λ (l : List ℕ). has_id id l ≡ false) (ap busy is ∙ busy_append old new) e)

pub sides_start : {V : Type 0} (items : List (SenderItem V)) (accepted : List V) (received : ℕ → Bool) (old new : List (SenderItem V)) (id : ℕ) (v : V)
    → AreSides items accepted received old new → has_id id (busy items) ≡ false → first_waiting items ≡ Some v
    → Started received id v new × AreSides (start_first id items) accepted received old (start_first id new)
sides_start items accepted received old new id v s e w =
    let free = free_of items old new id s.is e in
    let first : first_waiting new ≡ Some v = sym (waiting_after received old new s.olds) ∙ sym (ap first_waiting s.is) ∙ w in
    let started = starts_new received id v new (free_is_new received (busy old) id s.known free.0) s.news s.waits_last first in (
      started,
      record {
        is = ap (start_first id) s.is ∙ start_after received id old new s.olds;
        accepted_is = s.accepted_is;
        olds = s.olds;
        news = started.news;
        waits_last = started.waits_last;
        apart = subst IsDistinct
            (sym (busy_append old (start_first id new) ∙ ap (λ l. busy old ++ l) started.busy_is ∙ sym (append_assoc (busy old) (busy new) (id ∷ []))))
            (distinct_push (busy old ++ busy new) id (subst IsDistinct (busy_append old new) s.apart) (has_join id (busy old) (busy new) free.0 free.1));
        known = s.known;
      },
    )
