-- What a start does to the items.
use Rattle.std.proofs.Common.{◌≡◌, ℕ, Bool, false, List, [], ◌∷◌, ◌++◌, Some, None, refl, ap, ap₂, sym, ◌∙◌}
use Rattle.lists.specs.Lists.{Each}
use Rattle.exactly_once.specs.Items.{SenderItem, busy, sent, start_first, first_waiting}
use Rattle.exactly_once.specs.HandshakeInvariant.{IsOld, IsNew, IsQueued, QueuedAreLast}

-- ---- a start

pub none_busy : {V : Type 0} (items : List (SenderItem V)) → Each IsQueued items → busy items ≡ []
none_busy [] w = refl
none_busy (SenderItem.Queued v ∷ items) w = none_busy items w.1
none_busy (SenderItem.Sent v id ∷ items) w = elim w.0 [ ]
none_busy (SenderItem.Released v id ∷ items) w = elim w.0 [ ]
none_busy (SenderItem.Done v ∷ items) w = elim w.0 [ ]

pub none_sent : {V : Type 0} (items : List (SenderItem V)) → Each IsQueued items → sent items ≡ []
none_sent [] w = refl
none_sent (SenderItem.Queued v ∷ items) w = none_sent items w.1
none_sent (SenderItem.Sent v id ∷ items) w = elim w.0 [ ]
none_sent (SenderItem.Released v id ∷ items) w = elim w.0 [ ]
none_sent (SenderItem.Done v ∷ items) w = elim w.0 [ ]

-- after items that do not wait
pub start_after : {V : Type 0} (received : ℕ → Bool) (id : ℕ) (old new : List (SenderItem V)) → Each (IsOld received) old → start_first id (old ++ new) ≡ old ++ start_first id new
start_after received id [] new h = refl
start_after received id (SenderItem.Queued v ∷ old) new h = elim h.0 [ ]
start_after received id (SenderItem.Sent v i ∷ old) new h = ap (λ l. SenderItem.Sent v i ∷ l) (start_after received id old new h.1)
start_after received id (SenderItem.Released v i ∷ old) new h = ap (λ l. SenderItem.Released v i ∷ l) (start_after received id old new h.1)
start_after received id (SenderItem.Done v ∷ old) new h = ap (λ l. SenderItem.Done v ∷ l) (start_after received id old new h.1)

pub waiting_after : {V : Type 0} (received : ℕ → Bool) (old new : List (SenderItem V)) → Each (IsOld received) old → first_waiting (old ++ new) ≡ first_waiting new
waiting_after received [] new h = refl
waiting_after received (SenderItem.Queued v ∷ old) new h = elim h.0 [ ]
waiting_after received (SenderItem.Sent v i ∷ old) new h = waiting_after received old new h.1
waiting_after received (SenderItem.Released v i ∷ old) new h = waiting_after received old new h.1
waiting_after received (SenderItem.Done v ∷ old) new h = waiting_after received old new h.1

pub record Started {V : Type 0} (received : ℕ → Bool) (id : ℕ) (v : V) (new : List (SenderItem V)) : Type 0 where
  pub sent_is : sent (start_first id new) ≡ sent new ++ (id, v) ∷ []
  pub busy_is : busy (start_first id new) ≡ busy new ++ id ∷ []
  pub news : Each (IsNew received) (start_first id new)
  pub waits_last : QueuedAreLast (start_first id new)

none_or_some : {V : Type 0} (v : V) → None ≡ Some v → ⊥
none_or_some v e = cc

pub starts_new : {V : Type 0} (received : ℕ → Bool) (id : ℕ) (v : V) (new : List (SenderItem V)) → received id ≡ false → Each (IsNew received) new
    → QueuedAreLast new → first_waiting new ≡ Some v → Started received id v new
starts_new received id v [] r h w e = absurd (none_or_some v e)
starts_new received id v (SenderItem.Queued u ∷ new) r h w e =
    let same : u ≡ v = cc in
    record {
      sent_is = ap₂ (λ x l. (id, x) ∷ l) same (none_sent new w) ∙ sym (ap (λ l. l ++ (id, v) ∷ []) (none_sent new w));
      busy_is = ap (λ l. id ∷ l) (none_busy new w) ∙ sym (ap (λ l. l ++ id ∷ []) (none_busy new w));
      news = (r, h.1);
      waits_last = all_wait new w;
    }
  where
    all_wait : {V : Type 0} (items : List (SenderItem V)) → Each IsQueued items → QueuedAreLast items
    all_wait [] w = tt
    all_wait (SenderItem.Queued v ∷ items) w = w.1
    all_wait (SenderItem.Sent v id ∷ items) w = elim w.0 [ ]
    all_wait (SenderItem.Released v id ∷ items) w = elim w.0 [ ]
    all_wait (SenderItem.Done v ∷ items) w = elim w.0 [ ]
starts_new received id v (SenderItem.Sent u i ∷ new) r h w e =
    let s = starts_new received id v new r h.1 w e in
    record {
      sent_is = ap (λ l. (i, u) ∷ l) s.sent_is;
      busy_is = ap (λ l. i ∷ l) s.busy_is;
      news = (h.0, s.news);
      waits_last = s.waits_last;
    }
starts_new received id v (SenderItem.Released u i ∷ new) r h w e = elim h.0 [ ]
starts_new received id v (SenderItem.Done u ∷ new) r h w e = elim h.0 [ ]
