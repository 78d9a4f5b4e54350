-- What is in transit when a PUBREC is received.
use Rattle.std.proofs.Common.{◌≡◌, ℕ, Bool, false, ◌==◌, List, [], ◌∷◌, ◌++◌, map, ap, sym, ◌∙◌, subst, append_assoc}
use Rattle.std.proofs.lemmas.List.{append-nil, map-append}
use Rattle.lists.specs.Lists.{has_id, IsDistinct, Each}
use Rattle.exactly_once.specs.Items.{SenderItem, sent, item_released}
use Rattle.exactly_once.specs.Handshake.{Forward, Backward}
use Rattle.exactly_once.specs.HandshakeInvariant.{publishes_in_transit, forward_id, backward_id, IsMeant, IsDue, IsSent, IsJoined}
use Rattle.lists.proofs.Tests.{or_none, eq_turn}
use Rattle.lists.proofs.Identifiers.{distinct_middle}
use Rattle.lists.proofs.OfEach.{each_append, each_left, each_then}
use Rattle.exactly_once.proofs.ItemsReleased.{sent_releasing, released_releasing, now_released}
use Rattle.exactly_once.proofs.LinksTaken.{publishes_append, dues}
use Rattle.exactly_once.proofs.RowsSent.{row_releasing}

-- ---- a PUBREC

not_among : {V : Type 0} (i : ℕ) (f : List (Forward V)) → has_id i (map forward_id f) ≡ false → Each (λ (row : ℕ × V). (i == row.0) ≡ false) (publishes_in_transit f)
not_among i [] n = tt
not_among i (Forward.Publish id v ∷ f) n = let h = or_none (i == id) (has_id i (map forward_id f)) n in (h.0, not_among i f h.1)
not_among i (Forward.Pubrel id ∷ f) n = let h = or_none (i == id) (has_id i (map forward_id f)) n in not_among i f h.1

knowns : {V : Type 0} (i : ℕ) (old : List (SenderItem V)) (rows : List (ℕ × V)) → Each (λ (row : ℕ × V). (i == row.0) ≡ false) rows → Each (IsSent old) rows
    → Each (IsSent (map (item_released i) old)) rows
knowns i old [] n h = tt
knowns i old (row ∷ rows) n h = (row_releasing i row old n.0 h.0, knowns i old rows n.1 h.1)

meant_releasing : {V : Type 0} (i : ℕ) (old : List (SenderItem V)) (m : Forward V) → IsMeant old m → IsMeant (map (item_released i) old) m
meant_releasing i old (Forward.Publish id v) h = tt
meant_releasing i old (Forward.Pubrel id) h = released_releasing i id old h

pub due_releasing : {V : Type 0} (received : ℕ → Bool) (i : ℕ) (old : List (SenderItem V)) (m : Backward) → IsDue received old m → (i == backward_id m) ≡ false → IsDue received (map (item_released i) old) m
due_releasing received i old (Backward.Pubrec id) h n = sent_releasing i id old (eq_turn i id n) h
due_releasing received i old (Backward.Pubcomp id) h n = (released_releasing i id old h.0, h.1)

pub joined_released : {V : Type 0} (received : ℕ → Bool) (old new : List (SenderItem V)) (id : ℕ) (f : List (Forward V)) (b : List Backward)
    → IsJoined received old new f (Backward.Pubrec id ∷ b) → IsJoined received (map (item_released id) old) new (f ++ Forward.Pubrel id ∷ []) b
joined_released {V = X} received old new id f b j =
    let away = distinct_middle (map forward_id f) id (map backward_id b) j.apart in
    let rows = each_left (λ (row : ℕ × X). (id == row.0) ≡ false) j.comes.again (sent new)
    (subst (Each (λ (row : ℕ × X). (id == row.0) ≡ false)) j.comes.is (not_among id f away.0)) in
    record {
      comes = record {
        again = j.comes.again;
        is = publishes_append f (Forward.Pubrel id ∷ []) ∙ append-nil (publishes_in_transit f) ∙ j.comes.is;
        known = knowns id old j.comes.again rows j.comes.known;
        meant = each_append (IsMeant (map (item_released id) old)) f (Forward.Pubrel id ∷ [])
            (each_then (IsMeant old) (IsMeant (map (item_released id) old)) f (meant_releasing id old) j.comes.meant) (now_released id old j.due.0, tt);
      };
      due = dues received received old (map (item_released id) old) id b (due_releasing received id old) away.1 j.due.1;
      apart = subst IsDistinct (sym (ap (λ l. l ++ map backward_id b) (map-append forward_id f (Forward.Pubrel id ∷ [])) ∙ append_assoc (map forward_id f) (id ∷ []) (map backward_id b))) j.apart;
    }
