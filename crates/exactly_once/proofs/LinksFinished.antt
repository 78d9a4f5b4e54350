-- What is in transit when a PUBCOMP is received.
use Rattle.std.proofs.Common.{◌≡◌, ℕ, Bool, false, ◌==◌, List, [], ◌∷◌, ◌++◌, map, sym, subst}
use Rattle.std.proofs.lemmas.List.{append-nil}
use Rattle.lists.specs.Lists.{has_id, Each}
use Rattle.exactly_once.specs.Items.{SenderItem, item_released, finishing}
use Rattle.exactly_once.specs.Handshake.{Forward, Backward}
use Rattle.exactly_once.specs.HandshakeInvariant.{forward_id, backward_id, IsMeant, IsDue, IsSent, IsJoined, IsBehind}
use Rattle.lists.proofs.Tests.{or_none, eq_turn}
use Rattle.lists.proofs.Identifiers.{distinct_without, distinct_middle}
use Rattle.lists.proofs.OfEach.{each_then}
use Rattle.exactly_once.proofs.ItemsFinished.{sent_finishing, released_finishing}
use Rattle.exactly_once.proofs.LinksTaken.{dues}
use Rattle.exactly_once.proofs.RowsSent.{row_finishing}
use Rattle.exactly_once.proofs.LinksReleased.{due_releasing}

-- ---- a PUBCOMP

meants_finishing : {V : Type 0} (i : ℕ) (old : List (SenderItem V)) (f : List (Forward V)) → has_id i (map forward_id f) ≡ false → Each (IsMeant old) f → Each (IsMeant (map (finishing i) old)) f
meants_finishing i old [] n h = tt
meants_finishing i old (Forward.Publish id v ∷ f) n h = let g = or_none (i == id) (has_id i (map forward_id f)) n in (tt, meants_finishing i old f g.1 h.1)
meants_finishing i old (Forward.Pubrel id ∷ f) n h =
    let g = or_none (i == id) (has_id i (map forward_id f)) n in (released_finishing i id old (eq_turn i id g.0) h.0, meants_finishing i old f g.1 h.1)

due_finishing : {V : Type 0} (received : ℕ → Bool) (i : ℕ) (old : List (SenderItem V)) (m : Backward) → IsDue received old m → (i == backward_id m) ≡ false → IsDue received (map (finishing i) old) m
due_finishing received i old (Backward.Pubrec id) h n = sent_finishing i id old h
due_finishing received i old (Backward.Pubcomp id) h n = (released_finishing i id old (eq_turn i id n) h.0, h.1)

pub joined_finished : {V : Type 0} (received : ℕ → Bool) (old new : List (SenderItem V)) (id : ℕ) (f : List (Forward V)) (b : List Backward)
    → IsJoined received old new f (Backward.Pubcomp id ∷ b) → IsJoined received (map (finishing id) old) new (f ++ []) b
joined_finished {V = X} received old new id f b j =
    let away = distinct_middle (map forward_id f) id (map backward_id b) j.apart in
    subst (λ (l : List (Forward X)). IsJoined received (map (finishing id) old) new l b) (sym (append-nil f)) (record {
      comes = record {
        again = j.comes.again;
        is = j.comes.is;
        known = each_then (IsSent old) (IsSent (map (finishing id) old)) j.comes.again (λ row. row_finishing id row old) j.comes.known;
        meant = meants_finishing id old f away.0 j.comes.meant;
      };
      due = dues received received old (map (finishing id) old) id b (due_finishing received id old) away.1 j.due.1;
      apart = distinct_without (map forward_id f) id (map backward_id b) j.apart;
    })

pub behind_released : {V : Type 0} (received : ℕ → Bool) (old : List (SenderItem V)) (id : ℕ) (b : List Backward)
    → IsBehind received old (Backward.Pubrec id ∷ b) → IsBehind received (map (item_released id) old) b
behind_released received old id b j =
    record { due = dues received received old (map (item_released id) old) id b (due_releasing received id old) j.apart.0 j.due.1; apart = j.apart.1 }

pub behind_finished : {V : Type 0} (received : ℕ → Bool) (old : List (SenderItem V)) (id : ℕ) (b : List Backward)
    → IsBehind received old (Backward.Pubcomp id ∷ b) → IsBehind received (map (finishing id) old) b
behind_finished received old id b j =
    record { due = dues received received old (map (finishing id) old) id b (due_finishing received id old) j.apart.0 j.due.1; apart = j.apart.1 }
