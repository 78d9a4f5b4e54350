-- What is in transit when the receiver takes a packet.
use Rattle.std.proofs.Common.{◌≡◌, ℕ, Bool, false, ◌==◌, List, [], ◌∷◌, ◌++◌, map, refl, ap, sym, ◌∙◌, subst, append_assoc}
use Rattle.std.proofs.lemmas.List.{append-nil, map-append}
use Rattle.lists.specs.Lists.{has_id, IsDistinct, Each}
use Rattle.exactly_once.specs.Items.{SenderItem}
use Rattle.exactly_once.specs.Handshake.{Forward, Backward, Handshake, answer}
use Rattle.exactly_once.specs.HandshakeInvariant.{publishes_in_transit, forward_id, backward_id, IsDue, ComesToReceiver, IsJoined}
use Rattle.lists.proofs.Tests.{or_none}
use Rattle.lists.proofs.Identifiers.{has_split, distinct_rotate}
use Rattle.lists.proofs.OfEach.{each_append}
use Rattle.exactly_once.proofs.Taken.{Took}

pub publishes_append : {V : Type 0} (f g : List (Forward V)) → publishes_in_transit (f ++ g) ≡ publishes_in_transit f ++ publishes_in_transit g
publishes_append [] g = refl
publishes_append (Forward.Publish id v ∷ f) g = ap (λ l. (id, v) ∷ l) (publishes_append f g)
publishes_append (Forward.Pubrel id ∷ f) g = publishes_append f g

-- ---- the receiver takes a packet

answered_id : {V : Type 0} (m : Forward V) → backward_id (answer m) ≡ forward_id m
answered_id (Forward.Publish id v) = refl
answered_id (Forward.Pubrel id) = refl

pub dues : {V : Type 0} (received later : ℕ → Bool) (old old' : List (SenderItem V)) (i : ℕ) (b : List Backward)
    → ((m : Backward) → IsDue received old m → (i == backward_id m) ≡ false → IsDue later old' m)
    → has_id i (map backward_id b) ≡ false → Each (IsDue received old) b → Each (IsDue later old') b
dues received later old old' i [] f n d = tt
dues received later old old' i (m ∷ b) f n d =
    let h = or_none (i == backward_id m) (has_id i (map backward_id b)) n in
    (f m d.0 h.0, dues received later old old' i b f h.1 d.1)

pub joined_taken : {V : Type 0} (received : ℕ → Bool) (old new : List (SenderItem V)) (m : Forward V) (f : List (Forward V)) (b : List Backward) (after : Handshake V)
    → IsJoined received old new (m ∷ f) b → (t : Took m received old f [] after) → IsJoined after.received t.old' t.new' f (b ++ answer m ∷ [])
joined_taken {V = X} received old new m f b after j t =
    let away = has_split (forward_id m) (map forward_id f) (map backward_id b) j.apart.0 in
    record {
      comes = subst (λ (l : List (ℕ × X)). ComesToReceiver t.old' f l) (sym (append-nil t.next') ∙ sym t.front) t.comes;
      due = each_append (IsDue after.received t.old') b (answer m ∷ []) (dues received after.received old t.old' (forward_id m) b t.others away.1 j.due) (t.due, tt);
      apart = subst IsDistinct
          (append_assoc (map forward_id f) (map backward_id b) (forward_id m ∷ [])
          ∙ ap (λ l. map forward_id f ++ l) (ap (λ i. map backward_id b ++ i ∷ []) (sym (answered_id m)) ∙ sym (map-append backward_id b (answer m ∷ []))))
          (distinct_rotate (forward_id m) (map forward_id f ++ map backward_id b) j.apart);
    }
