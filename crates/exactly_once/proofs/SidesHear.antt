-- The two sides when the sender receives an answer.
use Rattle.std.proofs.Common.{◌≡◌, ℕ, Bool, true, false, ◌==◌, List, ◌++◌, map, ap, sym, ◌∙◌, subst, inl, inr, ◌⊎◌}
use Rattle.std.proofs.lemmas.List.{map-append}
use Rattle.std.proofs.lemmas.Bool.{both_ways, cases_Bool}
use Rattle.lists.specs.Lists.{has_id, IsDistinct}
use Rattle.exactly_once.specs.Items.{SenderItem, busy, has_sent, has_released, item_released, finishing}
use Rattle.exactly_once.specs.HandshakeInvariant.{AreSides}
use Rattle.lists.proofs.Tests.{eq_is}
use Rattle.lists.proofs.Identifiers.{distinct_apart}
use Rattle.exactly_once.proofs.BusyIdentifiers.{busy_append, sent_busy, released_busy}
use Rattle.exactly_once.proofs.ItemsReleased.{busy_releasing, values_releasing, releasing_others, olds_releasing}
use Rattle.exactly_once.proofs.ItemsFinished.{values_finishing, finishing_others, olds_finishing, apart_finishing, busy_finishing}

-- ---- the sender receives an answer

pub sides_release : {V : Type 0} (items : List (SenderItem V)) (accepted : List V) (received : ℕ → Bool) (old new : List (SenderItem V)) (id : ℕ)
    → AreSides items accepted received old new → has_sent id old ≡ true
    → AreSides (map (item_released id) items) accepted received (map (item_released id) old) new
sides_release items accepted received old new id s e =
    let apart = subst IsDistinct (busy_append old new) s.apart in
    let stays = releasing_others id new (distinct_apart id (busy old) (busy new) apart (sent_busy id old e)) in
    record {
      is = ap (map (item_released id)) s.is ∙ map-append (item_released id) old new ∙ ap (λ l. map (item_released id) old ++ l) stays;
      accepted_is = s.accepted_is ∙ sym (values_releasing id old);
      olds = olds_releasing received id old s.olds;
      news = s.news;
      waits_last = s.waits_last;
      apart = subst IsDistinct (sym (busy_append (map (item_released id) old) new ∙ ap (λ l. l ++ busy new) (busy_releasing id old))) apart;
      known = λ j h. ap (has_id j) (busy_releasing id old) ∙ s.known j h;
    }

two_ids : (received : ℕ → Bool) (i j : ℕ) → received i ≡ false → received j ≡ true → (j == i) ≡ false
two_ids received i j e f = by (cases_Bool (j == i))
  where
    by : ((j == i) ≡ true) ⊎ ((j == i) ≡ false) → (j == i) ≡ false
    by (inr h) = h
    by (inl h) = absurd (both_ways (received i) e (subst (λ (k : ℕ). received k ≡ true) (eq_is j i h) f))

pub sides_finish : {V : Type 0} (items : List (SenderItem V)) (accepted : List V) (received : ℕ → Bool) (old new : List (SenderItem V)) (id : ℕ)
    → AreSides items accepted received old new → has_released id old ≡ true → received id ≡ false
    → AreSides (map (finishing id) items) accepted received (map (finishing id) old) new
sides_finish items accepted received old new id s e n =
    let apart = subst IsDistinct (busy_append old new) s.apart in
    let stays = finishing_others id new (distinct_apart id (busy old) (busy new) apart (released_busy id old e)) in
    let joined : map (finishing id) (old ++ new) ≡ map (finishing id) old ++ new = map-append (finishing id) old new ∙ ap (λ l. map (finishing id) old ++ l) stays in
    record {
      is = ap (map (finishing id)) s.is ∙ joined;
      accepted_is = s.accepted_is ∙ sym (values_finishing id old);
      olds = olds_finishing received id old s.olds;
      news = s.news;
      waits_last = s.waits_last;
      apart = subst (λ l. IsDistinct (busy l)) joined (apart_finishing id (old ++ new) s.apart);
      known = λ j h. busy_finishing id j old (two_ids received id j n h) (s.known j h);
    }
