-- The two sides when the receiver accepts or forgets.
use Rattle.std.proofs.Common.{◌≡◌, ℕ, Bool, true, false, not, ◌&&◌, ◌||◌, ◌==◌, List, [], ◌∷◌, ◌++◌, refl, ap, sym, ◌∙◌, subst, inl, inr, ◌⊎◌, append_assoc}
use Rattle.std.proofs.lemmas.List.{map-append}
use Rattle.std.proofs.lemmas.Bool.{or_cases, both_ways}
use Rattle.lists.specs.Lists.{has_id, IsDistinct}
use Rattle.exactly_once.specs.Items.{SenderItem, value_of, busy, has_released}
use Rattle.exactly_once.specs.HandshakeInvariant.{IsOld, AreSides}
use Rattle.lists.proofs.Tests.{or_right, or_left, eq_same}
use Rattle.lists.proofs.Identifiers.{has_append, distinct_front, distinct_middle}
use Rattle.lists.proofs.OfEach.{each_append}
use Rattle.exactly_once.proofs.BusyIdentifiers.{busy_append}
use Rattle.exactly_once.proofs.ItemsKnown.{with, without, olds_more, news_more, olds_less, news_less, released_not_sent}

-- ---- the receiver takes a publication

known_more : (received : ℕ → Bool) (ids : List ℕ) (id : ℕ) → ((i : ℕ) → received i ≡ true → has_id i ids ≡ true)
    → (j : ℕ) → with id received j ≡ true → has_id j (ids ++ id ∷ []) ≡ true
known_more received ids id known j e = has_append j ids (id ∷ []) ∙ by (or_cases (j == id) (received j) e)
  where
    by : ((j == id) ≡ true) ⊎ (received j ≡ true) → (has_id j ids || ((j == id) || false)) ≡ true
    by (inl h) = or_right (has_id j ids) ((j == id) || false) (or_left (j == id) false h)
    by (inr h) = or_left (has_id j ids) ((j == id) || false) (known j h)

pub sides_accept : {V : Type 0} (items : List (SenderItem V)) (accepted : List V) (received : ℕ → Bool) (old later : List (SenderItem V)) (id : ℕ) (v : V)
    → AreSides items accepted received old (SenderItem.Sent v id ∷ later)
    → AreSides items (accepted ++ v ∷ []) (with id received) (old ++ SenderItem.Sent v id ∷ []) later
sides_accept items accepted received old later id v s =
    let split : (old ++ SenderItem.Sent v id ∷ []) ++ later ≡ old ++ SenderItem.Sent v id ∷ later = append_assoc old (SenderItem.Sent v id ∷ []) later in
    let apart = subst IsDistinct (busy_append old (SenderItem.Sent v id ∷ later)) s.apart in
    record {
      is = s.is ∙ sym split;
      accepted_is = ap (λ l. l ++ v ∷ []) s.accepted_is ∙ sym (map-append value_of old (SenderItem.Sent v id ∷ []));
      olds = each_append (IsOld (with id received)) old (SenderItem.Sent v id ∷ []) (olds_more received id old s.olds) (or_left (id == id) (received id) (eq_same id), tt);
      news = news_more received id later (distinct_middle (busy old) id (busy later) apart).1 s.news.1;
      waits_last = s.waits_last;
      apart = subst (λ l. IsDistinct (busy l)) (sym split) s.apart;
      known = λ j e. ap (has_id j) (busy_append old (SenderItem.Sent v id ∷ [])) ∙ known_more received (busy old) id s.known j e;
    }

-- ---- it forgets an identifier

and_right : (x y : Bool) → (x && y) ≡ true → y ≡ true
and_right true y e = e
and_right false y e = absurd (both_ways false refl e)

pub sides_forget : {V : Type 0} (items : List (SenderItem V)) (accepted : List V) (received : ℕ → Bool) (old new : List (SenderItem V)) (id : ℕ)
    → AreSides items accepted received old new → has_released id old ≡ true → AreSides items accepted (without id received) old new
sides_forget items accepted received old new id s e =
    let apart = distinct_front (busy old) (busy new) (subst IsDistinct (busy_append old new) s.apart) in
    record {
      is = s.is;
      accepted_is = s.accepted_is;
      olds = olds_less received id old (released_not_sent id old apart e) s.olds;
      news = news_less received id new s.news;
      waits_last = s.waits_last;
      apart = s.apart;
      known = λ j h. s.known j (and_right (not (j == id)) (received j) h);
    }
