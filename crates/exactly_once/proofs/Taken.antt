-- What the receiver takes, on either transit.
use Rattle.std.proofs.Common.{◌≡◌, ℕ, Bool, true, false, not, ◌&&◌, ◌==◌, List, [], ◌∷◌, ◌++◌, refl, ap, sym, ◌∙◌, subst}
use Rattle.std.proofs.lemmas.Bool.{both_ways}
use Rattle.lists.specs.Lists.{Each}
use Rattle.exactly_once.specs.Items.{SenderItem, sent, has_sent, has_released}
use Rattle.exactly_once.specs.Handshake.{Forward, Backward, Transit, Handshake, answer, receiver_accepts, receiver_takes}
use Rattle.exactly_once.specs.HandshakeInvariant.{AreSides, publishes_in_transit, forward_id, backward_id, IsMeant, IsDue, IsSent, ComesToReceiver}
use Rattle.lists.proofs.Tests.{none_or, eq_same, eq_turn, or_left, or_right, or_then}
use Rattle.lists.proofs.OfEach.{each_then}
use Rattle.exactly_once.proofs.ItemsKnown.{cons_is, pair_is, olds_sent, first_sent, with, without}
use Rattle.exactly_once.proofs.RowsSent.{row_sent}
use Rattle.exactly_once.proofs.SidesAccept.{sides_accept, sides_forget}

pub record Took {V : Type 0} (m : Forward V) (received : ℕ → Bool) (old : List (SenderItem V)) (f : List (Forward V)) (more : List (ℕ × V)) (after : Handshake V) : Type 0 where
  pub old' : List (SenderItem V)
  pub new' : List (SenderItem V)
  pub next' : List (ℕ × V)
  pub sides : AreSides after.items after.accepted after.received old' new'
  pub comes : ComesToReceiver old' f next'
  pub front : sent new' ≡ next' ++ more
  pub due : IsDue after.received old' (answer m)
  pub others : (b : Backward) → IsDue received old b → (forward_id m == backward_id b) ≡ false → IsDue after.received old' b

-- ---- one more accepted

sent_more : {V : Type 0} (i : ℕ) (items more : List (SenderItem V)) → has_sent i items ≡ true → has_sent i (items ++ more) ≡ true
sent_more i [] more e = absurd (both_ways false refl e)
sent_more i (SenderItem.Queued v ∷ items) more e = sent_more i items more e
sent_more i (SenderItem.Sent v id ∷ items) more e = or_then (i == id) (has_sent i items) (has_sent i (items ++ more)) e (sent_more i items more)
sent_more i (SenderItem.Released v id ∷ items) more e = sent_more i items more e
sent_more i (SenderItem.Done v ∷ items) more e = sent_more i items more e

released_more : {V : Type 0} (i : ℕ) (items more : List (SenderItem V)) → has_released i items ≡ true → has_released i (items ++ more) ≡ true
released_more i [] more e = absurd (both_ways false refl e)
released_more i (SenderItem.Queued v ∷ items) more e = released_more i items more e
released_more i (SenderItem.Sent v id ∷ items) more e = released_more i items more e
released_more i (SenderItem.Released v id ∷ items) more e = or_then (i == id) (has_released i items) (has_released i (items ++ more)) e (released_more i items more)
released_more i (SenderItem.Done v ∷ items) more e = released_more i items more e

now_sent : {V : Type 0} (items : List (SenderItem V)) (v : V) (id : ℕ) → has_sent id (items ++ SenderItem.Sent v id ∷ []) ≡ true
now_sent [] v id = or_left (id == id) false (eq_same id)
now_sent (SenderItem.Queued u ∷ items) v id = now_sent items v id
now_sent (SenderItem.Sent u i ∷ items) v id = or_right (id == i) (has_sent id (items ++ SenderItem.Sent v id ∷ [])) (now_sent items v id)
now_sent (SenderItem.Released u i ∷ items) v id = now_sent items v id
now_sent (SenderItem.Done u ∷ items) v id = now_sent items v id

pub meant_more : {V : Type 0} (old more : List (SenderItem V)) (m : Forward V) → IsMeant old m → IsMeant (old ++ more) m
meant_more old more (Forward.Publish id v) h = tt
meant_more old more (Forward.Pubrel id) h = released_more id old more h

due_more : {V : Type 0} (received : ℕ → Bool) (old more : List (SenderItem V)) (id : ℕ) (b : Backward) → IsDue received old b → (id == backward_id b) ≡ false
    → IsDue (with id received) (old ++ more) b
due_more received old more id (Backward.Pubrec i) h n = sent_more i old more h
due_more received old more id (Backward.Pubcomp i) h n = (released_more i old more h.0, none_or (i == id) (received i) (eq_turn id i n) h.1)

-- ---- an identifier forgotten

and_none : (x y : Bool) → y ≡ false → (x && y) ≡ false
and_none true y e = e
and_none false y e = refl

due_less : {V : Type 0} (received : ℕ → Bool) (old : List (SenderItem V)) (id : ℕ) (b : Backward) → IsDue received old b → IsDue (without id received) old b
due_less received old id (Backward.Pubrec i) h = h
due_less received old id (Backward.Pubcomp i) h = (h.0, and_none (not (i == id)) (received i) h.1)

now_less : (received : ℕ → Bool) (id : ℕ) → without id received id ≡ false
now_less received id = ap (λ b. not b && received id) (eq_same id)

-- ---- both

-- one that the receiver knows: only answered
took_again : {V : Type 0} (h : Handshake V) (id : ℕ) (v : V) (f : List (Forward V)) (l : Transit V) (old new : List (SenderItem V)) (next more again : List (ℕ × V))
    → AreSides h.items h.accepted h.received old new → (b : Bool) → b ≡ true → publishes_in_transit f ≡ again ++ next → Each (IsSent old) again
    → Each (IsMeant old) f → has_sent id old ≡ true → sent new ≡ next ++ more → Took (Forward.Publish id v) h.received old f more (receiver_accepts id v b h l)
took_again h id v f l old new next more again s false e is known meant here front = absurd (both_ways false refl e)
took_again h id v f l old new next more again s true e is known meant here front =
    record {
      old' = old;
      new' = new;
      next' = next;
      sides = s;
      comes = record { again = again; is = is; known = known; meant = meant };
      front = front;
      due = here;
      others = λ b h n. h;
    }

-- the next one: accepted
took_next : {V : Type 0} (h : Handshake V) (id : ℕ) (v : V) (f : List (Forward V)) (l : Transit V) (old later : List (SenderItem V)) (more : List (ℕ × V))
    → AreSides h.items h.accepted h.received old (SenderItem.Sent v id ∷ later) → (b : Bool) → b ≡ false
    → Each (IsMeant old) f → sent later ≡ publishes_in_transit f ++ more → Took (Forward.Publish id v) h.received old f more (receiver_accepts id v b h l)
took_next h id v f l old later more s true e meant front = absurd (both_ways true e refl)
took_next h id v f l old later more s false e meant front =
    record {
      old' = old ++ SenderItem.Sent v id ∷ [];
      new' = later;
      next' = publishes_in_transit f;
      sides = sides_accept h.items h.accepted h.received old later id v s;
      comes = record { again = []; is = refl; known = tt; meant = each_then (IsMeant old) (IsMeant (old ++ SenderItem.Sent v id ∷ [])) f (meant_more old (SenderItem.Sent v id ∷ [])) meant };
      front = front;
      due = now_sent old v id;
      others = λ b d n. due_more h.received old (SenderItem.Sent v id ∷ []) id b d n;
    }

took_publish : {V : Type 0} (h : Handshake V) (id : ℕ) (v : V) (f : List (Forward V)) (l : Transit V) (old new : List (SenderItem V)) (next more again : List (ℕ × V))
    → AreSides h.items h.accepted h.received old new → (id, v) ∷ publishes_in_transit f ≡ again ++ next → Each (IsSent old) again
    → Each (IsMeant old) f → sent new ≡ next ++ more → Took (Forward.Publish id v) h.received old f more (receiver_accepts id v (h.received id) h l)
took_publish h id v f l old new next more (row ∷ again) s is known meant front =
    let e = cons_is (id, v) row (publishes_in_transit f) (again ++ next) is in
    let here : has_sent id old ≡ true = subst (λ (i : ℕ). has_sent i old ≡ true) (sym (pair_is (id, v) row e.0).0) (row_sent row old known.0) in
    took_again h id v f l old new next more again s (h.received id) (olds_sent h.received id old s.olds here) e.1 known.1 meant here front
took_publish {V = X} h id v f l old new next more [] s is known meant front =
    let front' : sent new ≡ (id, v) ∷ (publishes_in_transit f ++ more) = front ∙ ap (λ z. z ++ more) (sym is) in
    let first = first_sent h.received id v (publishes_in_transit f ++ more) new s.news s.waits_last front' in
    let s' : AreSides h.items h.accepted h.received old (SenderItem.Sent v id ∷ first.later) = subst (λ (z : List (SenderItem X)). AreSides h.items h.accepted h.received old z) first.is s in
    took_next h id v f l old first.later more s' (h.received id) s'.news.0 meant first.sent_is

pub took : {V : Type 0} (h : Handshake V) (m : Forward V) (f : List (Forward V)) (l : Transit V) (old new : List (SenderItem V)) (next more : List (ℕ × V))
    → AreSides h.items h.accepted h.received old new → ComesToReceiver old (m ∷ f) next → sent new ≡ next ++ more → Took m h.received old f more (receiver_takes m h l)
took h (Forward.Publish id v) f l old new next more s c front = took_publish h id v f l old new next more c.again s c.is c.known c.meant.1 front
took h (Forward.Pubrel id) f l old new next more s c front =
    record {
      old' = old;
      new' = new;
      next' = next;
      sides = sides_forget h.items h.accepted h.received old new id s c.meant.0;
      comes = record { again = c.again; is = c.is; known = c.known; meant = c.meant.1 };
      front = front;
      due = (c.meant.0, now_less h.received id);
      others = λ b d n. due_less h.received old id b d;
    }
