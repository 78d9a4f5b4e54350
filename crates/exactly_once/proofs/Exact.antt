-- Every run keeps what is good: what is accepted is a prefix of the items, in order and each once.
use Rattle.std.proofs.Common.{◌≡◌, ℕ, Bool, true, false, List, [], ◌∷◌, ◌++◌, map, refl, sym, subst}
use Rattle.std.proofs.lemmas.List.{append-nil}
use Rattle.lists.specs.Lists.{Each}
use Rattle.exactly_once.specs.Items.{SenderItem, sent, item_released, finishing, start_first}
use Rattle.exactly_once.specs.Handshake.{Forward, Backward, Transit, Handshake, answer, reply, sender_hears, receiver_takes, receiver_accepts, with_items}
use Rattle.exactly_once.specs.HandshakeSteps.{HandshakeStep, HandshakeTrace, opening_handshake}
use Rattle.exactly_once.specs.Exact.{is_pubrec_received, HandshakeIsExact}
use Rattle.exactly_once.specs.HandshakeSteps.HandshakeStep.{adds, starts, takes, takes_alone, hears, hears_alone, sender_leaves, receiver_leaves, parts, parts_ahead, restarts}
use Rattle.exactly_once.specs.HandshakeSteps.HandshakeTrace.{stays, goes_on}
use Rattle.exactly_once.specs.HandshakeInvariant.{IsNew, IsAhead, FitsTransit, IsGood}
use Rattle.exactly_once.proofs.SidesStart.{sides_add, sides_start, sent_waits, free_of}
use Rattle.exactly_once.proofs.SidesHear.{sides_release, sides_finish}
use Rattle.exactly_once.proofs.Taken.{took}
use Rattle.exactly_once.proofs.LinksTaken.{joined_taken}
use Rattle.exactly_once.proofs.LinksReleased.{joined_released}
use Rattle.exactly_once.proofs.LinksFinished.{joined_finished, behind_released, behind_finished}
use Rattle.exactly_once.proofs.LinksStarted.{linked_start, linked_add, joined_ahead, joined_behind}
use Rattle.exactly_once.proofs.LinksAnew.{joined_anew}

-- the transit that there is
linked : {V : Type 0} (h : Handshake V) (g : IsGood h) (l : Transit V) → h.transit ≡ l → FitsTransit h.received g.old g.new l
linked {V = X} h g l e = subst (λ (z : Transit X). FitsTransit h.received g.old g.new z) e g.transit

accepting_link : {V : Type 0} (id : ℕ) (v : V) (b : Bool) (h : Handshake V) (l : Transit V) → l ≡ (receiver_accepts id v b h l).transit
accepting_link id v true h l = refl
accepting_link id v false h l = refl

taking_link : {V : Type 0} (m : Forward V) (h : Handshake V) (l : Transit V) → l ≡ (receiver_takes m h l).transit
taking_link (Forward.Publish id v) h l = accepting_link id v (h.received id) h l
taking_link (Forward.Pubrel id) h l = refl

good_takes : {V : Type 0} (h : Handshake V) → IsGood h → (m : Forward V) (f : List (Forward V)) (b : List Backward) → h.transit ≡ Transit.Joined (m ∷ f) b
    → IsGood (receiver_takes m h (Transit.Joined f (b ++ answer m ∷ [])))
good_takes {V = X} h g m f b e =
    let after = receiver_takes m h (Transit.Joined f (b ++ answer m ∷ [])) in
    let j = linked h g (Transit.Joined (m ∷ f) b) e in
    let t = took h m f (Transit.Joined f (b ++ answer m ∷ [])) g.old g.new (sent g.new) [] g.sides j.comes (sym (append-nil (sent g.new))) in
    record {
      old = t.old';
      new = t.new';
      sides = t.sides;
      transit = subst (λ (z : Transit X). FitsTransit after.received t.old' t.new' z) (taking_link m h (Transit.Joined f (b ++ answer m ∷ []))) (joined_taken h.received g.old g.new m f b after j t);
    }

good_takes_alone : {V : Type 0} (h : Handshake V) → IsGood h → (m : Forward V) (f : List (Forward V)) → h.transit ≡ Transit.Ahead (m ∷ f) → IsGood (receiver_takes m h (Transit.Ahead f))
good_takes_alone {V = X} h g m f e =
    let after = receiver_takes m h (Transit.Ahead f) in
    let j = linked h g (Transit.Ahead (m ∷ f)) e in
    let t = took h m f (Transit.Ahead f) g.old g.new j.next j.more g.sides j.comes j.prefix in
    let ahead : IsAhead t.old' t.new' f = record { next = t.next'; more = j.more; comes = t.comes; prefix = t.front } in
    record {
      old = t.old';
      new = t.new';
      sides = t.sides;
      transit = subst (λ (z : Transit X). FitsTransit after.received t.old' t.new' z) (taking_link m h (Transit.Ahead f)) ahead;
    }

good_hears : {V : Type 0} (h : Handshake V) → IsGood h → (m : Backward) (f : List (Forward V)) (b : List Backward) → h.transit ≡ Transit.Joined f (m ∷ b)
    → IsGood (with_items (sender_hears m h.items) (Transit.Joined (f ++ reply m) b) h)
good_hears h g (Backward.Pubrec id) f b e =
    let j = linked h g (Transit.Joined f (Backward.Pubrec id ∷ b)) e in
    record {
      old = map (item_released id) g.old;
      new = g.new;
      sides = sides_release h.items h.accepted h.received g.old g.new id g.sides j.due.0;
      transit = joined_released h.received g.old g.new id f b j;
    }
good_hears h g (Backward.Pubcomp id) f b e =
    let j = linked h g (Transit.Joined f (Backward.Pubcomp id ∷ b)) e in
    record {
      old = map (finishing id) g.old;
      new = g.new;
      sides = sides_finish h.items h.accepted h.received g.old g.new id g.sides j.due.0.0 j.due.0.1;
      transit = joined_finished h.received g.old g.new id f b j;
    }

good_hears_alone : {V : Type 0} (h : Handshake V) → IsGood h → (m : Backward) (b : List Backward) → h.transit ≡ Transit.Behind (m ∷ b)
    → IsGood (with_items (sender_hears m h.items) (Transit.Behind b) h)
good_hears_alone h g (Backward.Pubrec id) b e =
    let j = linked h g (Transit.Behind (Backward.Pubrec id ∷ b)) e in
    record {
      old = map (item_released id) g.old;
      new = g.new;
      sides = sides_release h.items h.accepted h.received g.old g.new id g.sides j.due.0;
      transit = behind_released h.received g.old id b j;
    }
good_hears_alone h g (Backward.Pubcomp id) b e =
    let j = linked h g (Transit.Behind (Backward.Pubcomp id ∷ b)) e in
    record {
      old = map (finishing id) g.old;
      new = g.new;
      sides = sides_finish h.items h.accepted h.received g.old g.new id g.sides j.due.0.0 j.due.0.1;
      transit = behind_finished h.received g.old id b j;
    }

-- each move keeps it
pub good_moves : {V : Type 0} (h k : Handshake V) → IsGood h → HandshakeStep h k → IsGood k
good_moves h k g (adds v) =
    record {
      old = g.old;
      new = g.new ++ SenderItem.Queued v ∷ [];
      sides = sides_add h.items h.accepted h.received g.old g.new v g.sides;
      transit = linked_add h.received g.old g.new (g.new ++ SenderItem.Queued v ∷ []) h.transit (sent_waits g.new v) g.transit;
    }
good_moves h k g (starts id v free first) =
    let s = sides_start h.items h.accepted h.received g.old g.new id v g.sides free first in
    let away = free_of h.items g.old g.new id g.sides.is free in
    record {
      old = g.old;
      new = start_first id g.new;
      sides = s.1;
      transit = linked_start h.received g.old g.new id v h.transit away.0 away.1 s.0 g.transit;
    }
good_moves h k g (takes m f b e) = good_takes h g m f b e
good_moves h k g (takes_alone m f e) = good_takes_alone h g m f e
good_moves h k g (hears m f b e) = good_hears h g m f b e
good_moves h k g (hears_alone m b e) = good_hears_alone h g m b e
good_moves h k g (sender_leaves f b e) =
    record { old = g.old; new = g.new; sides = g.sides; transit = joined_ahead h.received g.old g.new f b (linked h g (Transit.Joined f b) e) }
good_moves h k g (receiver_leaves f b e) =
    record { old = g.old; new = g.new; sides = g.sides; transit = joined_behind h.received g.old g.new f b (linked h g (Transit.Joined f b) e) }
good_moves h k g parts = record { old = g.old; new = g.new; sides = g.sides; transit = record { due = tt; apart = tt } }
good_moves h k g parts_ahead =
    record {
      old = g.old;
      new = g.new;
      sides = g.sides;
      transit = record { next = []; more = sent g.new; comes = record { again = []; is = refl; known = tt; meant = tt }; prefix = refl };
    }
good_moves h k g (restarts ids d r) =
    record { old = g.old; new = g.new; sides = g.sides; transit = joined_anew h.items h.accepted h.received g.old g.new ids g.sides d r }

pub good_run : {V : Type 0} (h k : Handshake V) → IsGood h → HandshakeTrace h k → IsGood k
good_run h k g stays = g
good_run h k g (goes_on {next = m} r s) = good_moves m k (good_run h m g r) s

pub good_opening : (V : Type 0) → IsGood (opening_handshake V)
good_opening V =
    record {
      old = [];
      new = [];
      sides = record { is = refl; accepted_is = refl; olds = tt; news = tt; waits_last = tt; apart = tt; known = λ i e. e };
      transit = record { due = tt; apart = tt };
    }

none_over : {V : Type 0} (received : ℕ → Bool) (items : List (SenderItem V)) → Each (IsNew received) items → Each (λ item. is_pubrec_received item ≡ false) items
none_over received [] h = tt
none_over received (SenderItem.Queued v ∷ items) h = (refl, none_over received items h.1)
none_over received (SenderItem.Sent v id ∷ items) h = (refl, none_over received items h.1)
none_over received (SenderItem.Released v id ∷ items) h = elim h.0 [ ]
none_over received (SenderItem.Done v ∷ items) h = elim h.0 [ ]

pub good_exact : {V : Type 0} (h : Handshake V) → IsGood h → HandshakeIsExact h
good_exact h g =
    record { prefix = g.old; others = g.new; is = g.sides.is; accepted = g.sides.accepted_is; rest = none_over h.received g.new g.sides.news }

-- after every run from the opening
pub runs_are_exact : (V : Type 0) (h : Handshake V) → HandshakeTrace (opening_handshake V) h → HandshakeIsExact h
runs_are_exact V h r = good_exact h (good_run (opening_handshake V) h (good_opening V) r)

pub run_then : {V : Type 0} {h k l : Handshake V} → HandshakeTrace h k → HandshakeTrace k l → HandshakeTrace h l
run_then r stays = r
run_then r (goes_on q m) = goes_on (run_then r q) m
