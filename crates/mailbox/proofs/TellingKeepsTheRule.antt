-- Lanes and the receiver say what they know, and learn it: the rule is kept. If the inbox holds
-- nothing, all items are taken that were said to be sent; if it is full, more is sent than the
-- greatest number that was said, except what it holds.
use Rattle.std.specs.Prelude.{◌≡◌, ◌≢◌, ℕ, ◌+◌, ◌-◌, ◌^◌, ◌≤◌, true, List, [], ◌++◌, length, slice_set, Option, Some, None, IfNone}
use Rattle.std.proofs.Common.{sym, ◌∙◌, ap, subst, ⊎_elim, append-nil, arith}
use Rattle.std.proofs.lemmas.List.{nil_from_length}
use mathlib.Core.Option.{some}
use lib.ListN.{get_elem?}
use Rattle.crossbeam_queue.specs.Fifo.{Forks, Merges, Held}
use Rattle.crossbeam_queue.proofs.Lists.{at_set}
use Rattle.mailbox.specs.declared.view.Bounds.{Bounds}
use Rattle.mailbox.specs.declared.view.View.{View}
use Rattle.mailbox.specs.Delivery.{items_of_lane, FitsLane, FitsReceiver, FitsBounds, FitsRule, Knew}
use Rattle.mailbox.specs.declared.limits.TheConstants.{MAX_ITEMS}
use Rattle.mailbox.specs.Ends.{HasArrived, IsFullByReceipt, ReceiptView, LaneView, ReceiverView}
use Rattle.mailbox.specs.Inside.{ended, heard, lane_knows, nobody, receiver_knows}
use Rattle.mailbox.proofs.EachView.{each_set, each_snoc}
use Rattle.mailbox.proofs.Rights.{rights_has, rights_set, rights_snoc, rights_split}
use Rattle.mailbox.proofs.PassNumbers.{not_false}

module _ {T : Type 0} where
  -- a pass of its own that knows nothing but these bounds
  tells : (port : ℕ) (v : View T) (bounds : Bounds)
      → ((items : List (ℕ × T)) (views : List (View T)) (h : FitsRule items views)
      → get_elem? views port ≡ some v
      → FitsBounds h.sent h.taken h.most (record (nobody {T = T}) { bounds = bounds }))
      → Forks FitsRule port v v (record nobody { bounds = bounds })
  tells port v bounds so items views h at =
      let new : View T = record nobody { bounds = bounds } in
      let F : ℕ → View T → Type 0 = λ j u. FitsLane h.pass_of h.sent h.taken h.made j u × FitsReceiver h.reader h.taken h.made j u × FitsBounds h.sent h.taken h.most u in
      record {
        reader = h.reader;
        made = h.made;
        pass_of = h.pass_of;
        sent = h.sent;
        taken = h.taken;
        most = h.most;
        whole = h.whole;
        few = h.few;
        unmade = h.unmade;
        within = omega (arith, h.within, rights_split views port v v new at (omega arith));
        finite = h.finite;
        fits =
            each_snoc F (slice_set views port v) new
            (each_set F views port v (h.fits port v at) (λ j u apart e. h.fits j u e))
            ((λ p. absurd (not_false p)), (λ p. absurd (not_false p)), so items views h at);
      }

  pub lane_knows_so : (port : ℕ) (v : View T) → v.is_of_lane ≡ true → Forks FitsRule port v v (lane_knows v)
  lane_knows_so port v sends =
      tells port v (lane_knows v).bounds (λ items views h at.
      let same = ap length ((h.fits port v at).0 sends).1 in (omega (arith, same), omega arith, h.finite, h.finite))

  pub receiver_knows_so : (port : ℕ) (v : View T) → v.is_of_receiver ≡ true → Forks FitsRule port v v (receiver_knows v)
  receiver_knows_so port v gets =
      tells port v (receiver_knows v).bounds (λ items views h at.
      let same = ap length ((h.fits port v at).1 gets).1 in
      (omega arith, omega (arith, same), (h.fits port v at).2.3, h.finite))

  -- a lane that sends no more gives its rights up
  pub ends : (port : ℕ) (v : View T) → v.is_of_lane ≡ true → Forks FitsRule port v nobody (ended v)
  ends port v sends items views h at =
      let mine = (h.fits port v at).2 in
      let same = ap length ((h.fits port v at).0 sends).1 in
      let F : ℕ → View T → Type 0 = λ j u. FitsLane h.pass_of h.sent h.taken h.made j u × FitsReceiver h.reader h.taken h.made j u × FitsBounds h.sent h.taken (h.most - v.may_send) u in
      record {
        reader = h.reader;
        made = h.made;
        pass_of = h.pass_of;
        sent = h.sent;
        taken = h.taken;
        most = h.most - v.may_send;
        whole = h.whole;
        few = h.few;
        unmade = h.unmade;
        within = omega (arith, h.within, rights_set views port v nobody at, rights_snoc (slice_set views port nobody) (ended v));
        finite = omega (arith, h.finite);
        fits =
            each_snoc F (slice_set views port nobody) (ended v)
            (each_set F views port nobody (
              (λ p. absurd (not_false p)),
              (λ p. absurd (not_false p)),
              (omega arith, omega arith, omega (arith, h.finite), omega (arith, h.finite)),
            )
            (λ j u apart e.
            let theirs = h.fits j u e in
            (theirs.0, theirs.1, (theirs.2.0, theirs.2.1, omega (arith, theirs.2.2), omega (arith, theirs.2.3))))) (
              (λ p. absurd (not_false p)),
              (λ p. absurd (not_false p)),
              (omega (arith, same), mine.1, omega (arith, mine.2), omega (arith, h.finite)),
            );
      }

  pub hears : (port : ℕ) (v : View T) (other : ℕ) (w : View T)
      → Merges FitsRule port v other w (heard v w) nobody
  hears port v other w items views h at apart there =
      let both : View T = heard v w in
      let was : get_elem? views other ≡ some w =
      ⊎_elim (λ (x : (other ≡ port) × (both ≡ w)). absurd (apart x.0)) (λ (x : (other ≢ port) × (get_elem? views other ≡ some w)). x.1)
      (at_set views port other both w there) in
      let mine = h.fits port v at in
      let bounds = (h.fits other w was).2 in
      let F : ℕ → View T → Type 0 = λ j u. FitsLane h.pass_of h.sent h.taken h.made j u × FitsReceiver h.reader h.taken h.made j u × FitsBounds h.sent h.taken h.most u in
      record {
        reader = h.reader;
        made = h.made;
        pass_of = h.pass_of;
        sent = h.sent;
        taken = h.taken;
        most = h.most;
        whole = h.whole;
        few = h.few;
        unmade = h.unmade;
        within = omega (arith, h.within, rights_set views port v both at, rights_set (slice_set views port both) other w nobody there);
        finite = h.finite;
        fits =
            each_set F (slice_set views port both) other nobody
            ((λ p. absurd (not_false p)), (λ p. absurd (not_false p)), (omega arith, omega arith, h.finite, h.finite))
            (λ j u away e.
            each_set F views port both (mine.0, mine.1, (bounds.0, bounds.1, bounds.2, mine.2.3)) (λ k x other' f. h.fits k x f) j u e);
      }

  -- if the inbox holds nothing, all is taken that the receiver knows to be sent
  arrived : (v : View T) → v.is_of_receiver ≡ true → Held 0 (Knew v) → v.bounds.sent ≤ length (items_of_lane v.bounds.lane v.taken)
  arrived v gets (items, size, moment) =
      let h = moment.holds in
      let known = (h.fits moment.port v moment.knows).1 gets in
      let bounds = (h.fits moment.port v moment.knows).2.0 in
      let all = ap length (h.whole v.bounds.lane) in
      let none : items ≡ [] = nil_from_length items size in
      let here : length (items_of_lane v.bounds.lane (h.taken ++ items)) ≡ length (items_of_lane v.bounds.lane v.taken) =
      ap (λ l. length (items_of_lane v.bounds.lane (h.taken ++ l))) none ∙ ap (λ l. length (items_of_lane v.bounds.lane l)) (append-nil h.taken ∙ sym known.1) in
      omega (arith, bounds, all, here)

  -- the same, for the receiver and the receipt that it got
  pub has_arrived :
      {A : Type 0} (result : Option A) (v w heard' : View T) (receiver : ReceiverView T) (receipt : ReceiptView)
      → heard' ≡ heard v w
      → v.is_of_receiver ≡ true
      → v.taken ≡ receiver.taken
      → w.bounds ≡ receipt.bounds
      → Held 0 (Knew heard')
      → IfNone result (HasArrived receipt receiver.taken)
  has_arrived (Some x) v w heard' receiver receipt is gets taken bounds empty = tt
  has_arrived None v w heard' receiver receipt is gets taken bounds empty =
      let here = arrived heard' (ap (λ (u : View T). u.is_of_receiver) is ∙ gets) empty in
      subst (λ (y : Bounds × List (ℕ × T)). y.0.sent ≤ length (items_of_lane y.0.lane y.1))
      (λ i. (bounds i, taken i))
      (subst (λ (u : View T). u.bounds.sent ≤ length (items_of_lane u.bounds.lane u.taken)) is here)

  -- if the inbox is full, the lane knows that at least this many items will ever be sent
  pub full : (v : View T) (size : ℕ) → Held size (Knew v) → v.bounds.taken + size + v.may_send ≤ v.bounds.most
  full v size (items, is, moment) =
      let h = moment.holds in
      let bounds = (h.fits moment.port v moment.knows).2 in
      omega (arith, h.within, is, bounds.1, bounds.2, rights_has moment.views moment.port v moment.knows)

  -- the same, for the lane and the receipt that it got
  pub is_full :
      (v w heard' : View T) (size : ℕ) (lane : LaneView T) (receipt : ReceiptView)
      → heard' ≡ heard v w
      → size ≡ MAX_ITEMS
      → v.may_send ≡ 2 ^ 55 - length v.sent
      → v.sent ≡ lane.sent
      → w.bounds ≡ receipt.bounds
      → Held size (Knew heard')
      → IsFullByReceipt lane receipt
  is_full v w heard' size lane receipt is room may_send sent bounds held =
      let here = full heard' size held in
      let taken = ap (λ (u : View T). u.bounds.taken) is in
      let most = ap (λ (u : View T). u.bounds.most) is in
      let rights' = ap (λ (u : View T). u.may_send) is in
      let taken' = ap (λ (t : Bounds). t.taken) bounds in
      let most' = ap (λ (t : Bounds). t.most) bounds in
      let size' = ap (λ (l : List T). length l) sent in
      omega (arith, here, taken, most, rights', taken', most', room, may_send, size')
