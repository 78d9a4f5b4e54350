-- The receiver adds what a lane knows, compares, and gives it back: the rule is kept, and what was
-- taken of the lane is a prefix of what it sent.
use Rattle.std.specs.Prelude.{◌≡◌, ◌≢◌, ℕ, true, false, List, ◌++◌, length, slice_set, refl}
use Rattle.std.proofs.Common.{sym, ◌∙◌, ap, ⊎_elim, arith}
use mathlib.Core.Option.{some}
use lib.ListN.{get_elem?}
use Rattle.crossbeam_queue.specs.Fifo.{Forks, Merges, Learns}
use Rattle.crossbeam_queue.proofs.Lists.{at_set}
use Rattle.mailbox.specs.declared.view.View.{View}
use Rattle.mailbox.specs.Delivery.{items_of_lane, FitsLane, FitsReceiver, FitsBounds, FitsRule, Knew}
use Rattle.mailbox.specs.Inside.{nobody, joined, Learned, receiver_part, lane_part}
use Rattle.mailbox.proofs.ItemsOfALane.{items_of-append}
use Rattle.mailbox.proofs.EachView.{Each, each_set, each_snoc}
use Rattle.mailbox.proofs.Rights.{rights_set, rights_split}
use Rattle.mailbox.proofs.PassNumbers.{repassed, repassed-same, repassed-other, not_false}

module _ {T : Type 0} where
  pub parts : (port : ℕ) (v : View T)
      → v.is_of_lane ≡ true
      → v.is_of_receiver ≡ true
      → Forks FitsRule port v (receiver_part v) (lane_part v)
  parts port v sends gets items views h at =
      let lane = (h.fits port v at).0 sends in
      let known = (h.fits port v at).1 gets in
      let bounds = (h.fits port v at).2 in
      let vs : List (View T) = slice_set views port (receiver_part v) in
      let pass_of = repassed v.lane (length vs) h.pass_of in
      let F : ℕ → View T → Type 0 = λ j u. FitsLane pass_of h.sent h.taken h.made j u × FitsReceiver h.reader h.taken h.made j u × FitsBounds h.sent h.taken h.most u in
      let size : length (items_of_lane v.lane v.taken) ≡ length (items_of_lane v.lane h.taken) = ap (λ l. length (items_of_lane v.lane l)) known.1 in
      record {
        reader = h.reader;
        made = h.made;
        pass_of = pass_of;
        sent = h.sent;
        taken = h.taken;
        most = h.most;
        whole = h.whole;
        few = h.few;
        unmade = h.unmade;
        within = omega (arith, h.within, rights_split views port v (receiver_part v) (lane_part v) at (omega arith));
        finite = h.finite;
        fits =
            each_snoc F vs (lane_part v)
            (each_set F views port (receiver_part v)
            ((λ p. absurd (not_false p)), (λ _. known), (h.fits port v at).2)
            (λ j u apart e. (
              (λ p.
                  let theirs = (h.fits j u e).0 p in
                  let other : u.lane ≢ v.lane = λ same. apart (theirs.0 ∙ ap h.pass_of same ∙ sym lane.0) in
                  (theirs.0 ∙ sym (repassed-other v.lane (length vs) h.pass_of u.lane other), theirs.1, theirs.2, theirs.3)),
              (h.fits j u e).1,
              (h.fits j u e).2,
            ))) (
              (λ _. (
                sym (repassed-same v.lane (length vs) h.pass_of v.lane refl),
                lane.1,
                omega (arith, size),
                lane.3,
              )),
              (λ p. absurd (not_false p)),
              (bounds.0, bounds.1, bounds.2, h.finite),
            );
      }

  pub meets : (port : ℕ) (v : View T) (other : ℕ) (w : View T)
      → v.is_of_receiver ≡ true
      → v.is_of_lane ≡ false
      → w.is_of_lane ≡ true
      → Merges FitsRule port v other w (joined v w) nobody
  meets port v other w gets silent sends items views h at apart there =
      let both : View T = joined v w in
      let vs : List (View T) = slice_set views port both in
      let was : get_elem? views other ≡ some w =
      ⊎_elim (λ (x : (other ≡ port) × (both ≡ w)). absurd (apart x.0)) (λ (x : (other ≢ port) × (get_elem? views other ≡ some w)). x.1)
      (at_set views port other both w there) in
      let lane = (h.fits other w was).0 sends in
      let known = (h.fits port v at).1 gets in
      let pass_of = repassed w.lane port h.pass_of in
      let F : ℕ → View T → Type 0 = λ j u. FitsLane pass_of h.sent h.taken h.made j u × FitsReceiver h.reader h.taken h.made j u × FitsBounds h.sent h.taken h.most u in
      let G : ℕ → View T → Type 0 = λ j u. j ≢ other → F j u in
      let now : Each G vs = each_set G views port both
      (λ _. ((λ _. (sym (repassed-same w.lane port h.pass_of w.lane refl), lane.1, lane.2, lane.3)), (λ _. known), (h.fits port v at).2))
      (λ j u _ e away. (
        (λ p.
            let theirs = (h.fits j u e).0 p in
            let elsewhere : u.lane ≢ w.lane = λ same. away (theirs.0 ∙ ap h.pass_of same ∙ sym lane.0) in
            (theirs.0 ∙ sym (repassed-other w.lane port h.pass_of u.lane elsewhere), theirs.1, theirs.2, theirs.3)),
        (h.fits j u e).1,
        (h.fits j u e).2,
      )) in
      record {
        reader = h.reader;
        made = h.made;
        pass_of = pass_of;
        sent = h.sent;
        taken = h.taken;
        most = h.most;
        whole = h.whole;
        few = h.few;
        unmade = h.unmade;
        within = omega (arith, h.within, rights_set views port v both at, rights_set vs other w nobody there);
        finite = h.finite;
        fits =
            each_set F vs other nobody
            ((λ p. absurd (not_false p)), (λ p. absurd (not_false p)), (omega arith, omega arith, h.finite, h.finite))
            (λ j u away e. now j u e away);
      }

  pub learns : (port : ℕ) (v : View T)
      → v.is_of_lane ≡ true
      → v.is_of_receiver ≡ true
      → Learns FitsRule port v (λ _. Learned v)
  learns port v sends gets items views h at =
      let lane = (h.fits port v at).0 sends in
      let known = (h.fits port v at).1 gets in
      let same : items_of_lane v.lane v.taken ≡ items_of_lane v.lane h.taken = ap (items_of_lane v.lane) known.1 in
      let size = ap length same in
      record {
        rest = items_of_lane v.lane items;
        prefix =
            lane.1
            ∙ sym (h.whole v.lane)
            ∙ items_of-append v.lane h.taken items
            ∙ ap (λ l. l ++ items_of_lane v.lane items) (sym same);
        more = omega (arith, size, lane.2);
        made = omega (arith, known.2, lane.3);
      }

  -- at any moment the inbox holds what its rule allows
  pub moments : (port : ℕ) (v : View T) → Learns FitsRule port v (Knew v)
  moments port v items views h at = record { views = views; port = port; holds = h; knows = at }
