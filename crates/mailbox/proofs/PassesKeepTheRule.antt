-- Making lanes, and sharing out what their passes know, keep the rule of the inbox.
use Rattle.std.specs.Prelude.{◌≡◌, ◌≢◌, ℕ, ◌+◌, ◌-◌, ◌^◌, ◌≤◌, true, false, List, [], ◌∷◌, length, slice_set, refl}
use Rattle.std.proofs.Common.{sym, ◌∙◌, ap, arith}
use mathlib.Core.Option.{some, some-ne-none}
use lib.ListN.{get_elem?}
use Rattle.crossbeam_queue.specs.Fifo.{Forks}
use Rattle.mailbox.specs.declared.view.View.{View}
use Rattle.mailbox.specs.Delivery.{no_bounds, receiver_view, FitsLane, FitsReceiver, FitsBounds, FitsRule}
use Rattle.mailbox.specs.Inside.{dealing, dealt, nobody, sealed}
use Rattle.mailbox.proofs.EachView.{each_set, each_snoc}
use Rattle.mailbox.proofs.Rights.{rights_set, rights_snoc, rights_split}
use Rattle.mailbox.proofs.PassNumbers.{repassed, repassed-same, repassed-other, not_false}

module _ {T : Type 0} where
  -- an inbox that was not used yet
  pub begins : FitsRule {T = T} [] (receiver_view 0 [] (2 ^ 64) (2 ^ 64) no_bounds ∷ [])
  begins = record {
    reader = 0;
    made = 0;
    pass_of = λ _. 0;
    sent = λ _. [];
    taken = [];
    most = 2 ^ 64;
    whole = λ _. refl;
    few = λ _. omega arith;
    unmade = λ _ _. refl;
    within = omega arith;
    finite = omega arith;
    fits =
        each_snoc
        (λ j u. FitsLane {T = T} (λ _. 0) (λ _. []) [] 0 j u × FitsReceiver {T = T} 0 [] 0 j u × FitsBounds {T = T} (λ _. []) [] (2 ^ 64) u)
        []
        (receiver_view 0 [] (2 ^ 64) (2 ^ 64) no_bounds)
        (λ j u e. absurd (some-ne-none u (sym e)))
        ((λ p. absurd (not_false p)), (λ _. (refl, refl, refl)), (omega arith, omega arith, omega arith, omega arith));
  }

  pub deals : (port : ℕ) (v : View T)
      → v.is_of_receiver ≡ true
      → 2 ^ 55 ≤ v.may_send
      → Forks FitsRule port v (dealing v) (dealt v)
  deals port v gets has items views h at =
      let known = (h.fits port v at).1 gets in
      let left : View T = dealing v in
      let right : View T = dealt v in
      let vs : List (View T) = slice_set views port left in
      let pass_of = repassed h.made (length vs) h.pass_of in
      let F : ℕ → View T → Type 0 = λ j u. FitsLane pass_of h.sent h.taken (h.made + 1) j u × FitsReceiver h.reader h.taken (h.made + 1) j u × FitsBounds h.sent h.taken h.most u in
      let still : (j : ℕ) (u : View T) → get_elem? views j ≡ some u → FitsLane pass_of h.sent h.taken (h.made + 1) j u = λ j u e p.
      let lane = (h.fits j u e).0 p in (
        lane.0 ∙ sym (repassed-other h.made (length vs) h.pass_of u.lane (λ same. omega (arith, same, lane.3))),
        lane.1,
        lane.2,
        omega (arith, lane.3),
      ) in
      record {
        reader = h.reader;
        made = h.made + 1;
        pass_of = pass_of;
        sent = h.sent;
        taken = h.taken;
        most = h.most;
        whole = h.whole;
        few = h.few;
        unmade = λ k far. h.unmade k (omega arith);
        within = omega (arith, h.within, rights_split views port v left right at (omega (arith, has)));
        finite = h.finite;
        fits =
            each_snoc F vs right
            (each_set F views port left
            (still port v at, (λ _. (known.0, known.1, ap (λ n. n + 1) known.2)), (h.fits port v at).2)
            (λ j u apart e. (
              still j u e,
              (λ p. absurd (apart (((h.fits j u e).1 p).0 ∙ sym known.0))),
              (h.fits j u e).2,
            ))) (
              (λ _. (
                sym (repassed-same h.made (length vs) h.pass_of v.lanes known.2),
                sym (h.unmade v.lanes (omega (arith, known.2))),
                omega arith,
                omega (arith, known.2),
              )),
              (λ p. absurd (not_false p)),
              (omega arith, omega arith, h.finite, h.finite),
            );
      }

  pub lends : (port : ℕ) (v : View T) → v.is_of_lane ≡ true → v.is_of_receiver ≡ false → Forks FitsRule port v nobody v
  lends port v sends gets items views h at =
      let known = (h.fits port v at).0 sends in
      let vs : List (View T) = slice_set views port nobody in
      let pass_of = repassed v.lane (length vs) h.pass_of in
      let F : ℕ → View T → Type 0 = λ j u. FitsLane pass_of h.sent h.taken h.made j u × FitsReceiver h.reader h.taken h.made j u × FitsBounds h.sent h.taken h.most u in
      record {
        reader = h.reader;
        made = h.made;
        pass_of = pass_of;
        sent = h.sent;
        taken = h.taken;
        most = h.most;
        whole = h.whole;
        few = h.few;
        unmade = h.unmade;
        within = omega (arith, h.within, rights_split views port v nobody v at (omega arith));
        finite = h.finite;
        fits =
            each_snoc F vs v
            (each_set F views port nobody
            ((λ p. absurd (not_false p)), (λ p. absurd (not_false p)), (omega arith, omega arith, h.finite, h.finite))
            (λ j u apart e. (
              (λ p.
                  let lane = (h.fits j u e).0 p in
                  let other : u.lane ≢ v.lane = λ same. apart (lane.0 ∙ ap h.pass_of same ∙ sym known.0) in
                  (lane.0 ∙ sym (repassed-other v.lane (length vs) h.pass_of u.lane other), lane.1, lane.2, lane.3)),
              (h.fits j u e).1,
              (h.fits j u e).2,
            ))) (
              (λ _. (sym (repassed-same v.lane (length vs) h.pass_of v.lane refl), known.1, known.2, known.3)),
              (λ p. absurd (not_false (sym gets ∙ p))),
              (h.fits port v at).2,
            );
      }

  -- the receiver makes no lane any more, so that no more items will be sent than its lanes may
  pub seals : (port : ℕ) (v : View T) → Forks FitsRule port v (sealed v) nobody
  seals port v items views h at =
      let mine = h.fits port v at in
      let less : h.most - v.may_send ≤ h.most = omega arith in
      let F : ℕ → View T → Type 0 = λ j u. FitsLane h.pass_of h.sent h.taken h.made j u × FitsReceiver h.reader h.taken h.made j u × FitsBounds h.sent h.taken (h.most - v.may_send) u in
      record {
        reader = h.reader;
        made = h.made;
        pass_of = h.pass_of;
        sent = h.sent;
        taken = h.taken;
        most = h.most - v.may_send;
        whole = h.whole;
        few = h.few;
        unmade = h.unmade;
        within = omega (arith, h.within, rights_set views port v (sealed v) at, rights_snoc (slice_set views port (sealed v)) nobody);
        finite = omega (arith, h.finite);
        fits =
            each_snoc F (slice_set views port (sealed v)) nobody
            (each_set F views port (sealed v)
            (mine.0, mine.1, (mine.2.0, mine.2.1, omega (arith, mine.2.2), omega (arith, mine.2.3)))
            (λ j u apart e.
            let theirs = h.fits j u e in
            (theirs.0, theirs.1, (theirs.2.0, theirs.2.1, omega (arith, theirs.2.2), omega (arith, theirs.2.3))))) (
              (λ p. absurd (not_false p)),
              (λ p. absurd (not_false p)),
              (omega arith, omega arith, omega (arith, h.finite), omega (arith, h.finite)),
            );
      }
