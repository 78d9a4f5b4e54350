-- A push by a lane and a pop by the receiver keep the rule of the inbox.
use Rattle.std.specs.Prelude.{◌≡◌, ◌≢◌, ◌⊎◌, ℕ, ◌-◌, ◌^◌, ◌<◌, ◌≤◌, true, List, [], ◌∷◌, ◌++◌, length, refl}
use Rattle.std.proofs.Common.{sym, ◌∙◌, ap, subst, inl, inr, ⊎_elim, append_assoc, append-nil, length-append, lt_of_not-le, arith}
use native.Mathlib.Decide.{ℕ_discrete}
use Rattle.crossbeam_queue.specs.Fifo.{Pushes, Pops}
use Rattle.mailbox.specs.declared.view.View.{View}
use Rattle.mailbox.specs.Delivery.{items_of_lane, FitsLane, FitsReceiver, FitsBounds, FitsRule}
use Rattle.mailbox.specs.Inside.{Sent, Took}
use Rattle.mailbox.proofs.ItemsOfALane.{items_of-append, items_of-same, items_of-other}
use Rattle.mailbox.proofs.EachView.{each_set}
use Rattle.mailbox.proofs.Rights.{rights_set}

decided : (a b : ℕ) → Dec (a ≡ b) → (a ≡ b) ⊎ (a ≢ b)
decided a b (yes same) = inl same
decided a b (no other) = inr other

pub same_or_other : (a b : ℕ) → (a ≡ b) ⊎ (a ≢ b)
same_or_other a b = decided a b (ℕ_discrete a b)

module _ {T : Type 0} where
  -- after a push no lane has sent too much, since the one that pushed was not spent
  few_later : (sent : ℕ → List T) (x : ℕ × T) (lane : ℕ)
      → ((k : ℕ) → length (sent k) ≤ 2 ^ 55)
      → length (sent x.0) < 2 ^ 55
      → length (sent lane ++ items_of_lane lane (x ∷ [])) ≤ 2 ^ 55
  few_later sent x lane few short =
      ⊎_elim
      (λ (same : x.0 ≡ lane).
      let short' : length (sent lane) < 2 ^ 55 = subst (λ k. length (sent k) < 2 ^ 55) same short in
      rw (items_of-same lane x [] same, length-append (sent lane) (x.1 ∷ [])) (omega arith))
      (λ (other : x.0 ≢ lane).
      rw (items_of-other lane x [] other, append-nil (sent lane)) (few lane))
      (same_or_other x.0 lane)

  -- what a lane sent is the same after the push of another
  others_sent : (sent : ℕ → List T) (x : ℕ × T) (lane : ℕ)
      → x.0 ≢ lane
      → sent lane ≡ sent lane ++ items_of_lane lane (x ∷ [])
  others_sent sent x lane other =
      rw (items_of-other lane x [] other) (sym (append-nil (sent lane)))

  -- bounds stay true when a lane sends more
  told_when_sent : (sent : ℕ → List T) (taken : List (ℕ × T)) (most : ℕ) (x : ℕ × T) (u : View T)
      → FitsBounds sent taken most u
      → FitsBounds (λ k. sent k ++ items_of_lane k (x ∷ [])) taken most u
  told_when_sent sent taken most x u so = (
    omega (arith, so.0, length-append (sent u.bounds.lane) (items_of_lane u.bounds.lane (x ∷ []))),
    so.1,
    so.2,
    so.3,
  )

  -- the same when one item more is taken
  told_when_taken : (sent : ℕ → List T) (taken : List (ℕ × T)) (most : ℕ) (x : ℕ × T) (u : View T)
      → FitsBounds sent taken most u
      → FitsBounds sent (taken ++ x ∷ []) most u
  told_when_taken sent taken most x u so =
      (so.0, omega (arith, so.1, length-append taken (x ∷ [])), so.2, so.3)

  pub sends : (n port : ℕ) (v : View T) (x : ℕ × T)
      → v.is_of_lane ≡ true
      → x.0 ≡ v.lane
      → length v.sent < 2 ^ 55
      → 0 < v.may_send
      → Pushes FitsRule n port v x (Sent v x)
  sends n port v x lane mine short has items views room h at =
      let w : View T = record v { sent = v.sent ++ x.1 ∷ []; may_send = v.may_send - 1 } in
      let known = (h.fits port v at).0 lane in
      let sent = λ (k : ℕ). h.sent k ++ items_of_lane k (x ∷ []) in
      let sent_here : h.sent v.lane ≡ h.sent x.0 = ap h.sent (sym mine) in
      let short' : length (h.sent x.0) < 2 ^ 55 = subst (λ (l : List T). length l < 2 ^ 55) (known.1 ∙ sent_here) short in
      let F : ℕ → View T → Type 0 = λ j u. FitsLane h.pass_of sent h.taken h.made j u × FitsReceiver h.reader h.taken h.made j u × FitsBounds sent h.taken h.most u in (
        w,
        record {
          reader = h.reader;
          made = h.made;
          pass_of = h.pass_of;
          sent = sent;
          taken = h.taken;
          most = h.most;
          whole = λ k.
              ap (items_of_lane k) (sym (append_assoc h.taken items (x ∷ [])))
              ∙ items_of-append k (h.taken ++ items) (x ∷ [])
              ∙ ap (λ l. l ++ items_of_lane k (x ∷ [])) (h.whole k);
          few = λ k. few_later h.sent x k h.few short';
          unmade = λ k far.
              let other : x.0 ≢ k = λ e. omega (arith, e, mine, known.3) in
              sym (others_sent h.sent x k other) ∙ h.unmade k far;
          within = omega (arith, h.within, has, length-append items (x ∷ []), rights_set views port v w at);
          finite = h.finite;
          fits = each_set F views port w (
            (λ _. (
              known.0,
              ap (λ l. l ++ x.1 ∷ []) known.1 ∙ ap (λ l. h.sent v.lane ++ l) (sym (items_of-same v.lane x [] mine)),
              known.2,
              known.3,
            )),
            (h.fits port v at).1,
            told_when_sent h.sent h.taken h.most x v (h.fits port v at).2,
          )
              (λ j u apart e. (
                (λ p.
                    let theirs = (h.fits j u e).0 p in
                    let other : x.0 ≢ u.lane = λ same. apart (theirs.0 ∙ ap h.pass_of (sym same ∙ mine) ∙ sym known.0) in
                    (theirs.0, theirs.1 ∙ others_sent h.sent x u.lane other, theirs.2, theirs.3)),
                (h.fits j u e).1,
                told_when_sent h.sent h.taken h.most x u (h.fits j u e).2,
              ));
        },
        refl,
      )

  -- a lane of which something is held was made
  made_before : (items : List (ℕ × T)) (views : List (View T)) (x : ℕ × T) (h : FitsRule (x ∷ items) views)
      → x.0 < h.made
  made_before items views x h = lt_of_not-le (λ far.
      let all : items_of_lane x.0 h.taken ++ items_of_lane x.0 (x ∷ items) ≡ [] =
      sym (items_of-append x.0 h.taken (x ∷ items)) ∙ h.whole x.0 ∙ h.unmade x.0 far in
      let size = ap length all in
      let one = ap length (items_of-same x.0 x items refl) in
      omega (arith, length-append (items_of_lane x.0 h.taken) (items_of_lane x.0 (x ∷ items)), size, one))

  -- a lane of which something is held is not spent as far as it was taken
  short_before : (items : List (ℕ × T)) (views : List (View T)) (x : ℕ × T) (h : FitsRule (x ∷ items) views)
      → length (items_of_lane x.0 h.taken) < 2 ^ 55
  short_before items views x h =
      let all : items_of_lane x.0 h.taken ++ items_of_lane x.0 (x ∷ items) ≡ h.sent x.0 =
      sym (items_of-append x.0 h.taken (x ∷ items)) ∙ h.whole x.0 in
      let size = ap length all in
      let one = ap length (items_of-same x.0 x items refl) in
      omega (arith, length-append (items_of_lane x.0 h.taken) (items_of_lane x.0 (x ∷ items)), size, one, h.few x.0)

  -- what was taken of a lane does not shrink
  taken_grows : (met lane : ℕ) (taken : List (ℕ × T)) (x : ℕ × T)
      → met ≤ length (items_of_lane lane taken)
      → met ≤ length (items_of_lane lane (taken ++ x ∷ []))
  taken_grows met lane taken x less =
      let size = ap length (items_of-append lane taken (x ∷ [])) in
      omega (arith, length-append (items_of_lane lane taken) (items_of_lane lane (x ∷ [])), size)

  pub takes : (port : ℕ) (v : View T) → v.is_of_receiver ≡ true → Pops FitsRule port v (Took v)
  takes port v gets x items views h at =
      let known = (h.fits port v at).1 gets in
      let w : View T = record v { taken = v.taken ++ x ∷ [] } in
      let taken = h.taken ++ x ∷ [] in
      let F : ℕ → View T → Type 0 = λ j u. FitsLane h.pass_of h.sent taken h.made j u × FitsReceiver h.reader taken h.made j u × FitsBounds h.sent taken h.most u in (
        w,
        record {
          reader = h.reader;
          made = h.made;
          pass_of = h.pass_of;
          sent = h.sent;
          taken = taken;
          most = h.most;
          whole = λ k. ap (items_of_lane k) (append_assoc h.taken (x ∷ []) items) ∙ h.whole k;
          few = h.few;
          unmade = h.unmade;
          within = omega (arith, h.within, length-append h.taken (x ∷ []), rights_set views port v w at);
          finite = h.finite;
          fits = each_set F views port w (
            (λ p.
                let lane = (h.fits port v at).0 p in
                (lane.0, lane.1, taken_grows v.met v.lane h.taken x lane.2, lane.3)),
            (λ _. (known.0, ap (λ l. l ++ x ∷ []) known.1, known.2)),
            told_when_taken h.sent h.taken h.most x v (h.fits port v at).2,
          )
              (λ j u apart e. (
                (λ p.
                    let lane = (h.fits j u e).0 p in
                    (lane.0, lane.1, taken_grows u.met u.lane h.taken x lane.2, lane.3)),
                (λ p. absurd (apart (((h.fits j u e).1 p).0 ∙ sym known.0))),
                told_when_taken h.sent h.taken h.most x u (h.fits j u e).2,
              ));
        },
        (
          refl,
          rw known.2 (made_before items views x h),
          rw known.1 (short_before items views x h),
        ),
      )
