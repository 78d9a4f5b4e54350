-- A receiver that took one item more keeps its counts.
use Rattle.std.specs.Prelude.{◌≡◌, ◌≢◌, ℕ, ◌+◌, ◌<◌, List, [], ◌∷◌, ◌++◌, length, slice_index, slice_index_or, slice_set}
use Rattle.std.proofs.Common.{sym, ◌∙◌, ap, subst, ⊎_elim, length-append, length-set, arith}
use Rattle.std.proofs.lemmas.List.{get_or-set_same, get_or-set_other}
use Rattle.std.proofs.lemmas.Grind.{get_or_default_zero}
use Rattle.atomic_table.specs.Seated.{TableId}
use Rattle.crossbeam_queue.specs.Passes.{Pass, view, IsSamePass}
use Rattle.mailbox.specs.declared.view.View.{View}
use Rattle.mailbox.specs.Delivery.{items_of_lane, dealt_receiver_view}
use Rattle.mailbox.specs.Inside.{Took, heard}
use Rattle.mailbox.specs.Kept.{ReceiverKept}
use Rattle.mailbox.proofs.ItemsOfALane.{items_of-append, items_of-same, items_of-other}
use Rattle.mailbox.proofs.StepsKeepTheRule.{same_or_other}

module _ {T : Type 0} where
  -- the count of the item's lane rises by one, and every other stays
  counts_follow : (counts : List ℕ) (taken : List (ℕ × T)) (x : ℕ × T) (lane : ℕ)
      → ((k : ℕ) → k < length counts → slice_index counts k ≡ length (items_of_lane k taken))
      → lane < length counts
      → slice_index (slice_set counts x.0 (slice_index counts x.0 + 1)) lane
      ≡ length (items_of_lane lane (taken ++ x ∷ []))
  counts_follow counts taken x lane counted within =
      let split = ap length (items_of-append lane taken (x ∷ [])) ∙ length-append (items_of_lane lane taken) (items_of_lane lane (x ∷ [])) in
      ⊎_elim
      (λ (same : x.0 ≡ lane).
      let one = ap length (items_of-same lane x [] same) in
      let place : x.0 < length counts = omega arith in
      let new = get_or-set_same counts x.0 (slice_index counts x.0 + 1) 0 place in
      let new' : slice_index (slice_set counts x.0 (slice_index counts x.0 + 1)) lane ≡ slice_index counts x.0 + 1 =
      subst (λ k. slice_index (slice_set counts x.0 (slice_index counts x.0 + 1)) k ≡ slice_index counts x.0 + 1) same new in
      let was : slice_index counts x.0 ≡ length (items_of_lane lane taken) =
      ap (slice_index counts) same ∙ counted lane within in
      omega (arith, split, one, new', was))
      (λ (other : x.0 ≢ lane).
      let none = ap length (items_of-other lane x [] other) in
      let new = get_or-set_other counts x.0 lane (slice_index counts x.0 + 1) 0 (λ e. other (sym e)) in
      omega (arith, split, none, new, counted lane within))
      (same_or_other x.0 lane)

  -- a receiver that got a receipt keeps what it kept
  pub kept_hearing : (queue : TableId) (room : ℕ) (old new : Pass (ℕ × T) (View T)) (name : TableId) (counts : List ℕ) (w : View T)
      → ReceiverKept queue room old name counts
      → IsSamePass old new
      → view new ≡ heard (view old) w
      → ReceiverKept queue room new name counts
  kept_hearing queue room old new name counts w kept same is =
      let taken : (view new).taken ≡ (view old).taken = ap (λ (v : View T). v.taken) is in
      let bounds : (view new).bounds ≡ w.bounds = ap (λ (v : View T). v.bounds) is in
      record {
        of_queue = same.0 ∙ kept.of_queue;
        at_rest = same.2 ∙ kept.at_rest;
        named = kept.named;
        has_room = kept.has_room;
        role = is ∙ ap (λ v. heard v w) kept.role ∙ (λ i. dealt_receiver_view (length counts) (sym taken i) (sym bounds i));
        counted = λ lane within. kept.counted lane within ∙ ap (λ l. length (items_of_lane lane l)) (sym taken);
      }

  pub kept_on : (queue : TableId) (room : ℕ) (old new : Pass (ℕ × T) (View T)) (name : TableId) (counts : List ℕ) (x : ℕ × T) (at count : ℕ)
      → ReceiverKept queue room old name counts
      → IsSamePass old new
      → Took (view old) x (view new)
      → at ≡ x.0
      → count ≡ slice_index_or counts at count
      → ReceiverKept queue room new name (slice_set counts at (count + 1))
  kept_on queue room old new name counts x at count kept same took at_is count_is =
      let step : view new ≡ dealt_receiver_view (length counts) ((view old).taken ++ x ∷ []) (view old).bounds =
      took.0 ∙ ap (λ (v : View T). record v { taken = v.taken ++ x ∷ [] }) kept.role in
      let taken : (view new).taken ≡ (view old).taken ++ x ∷ [] = ap (λ (v : View T). v.taken) step in
      let bounds : (view new).bounds ≡ (view old).bounds = ap (λ (v : View T). v.bounds) step in
      let lanes = ap (λ (v : View T). v.lanes) kept.role in
      let place : at < length counts = omega (arith, at_is, lanes, took.1) in
      let value : count ≡ slice_index counts x.0 =
      count_is ∙ get_or_default_zero counts at count place ∙ ap (slice_index counts) at_is in
      let sizes : length counts ≡ length (slice_set counts at (count + 1)) =
      sym (length-set counts at (count + 1)) in
      let counts' : slice_set counts at (count + 1) ≡ slice_set counts x.0 (slice_index counts x.0 + 1) =
      λ i. slice_set counts (at_is i) (value i + 1) in
      record {
        of_queue = same.0 ∙ kept.of_queue;
        at_rest = same.2 ∙ kept.at_rest;
        named = kept.named;
        has_room = kept.has_room;
        role = step ∙ (λ i. dealt_receiver_view (sizes i) (sym taken i) (sym bounds i));
        counted = λ lane within.
            rw (counts', taken)
            (counts_follow counts (view old).taken x lane kept.counted
            (rw (length-set counts at (count + 1)) at within));
      }
