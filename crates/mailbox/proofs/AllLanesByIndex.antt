-- Lanes are all lanes of an inbox exactly if there are as many, and each has its index as its number.
use Rattle.std.specs.Prelude.{◌≡◌, ◌≢◌, ℕ, zero, suc, ◌<◌, List, [], ◌∷◌, length, map, slice_index_or, refl}
use Rattle.std.proofs.Common.{sym, ◌∙◌, ap, ⊎_elim, length-append, arith}
use Rattle.std.proofs.lemmas.List.{ext_get_or, length-map}
use Rattle.std.proofs.Math.ListN.{get_or-append, get_or-map}
use Rattle.std.proofs.Math.Seq.{get_or-append_seam}
use Rattle.mailbox.specs.Ends.{LaneView, ReceiverView, fresh_lanes, as_made, AreAllLanes}
use Rattle.mailbox.proofs.StepsKeepTheRule.{same_or_other}

-- how many lanes were made
length-fresh : (T : Type 0) (inbox lanes : ℕ) → length (fresh_lanes {T = T} inbox lanes) ≡ lanes
length-fresh T inbox zero = refl
length-fresh T inbox (suc lanes) =
    let last : LaneView T = record { inbox = inbox; lane = lanes; met = 0; sent = [] } in
    let rest = length-fresh T inbox lanes in
    omega (arith, length-append (fresh_lanes inbox lanes) (last ∷ []))

module _ {T : Type 0} where
  abbrev fresh : ℕ → ℕ → LaneView T
  fresh inbox lane = record { inbox = inbox; lane = lane; met = 0; sent = [] }

  fresh_at : (inbox lanes k : ℕ) (d : LaneView T) → k < lanes
      → slice_index_or (fresh_lanes inbox lanes) k d ≡ fresh inbox k
  fresh_at inbox zero k d within = absurd (omega arith)
  fresh_at inbox (suc lanes) k d within =
      let size = length-fresh T inbox lanes in
      ⊎_elim
      (λ (last : k ≡ lanes).
      ap (λ n. slice_index_or (fresh_lanes inbox (suc lanes)) n d) (last ∙ sym size)
      ∙ get_or-append_seam (fresh_lanes inbox lanes) (fresh inbox lanes) [] d
      ∙ ap (fresh inbox) (sym last))
      (λ (other : k ≢ lanes).
      get_or-append (fresh_lanes inbox lanes) (fresh inbox lanes ∷ []) d k (omega arith)
      ∙ fresh_at inbox lanes k d (omega arith))
      (same_or_other k lanes)

  -- each lane has the number of the inbox and its index
  abbrev pub Placed : ReceiverView T → List (LaneView T) → ℕ → Type 0
  Placed r lanes k =
      (d : LaneView T)
      → ((slice_index_or lanes k d).inbox ≡ r.inbox) × ((slice_index_or lanes k d).lane ≡ k)

  pub all_by_index : (r : ReceiverView T) (lanes : List (LaneView T))
      → length lanes ≡ r.lanes
      → ((k : ℕ) → k < length lanes → Placed r lanes k)
      → AreAllLanes r lanes
  all_by_index r lanes size placed =
      let d : LaneView T = fresh 0 0 in
      ext_get_or d (map as_made lanes) (fresh_lanes r.inbox r.lanes)
      (length-map lanes as_made ∙ size ∙ sym (length-fresh T r.inbox r.lanes))
      (λ k within.
      let there : k < length lanes = omega (arith, length-map lanes as_made) in
      let is = placed k there d in
      get_or-map as_made lanes k d
      ∙ (λ i. fresh (is.0 i) (is.1 i))
      ∙ sym (fresh_at r.inbox r.lanes k d (omega arith)))

  pub as_many : (r : ReceiverView T) (lanes : List (LaneView T)) → AreAllLanes r lanes → length lanes ≡ r.lanes
  as_many r lanes are = sym (length-map lanes as_made) ∙ ap length are ∙ length-fresh T r.inbox r.lanes

  pub placed_of_all : (r : ReceiverView T) (lanes : List (LaneView T)) (k : ℕ)
      → AreAllLanes r lanes
      → k < length lanes
      → Placed r lanes k
  placed_of_all r lanes k are within d =
      let size = as_many r lanes are in
      let is : as_made (slice_index_or lanes k d) ≡ fresh r.inbox k =
      sym (get_or-map as_made lanes k d)
      ∙ ap (λ l. slice_index_or l k (as_made d)) are
      ∙ fresh_at r.inbox r.lanes k (as_made d) (omega arith) in
      (ap (λ (s : LaneView T). s.inbox) is, ap (λ (s : LaneView T). s.lane) is)
