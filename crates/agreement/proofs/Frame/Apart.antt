-- Apart.antt: the places that a commit gives come after those of lower ballots and before those of
-- higher ones.
use Rattle.std.proofs.Common.{◌≡◌, ℕ, ◌<◌, ◌≤◌, ◌⊎◌, inl, inr, length, Some, arith}
use Rattle.std.proofs.lemmas.Bool.{cases_lt}
use Rattle.std.proofs.lemmas.List.{length-take-le}
use Rattle.agreement.specs.World.{GroupWorld}
use Rattle.lists.specs.Lists.{In}
use Rattle.agreement.specs.Inside.Ballots.{Line, History, IsChosenIn}
use Rattle.agreement.specs.Inside.BallotsStand.{AreBallots, BallotListsStand}
use Rattle.agreement.specs.Inside.Extension.{AcknowledgedIsWithin}
use Rattle.agreement.specs.LeftOutputs.{Segment}
use Rattle.lists.proofs.Prefixes.{prefix_length}
use Rattle.agreement.proofs.Frame.Bases.{chosen_told}
use Rattle.agreement.proofs.Frame.Taking.{activated_base}

-- what is chosen in a ballot lies within its list
pub chosen_within : {S C O : Type 0} (w : GroupWorld S C O) (h : History C) → AreBallots h → AcknowledgedIsWithin w h → (b k : ℕ) (l : Line C) →
    h.line b ≡ Some l → IsChosenIn w h b k → k ≤ length l.list
chosen_within w h ballots within b k l lined chosen =
    within chosen.0.primary b k l lined
    (chosen_told w h b k chosen.0 chosen.0.primary chosen chosen.1 (ballots.led b chosen.0 chosen.1))

-- what is chosen in a ballot is no longer than the base of a later activated one
pub chosen_below : {S C O : Type 0} (w : GroupWorld S C O) (h : History C) → AreBallots h → BallotListsStand w h → AcknowledgedIsWithin w h → (c d k : ℕ) →
    In c h.activated → In d h.activated → c < d → IsChosenIn w h c k → (lc ld : Line C) → h.line c ≡ Some lc → h.line d ≡ Some ld →
    k ≤ length ld.base
chosen_below w h ballots lines within c d k i j less chosen lc ld e f =
    let p = prefix_length (activated_base w h ballots lines c d k i j less chosen lc ld e f) in
    let z = length-take-le k lc.list (chosen_within w h ballots within c k lc e chosen) in omega (arith, p, z)

-- a segment of a ballot up to the one of an active primary lies below what that commits now
pub below_now : {S C O : Type 0} (w : GroupWorld S C O) (h : History C) → AreBallots h → BallotListsStand w h → AcknowledgedIsWithin w h → (s : Segment) →
    In s.ballot h.activated × (s.first < s.end) × IsChosenIn w h s.ballot s.end
    × ((l : Line C) × (h.line s.ballot ≡ Some l) × (length l.base ≤ s.first)) →
    (b first end : ℕ) (l : Line C) → In b h.activated → h.line b ≡ Some l → length l.base ≤ first → IsChosenIn w h b end →
    (s.ballot ≡ b → s.end ≤ first) → s.ballot ≤ b → s.end ≤ first
below_now {S = S} {C = C} w h ballots lines within s (i, rising, chosen, (ls, lined, low)) b first end l j lined_b low_b chosen_b same up =
    by_order (cases_lt s.ballot b)
  where
    by_order : (s.ballot < b) ⊎ (b ≤ s.ballot) → s.end ≤ first
    by_order (inl less) =
        let z = chosen_below w h ballots lines within s.ballot b s.end i j less chosen ls l lined lined_b in omega (arith, z, low_b)
    by_order (inr high) = same (omega (arith, high, up))

-- and one of a higher ballot lies above it
pub above_now : {S C O : Type 0} (w : GroupWorld S C O) (h : History C) → AreBallots h → BallotListsStand w h → AcknowledgedIsWithin w h → (s : Segment) →
    In s.ballot h.activated × (s.first < s.end) × IsChosenIn w h s.ballot s.end
    × ((l : Line C) × (h.line s.ballot ≡ Some l) × (length l.base ≤ s.first)) →
    (b first end : ℕ) (l : Line C) → In b h.activated → h.line b ≡ Some l → IsChosenIn w h b end → b < s.ballot → end ≤ s.first
above_now {S = S} {C = C} w h ballots lines within s (i, rising, chosen, (ls, lined, low)) b first end l j lined_b chosen_b more =
    let z = chosen_below w h ballots lines within b s.ballot end j i more chosen_b l ls lined_b lined in omega (arith, z, low)
