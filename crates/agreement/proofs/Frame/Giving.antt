-- Giving.antt: what left, after a move of an active primary that gives the outputs of newly chosen
-- places.
use Rattle.std.proofs.Common.{◌≡◌, ℕ, zero, suc, ◌+◌, ◌<◌, ◌≤◌, ◌⊎◌, inl, inr, List, [], ◌∷◌, ◌++◌, length, set, take, drop, Some, Option, refl, ap, sym, ◌∙◌, subst, arith}
use Rattle.std.specs.Prelude.{slice_get}
use Rattle.std.specs.List.{flat_map}
use Rattle.std.proofs.lemmas.Grind.{flat_map-append}
use Rattle.std.proofs.lemmas.List.{append-nil, take-take}
use Rattle.machine.specs.Machine.{Rules, replay}
use Rattle.agreement.specs.whole_logs.Messages.{Effect}
use Rattle.agreement.specs.whole_logs.Replica.{ReplicaState}
use Rattle.agreement.specs.whole_logs.Application.{outputs_from, outputs_between}
use Rattle.agreement.specs.World.{GroupWorld, outputs, moved}
use Rattle.lists.specs.Lists.{In, IsPrefixOf}
use Rattle.lists.specs.Lists.In.{here, there}
use Rattle.agreement.specs.Inside.Ballots.{Given, Line, History, IsChosenIn}
use Rattle.agreement.specs.Inside.BallotsStand.{AreBallots, BallotListsStand}
use Rattle.agreement.specs.Inside.Extension.{Extends, AcknowledgedIsWithin}
use Rattle.agreement.specs.Inside.MovesAt.{MovesAt, with_lines}
use Rattle.agreement.specs.Inside.Sound.{LeftIs, IsSoundWorld}
use Rattle.agreement.specs.LeftOutputs.{Segment}
use Rattle.lists.proofs.Places.{get_set}
use Rattle.lists.proofs.Members.{in_append, in_at}
use Rattle.agreement.proofs.Frame.Apart.{above_now, below_now, chosen_within}
use Rattle.agreement.proofs.Frame.Framing.{within_of, move_extends, move_within}
use Rattle.agreement.proofs.Frame.MoveLines.{move_lines}
use Rattle.agreement.proofs.Changing.InstallHeard.{same_front}
use Rattle.agreement.proofs.Frame.Leaving.{bounds_back, applied_still, segment_kept}
use Rattle.agreement.proofs.Frame.Moved.{ballots_same}

-- the last of a list that was pushed to, or one of those before
pub get_pushed_to : {X : Type 0} (xs : List X) (x y : X) (i : ℕ) → slice_get (xs ++ x ∷ []) i ≡ Some y →
    ((slice_get xs i ≡ Some y) × (i < length xs)) ⊎ ((i ≡ length xs) × (x ≡ y))
get_pushed_to [] x y zero e = inr (refl, (let f : x ≡ y = cc in f))
get_pushed_to [] x y (suc i) e = cc
get_pushed_to (z ∷ xs) x y zero e = inl (e, omega arith)
get_pushed_to {X = X} (z ∷ xs) x y (suc i) e = by_rest (get_pushed_to xs x y i e)
  where
    by_rest : ((slice_get xs i ≡ Some y) × (i < length xs)) ⊎ ((i ≡ length xs) × (x ≡ y)) →
        ((slice_get xs i ≡ Some y) × (suc i < length (z ∷ xs))) ⊎ ((suc i ≡ length (z ∷ xs)) × (x ≡ y))
    by_rest (inl (f, less)) = inl (f, omega (arith, less))
    by_rest (inr (same, f)) = inr (omega (arith, same), f)

-- two lists with the same front give the same outputs of its places
pub same_outputs : {S C O : Type 0} (rules : Rules S C O) (xs ys : List C) (first end : ℕ) → first ≤ end → take end xs ≡ take end ys →
    outputs_between rules xs first end ≡ outputs_between rules ys first end
same_outputs {C = C} {O = O} rules xs ys first end rising e =
    let f : take first xs ≡ take first ys = sym (take-take first end xs rising) ∙ ap (take first) e ∙ take-take first end ys rising in
    ap (λ us. outputs_from {O = O} rules (replay rules us) first (drop first (take end xs))) f
    ∙ ap (λ us. outputs_from {O = O} rules (replay rules (take first ys)) first (drop first us)) e

at_most : {P : Type 0} (b c : ℕ) → (b < c) ⊎ ((b ≡ c) × P) → b ≤ c
at_most b c (inl less) = omega (arith, less)
at_most b c (inr (same, p)) = omega (arith, same)

-- new outputs left
pub left_more : {S C O : Type 0} (rules : Rules S C O) (w : GroupWorld S C O) (h : History C) (line : ℕ → Option (Line C)) (n : ℕ)
    (old new : ReplicaState S C) (given : List (Effect C O)) → MovesAt w h line n old new given → IsSoundWorld rules w h →
    (b first end : ℕ) (g : Given) (l : Line C) → In b h.activated → h.given b ≡ Some g → g.primary ≡ n + 1 → line b ≡ Some l →
    first < end → length l.base ≤ first → old.committed ≤ first → end ≤ new.committed →
    IsChosenIn (moved w n new given) (with_lines h line) b end → outputs given ≡ outputs (outputs_between rules l.list first end) →
    LeftIs rules (moved w n new given) (with_lines h line)
left_more {S = S} {C = C} {O = O} rules w h line n old new given q s b first end g l active given_b primary lined rising low after up chosen outs =
    record {
      segments = s.left.segments ++ now ∷ [];
      left = λ agreed bounds. ap (λ us. w.left ++ us) (outs ∙ ap outputs (sym (agreed_outputs agreed (bounds b end l active lined chosen))))
          ∙ ap (λ us. us ++ outputs (outputs_between rules agreed first end)) (s.left.left agreed (bounds_back w h v i agreed x (λ c j. j) bounds))
          ∙ ap (λ us. flat_map (λ (y : Segment). outputs (outputs_between rules agreed y.first y.end)) s.left.segments ++ us)
          (sym (append-nil (outputs (outputs_between rules agreed first end))))
          ∙ sym (flat_map-append (λ (y : Segment). outputs (outputs_between rules agreed y.first y.end)) s.left.segments (now ∷ []));
      chosen = λ y j. by_segment y (in_append s.left.segments (now ∷ []) j);
      applied = λ y j o e m is r f. by_applied y (in_append s.left.segments (now ∷ []) j) o e m is r f;
      in_order = λ a c y z e f less. by_place a c y z (get_pushed_to s.left.segments now y a e) (get_pushed_to s.left.segments now z c f) less;
    }
  where
    now : Segment
    now = record { ballot = b; first = first; end = end }

    v : GroupWorld S C O
    v = moved w n new given

    i : History C
    i = with_lines h line

    x : Extends w h (moved w n new given) (with_lines h line)
    x = move_extends w h line n old new given q

    ballots : AreBallots (with_lines h line)
    ballots = ballots_same h line s.ballots

    lines : BallotListsStand (moved w n new given) (with_lines h line)
    lines = move_lines w h line n old new given q (within_of rules w h s) s.lines

    within : AcknowledgedIsWithin (moved w n new given) (with_lines h line)
    within m c k y e t = by_line (move_within w h line n old new given q s.within m c k t)
      where
        by_line : (k ≡ 0) ⊎ ((u : Line C) × (line c ≡ Some u) × (k ≤ length u.list)) → k ≤ length y.list
        by_line (inl none) = omega (arith, none)
        by_line (inr (u, f, below)) = let same : u ≡ y = cc in subst (λ (z : Line C). k ≤ length z.list) same below

    agreed_outputs : (agreed : List C) → IsPrefixOf (take end l.list) agreed →
        outputs_between {O = O} rules agreed first end ≡ outputs_between rules l.list first end
    agreed_outputs agreed front =
        same_outputs rules agreed l.list first end (omega (arith, rising))
        (same_front end l.list agreed (chosen_within (moved w n new given) (with_lines h line) (ballots_same h line s.ballots) within b end l lined chosen) front)

    by_segment : (y : Segment) → In y s.left.segments ⊎ In y (now ∷ []) → In y.ballot h.activated × (y.first < y.end)
        × IsChosenIn (moved w n new given) (with_lines h line) y.ballot y.end
        × ((u : Line C) × (line y.ballot ≡ Some u) × (length u.base ≤ y.first))
    by_segment y (inl j) =
        segment_kept w (moved w n new given) h (with_lines h line) y (move_extends w h line n old new given q) (λ c k. k) (s.left.chosen y j)
    by_segment y (inr here) = (active, rising, chosen, (l, lined, low))
    by_segment y (inr (there j)) = elim j [ ]

    by_applied : (y : Segment) → In y s.left.segments ⊎ In y (now ∷ []) → (o : Given) → h.given y.ballot ≡ Some o → (m : ℕ) →
        o.primary ≡ m + 1 → (r : ReplicaState S C) → slice_get (set w.nodes n new) m ≡ Some r → y.end ≤ r.committed
    by_applied y (inl j) o e m is r f = applied_still w n old new y.end q.stands q.committed m (s.left.applied y j o e m is) r f
    by_applied y (inr (there j)) o e m is r f = elim j [ ]
    by_applied y (inr here) o e m is r f =
        let one : g ≡ o = cc in let p = ap (λ (u : Given). u.primary) one in
        let same : m ≡ n = omega (arith, p, is, primary) in
        let k : Some new ≡ Some r = sym (get_set w.nodes n old new q.stands) ∙ ap (slice_get (set w.nodes n new)) (sym same) ∙ f in
        let d : new ≡ r = cc in let c = ap (λ (u : ReplicaState S C). u.committed) d in omega (arith, c, up)

    below : (y : Segment) → In y s.left.segments → y.ballot ≤ b → y.end ≤ first
    below y j =
        below_now (moved w n new given) (with_lines h line) (ballots_same h line s.ballots)
        (move_lines w h line n old new given q (within_of rules w h s) s.lines) within y
        (by_segment y (inl j)) b first end l active lined low chosen
        (λ e. let z = s.left.applied y j g (ap h.given e ∙ given_b) n primary old q.stands in omega (arith, z, after))

    above : (y : Segment) → In y s.left.segments → b < y.ballot → end ≤ y.first
    above y j =
        above_now (moved w n new given) (with_lines h line) (ballots_same h line s.ballots)
        (move_lines w h line n old new given q (within_of rules w h s) s.lines) within y
        (by_segment y (inl j)) b first end l active lined chosen

    by_place : (a c : ℕ) (y z : Segment) → ((slice_get s.left.segments a ≡ Some y) × (a < length s.left.segments)) ⊎ ((a ≡ length s.left.segments) × (now ≡ y)) →
        ((slice_get s.left.segments c ≡ Some z) × (c < length s.left.segments)) ⊎ ((c ≡ length s.left.segments) × (now ≡ z)) →
        (y.ballot < z.ballot) ⊎ ((y.ballot ≡ z.ballot) × (a < c)) → y.end ≤ z.first
    by_place a c y z (inl (e, j)) (inl (f, k)) less = s.left.in_order a c y z e f less
    by_place a c y z (inl (e, j)) (inr (same, f)) less =
        let o : b ≡ z.ballot = ap (λ (u : Segment). u.ballot) f in let p : first ≡ z.first = ap (λ (u : Segment). u.first) f in
        let up = at_most y.ballot z.ballot less in
        let below' = below y (in_at s.left.segments a y e) (omega (arith, o, up)) in omega (arith, p, below')
    by_place a c y z (inr (same, e)) (inl (f, k)) (inl less) =
        let o : b ≡ y.ballot = ap (λ (u : Segment). u.ballot) e in let p : end ≡ y.end = ap (λ (u : Segment). u.end) e in
        let above' = above z (in_at s.left.segments c z f) (omega (arith, o, less)) in omega (arith, p, above')
    by_place a c y z (inr (same, e)) (inl (f, k)) (inr (one, less)) = absurd (omega (arith, same, k, less))
    by_place a c y z (inr (same, e)) (inr (also, f)) (inl less) =
        let o : b ≡ y.ballot = ap (λ (u : Segment). u.ballot) e in let p : b ≡ z.ballot = ap (λ (u : Segment). u.ballot) f in
        absurd (omega (arith, o, p, less))
    by_place a c y z (inr (same, e)) (inr (also, f)) (inr (one, less)) = absurd (omega (arith, same, also, less))
