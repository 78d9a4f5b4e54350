-- Leaving.antt: what left is kept by a move that has no output.
use Rattle.std.proofs.Common.{◌≡◌, ℕ, ◌<◌, ◌≤◌, ◌⊎◌, inl, inr, List, [], ◌++◌, length, set, take, Some, Option, ap, sym, ◌∙◌, arith}
use Rattle.std.specs.Prelude.{slice_get}
use Rattle.std.proofs.lemmas.Bool.{cases_eq}
use Rattle.std.proofs.lemmas.List.{append-nil}
use Rattle.machine.specs.Machine.{Rules}
use Rattle.agreement.specs.whole_logs.Messages.{Effect}
use Rattle.agreement.specs.whole_logs.Replica.{ReplicaState}
use Rattle.agreement.specs.World.{GroupWorld, outputs, moved}
use Rattle.lists.specs.Lists.{In, IsPrefixOf}
use Rattle.agreement.specs.Inside.Ballots.{Line, History, IsChosenIn}
use Rattle.agreement.specs.Inside.Extension.{Extends}
use Rattle.agreement.specs.Inside.MovesAt.{MovesAt, with_lines}
use Rattle.agreement.specs.Inside.Sound.{LeftIs}
use Rattle.agreement.specs.LeftOutputs.{Segment}
use Rattle.lists.proofs.Prefixes.{prefix_then}
use Rattle.lists.proofs.Places.{get_set, get_set_other}
use Rattle.agreement.proofs.Frame.Later.{chosen_kept, takes}
use Rattle.agreement.proofs.Frame.Framing.{move_extends}

-- what was chosen before is within any list that has all that is chosen after the move
pub bounds_back : {S C O : Type 0} (w : GroupWorld S C O) (h : History C) (v : GroupWorld S C O) (i : History C) (agreed : List C) →
    Extends w h v i → ((b : ℕ) → In b h.activated → In b i.activated) →
    ((b k : ℕ) (l : Line C) → In b i.activated → i.line b ≡ Some l → IsChosenIn v i b k → IsPrefixOf (take k l.list) agreed) →
    (b k : ℕ) (l : Line C) → In b h.activated → h.line b ≡ Some l → IsChosenIn w h b k → IsPrefixOf (take k l.list) agreed
bounds_back w h v i agreed x active bounds b k l j e c =
    let y = x.lines b l e in
    prefix_then (takes k y.3) (bounds b k y.0 (active b j) y.1 (chosen_kept w v h i b k x c))

-- the node of a ballot's primary has still applied all that it gave
pub applied_still : {S C O : Type 0} (w : GroupWorld S C O) (n : ℕ) (old new : ReplicaState S C) (end : ℕ) →
    slice_get w.nodes n ≡ Some old → old.committed ≤ new.committed → (m : ℕ) →
    ((r : ReplicaState S C) → slice_get w.nodes m ≡ Some r → end ≤ r.committed) →
    (r : ReplicaState S C) → slice_get (set w.nodes n new) m ≡ Some r → end ≤ r.committed
applied_still {S = S} {C = C} w n old new end stands up m before r e = by_place (cases_eq m n)
  where
    by_place : (m ≡ n) ⊎ (m ≡ n → ⊥) → end ≤ r.committed
    by_place (inl same) =
        let j : Some new ≡ Some r = sym (get_set w.nodes n old new stands) ∙ ap (slice_get (set w.nodes n new)) (sym same) ∙ e in
        let k : new ≡ r = cc in
        let c = ap (λ (z : ReplicaState S C). z.committed) k in
        let low = before old (ap (slice_get w.nodes) same ∙ stands) in omega (arith, c, low, up)
    by_place (inr other) = before r (sym (get_set_other w.nodes n m new other) ∙ e)

-- a segment stays one of what is chosen
pub segment_kept : {S C O : Type 0} (w v : GroupWorld S C O) (h i : History C) (s : Segment) → Extends w h v i →
    ((b : ℕ) → In b h.activated → In b i.activated) →
    In s.ballot h.activated × (s.first < s.end)
    × IsChosenIn w h s.ballot s.end × ((l : Line C) × (h.line s.ballot ≡ Some l) × (length l.base ≤ s.first)) →
    In s.ballot i.activated × (s.first < s.end)
    × IsChosenIn v i s.ballot s.end × ((l : Line C) × (i.line s.ballot ≡ Some l) × (length l.base ≤ s.first))
segment_kept w v h i s x active (j, rising, chosen, (l, lined, low)) =
    let y = x.lines s.ballot l lined in (
      active s.ballot j,
      rising,
      chosen_kept w v h i s.ballot s.end x chosen,
      (y.0, y.1, (let e = ap length y.2 in omega (arith, e, low))),
    )

-- no output left
pub left_same : {S C O : Type 0} (rules : Rules S C O) (w : GroupWorld S C O) (h : History C) (line : ℕ → Option (Line C)) (n : ℕ)
    (old new : ReplicaState S C) (given : List (Effect C O)) → MovesAt w h line n old new given → outputs given ≡ [] →
    LeftIs rules w h → LeftIs rules (moved w n new given) (with_lines h line)
left_same {S = S} {C = C} {O = O} rules w h line n old new given q dumb s =
    let v = moved w n new given in let i = with_lines h line in
    let x = move_extends w h line n old new given q in
    record {
      segments = s.segments;
      left = λ agreed bounds. ap (λ us. w.left ++ us) dumb ∙ append-nil w.left
          ∙ s.left agreed (bounds_back w h v i agreed x (λ b j. j) bounds);
      chosen = λ y j. segment_kept w v h i y x (λ b k. k) (s.chosen y j);
      applied = λ y j g e m is r f. applied_still w n old new y.end q.stands q.committed m (s.applied y j g e m is) r f;
      in_order = s.in_order;
    }
