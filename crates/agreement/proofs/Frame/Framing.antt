-- Framing.antt: a move of a node extends the world.
use Rattle.std.proofs.Common.{◌≡◌, ℕ, ◌+◌, ◌≤◌, ◌⊎◌, inl, inr, List, length, set, Some, Option, ap, sym, ◌∙◌, subst, arith}
use Rattle.std.specs.Prelude.{slice_get}
use Rattle.std.proofs.lemmas.Bool.{cases_eq}
use Rattle.machine.specs.Machine.{Rules}
use Rattle.agreement.specs.whole_logs.Messages.{Effect}
use Rattle.agreement.specs.whole_logs.Replica.{ReplicaState}
use Rattle.agreement.specs.World.{GroupWorld, messages, moved}
use Rattle.agreement.specs.Inside.Ballots.{Line, History, Acknowledged}
use Rattle.agreement.specs.Inside.Extension.{Extends, AcknowledgedIsWithin}
use Rattle.agreement.specs.Inside.MovesAt.{MovesAt, with_lines, TellsNow}
use Rattle.agreement.specs.Inside.Sound.{IsSoundWorld}
use Rattle.lists.proofs.Prefixes.{prefix_length}
use Rattle.lists.proofs.Places.{get_set, get_set_other}
use Rattle.lists.proofs.Members.{in_left}

-- what is acknowledged of a ballot with a list lies within it
pub within_of : {S C O : Type 0} (rules : Rules S C O) (w : GroupWorld S C O) (h : History C) → IsSoundWorld rules w h → AcknowledgedIsWithin w h
within_of {S = S} {C = C} rules w h s m b k l e t = by_line (s.within m b k t)
  where
    by_line : (k ≡ 0) ⊎ ((l : Line C) × (h.line b ≡ Some l) × (k ≤ length l.list)) → k ≤ length l.list
    by_line (inl zero) = omega (arith, zero)
    by_line (inr (y, f, below)) = let same : y ≡ l = cc in subst (λ (z : Line C). k ≤ length z.list) same below

-- the node at an index after a move
pub get_moved : {X : Type 0} (xs : List X) (n m : ℕ) (old new r : X) → slice_get xs n ≡ Some old → slice_get xs m ≡ Some r →
    ((m ≡ n) × (r ≡ old) × (slice_get (set xs n new) m ≡ Some new))
    ⊎ ((m ≡ n → ⊥) × (slice_get (set xs n new) m ≡ Some r))
get_moved {X = X} xs n m old new r stands e = by_place (cases_eq m n)
  where
    by_place : (m ≡ n) ⊎ (m ≡ n → ⊥) → ((m ≡ n) × (r ≡ old) × (slice_get (set xs n new) m ≡ Some new))
        ⊎ ((m ≡ n → ⊥) × (slice_get (set xs n new) m ≡ Some r))
    by_place (inl same) =
        let f : Some r ≡ Some old = sym e ∙ ap (slice_get xs) same ∙ stands in let g : r ≡ old = cc in
        inl (same, g, ap (slice_get (set xs n new)) same ∙ get_set xs n old new stands)
    by_place (inr other) = inr (other, get_set_other xs n m new other ∙ e)

-- such a move extends the world
pub move_extends : {S C O : Type 0} (w : GroupWorld S C O) (h : History C) (line : ℕ → Option (Line C)) (n : ℕ)
    (old new : ReplicaState S C) (given : List (Effect C O)) → MovesAt w h line n old new given →
    Extends w h (moved w n new given) (with_lines h line)
move_extends {S = S} {C = C} {O = O} w h line n old new given q =
    record {
      sent = λ x i. in_left (messages given) i;
      nodes = λ m r e. by_node m r (get_moved w.nodes n m old new r q.stands e);
      given = λ b g e. e;
      lines = q.lines;
      told = λ m b k r e t. by_teller m b k r e (q.tells (m + 1) b k t);
    }
  where
    by_node : (m : ℕ) (r : ReplicaState S C) → ((m ≡ n) × (r ≡ old) × (slice_get (set w.nodes n new) m ≡ Some new))
        ⊎ ((m ≡ n → ⊥) × (slice_get (set w.nodes n new) m ≡ Some r)) →
        (s : ReplicaState S C) × (slice_get (set w.nodes n new) m ≡ Some s) × (r.joined ≤ s.joined)
    by_node m r (inl (same, is, e)) =
        let f = ap (λ (x : ReplicaState S C). x.joined) is in let up = q.rises in (new, e, omega (arith, f, up))
    by_node m r (inr (other, e)) = (r, e, omega arith)

    by_teller : (m b k : ℕ) (r : ReplicaState S C) → slice_get w.nodes m ≡ Some r →
        Acknowledged w h (m + 1) b k ⊎ ((m + 1 ≡ n + 1) × TellsNow line old new b k) →
        Acknowledged w h (m + 1) b k ⊎ (r.joined ≤ b)
    by_teller m b k r e (inl t) = inl t
    by_teller m b k r e (inr (one, l)) =
        let same : m ≡ n = omega (arith, one) in
        let f : Some r ≡ Some old = sym e ∙ ap (slice_get w.nodes) same ∙ q.stands in let g : r ≡ old = cc in
        let j = ap (λ (x : ReplicaState S C). x.joined) g in let low = l.low in inr (omega (arith, j, low))

-- what is acknowledged stays within the lists
pub move_within : {S C O : Type 0} (w : GroupWorld S C O) (h : History C) (line : ℕ → Option (Line C)) (n : ℕ)
    (old new : ReplicaState S C) (given : List (Effect C O)) → MovesAt w h line n old new given →
    ((m b k : ℕ) → Acknowledged w h m b k → (k ≡ 0) ⊎ ((l : Line C) × (h.line b ≡ Some l) × (k ≤ length l.list))) →
    (m b k : ℕ) → Acknowledged (moved w n new given) (with_lines h line) m b k →
    (k ≡ 0) ⊎ ((l : Line C) × (line b ≡ Some l) × (k ≤ length l.list))
move_within {S = S} {C = C} {O = O} w h line n old new given q within m b k t = by_teller (q.tells m b k t)
  where
    by_line : (k ≡ 0) ⊎ ((l : Line C) × (h.line b ≡ Some l) × (k ≤ length l.list)) →
        (k ≡ 0) ⊎ ((l : Line C) × (line b ≡ Some l) × (k ≤ length l.list))
    by_line (inl zero) = inl zero
    by_line (inr (l, e, below)) =
        let y = q.lines b l e in let z = prefix_length y.3 in inr (y.0, y.1, omega (arith, below, z))

    by_teller : Acknowledged w h m b k ⊎ ((m ≡ n + 1) × TellsNow line old new b k) →
        (k ≡ 0) ⊎ ((l : Line C) × (line b ≡ Some l) × (k ≤ length l.list))
    by_teller (inl before) = by_line (within m b k before)
    by_teller (inr (one, l)) = inr (l.told, l.lined, l.within)
