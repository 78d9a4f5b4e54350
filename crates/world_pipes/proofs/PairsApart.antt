-- WaysApart.antt: one connection of a client and the model's for it, each with those before and
-- after it.
use Rattle.std.proofs.Common.{◌≡◌, ℕ, zero, suc, ◌<◌, List, [], ◌∷◌, ◌++◌, length, reverse, Some, refl, ap, ◌∙◌, append_assoc, arith}
use Rattle.std.proofs.lemmas.List.{reverse-append}
use Rattle.std.specs.Prelude.{slice_get}
use Rattle.headline.specs.byte_world.World.{Pipe}
use Rattle.world_pipes.specs.declared.pair.PipePair.{PipePair}
use Rattle.world_pipes.specs.StandsFor.{ArePipePairs, IsPipePair}

-- ---- an index of a list

pub record Parted {X : Type 0} (xs : List X) (i : ℕ) (x : X) : Type 0 where
  pub front : List X
  pub back : List X
  pub is : xs ≡ front ++ x ∷ back
  pub counted : length front ≡ i

pub parted : {X : Type 0} (xs : List X) (i : ℕ) (x : X) → slice_get xs i ≡ Some x → Parted xs i x
parted [] i x at = cc
parted (y ∷ xs) zero x at = record { front = []; back = xs; is = ap (λ z. z ∷ xs) cc; counted = refl }
parted (y ∷ xs) (suc i) x at =
    let p = parted xs i x at in
    record { front = y ∷ p.front; back = p.back; is = ap (λ l. y ∷ l) p.is; counted = ap suc p.counted }

pub get_seam : {X : Type 0} (front : List X) (x : X) (back : List X) → slice_get (front ++ x ∷ back) (length front) ≡ Some x
get_seam [] x back = refl
get_seam (y ∷ front) x back = get_seam front x back

pub record Stands {X : Type 0} (xs : List X) (i : ℕ) : Type 0 where
  pub one : X
  pub at : slice_get xs i ≡ Some one

pub stands_below : {X : Type 0} (xs : List X) (i : ℕ) → i < length xs → Stands xs i
stands_below [] i below = absurd (omega (arith, below))
stands_below (x ∷ xs) zero below = record { one = x; at = refl }
stands_below (x ∷ xs) (suc i) below =
    let few : suc i < suc (length xs) = below in
    let s = stands_below xs i (omega (arith, few)) in
    record { one = s.one; at = s.at }

pub reverse_seam : {X : Type 0} (front : List X) (x : X) (back : List X) → reverse (front ++ x ∷ back) ≡ reverse back ++ x ∷ reverse front
reverse_seam front x back =
    reverse-append front (x ∷ back)
    ∙ ap (λ l. l ++ reverse front) (reverse-append (x ∷ []) back)
    ∙ append_assoc (reverse back) (x ∷ []) (reverse front)

-- ---- connections, and the model's

-- the model's connection for this one
pub record PipesParted (newer : List PipePair) (pair : PipePair) (older : List PipePair) (pipes : List Pipe) : Type 0 where
  pub ahead : List Pipe
  pub pipe : Pipe
  pub behind : List Pipe
  pub is : pipes ≡ ahead ++ pipe ∷ behind
  pub counted : length ahead ≡ length newer
  pub are_ahead : ArePipePairs newer ahead
  pub is_pair : IsPipePair pair pipe
  pub are_behind : ArePipePairs older behind

pub pipes_parted : (newer : List PipePair) (pair : PipePair) (older : List PipePair) (pipes : List Pipe) → ArePipePairs (newer ++ pair ∷ older) pipes → PipesParted newer pair older pipes
pipes_parted [] pair older [] are = absurd are
pipes_parted [] pair older (p ∷ pipes) are =
    record { ahead = []; pipe = p; behind = pipes; is = refl; counted = refl; are_ahead = tt; is_pair = are.0; are_behind = are.1 }
pipes_parted (w ∷ newer) pair older [] are = absurd are
pipes_parted (w ∷ newer) pair older (p ∷ pipes) are =
    let q = pipes_parted newer pair older pipes are.1 in
    record {
      ahead = p ∷ q.ahead;
      pipe = q.pipe;
      behind = q.behind;
      is = ap (λ l. p ∷ l) q.is;
      counted = ap suc q.counted;
      are_ahead = (are.0, q.are_ahead);
      is_pair = q.is_pair;
      are_behind = q.are_behind;
    }

pub pipes_joined : (newer : List PipePair) (pair : PipePair) (older : List PipePair) (ahead : List Pipe) (p : Pipe) (behind : List Pipe) → ArePipePairs newer ahead → IsPipePair pair p →
    ArePipePairs older behind → ArePipePairs (newer ++ pair ∷ older) (ahead ++ p ∷ behind)
pipes_joined [] pair older [] p behind are one others = (one, others)
pipes_joined [] pair older (q ∷ ahead) p behind are one others = absurd are
pipes_joined (w ∷ newer) pair older [] p behind are one others = absurd are
pipes_joined (w ∷ newer) pair older (q ∷ ahead) p behind are one others = (are.0, pipes_joined newer pair older ahead p behind are.1 one others)
