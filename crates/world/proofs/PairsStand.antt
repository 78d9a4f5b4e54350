-- WaysStand.antt: one connection of a client changes, and the model's with it.
use Rattle.std.proofs.Common.{◌≡◌, ℕ, zero, suc, List, [], ◌∷◌, Some, reverse, set, slice_get, refl, sym, ap, ◌∙◌, subst}
use Rattle.std.proofs.lemmas.List.{length-set}
use Rattle.std.proofs.lemmas.Option.{same_Some, none-some}
use Rattle.exactly_once.specs.Sides.{ClientConnection}
use Rattle.headline.specs.byte_world.World.{ClientPipes, Pipe, with_pipe}
use Rattle.world_pipes.specs.declared.pair.PipePair.{PipePair}
use Rattle.world_pipes.specs.Piped.{Piped}
use Rattle.world_pipes.specs.StandsFor.{ArePipePairs, IsHolding, IsPipePair, ClientStandsFor}
use Rattle.world_pipes.proofs.of_clients.Turned.{IsTurned, beside, last_turned, turned_at, turned_last}

-- ---- all connections of a client

record PairAt (pipes : List Pipe) (j : ℕ) (pair : PipePair) : Type 0 where
  p : Pipe
  found : slice_get pipes j ≡ Some p
  is : IsPipePair pair p

pair_at : (pairs : List PipePair) (pipes : List Pipe) (j : ℕ) (pair : PipePair) → ArePipePairs pairs pipes → slice_get pairs j ≡ Some pair → PairAt pipes j pair
pair_at [] pipes j pair are e = absurd (none-some pair e)
pair_at (w ∷ pairs) [] j pair are e = absurd are
pair_at (w ∷ pairs) (p ∷ pipes) zero pair are e = record { p = p; found = refl; is = subst (λ (z : PipePair). IsPipePair z p) (same_Some w pair e) are.0 }
pair_at (w ∷ pairs) (p ∷ pipes) (suc j) pair are e = let r = pair_at pairs pipes j pair are.1 e in record { p = r.p; found = r.found; is = r.is }

pairs_set : (pairs : List PipePair) (pipes : List Pipe) (j : ℕ) (pair : PipePair) (p : Pipe) → ArePipePairs pairs pipes → IsPipePair pair p → ArePipePairs (set pairs j pair) (set pipes j p)
pairs_set [] [] j pair p are is = tt
pairs_set [] (q ∷ pipes) j pair p are is = absurd are
pairs_set (w ∷ pairs) [] j pair p are is = absurd are
pairs_set (w ∷ pairs) (q ∷ pipes) zero pair p are is = (is, are.1)
pairs_set (w ∷ pairs) (q ∷ pipes) (suc j) pair p are is = (are.0, pairs_set pairs pipes j pair p are.1 is)

-- ---- one of them

-- its connection and its pipe in the model, where the newest comes first
pub record PipeAt (client : Piped) (m : ClientPipes) (at : ℕ) (pair : PipePair) : Type 0 where
  pub turned : IsTurned client.pairs at pair
  pub κ : ClientConnection
  pub p : Pipe
  pub connection : slice_get m.connections turned.place ≡ Some κ
  pub pipe : slice_get m.pipes turned.place ≡ Some p
  pub is : IsPipePair pair p

pub pipe_at : (client : Piped) (m : ClientPipes) (at : ℕ) (pair : PipePair) → ClientStandsFor client m → slice_get client.pairs at ≡ Some pair → PipeAt client m at pair
pipe_at client m at pair s found =
    let t = turned_at client.pairs at pair found in
    let w = pair_at (reverse client.pairs) m.pipes t.place pair s.pairs t.found in
    let c = beside m.connections m.pipes t.place w.p s.many w.found in
    record { turned = t; κ = c.0; p = w.p; connection = c.1; pipe = w.found; is = w.is }

-- ---- it changes

abbrev pub with_pair : ℕ → PipePair → Piped → Piped
with_pair at pair client = record client { pairs = set client.pairs at pair }

holds_on : (client : Piped) (m : ClientPipes) (at : ℕ) (pair later : PipePair) (p q : Pipe) (t : IsTurned client.pairs at pair) (j : ℕ) → t.place ≡ j → slice_get m.pipes j ≡ Some p
    → (p.up ≡ pair.up → q.up ≡ later.up) → q.came ≡ p.came → IsHolding client m → IsHolding (with_pair at later client) (with_pipe j q m)
holds_on client m at pair later p q t zero here found up came h =
    let whole = last_turned client.pairs h.older h.pair h.pairs in
    let same : h.pair ≡ pair = same_Some h.pair pair (sym (ap (λ (l : List PipePair). slice_get l 0) whole) ∙ ap (slice_get (reverse client.pairs)) (sym here) ∙ t.found) in
    let one : h.pipe ≡ p = same_Some h.pipe p (sym (ap (λ (l : List Pipe). slice_get l 0) h.pipes) ∙ found) in
    record {
      connection = h.connection;
      others = h.others;
      connections = h.connections;
      pipe = q;
      further = h.further;
      pipes = ap (λ (l : List Pipe). set l 0 q) h.pipes;
      older = reverse (reverse h.older);
      pair = later;
      pairs = turned_last (set client.pairs at later) (reverse h.older) later
          (t.set_there later ∙ ap (λ (n : ℕ). set (reverse client.pairs) n later) here ∙ ap (λ (l : List PipePair). set l 0 later) whole);
      up = up (ap (λ (z : Pipe). z.up) (sym one) ∙ h.up ∙ ap (λ (z : PipePair). z.up) same);
      came = came ∙ ap (λ (z : Pipe). z.came) (sym one) ∙ h.came;
      sent = h.sent;
    }
holds_on client m at pair later p q t (suc k) here found up came h =
    let whole = last_turned client.pairs h.older h.pair h.pairs in
    record {
      connection = h.connection;
      others = h.others;
      connections = h.connections;
      pipe = h.pipe;
      further = set h.further k q;
      pipes = ap (λ (l : List Pipe). set l (suc k) q) h.pipes;
      older = reverse (set (reverse h.older) k later);
      pair = h.pair;
      pairs = turned_last (set client.pairs at later) (set (reverse h.older) k later) h.pair
          (t.set_there later ∙ ap (λ (n : ℕ). set (reverse client.pairs) n later) here ∙ ap (λ (l : List PipePair). set l (suc k) later) whole);
      up = h.up;
      came = h.came;
      sent = h.sent;
    }

pub pair_changes : (client : Piped) (m : ClientPipes) (at : ℕ) (pair later : PipePair) (x : PipeAt client m at pair) (q : Pipe) → ClientStandsFor client m → IsPipePair later q
    → (x.p.up ≡ pair.up → q.up ≡ later.up) → q.came ≡ x.p.came → ClientStandsFor (with_pair at later client) (with_pipe x.turned.place q m)
pair_changes client m at pair later x q s is up came =
    record {
      keeper = s.keeper;
      fits = s.fits;
      accepted = s.accepted;
      many = s.many ∙ sym (length-set m.pipes x.turned.place q);
      pairs = subst (λ (l : List PipePair). ArePipePairs l (set m.pipes x.turned.place q)) (sym (x.turned.set_there later))
          (pairs_set (reverse client.pairs) m.pipes x.turned.place later q s.pairs is);
      held = λ up_there. holds_on client m at pair later x.p q x.turned x.turned.place refl x.pipe up came (s.held up_there);
    }
