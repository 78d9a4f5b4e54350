-- WayChanged.antt: if bytes come or are sent on one connection of a client, the same happens on the
-- model's at its index.
use Rattle.std.proofs.Common.{◌≡◌, ℕ, suc, ◌+◌, ◌-◌, List, [], ◌∷◌, ◌++◌, length, take, drop, reverse, set, slice_index_or, Option, Some, None, refl, ap, ap₂, sym, subst, ◌∙◌, append_assoc, arith}
use Rattle.std.proofs.lemmas.List.{append-nil, append_cancel_left, length-append, length-reverse, length-set, set_at, take-append-drop}
use Rattle.std.specs.Prelude.{IfSome, slice_get}
use Rattle.headline.specs.byte_world.World.{ClientPipes, Pipe, with_pipe}
use Rattle.world_pipes.specs.declared.pair.PipePair.{PipePair}
use Rattle.world_pipes.specs.FollowingBytes.{FollowsDown, FollowsUp, HasPair, SwappingFollows, TakingUpFollows, index_in_model}
use Rattle.world_pipes.specs.Piped.{Piped}
use Rattle.world_pipes.specs.StandsFor.{ArePipePairs, IsHolding, IsPipePair, ClientStandsFor}
use Rattle.world_pipes.proofs.Newest.{last_splits}
use Rattle.world_pipes.proofs.Pairs.{last_same}
use Rattle.world_pipes.proofs.PairsApart.{get_seam, parted, pipes_joined, pipes_parted, reverse_seam, stands_below}

-- ---- the connection that is held

-- with other bytes on the connection of this index, or on another one
held_with : (old : Piped) (m : ClientPipes) (front back : List PipePair) (pair later : PipePair) (ahead behind : List Pipe) (p q : Pipe) →
    IsHolding old m → old.pairs ≡ front ++ pair ∷ back → m.pipes ≡ ahead ++ p ∷ behind → length ahead ≡ length back → q.came ≡ p.came →
    (p.up ≡ pair.up → q.up ≡ later.up) → IsHolding (record old { pairs = front ++ later ∷ back }) (record m { pipes = ahead ++ q ∷ behind })
held_with old m front [] pair later [] behind p q h pairs pipes counted came up =
    let newest : pair ≡ h.pair = last_same front h.older pair h.pair (sym pairs ∙ h.pairs) in
    let first : p ≡ h.pipe = cc (sym pipes ∙ h.pipes) in
    record {
      connection = h.connection;
      others = h.others;
      connections = h.connections;
      pipe = q;
      further = behind;
      pipes = refl;
      older = front;
      pair = later;
      pairs = refl;
      up = up (ap (λ (p : Pipe). p.up) first ∙ h.up ∙ ap (λ (w : PipePair). w.up) (sym newest));
      came = came ∙ ap (λ (p : Pipe). p.came) first ∙ h.came;
      sent = h.sent;
    }
held_with old m front [] pair later (one ∷ ahead) behind p q h pairs pipes counted came up =
    let wrong : suc (length ahead) ≡ 0 = counted in absurd (omega (arith, wrong))
held_with old m front (next ∷ back) pair later [] behind p q h pairs pipes counted came up =
    let wrong : 0 ≡ suc (length back) = counted in absurd (omega (arith, wrong))
held_with old m front (next ∷ back) pair later (one ∷ ahead) behind p q h pairs pipes counted came up =
    let all = next ∷ back in
    let mid = take (length all - 1) all in
    let last = slice_index_or all (length all - 1) next in
    let splits : all ≡ mid ++ last ∷ [] = last_splits all next (omega arith) in
    let newest : last ≡ h.pair =
    last_same (front ++ pair ∷ mid) h.older last h.pair
    (append_assoc front (pair ∷ mid) (last ∷ []) ∙ ap (λ l. front ++ pair ∷ l) (sym splits) ∙ sym pairs ∙ h.pairs) in
    let first : one ≡ h.pipe = cc (sym pipes ∙ h.pipes) in
    record {
      connection = h.connection;
      others = h.others;
      connections = h.connections;
      pipe = one;
      further = ahead ++ q ∷ behind;
      pipes = refl;
      older = front ++ later ∷ mid;
      pair = last;
      pairs = ap (λ l. front ++ later ∷ l) splits ∙ sym (append_assoc front (later ∷ mid) (last ∷ []));
      up = ap (λ (p : Pipe). p.up) first ∙ h.up ∙ ap (λ (w : PipePair). w.up) (sym newest);
      came = ap (λ (p : Pipe). p.came) first ∙ h.came;
      sent = h.sent;
    }

-- ---- one connection, on both sides

-- the model's connection at the index of this one; and what stands for it with other bytes on both
pub record MayChange (at : ℕ) (old : Piped) (pair : PipePair) (m : ClientPipes) : Type 0 where
  pub there : HasPair at old pair m
  pub stands : (later : PipePair) (q : Pipe) → IsPipePair later q → q.came ≡ there.pipe.came → (there.pipe.up ≡ pair.up → q.up ≡ later.up) →
      ClientStandsFor (record old { pairs = set old.pairs at later }) (with_pipe (index_in_model at old) q m)

pub may_change : (at : ℕ) (old : Piped) (pair : PipePair) (m : ClientPipes) → ClientStandsFor old m → slice_get old.pairs at ≡ Some pair → MayChange at old pair m
may_change at old pair m s found =
    let w = parted old.pairs at pair found in
    let q = pipes_parted (reverse w.back) pair (reverse w.front) m.pipes
    (subst (λ l. ArePipePairs l m.pipes) (ap reverse w.is ∙ reverse_seam w.front pair w.back) s.pairs) in
    let all : length old.pairs ≡ length w.front + suc (length w.back) = ap length w.is ∙ length-append w.front (pair ∷ w.back) in
    let index : length q.ahead ≡ index_in_model at old = omega (arith, all, w.counted, q.counted, length-reverse w.back) in
    let pipes : length m.pipes ≡ length q.ahead + suc (length q.behind) = ap length q.is ∙ length-append q.ahead (q.pipe ∷ q.behind) in
    let one = stands_below m.connections (index_in_model at old) (omega (arith, pipes, index, s.many)) in
    record {
      there = record {
        connection = one.one;
        pipe = q.pipe;
        connected = one.at;
        piped = ap₂ (λ (l : List Pipe) i. slice_get l i) q.is (sym index) ∙ get_seam q.ahead q.pipe q.behind;
        is_pair = q.is_pair;
      };
      stands = λ later p one_way came up.
          let pairs : set old.pairs at later ≡ w.front ++ later ∷ w.back = ap (λ l. set l at later) w.is ∙ set_at w.front pair w.back later at w.counted in
          let set_so : set m.pipes (index_in_model at old) p ≡ q.ahead ++ p ∷ q.behind =
          ap (λ l. set l (index_in_model at old) p) q.is ∙ set_at q.ahead q.pipe q.behind p (index_in_model at old) index in
          subst (λ l. ClientStandsFor (record old { pairs = l }) (with_pipe (index_in_model at old) p m)) (sym pairs)
          (subst (λ l. ClientStandsFor (record old { pairs = w.front ++ later ∷ w.back }) (record m { pipes = l })) (sym set_so)
          (record {
            keeper = s.keeper;
            fits = s.fits;
            accepted = s.accepted;
            many = s.many ∙ sym (length-set m.pipes (index_in_model at old) p) ∙ ap length set_so;
            pairs = subst (λ l. ArePipePairs l (q.ahead ++ p ∷ q.behind)) (sym (reverse_seam w.front later w.back))
                (pipes_joined (reverse w.back) later (reverse w.front) q.ahead p q.behind q.are_ahead one_way q.are_behind);
            held = λ on. held_with old m w.front w.back pair later q.ahead q.behind q.pipe p (s.held on) w.is q.is (q.counted ∙ length-reverse w.back) came up;
          }));
    }

-- ---- bytes that come up, and that go down

-- after what came, what is in transit is what is left of it
left_up : (count : ℕ) (pair : PipePair) (p : Pipe) (w : IsPipePair pair p) → p.up ≡ pair.up → drop count pair.up ++ w.up.rest ≡ drop count pair.up
left_up count pair p w same =
    ap (λ l. drop count pair.up ++ l) (append_cancel_left pair.up w.up.rest [] (sym w.up.is ∙ same ∙ sym (append-nil pair.up))) ∙ append-nil (drop count pair.up)

pub taking_up_follows : (at count : ℕ) (old new : Piped) →
    IfSome (slice_get old.pairs at) (λ pair. new ≡ record old { pairs = set old.pairs at (record pair { up = drop count pair.up }) }) → TakingUpFollows at count old new
taking_up_follows at count old new is m s = by (slice_get old.pairs at) refl is
  where
    by : (found : Option PipePair) → slice_get old.pairs at ≡ found → IfSome found (λ pair. new ≡ record old { pairs = set old.pairs at (record pair { up = drop count pair.up }) }) →
        IfSome found (λ pair. FollowsUp count at old pair new m)
    by None found is = tt
    by (Some pair) found is =
        let c = may_change at old pair m s found in
        let w = c.there.is_pair in
        let rest = drop count pair.up ++ w.up.rest in
        record {
          there = c.there;
          rest = rest;
          up = w.up.is ∙ ap (λ l. l ++ w.up.rest) (sym (take-append-drop count pair.up)) ∙ append_assoc (take count pair.up) (drop count pair.up) w.up.rest;
          stands = subst (λ p. ClientStandsFor p (with_pipe (index_in_model at old) (record c.there.pipe { up = rest }) m)) (sym is)
              (c.stands (record pair { up = drop count pair.up }) (record c.there.pipe { up = rest })
              (record { node = w.node; port = w.port; up = record { rest = w.up.rest; is = refl }; down = w.down }) refl (left_up count pair c.there.pipe w));
        }

pub swapping_follows : (at : ℕ) (bytes : List ℕ) (old new : Piped) →
    IfSome (slice_get old.pairs at) (λ pair. new ≡ record old { pairs = set old.pairs at (record pair { down = bytes }) }) → SwappingFollows at bytes old new
swapping_follows at bytes old new is m s = by (slice_get old.pairs at) refl is
  where
    by : (found : Option PipePair) → slice_get old.pairs at ≡ found → IfSome found (λ pair. new ≡ record old { pairs = set old.pairs at (record pair { down = bytes }) }) →
        IfSome found (λ pair. FollowsDown bytes at old pair new m)
    by None found is = tt
    by (Some pair) found is =
        let c = may_change at old pair m s found in
        let w = c.there.is_pair in
        record {
          there = c.there;
          stands = subst (λ p. ClientStandsFor p (with_pipe (index_in_model at old) (record c.there.pipe { down = bytes }) m)) (sym is)
              (c.stands (record pair { down = bytes }) (record c.there.pipe { down = bytes }) (record { node = w.node; port = w.port; up = w.up; down = refl }) refl (λ e. e));
        }
