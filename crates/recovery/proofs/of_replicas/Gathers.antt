-- Gathers.antt: one node takes the answers of all others but the last, and gives nothing for them.
use Rattle.std.proofs.Common.{◌≡◌, ℕ, ◌+◌, List, [], ◌∷◌, ◌++◌, length, false, Some, refl, ap, sym, ◌∙◌, append_assoc}
use Rattle.std.specs.Prelude.{slice_get}
use Rattle.machine.specs.Machine.{Rules}
use Rattle.agreement.specs.whole_logs.Messages.{Body}
use Rattle.agreement.specs.whole_logs.Protocol.{received}
use Rattle.agreement.specs.whole_logs.Replica.{ReplicaState}
use Rattle.agreement.specs.whole_logs.StepOutcome.{Outcome}
use Rattle.agreement.specs.Moments.{Moment}
use Rattle.agreement.specs.World.{messages, outputs}
use Rattle.lists.specs.Lists.{In}
use Rattle.lists.proofs.Places.{get_set, get_set_other}
use Rattle.recovery.specs.replicas.Deliveries.{NumbersAreApart, Delivered, after_outcome, numbers_from}
use Rattle.recovery.specs.replicas.Deliveries.Delivered.{all_came, to_node}
use Rattle.recovery.proofs.of_replicas.Broadcasts.{from_each}
use Rattle.recovery.proofs.of_replicas.Standing.{StandFrom, stand_in}

pub nothing_after : {X : Type 0} (xs : List X) → xs ++ [] ≡ xs
nothing_after [] = refl
nothing_after (x ∷ xs) = ap (λ us. x ∷ us) (nothing_after xs)

some_left : (ms : List ℕ) (last : ℕ) → ms ++ last ∷ [] ≡ [] → ⊥
some_left [] last e = cc
some_left (m ∷ ms) last e = cc

-- after them
pub record Gathered {S C O : Type 0} (rules : Rules S C O) (b index : ℕ) (one : ReplicaState S C) (a : Moment S C O) (ks : List ℕ) : Type 0 where
  pub after : Moment S C O
  pub delivered : Delivered rules b a ks after
  pub master : after.master ≡ a.master
  pub sent : after.world.sent ≡ a.world.sent
  pub stands : slice_get after.world.nodes index ≡ Some one
  pub others : (n : ℕ) → (n ≡ index → ⊥) → slice_get after.world.nodes n ≡ slice_get a.world.nodes n

-- the node at an index, whose state is known by whose answers came, and whose are still to come
module _ {S C O : Type 0} (rules : Rules S C O) (b index : ℕ) (reply : Body C) (state : List ℕ → List ℕ → ReplicaState S C)
    (runs : (came left : List ℕ) → (state came left).stopped ≡ false) (joined : (came left : List ℕ) → (state came left).joined ≡ b)
    (goes_on : (came : List ℕ) (m : ℕ) (left : List ℕ) → (left ≡ [] → ⊥) → (In m left → ⊥) →
    received rules (state came (m ∷ left)) m reply ≡ record { state = state (came ++ m ∷ []) left; effects = [] }) where
  -- the first of them, if the others then do
  first_comes : (a : Moment S C O) (k m : ℕ) (came ms : List ℕ) (last : ℕ) → (In m (ms ++ last ∷ []) → ⊥) →
      slice_get a.world.sent k ≡ Some (index + 1, record { from = m; body = reply }) → StandFrom a.world.sent (k + 1) (from_each (index + 1) reply ms) →
      slice_get a.world.nodes index ≡ Some (state came (m ∷ (ms ++ last ∷ []))) →
      ((next : Moment S C O) → StandFrom next.world.sent (k + 1) (from_each (index + 1) reply ms) →
      slice_get next.world.nodes index ≡ Some (state (came ++ m ∷ []) (ms ++ last ∷ [])) →
      Gathered rules b index (state ((came ++ m ∷ []) ++ ms) (last ∷ [])) next (numbers_from (k + 1) (length ms))) →
      Gathered rules b index (state (came ++ m ∷ ms) (last ∷ [])) a (numbers_from k (length (m ∷ ms)))
  first_comes a k m came ms last apart first stand stands do_rest =
      record {
        after = rest.after;
        delivered = to_node k index (state came (m ∷ (ms ++ last ∷ []))) (record { from = m; body = reply }) first stands
            (runs came (m ∷ (ms ++ last ∷ []))) (ap (λ (o : Outcome S C O). outputs o.effects) does)
            (ap (λ (o : Outcome S C O). o.state.joined) does ∙ joined (came ++ m ∷ []) (ms ++ last ∷ [])) rest.delivered;
        master = rest.master;
        sent = rest.sent ∙ same;
        stands = rest.stands ∙ ap (λ (l : List ℕ). Some (state l (last ∷ []))) (append_assoc came (m ∷ []) ms);
        others = λ n ne. rest.others n ne ∙ get_set_other a.world.nodes index n _ ne;
      }
    where
      does : received rules (state came (m ∷ (ms ++ last ∷ []))) m reply ≡ record { state = state (came ++ m ∷ []) (ms ++ last ∷ []); effects = [] }
      does = goes_on came m (ms ++ last ∷ []) (some_left ms last) apart

      next : Moment S C O
      next = after_outcome index (received rules (state came (m ∷ (ms ++ last ∷ []))) m reply) a

      same : next.world.sent ≡ a.world.sent
      same = ap (λ (o : Outcome S C O). a.world.sent ++ messages o.effects) does ∙ nothing_after a.world.sent

      rest : Gathered rules b index (state ((came ++ m ∷ []) ++ ms) (last ∷ [])) next (numbers_from (k + 1) (length ms))
      rest =
          do_rest next (stand_in a.world.sent next.world.sent (k + 1) (from_each (index + 1) reply ms) (sym same) stand)
          (get_set a.world.nodes index _ _ stands ∙ ap (λ (o : Outcome S C O). Some o.state) does)

  -- all but the last, in turn
  pub all_but_last : (a : Moment S C O) (k : ℕ) (came ms : List ℕ) (last : ℕ) → NumbersAreApart (ms ++ last ∷ []) →
      StandFrom a.world.sent k (from_each (index + 1) reply ms) → slice_get a.world.nodes index ≡ Some (state came (ms ++ last ∷ [])) →
      Gathered rules b index (state (came ++ ms) (last ∷ [])) a (numbers_from k (length ms))
  all_but_last a k came [] last apart stand stands =
      record {
        after = a;
        delivered = all_came;
        master = refl;
        sent = refl;
        stands = stands ∙ ap (λ (l : List ℕ). Some (state l (last ∷ []))) (sym (nothing_after came));
        others = λ n ne. refl;
      }
  all_but_last a k came (m ∷ ms) last (apart, others) (first, stand) stands =
      first_comes a k m came ms last apart first stand stands
      (λ next s t. all_but_last next (k + 1) (came ++ m ∷ []) ms last others s t)
