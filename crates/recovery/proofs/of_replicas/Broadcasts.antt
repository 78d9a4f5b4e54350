-- Broadcasts.antt: a message comes to each of some nodes, and each of them answers it to one.
use Rattle.std.proofs.Common.{◌≡◌, ℕ, ◌+◌, List, [], ◌∷◌, ◌++◌, length, map, false, Some, refl, ap, sym, ◌∙◌, subst, append_assoc}
use Rattle.std.specs.Prelude.{slice_get}
use Rattle.machine.specs.Machine.{Rules}
use Rattle.agreement.specs.whole_logs.Messages.{Body, Effect, Message}
use Rattle.agreement.specs.whole_logs.Messages.Effect.{To}
use Rattle.agreement.specs.whole_logs.Protocol.{received}
use Rattle.agreement.specs.whole_logs.Replica.{ReplicaState}
use Rattle.agreement.specs.Moments.{Moment}
use Rattle.agreement.specs.World.{messages, outputs}
use Rattle.lists.specs.Lists.{In}
use Rattle.lists.specs.Lists.In.{here, there}
use Rattle.lists.proofs.Places.{get_set, get_set_other}
use Rattle.recovery.specs.replicas.Deliveries.{NumbersAreApart, Delivered, NodeIs, after_outcome, numbers_from}
use Rattle.recovery.specs.replicas.Deliveries.Delivered.{all_came, to_node}
use Rattle.recovery.proofs.of_replicas.Standing.{StandFrom, stand_more}

-- what a node does to it: it answers, and then this holds for it
pub record Answers {S C O : Type 0} (rules : Rules S C O) (b p : ℕ) (body reply : Body C) (After : ℕ → ReplicaState S C → Type 0)
    (m : ℕ) (r : ReplicaState S C) : Type 0 where
  pub runs : r.stopped ≡ false
  pub joined : (received rules r p body).state.joined ≡ b
  pub sends : (received rules r p body).effects ≡ To p (record { from = m; body = reply }) ∷ []
  pub after : After m (received rules r p body).state

abbrev pub to_each : {C : Type 0} → ℕ → Body C → List ℕ → List (ℕ × Message C)
to_each p body ms = map (λ (m : ℕ). (m, record { from = p; body = body })) ms

abbrev pub from_each : {C : Type 0} → ℕ → Body C → List ℕ → List (ℕ × Message C)
from_each p reply ms = map (λ (m : ℕ). (p, record { from = m; body = reply })) ms

-- after it
pub record Answered {S C O : Type 0} (rules : Rules S C O) (b p : ℕ) (reply : Body C) (After : ℕ → ReplicaState S C → Type 0)
    (a : Moment S C O) (ks ms : List ℕ) : Type 0 where
  pub after : Moment S C O
  pub delivered : Delivered rules b a ks after
  pub master : after.master ≡ a.master
  pub sent : after.world.sent ≡ a.world.sent ++ from_each p reply ms
  pub each : (m : ℕ) → In m ms → NodeIs After after.world.nodes m
  pub others : (n : ℕ) → (In (n + 1) ms → ⊥) → slice_get after.world.nodes n ≡ slice_get a.world.nodes n

module _ {S C O : Type 0} (rules : Rules S C O) (b p : ℕ) (body reply : Body C) (Before After : ℕ → ReplicaState S C → Type 0)
    (answers : (m : ℕ) (r : ReplicaState S C) → Before m r → Answers rules b p body reply After m r) where
  -- the first of them, if the others then do
  first_answers : (a : Moment S C O) (k m : ℕ) (ms : List ℕ) → (In m ms → ⊥) → slice_get a.world.sent k ≡ Some (m, record { from = p; body = body }) →
      StandFrom a.world.sent (k + 1) (to_each p body ms) → ((j : ℕ) → In j (m ∷ ms) → NodeIs Before a.world.nodes j) →
      ((next : Moment S C O) → StandFrom next.world.sent (k + 1) (to_each p body ms) → ((j : ℕ) → In j ms → NodeIs Before next.world.nodes j) →
      Answered rules b p reply After next (numbers_from (k + 1) (length ms)) ms) →
      Answered rules b p reply After a (numbers_from k (length (m ∷ ms))) (m ∷ ms)
  first_answers a k m ms apart first stand before do_rest =
      record {
        after = then_all.after;
        delivered = to_node k one.index one.replica (record { from = p; body = body })
            (subst (λ j. slice_get a.world.sent k ≡ Some (j, record { from = p; body = body })) one.number first)
            one.stands does.runs (ap outputs does.sends) does.joined then_all.delivered;
        master = then_all.master;
        sent = then_all.sent
            ∙ ap (λ (l : List (ℕ × Message C)). l ++ from_each p reply ms) more
            ∙ append_assoc a.world.sent ((p, record { from = m; body = reply }) ∷ []) (from_each p reply ms);
        each = λ j i. by_each j i;
        others = λ n out. then_all.others n (λ i. out (there i))
            ∙ get_set_other a.world.nodes one.index n (received rules one.replica p body).state (λ e. out (subst (λ j. In j (m ∷ ms)) (one.number ∙ ap (λ j. j + 1) (sym e)) here));
      }
    where
      one : NodeIs Before a.world.nodes m
      one = before m here

      does : Answers rules b p body reply After m one.replica
      does = answers m one.replica one.is

      next : Moment S C O
      next = after_outcome one.index (received rules one.replica p body) a

      more : next.world.sent ≡ a.world.sent ++ (p, record { from = m; body = reply }) ∷ []
      more = ap (λ (es : List (Effect C O)). a.world.sent ++ messages es) does.sends

      still : (j : ℕ) → In j ms → NodeIs Before next.world.nodes j
      still j i =
          let z = before j (there i) in
          record {
            index = z.index;
            number = z.number;
            replica = z.replica;
            stands = get_set_other a.world.nodes one.index z.index (received rules one.replica p body).state
                (λ e. apart (subst (λ (x : ℕ). In x ms) (z.number ∙ ap (λ (x : ℕ). x + 1) e ∙ sym one.number) i)) ∙ z.stands;
            is = z.is;
          }

      then_all : Answered rules b p reply After next (numbers_from (k + 1) (length ms)) ms
      then_all = do_rest next
          (stand_more a.world.sent (messages (received rules one.replica p body).effects) (k + 1) (to_each p body ms) stand) still

      answered_one : NodeIs After next.world.nodes m
      answered_one =
          record {
            index = one.index;
            number = one.number;
            replica = (received rules one.replica p body).state;
            stands = get_set a.world.nodes one.index one.replica (received rules one.replica p body).state one.stands;
            is = does.after;
          }

      by_each : (j : ℕ) → In j (m ∷ ms) → NodeIs After then_all.after.world.nodes j
      by_each j here =
          record {
            index = one.index;
            number = one.number;
            replica = answered_one.replica;
            stands = then_all.others one.index (λ i. apart (subst (λ (x : ℕ). In x ms) (sym one.number) i)) ∙ answered_one.stands;
            is = does.after;
          }
      by_each j (there i) = then_all.each j i

  -- all of them, in turn
  pub all_answer : (a : Moment S C O) (k : ℕ) (ms : List ℕ) → NumbersAreApart ms → StandFrom a.world.sent k (to_each p body ms) →
      ((m : ℕ) → In m ms → NodeIs Before a.world.nodes m) → Answered rules b p reply After a (numbers_from k (length ms)) ms
  all_answer a k [] apart stand before =
      record {
        after = a;
        delivered = all_came;
        master = refl;
        sent = sym (nothing_after a.world.sent);
        each = λ m i. elim i [ ];
        others = λ n out. refl;
      }
    where
      nothing_after : {X : Type 0} (xs : List X) → xs ++ [] ≡ xs
      nothing_after [] = refl
      nothing_after (x ∷ xs) = ap (λ us. x ∷ us) (nothing_after xs)
  all_answer a k (m ∷ ms) (apart, rest) (first, stand) before =
      first_answers a k m ms apart first stand before (λ next s b. all_answer next (k + 1) ms rest s b)
