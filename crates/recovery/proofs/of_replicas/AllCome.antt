-- AllCome.antt: one node takes the answers of all others, the last one too.
use Rattle.std.proofs.Common.{◌≡◌, ℕ, ◌+◌, List, [], ◌∷◌, ◌++◌, length, false, Some, refl, ap, sym, ◌∙◌, subst, arith}
use Rattle.std.specs.Prelude.{slice_get}
use Rattle.machine.specs.Machine.{Rules}
use Rattle.agreement.specs.whole_logs.Messages.{Body, Effect, Message}
use Rattle.agreement.specs.whole_logs.Protocol.{received}
use Rattle.agreement.specs.whole_logs.Replica.{ReplicaState}
use Rattle.agreement.specs.whole_logs.StepOutcome.{Outcome}
use Rattle.agreement.specs.Moments.{Moment}
use Rattle.agreement.specs.World.{messages, outputs}
use Rattle.lists.specs.Lists.{In}
use Rattle.lists.proofs.Places.{get_set, get_set_other}
use Rattle.recovery.specs.replicas.Deliveries.{NumbersAreApart, Delivered, after_outcome, numbers_from}
use Rattle.recovery.specs.replicas.Deliveries.Delivered.{all_came, to_master, to_node}
use Rattle.recovery.proofs.of_replicas.Broadcasts.{from_each}
use Rattle.recovery.proofs.of_replicas.Gathers.{Gathered, all_but_last}
use Rattle.recovery.proofs.of_replicas.Standing.{StandFrom}

-- ---- deliveries, one list after the other

pub then_come : {S C O : Type 0} (rules : Rules S C O) {ballot : ℕ} {a b c : Moment S C O} {ks js : List ℕ} → Delivered rules ballot a ks b → Delivered rules ballot b js c →
    Delivered rules ballot a (ks ++ js) c
then_come rules all_came e = e
then_come rules (to_node k n r m sent stands runs silent joined d) e = to_node k n r m sent stands runs silent joined (then_come rules d e)
then_come rules (to_master k from ballot sent d) e = to_master k from ballot sent (then_come rules d e)

-- the numbers of a list and one more
pub numbers_last : (k : ℕ) (xs : List ℕ) (x : ℕ) → numbers_from k (length (xs ++ x ∷ [])) ≡ numbers_from k (length xs) ++ (k + length xs) ∷ []
numbers_last k [] x = ap (λ j. j ∷ []) (let e : k ≡ k + 0 = omega arith in e)
numbers_last k (y ∷ xs) x =
    ap (λ (l : List ℕ). k ∷ l)
    (numbers_last (k + 1) xs x ∙ ap (λ j. numbers_from (k + 1) (length xs) ++ j ∷ []) (let e : k + 1 + length xs ≡ k + length (y ∷ xs) = omega arith in e))

-- ---- the last of a list

pub record EndsWithOne (ms : List ℕ) : Type 0 where
  pub front : List ℕ
  pub last : ℕ
  pub is : ms ≡ front ++ last ∷ []

pub ends_with_one : (ms : List ℕ) → (ms ≡ [] → ⊥) → EndsWithOne ms
ends_with_one [] some = absurd (some refl)
ends_with_one (m ∷ []) some = record { front = []; last = m; is = refl }
ends_with_one (m ∷ (x ∷ ms)) some =
    let z = ends_with_one (x ∷ ms) (λ e. cc) in record { front = m ∷ z.front; last = z.last; is = ap (λ (l : List ℕ). m ∷ l) z.is }

-- ---- what came

pub record Taken {S C O : Type 0} (rules : Rules S C O) (b index : ℕ) (one : ReplicaState S C) (given : List (Effect C O)) (a : Moment S C O)
    (ks : List ℕ) : Type 0 where
  pub after : Moment S C O
  pub delivered : Delivered rules b a ks after
  pub master : after.master ≡ a.master
  pub sent : after.world.sent ≡ a.world.sent ++ messages given
  pub stands : slice_get after.world.nodes index ≡ Some one
  pub others : (n : ℕ) → (n ≡ index → ⊥) → slice_get after.world.nodes n ≡ slice_get a.world.nodes n

-- one message that comes to a node
pub takes_one : {S C O : Type 0} (rules : Rules S C O) (b index k : ℕ) (r one : ReplicaState S C) (m : Message C) (given : List (Effect C O)) (a : Moment S C O) →
    slice_get a.world.sent k ≡ Some (index + 1, m) → slice_get a.world.nodes index ≡ Some r → r.stopped ≡ false →
    received rules r m.from m.body ≡ record { state = one; effects = given } → outputs given ≡ [] → one.joined ≡ b → Taken rules b index one given a (k ∷ [])
takes_one {S = S} {C = C} {O = O} rules b index k r one m given a sent stands runs row silent joined =
    record {
      after = after_outcome index (received rules r m.from m.body) a;
      delivered = to_node k index r m sent stands runs (ap (λ (o : Outcome S C O). outputs o.effects) row ∙ silent)
          (ap (λ (o : Outcome S C O). o.state.joined) row ∙ joined) all_came;
      master = refl;
      sent = ap (λ (o : Outcome S C O). a.world.sent ++ messages o.effects) row;
      stands = get_set a.world.nodes index r _ stands ∙ ap (λ (o : Outcome S C O). Some o.state) row;
      others = λ n ne. get_set_other a.world.nodes index n _ ne;
    }

-- of messages that were sent, those except the last, and the last
pub front_stands : {C : Type 0} (to : ℕ) (reply : Body C) (all : List (ℕ × Message C)) (j : ℕ) (xs : List ℕ) (x : ℕ) →
    StandFrom all j (from_each to reply (xs ++ x ∷ [])) → StandFrom all j (from_each to reply xs)
front_stands to reply all j [] x s = tt
front_stands to reply all j (y ∷ xs) x (e, s) = (e, front_stands to reply all (j + 1) xs x s)

pub last_stands : {C : Type 0} (to : ℕ) (reply : Body C) (all : List (ℕ × Message C)) (j : ℕ) (xs : List ℕ) (x : ℕ) →
    StandFrom all j (from_each to reply (xs ++ x ∷ [])) → slice_get all (j + length xs) ≡ Some (to, record { from = x; body = reply })
last_stands to reply all j [] x (e, s) =
    subst (λ i. slice_get all i ≡ Some (to, record { from = x; body = reply })) (let q : j ≡ j + 0 = omega arith in q) e
last_stands to reply all j (y ∷ xs) x (e, s) =
    subst (λ i. slice_get all i ≡ Some (to, record { from = x; body = reply })) (let q : j + 1 + length xs ≡ j + length (y ∷ xs) = omega arith in q)
    (last_stands to reply all (j + 1) xs x s)

module _ {S C O : Type 0} (rules : Rules S C O) (b index : ℕ) (reply : Body C) (state : List ℕ → List ℕ → ReplicaState S C)
    (runs : (came left : List ℕ) → (state came left).stopped ≡ false) (joined : (came left : List ℕ) → (state came left).joined ≡ b)
    (goes_on : (came : List ℕ) (m : ℕ) (left : List ℕ) → (left ≡ [] → ⊥) → (In m left → ⊥) →
    received rules (state came (m ∷ left)) m reply ≡ record { state = state (came ++ m ∷ []) left; effects = [] })
    (ms : List ℕ) (final : ReplicaState S C) (given : List (Effect C O)) (silent : outputs given ≡ []) (final_joined : final.joined ≡ b)
    (ends : (came : List ℕ) (m : ℕ) → ms ≡ came ++ m ∷ [] → received rules (state came (m ∷ [])) m reply ≡ record { state = final; effects = given }) where
  pub all_come : (a : Moment S C O) (k : ℕ) → (ms ≡ [] → ⊥) → NumbersAreApart ms → StandFrom a.world.sent k (from_each (index + 1) reply ms) →
      slice_get a.world.nodes index ≡ Some (state [] ms) → Taken rules b index final given a (numbers_from k (length ms))
  all_come a k some apart stand stands = by_end (ends_with_one ms some)
    where
      by_end : EndsWithOne ms → Taken rules b index final given a (numbers_from k (length ms))
      by_end z =
          record {
            after = one.after;
            delivered = subst (λ ks. Delivered rules b a ks one.after)
                (sym (numbers_last k z.front z.last) ∙ ap (λ (l : List ℕ). numbers_from k (length l)) (sym z.is))
                (then_come rules most.delivered one.delivered);
            master = one.master ∙ most.master;
            sent = one.sent ∙ ap (λ (l : List (ℕ × Message C)). l ++ messages given) most.sent;
            stands = one.stands;
            others = λ n ne. one.others n ne ∙ most.others n ne;
          }
        where
          those : StandFrom a.world.sent k (from_each (index + 1) reply (z.front ++ z.last ∷ []))
          those = subst (λ (l : List ℕ). StandFrom a.world.sent k (from_each (index + 1) reply l)) z.is stand

          most : Gathered rules b index (state ([] ++ z.front) (z.last ∷ [])) a (numbers_from k (length z.front))
          most =
              all_but_last rules b index reply state runs joined goes_on a k [] z.front z.last (subst NumbersAreApart z.is apart)
              (front_stands (index + 1) reply a.world.sent k z.front z.last those)
              (stands ∙ ap (λ (l : List ℕ). Some (state [] l)) z.is)

          one : Taken rules b index final given most.after ((k + length z.front) ∷ [])
          one =
              takes_one rules b index (k + length z.front) (state z.front (z.last ∷ [])) final (record { from = z.last; body = reply }) given most.after
              (ap (λ (l : List (ℕ × Message C)). slice_get l (k + length z.front)) most.sent ∙ last_stands (index + 1) reply a.world.sent k z.front z.last those)
              most.stands (runs z.front (z.last ∷ [])) (ends z.front z.last z.is) silent final_joined
