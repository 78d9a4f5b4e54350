-- Installing.antt: from the State that a new primary takes to its Activate: each other member gets the log.
use Rattle.std.proofs.Common.{◌≡◌, ℕ, suc, ◌+◌, ◌≤◌, List, [], ◌∷◌, ◌++◌, length, false, Some, refl, ap, sym, ◌∙◌, subst, arith, length-append}
use Rattle.std.specs.Prelude.{slice_get}
use Rattle.machine.specs.Machine.{Rules}
use Rattle.agreement.specs.whole_logs.Messages.{Body, Message}
use Rattle.agreement.specs.whole_logs.Messages.Body.{State, Install, Installed, Activate}
use Rattle.agreement.specs.whole_logs.Transfer.{install_effects}
use Rattle.agreement.specs.whole_logs.Protocol.{received}
use Rattle.agreement.specs.whole_logs.Replica.{ReplicaState}
use Rattle.ballot_base.specs.Replica.{others}
use Rattle.ballot_base.specs.declared.status.Role.TheVariants.{Fetching}
use Rattle.agreement.specs.whole_logs.StepOutcome.{Outcome, message_to, message_to_each}
use Rattle.ballot_base.specs.StepOutcome.{master}
use Rattle.agreement.specs.Moments.{Moment}
use Rattle.lists.specs.Lists.{In}
use Rattle.recovery.specs.replicas.Deliveries.{NumbersAreApart, Delivered, NodeIs, numbers_from}
use Rattle.recovery.specs.replicas.LedStates.{Follows}
use Rattle.recovery.specs.replicas.Inside.{CanTake, installing}
use Rattle.recovery.proofs.of_replicas.AllCome.{Taken, all_come, takes_one, then_come}
use Rattle.recovery.proofs.of_replicas.Broadcasts.{Answered, all_answer, from_each, to_each}
use Rattle.recovery.proofs.of_replicas.LeaderRows.{installed_goes_on, installed_last, installing_with, state_taken}
use Rattle.recovery.proofs.of_replicas.Rows.{install_answers, messages_to_each, outputs_to_each}
use Rattle.recovery.proofs.of_replicas.Standing.{stand_at, stand_in, stand_new}

-- the end: the log is installed at all members, and the primary has asked for its ballot
pub record IsInstalled {S C O : Type 0} (rules : Rules S C O) (b : ℕ) (log : List C) (index : ℕ) (r : ReplicaState S C) (os : List ℕ) (a : Moment S C O)
    (ks : List ℕ) (asked : ℕ) : Type 0 where
  pub after : Moment S C O
  pub delivered : Delivered rules b a ks after
  pub master : after.master ≡ a.master
  pub asks : slice_get after.world.sent asked ≡ Some (0, record { from = index + 1; body = Activate b })
  pub last : length after.world.sent ≡ asked + 1
  pub primary : slice_get after.world.nodes index ≡ Some (installing b log r [])
  pub each : (m : ℕ) → In m os → NodeIs (Follows b log) after.world.nodes m

pub length_to_each : {C : Type 0} (p : ℕ) (body : Body C) (ms : List ℕ) → length (to_each p body ms) ≡ length ms
length_to_each p body [] = refl
length_to_each p body (m ∷ ms) = ap suc (length_to_each p body ms)

pub length_from_each : {C : Type 0} (p : ℕ) (body : Body C) (ms : List ℕ) → length (from_each p body ms) ≡ length ms
length_from_each p body [] = refl
length_from_each p body (m ∷ ms) = ap suc (length_from_each p body ms)

pub get_new : {X : Type 0} (all : List X) (x : X) → slice_get (all ++ x ∷ []) (length all) ≡ Some x
get_new [] x = refl
get_new (y ∷ all) x = get_new all x

module _ {S C O : Type 0} (rules : Rules S C O) (b : ℕ) (log : List C) (index : ℕ) (r : ReplicaState S C) (runs : r.stopped ≡ false) (id : r.id ≡ index + 1)
    (joined : r.joined ≡ b) (role : r.role ≡ Fetching) (applied : r.committed ≤ length log) where
  -- the sole member asks at once
  pub alone : (a : Moment S C O) (k from : ℕ) → others r.id r.members ≡ [] → slice_get a.world.sent k ≡ Some (index + 1, record { from = from; body = State b log }) →
      slice_get a.world.nodes index ≡ Some r → IsInstalled rules b log index r [] a (k ∷ []) (length a.world.sent)
  alone a k from are sent stands =
      record {
        after = one.after;
        delivered = one.delivered;
        master = one.master;
        asks = ap (λ (l : List (ℕ × Message C)). slice_get l (length a.world.sent)) one.sent ∙ get_new a.world.sent _;
        last = ap length one.sent ∙ length-append a.world.sent _;
        primary = one.stands;
        each = λ m i. elim i [ ];
      }
    where
      row : received rules r from (State b log) ≡ record {
        state = installing b log r [];
        effects = message_to O (index + 1) (Activate b) master ∷ [];
      }
      row = state_taken rules b from log r joined role applied
          ∙ ap (λ (l : List ℕ). let o : Outcome S C O = record { state = installing b log r l; effects = install_effects O (installing b log r l) l } in o) are
          ∙ ap (λ n. let o : Outcome S C O = record { state = installing b log r []; effects = message_to O n (Activate r.joined) master ∷ [] } in o) id
          ∙ ap (λ n. let o : Outcome S C O = record { state = installing b log r []; effects = message_to O (index + 1) (Activate n) master ∷ [] } in o) joined

      one : Taken rules b index (installing b log r []) (message_to O (index + 1) (Activate b) master ∷ []) a (k ∷ [])
      one = takes_one rules b index k r (installing b log r []) (record { from = from; body = State b log }) _ a sent stands runs row refl joined

  -- and otherwise when all others have answered
  pub with_others : (a : Moment S C O) (k from x : ℕ) (xs : List ℕ) → others r.id r.members ≡ x ∷ xs → NumbersAreApart (x ∷ xs) → (In (index + 1) (x ∷ xs) → ⊥) →
      slice_get a.world.sent k ≡ Some (index + 1, record { from = from; body = State b log }) → slice_get a.world.nodes index ≡ Some r →
      ((m : ℕ) → In m (x ∷ xs) → NodeIs (CanTake b (length log)) a.world.nodes m) →
      IsInstalled rules b log index r (x ∷ xs) a
      (k ∷ (numbers_from (length a.world.sent) (length (x ∷ xs)) ++ numbers_from (length a.world.sent + length (x ∷ xs)) (length (x ∷ xs))))
      (length a.world.sent + (length (x ∷ xs) + length (x ∷ xs)))
  with_others a k from x xs are apart out sent stands can =
      record {
        after = came.after;
        delivered = then_come rules one.delivered (then_come rules all.delivered came.delivered);
        master = came.master ∙ all.master ∙ one.master;
        asks = ap (λ (l : List (ℕ × Message C)). slice_get l (length a.world.sent + (length (x ∷ xs) + length (x ∷ xs)))) came.sent
            ∙ ap (λ j. slice_get (all.after.world.sent ++ (0, record { from = index + 1; body = Activate b }) ∷ []) j) (sym long)
            ∙ get_new all.after.world.sent _;
        last = ap length came.sent ∙ length-append all.after.world.sent _ ∙ ap (λ j. j + 1) long;
        primary = came.stands;
        each = λ m i. still m i (all.each m i);
      }
    where
      row : received rules r from (State b log) ≡ record {
        state = installing b log r (x ∷ xs);
        effects = message_to_each O (index + 1) (Install b log) (x ∷ xs);
      }
      row = state_taken rules b from log r joined role applied
          ∙ ap (λ (l : List ℕ). let o : Outcome S C O = record { state = installing b log r l; effects = install_effects O (installing b log r l) l } in o) are
          ∙ ap (λ n. let o : Outcome S C O = record { state = installing b log r (x ∷ xs); effects = message_to_each O n (Install r.joined log) (x ∷ xs) } in o) id
          ∙ ap (λ n. let o : Outcome S C O = record { state = installing b log r (x ∷ xs); effects = message_to_each O (index + 1) (Install n log) (x ∷ xs) } in o) joined

      one : Taken rules b index (installing b log r (x ∷ xs)) (message_to_each O (index + 1) (Install b log) (x ∷ xs)) a (k ∷ [])
      one = takes_one rules b index k r (installing b log r (x ∷ xs)) (record { from = from; body = State b log }) _ a sent stands runs row
          (outputs_to_each O (index + 1) (Install b log) (x ∷ xs)) joined

      one_sent : one.after.world.sent ≡ a.world.sent ++ to_each (index + 1) (Install b log) (x ∷ xs)
      one_sent = one.sent ∙ ap (λ (l : List (ℕ × Message C)). a.world.sent ++ l) (messages_to_each O (index + 1) (Install b log) (x ∷ xs))

      one_long : length one.after.world.sent ≡ length a.world.sent + length (x ∷ xs)
      one_long = ap length one_sent ∙ length-append a.world.sent _ ∙ ap (λ j. length a.world.sent + j) (length_to_each (index + 1) (Install b log) (x ∷ xs))

      can_still : (m : ℕ) → In m (x ∷ xs) → NodeIs (CanTake b (length log)) one.after.world.nodes m
      can_still m i = let z = can m i in record {
        index = z.index;
        number = z.number;
        replica = z.replica;
        stands = one.others z.index (λ e. out (subst (λ (j : ℕ). In j (x ∷ xs)) (z.number ∙ ap (λ j. j + 1) e) i)) ∙ z.stands;
        is = z.is;
      }

      all : Answered rules b (index + 1) (Installed b (length log)) (Follows b log) one.after (numbers_from (length a.world.sent) (length (x ∷ xs))) (x ∷ xs)
      all =
          all_answer rules b (index + 1) (Install b log) (Installed b (length log)) (CanTake b (length log)) (Follows b log)
          (install_answers rules (index + 1) b log) one.after (length a.world.sent) (x ∷ xs) apart
          (stand_in (a.world.sent ++ to_each (index + 1) (Install b log) (x ∷ xs)) one.after.world.sent (length a.world.sent) (to_each (index + 1) (Install b log) (x ∷ xs)) (sym one_sent)
          (stand_new a.world.sent (to_each (index + 1) (Install b log) (x ∷ xs)))) can_still

      came : Taken rules b index (installing b log r []) (message_to O (index + 1) (Activate b) master ∷ []) all.after
          (numbers_from (length a.world.sent + length (x ∷ xs)) (length (x ∷ xs)))
      came =
          all_come rules b index (Installed b (length log)) (installing_with b log r) (λ c l. runs) (λ c l. joined) (installed_goes_on rules b (length log) log r joined) (x ∷ xs)
          (installing b log r []) (message_to O (index + 1) (Activate b) master ∷ []) refl joined
          (λ c m e. installed_last rules b (length log) log r joined m
          ∙ ap (λ n. let o : Outcome S C O = record { state = installing b log r []; effects = message_to O n (Activate r.joined) master ∷ [] } in o) id
          ∙ ap (λ n. let o : Outcome S C O = record { state = installing b log r []; effects = message_to O (index + 1) (Activate n) master ∷ [] } in o) joined)
          all.after (length a.world.sent + length (x ∷ xs)) (λ e. cc) apart
          (stand_in (one.after.world.sent ++ from_each (index + 1) (Installed b (length log)) (x ∷ xs)) all.after.world.sent (length a.world.sent + length (x ∷ xs)) (from_each (index + 1) (Installed b (length log)) (x ∷ xs)) (sym all.sent)
          (stand_at (one.after.world.sent ++ from_each (index + 1) (Installed b (length log)) (x ∷ xs)) (length one.after.world.sent) (length a.world.sent + length (x ∷ xs)) (from_each (index + 1) (Installed b (length log)) (x ∷ xs)) one_long (stand_new one.after.world.sent (from_each (index + 1) (Installed b (length log)) (x ∷ xs)))))
          (all.others index out ∙ one.stands)

      long : length all.after.world.sent ≡ length a.world.sent + (length (x ∷ xs) + length (x ∷ xs))
      long = ap length all.sent ∙ length-append one.after.world.sent _
          ∙ (let e : length (from_each {C = C} (index + 1) (Installed b (length log)) (x ∷ xs)) ≡ length (x ∷ xs) = length_from_each (index + 1) (Installed b (length log)) (x ∷ xs) in
          let f : length one.after.world.sent + length (from_each {C = C} (index + 1) (Installed b (length log)) (x ∷ xs))
          ≡ length a.world.sent + (length (x ∷ xs) + length (x ∷ xs)) = omega (arith, one_long, e) in f)

      still : (m : ℕ) → In m (x ∷ xs) → NodeIs (Follows b log) all.after.world.nodes m → NodeIs (Follows b log) came.after.world.nodes m
      still m i z = record {
        index = z.index;
        number = z.number;
        replica = z.replica;
        stands = came.others z.index (λ e. out (subst (λ (j : ℕ). In j (x ∷ xs)) (z.number ∙ ap (λ j. j + 1) e) i)) ∙ z.stands;
        is = z.is;
      }
