-- Holding.antt: a command that a primary has added comes to all others, and is committed.
use Rattle.std.proofs.Common.{◌≡◌, ℕ, ◌+◌, List, [], ◌∷◌, ◌++◌, length, Some, refl, ap, sym, ◌∙◌, subst, arith, length-append, map}
use Rattle.std.specs.Prelude.{slice_get}
use Rattle.machine.specs.Machine.{Rules}
use Rattle.agreement.specs.whole_logs.Application.{applied_to}
use Rattle.agreement.specs.whole_logs.Messages.{Body, Effect, Message}
use Rattle.agreement.specs.whole_logs.Messages.Body.{Append, Held, Commit}
use Rattle.agreement.specs.whole_logs.Messages.Effect.{Out}
use Rattle.ballot_base.specs.declared.status.Progress.{Progress}
use Rattle.agreement.specs.whole_logs.Replica.{ReplicaState}
use Rattle.ballot_base.specs.Replica.{progress_at}
use Rattle.agreement.specs.whole_logs.StepOutcome.{Outcome, message_to_followed}
use Rattle.agreement.specs.Moments.{Moment}
use Rattle.agreement.specs.World.{messages, outputs}
use Rattle.agreement.proofs.Effects.{outputs-append, outputs_of_messages}
use Rattle.lists.specs.Lists.{In}
use Rattle.lists.specs.Lists.In.{here, there}
use Rattle.lists.proofs.Members.{in_left, in_right}
use Rattle.recovery.specs.replicas.Deliveries.{NumbersAreApart, Delivered, NodeIs, numbers_from}
use Rattle.recovery.specs.replicas.LedStates.{Follows, LeadsIn, LeadsWhole}
use Rattle.recovery.specs.replicas.Inside.{known}
use Rattle.recovery.proofs.of_replicas.AllCome.{Taken, all_come, then_come}
use Rattle.recovery.proofs.of_replicas.Broadcasts.{Answered, all_answer, from_each, to_each}
use Rattle.recovery.proofs.of_replicas.Gathers.{nothing_after}
use Rattle.recovery.proofs.of_replicas.Installing.{length_from_each, length_to_each}
use Rattle.recovery.proofs.of_replicas.LeaderRows.{held_goes_on, held_last}
use Rattle.recovery.proofs.of_replicas.Rows.{append_answers, messages_to_followed}
use Rattle.recovery.proofs.of_replicas.Standing.{StandFrom, stand_in, stand_new}

-- the end: all members hold it, and it is committed
pub record AllHold {S C O : Type 0} (rules : Rules S C O) (b : ℕ) (log : List C) (index : ℕ) (os : List ℕ) (a : Moment S C O) (ks : List ℕ)
    (long : ℕ) : Type 0 where
  pub after : Moment S C O
  pub delivered : Delivered rules b a ks after
  pub master : after.master ≡ a.master
  pub last : length after.world.sent ≡ long
  pub primary : NodeIs (LeadsWhole b log os) after.world.nodes (index + 1)
  pub each : (m : ℕ) → In m os → NodeIs (Follows b log) after.world.nodes m
  pub told : (m : ℕ) → In m os → In (index + 1, record { from = m; body = Held b (length log) }) after.world.sent

pub in_from_each : {C : Type 0} (p : ℕ) (reply : Body C) (ms : List ℕ) (m : ℕ) → In m ms → In (p, record { from = m; body = reply }) (from_each p reply ms)
in_from_each p reply [] m i = elim i [ ]
in_from_each p reply (x ∷ ms) m here = here
in_from_each p reply (x ∷ ms) m (there i) = there (in_from_each p reply ms m i)

-- what the last of them makes the primary give
abbrev pub given_last : {S C O : Type 0} → Rules S C O → ReplicaState S C → List C → C → List ℕ → List (Effect C O)
given_last {O = O} rules r log c os =
    map (Out (length log)) (rules.gives r.machine c)
    ++ message_to_followed O r.id (Commit r.joined (length log + 1)) (progress_at (length log + 1) os ++ [])

module _ {S C O : Type 0} (rules : Rules S C O) (b : ℕ) (r : ReplicaState S C) (log : List C) (c : C) (index : ℕ) (lead : LeadsIn b r)
    (id : r.id ≡ index + 1) (own : r.held_in ≡ b) (long : r.log ≡ log ++ c ∷ []) (committed : r.committed ≡ length log) (silent : rules.gives r.machine c ≡ []) where
  given_outputs : (os : List ℕ) → outputs (given_last rules r log c os) ≡ []
  given_outputs os =
      outputs-append {C = C} {O = O} (map (Out (length log)) (rules.gives r.machine c)) (message_to_followed O r.id (Commit r.joined (length log + 1)) (progress_at (length log + 1) os ++ []))
      ∙ ap (λ (l : List O). outputs {C = C} {O = O} (map (Out (length log)) l) ++ outputs {C = C} {O = O} (message_to_followed O r.id (Commit r.joined (length log + 1)) (progress_at (length log + 1) os ++ []))) silent
      ∙ outputs_of_messages {C = C} {O = O} r.id (Commit r.joined (length log + 1)) (progress_at (length log + 1) os ++ [])

  given_messages : (os : List ℕ) → messages (given_last rules r log c os) ≡ to_each r.id (Commit r.joined (length log + 1)) os
  given_messages os =
      ap (λ (l : List O). messages {C = C} {O = O} (map (Out (length log)) l ++ message_to_followed O r.id (Commit r.joined (length log + 1)) (progress_at (length log + 1) os ++ []))) silent
      ∙ ap (λ (l : List Progress). messages {C = C} {O = O} (message_to_followed O r.id (Commit r.joined (length log + 1)) l)) (nothing_after (progress_at (length log + 1) os))
      ∙ messages_to_followed O r.id (length log + 1) (Commit r.joined (length log + 1)) os

  pub all_hold : (a : Moment S C O) (k x : ℕ) (xs : List ℕ) → NumbersAreApart (x ∷ xs) → (In (index + 1) (x ∷ xs) → ⊥) →
      StandFrom a.world.sent k (to_each (index + 1) (Append b (length log) c) (x ∷ xs)) →
      slice_get a.world.nodes index ≡ Some (known (length log) r [] (x ∷ xs)) →
      ((m : ℕ) → In m (x ∷ xs) → NodeIs (Follows b log) a.world.nodes m) →
      AllHold rules b (log ++ c ∷ []) index (x ∷ xs) a
      (numbers_from k (length (x ∷ xs)) ++ numbers_from (length a.world.sent) (length (x ∷ xs)))
      (length a.world.sent + (length (x ∷ xs) + length (x ∷ xs)))
  all_hold a k x xs apart out stand stands follow =
      record {
        after = came.after;
        delivered = then_come rules all.delivered came.delivered;
        master = came.master ∙ all.master;
        last = ap length came.sent ∙ length-append all.after.world.sent _
            ∙ (let e : length (messages came_given) ≡ length (x ∷ xs) = ap length (given_messages (x ∷ xs)) ∙ length_to_each r.id (Commit r.joined (length log + 1)) (x ∷ xs) in
            let f : length all.after.world.sent + length (messages came_given) ≡ length a.world.sent + (length (x ∷ xs) + length (x ∷ xs)) = omega (arith, e, all_long) in f);
        primary = record {
          index = index;
          number = refl;
          replica = final;
          stands = came.stands;
          is = record {
            leads = record { runs = lead.runs; joined = lead.joined; role = lead.role };
            id = id;
            held = own;
            log_is = long;
            applied = sym (length-append log (c ∷ []));
            progress_is = nothing_after (progress_at (length log + 1) (x ∷ xs)) ∙ ap (λ n. progress_at n (x ∷ xs)) (sym (length-append log (c ∷ [])));
          };
        };
        each = λ m i. still m i (all.each m i);
        told = λ m i. subst (λ (l : List (ℕ × Message C)). In (index + 1, record { from = m; body = Held b (length (log ++ c ∷ [])) }) l) (sym came.sent)
            (in_left (messages came_given) (subst (λ (l : List (ℕ × Message C)). In (index + 1, record { from = m; body = Held b (length (log ++ c ∷ [])) }) l) (sym all.sent)
            (in_right a.world.sent (subst (λ n. In {X = ℕ × Message C} (index + 1, record { from = m; body = Held b n }) (from_each {C = C} (index + 1) (Held b (length log + 1)) (x ∷ xs))) (sym (length-append log (c ∷ [])))
            (in_from_each (index + 1) (Held b (length log + 1)) (x ∷ xs) m i)))));
      }
    where
      came_given : List (Effect C O)
      came_given = given_last rules r log c (x ∷ xs)

      final : ReplicaState S C
      final = applied_to rules (known (length log) r (x ∷ xs) []) (length log + 1)

      all : Answered rules b (index + 1) (Held b (length log + 1)) (Follows b (log ++ c ∷ [])) a (numbers_from k (length (x ∷ xs))) (x ∷ xs)
      all =
          all_answer rules b (index + 1) (Append b (length log) c) (Held b (length log + 1)) (Follows b log) (Follows b (log ++ c ∷ []))
          (append_answers rules (index + 1) b log c) a k (x ∷ xs) apart stand follow

      all_long : length all.after.world.sent ≡ length a.world.sent + length (x ∷ xs)
      all_long = ap length all.sent ∙ length-append a.world.sent _ ∙ ap (λ j. length a.world.sent + j) (length_from_each (index + 1) (Held b (length log + 1)) (x ∷ xs))

      came : Taken rules b index final came_given all.after (numbers_from (length a.world.sent) (length (x ∷ xs)))
      came =
          all_come rules b index (Held b (length log + 1)) (known (length log) r) (λ c' l. lead.runs) (λ c' l. lead.joined) (held_goes_on rules b r log c lead long committed) (x ∷ xs)
          final came_given (given_outputs (x ∷ xs)) lead.joined
          (λ came' m e. held_last rules b r log c lead long committed came' m
          ∙ ap (λ (l : List ℕ). let o : Outcome S C O = record {
            state = applied_to rules (known (length log) r l []) (length log + 1);
            effects = given_last rules r log c l;
          } in o) (sym e))
          all.after (length a.world.sent) (λ e. cc) apart
          (stand_in (a.world.sent ++ from_each (index + 1) (Held b (length log + 1)) (x ∷ xs)) all.after.world.sent (length a.world.sent)
          (from_each (index + 1) (Held b (length log + 1)) (x ∷ xs)) (sym all.sent)
          (stand_new a.world.sent (from_each (index + 1) (Held b (length log + 1)) (x ∷ xs))))
          (all.others index out ∙ stands)

      still : (m : ℕ) → In m (x ∷ xs) → NodeIs (Follows b (log ++ c ∷ [])) all.after.world.nodes m → NodeIs (Follows b (log ++ c ∷ [])) came.after.world.nodes m
      still m i z = record {
        index = z.index;
        number = z.number;
        replica = z.replica;
        stands = came.others z.index (λ e. out (subst (λ (j : ℕ). In j (x ∷ xs)) (z.number ∙ ap (λ j. j + 1) e) i)) ∙ z.stands;
        is = z.is;
      }
