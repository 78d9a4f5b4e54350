-- Activating.antt: from the Activate of an installed ballot to its start, which all its members hold.
use Rattle.std.proofs.Common.{◌≡◌, ℕ, ◌+◌, ◌<◌, List, [], ◌∷◌, ◌++◌, length, false, Some, None, Option, refl, ap, sym, ◌∙◌, subst, arith, length-append, map}
use Rattle.std.specs.Prelude.{slice_get}
use Rattle.std.proofs.lemmas.Bool.{eq-eqb}
use Rattle.machine.specs.Machine.{Rules}
use Rattle.agreement.specs.whole_logs.Application.{applied_to, outputs_to}
use Rattle.agreement.specs.whole_logs.Messages.Body.{Activate, Activated, Append, Held}
use Rattle.ballot_base.specs.declared.config.Config.{Config}
use Rattle.agreement.specs.whole_logs.Messages.{Effect, Message}
use Rattle.agreement.specs.whole_logs.Messages.Effect.{Out}
use Rattle.agreement.specs.whole_logs.Protocol.{received}
use Rattle.agreement.specs.whole_logs.Replica.{ReplicaState}
use Rattle.ballot_base.specs.Replica.{others, progress_at}
use Rattle.agreement.specs.whole_logs.StepOutcome.{Outcome, message_to_followed}
use Rattle.ballot_base.specs.Service.{max_places}
use Rattle.agreement.specs.MasterState.{MasterOutcome, MasterState, activated}
use Rattle.agreement.specs.Moments.{Moment}
use Rattle.agreement.specs.World.{messages, outputs}
use Rattle.agreement.proofs.Effects.{outputs_of_messages}
use Rattle.lists.specs.Lists.{In}
use Rattle.recovery.specs.replicas.Deliveries.{NumbersAreApart, Delivered, NodeIs, after_activate, numbers_from}
use Rattle.recovery.specs.replicas.Deliveries.Delivered.{to_master}
use Rattle.recovery.specs.replicas.LedStates.{Follows, LeadsWhole}
use Rattle.recovery.specs.replicas.Inside.{installing, known}
use Rattle.recovery.proofs.of_replicas.AllCome.{Taken, takes_one, then_come}
use Rattle.recovery.proofs.of_replicas.Broadcasts.{to_each}
use Rattle.recovery.proofs.of_replicas.Gathers.{nothing_after}
use Rattle.recovery.proofs.of_replicas.Holding.{AllHold, all_hold}
use Rattle.recovery.proofs.of_replicas.Installing.{get_new, length_to_each}
use Rattle.recovery.proofs.of_replicas.LeaderRows.{activated_one, activated_row, added_alone, added_waits, outputs_next}
use Rattle.recovery.proofs.of_replicas.Rows.{messages_to_followed}
use Rattle.recovery.proofs.of_replicas.Standing.{stand_at, stand_in, stand_new}

-- the master after an Activate of the ballot that waits
abbrev pub with_active : ℕ → Config → MasterState → MasterState
with_active b config m = record m { active = b; members = config.members; waiting = None }

granted : (C : Type 0) (m : MasterState) (b from : ℕ) (config : Config) (waiting : Option (ℕ × Config)) → waiting ≡ Some (b, config) →
    activated C m b from waiting ≡ record { state = with_active b config m; receiver = from; body = Activated b }
granted C m b from config waiting e = ap (activated C m b from) e ∙ same
  where
    same : activated C m b from (Some (b, config)) ≡ record { state = with_active b config m; receiver = from; body = Activated b }
    same = rw (eq-eqb b b refl) refl

-- the end: the ballot is active, and all its members hold its start
pub record IsActivated {S C O : Type 0} (rules : Rules S C O) (b : ℕ) (log : List C) (index : ℕ) (os : List ℕ) (config : Config) (a : Moment S C O)
    (ks : List ℕ) (long : ℕ) : Type 0 where
  pub after : Moment S C O
  pub delivered : Delivered rules b a ks after
  pub master : after.master ≡ with_active b config a.master
  pub last : length after.world.sent ≡ long
  pub primary : NodeIs (LeadsWhole b log os) after.world.nodes (index + 1)
  pub each : (m : ℕ) → In m os → NodeIs (Follows b log) after.world.nodes m
  pub told : (m : ℕ) → In m os → In (index + 1, record { from = m; body = Held b (length log) }) after.world.sent

module _ {S C O : Type 0} (rules : Rules S C O) (b : ℕ) (log : List C) (index : ℕ) (r : ReplicaState S C) (config : Config) (runs : r.stopped ≡ false)
    (id : r.id ≡ index + 1) (joined : r.joined ≡ b) (room : length log < max_places) (silent : (s : S) → rules.gives s (rules.start_of b) ≡ []) (a : Moment S C O)
    (asked : ℕ) (asks : slice_get a.world.sent asked ≡ Some (0, record { from = index + 1; body = Activate b })) (last : length a.world.sent ≡ asked + 1)
    (waits : a.master.waiting ≡ Some (b, config)) (stands : slice_get a.world.nodes index ≡ Some (installing b log r [])) where
  told_is : after_activate (index + 1) b a ≡ record {
    master = with_active b config a.master;
    world = record a.world { sent = a.world.sent ++ (index + 1, record { from = 0; body = Activated b }) ∷ [] };
  }
  told_is = ap (λ (o : MasterOutcome C). let z : Moment S C O = record {
    master = o.state;
    world = record a.world { sent = a.world.sent ++ (o.receiver, record { from = 0; body = o.body }) ∷ [] };
  } in z) (granted C a.master b (index + 1) config a.master.waiting waits)

  told_sent : slice_get (after_activate (index + 1) b a).world.sent (asked + 1) ≡ Some (index + 1, record { from = 0; body = Activated b })
  told_sent = ap (λ (z : Moment S C O). slice_get z.world.sent (asked + 1)) told_is
      ∙ ap (slice_get (a.world.sent ++ (index + 1, record { from = 0; body = Activated b }) ∷ [])) (sym last)
      ∙ get_new a.world.sent (index + 1, record { from = 0; body = Activated b })

  told_long : length (after_activate (index + 1) b a).world.sent ≡ asked + 2
  told_long = ap (λ (z : Moment S C O). length z.world.sent) told_is ∙ length-append a.world.sent _ ∙ (let e : length a.world.sent + 1 ≡ asked + 2 = omega (arith, last) in e)

  pub activated_alone : others r.id r.members ≡ [] →
      IsActivated rules b (log ++ rules.start_of b ∷ []) index [] config a (asked ∷ (asked + 1) ∷ []) (asked + 2)
  activated_alone are =
      record {
        after = came.after;
        delivered = to_master asked (index + 1) b asks came.delivered;
        master = came.master ∙ ap (λ (z : Moment S C O). z.master) told_is;
        last = ap length came.sent
            ∙ ap (λ (l : List (ℕ × Message C)). length ((after_activate (index + 1) b a).world.sent ++ l)) no_messages
            ∙ ap length (nothing_after (after_activate (index + 1) b a).world.sent) ∙ told_long;
        primary = record {
          index = index;
          number = refl;
          replica = applied_to rules longer (length log + 1);
          stands = came.stands;
          is = record {
            leads = record { runs = runs; joined = joined; role = refl };
            id = id;
            held = refl;
            log_is = refl;
            applied = sym (length-append log (rules.start_of b ∷ []));
            progress_is = ap (progress_at (length log)) are;
          };
        };
        each = λ m i. elim i [ ];
        told = λ m i. elim i [ ];
      }
    where
      longer : ReplicaState S C
      longer = record (activated_one rules b log r) { log = log ++ rules.start_of b ∷ [] }

      given : List (Effect C O)
      given = outputs_to rules longer (length log + 1)

      given_is : outputs_to rules longer (length log + 1) ≡ []
      given_is = outputs_next rules longer log (rules.start_of b) refl refl
          ∙ ap (λ (l : List O). let z : List (Effect C O) = map (Out (length log)) l in z) (silent longer.machine)

      no_messages : messages (outputs_to rules longer (length log + 1)) ≡ []
      no_messages = ap (λ (l : List (Effect C O)). messages l) given_is

      row : received rules (installing b log r []) 0 (Activated b)
          ≡ record { state = applied_to rules longer (length log + 1); effects = outputs_to rules longer (length log + 1) }
      row = activated_row rules b log r joined room
          ∙ added_alone rules (activated_one rules b log r) (rules.start_of b) (ap (progress_at (length log)) are) refl

      came : Taken rules b index (applied_to rules longer (length log + 1)) (outputs_to rules longer (length log + 1)) (after_activate (index + 1) b a) ((asked + 1) ∷ [])
      came = takes_one rules b index (asked + 1) (installing b log r []) (applied_to rules longer (length log + 1)) (record { from = 0; body = Activated b })
          (outputs_to rules longer (length log + 1)) (after_activate (index + 1) b a) told_sent stands runs row
          (ap (λ (l : List (Effect C O)). outputs l) given_is) joined

  pub activated_all : (x : ℕ) (xs : List ℕ) → others r.id r.members ≡ x ∷ xs → NumbersAreApart (x ∷ xs) → (In (index + 1) (x ∷ xs) → ⊥) →
      ((m : ℕ) → In m (x ∷ xs) → NodeIs (Follows b log) a.world.nodes m) →
      IsActivated rules b (log ++ rules.start_of b ∷ []) index (x ∷ xs) config a
      (asked ∷ (asked + 1) ∷ (numbers_from (asked + 2) (length (x ∷ xs)) ++ numbers_from (asked + 2 + length (x ∷ xs)) (length (x ∷ xs))))
      (asked + 2 + length (x ∷ xs) + (length (x ∷ xs) + length (x ∷ xs)))
  activated_all x xs are apart out follow =
      record {
        after = held.after;
        delivered = to_master asked (index + 1) b asks (then_come rules came.delivered
            (subst (λ j. Delivered rules b came.after (numbers_from (asked + 2) (length (x ∷ xs)) ++ numbers_from j (length (x ∷ xs))) held.after) came_long held.delivered));
        master = held.master ∙ came.master ∙ ap (λ (z : Moment S C O). z.master) told_is;
        last = held.last ∙ ap (λ j. j + (length (x ∷ xs) + length (x ∷ xs))) came_long;
        primary = held.primary;
        each = held.each;
        told = held.told;
      }
    where
      longer : ReplicaState S C
      longer = record (activated_one rules b log r) { log = log ++ rules.start_of b ∷ [] }

      given : List (Effect C O)
      given = message_to_followed O (index + 1) (Append b (length log) (rules.start_of b)) (progress_at (length log) (x ∷ xs))

      row : received rules (installing b log r []) 0 (Activated b) ≡ record {
        state = known (length log) longer [] (x ∷ xs);
        effects = message_to_followed O (index + 1) (Append b (length log) (rules.start_of b)) (progress_at (length log) (x ∷ xs));
      }
      row = activated_row rules b log r joined room
          ∙ added_waits rules (activated_one rules b log r) (rules.start_of b) (x ∷ xs) (λ e. cc) (ap (progress_at (length log)) are) refl
          ∙ ap (λ (l : List ℕ). let o : Outcome S C O = record {
            state = record longer { progress = progress_at (length log) l };
            effects = message_to_followed O r.id (Append r.joined (length log) (rules.start_of b)) (progress_at (length log) l) ++ [];
          } in o) are
          ∙ ap (λ (l : List (Effect C O)). let o : Outcome S C O = record {
            state = record longer { progress = progress_at (length log) (x ∷ xs) };
            effects = l;
          } in o) (nothing_after (message_to_followed O r.id (Append r.joined (length log) (rules.start_of b)) (progress_at (length log) (x ∷ xs))))
          ∙ ap (λ n. let o : Outcome S C O = record {
            state = record longer { progress = progress_at (length log) (x ∷ xs) };
            effects = message_to_followed O n (Append r.joined (length log) (rules.start_of b)) (progress_at (length log) (x ∷ xs));
          } in o) id
          ∙ ap (λ n. let o : Outcome S C O = record {
            state = record longer { progress = progress_at (length log) (x ∷ xs) };
            effects = message_to_followed O (index + 1) (Append n (length log) (rules.start_of b)) (progress_at (length log) (x ∷ xs));
          } in o) joined

      came : Taken rules b index (known (length log) longer [] (x ∷ xs))
          (message_to_followed O (index + 1) (Append b (length log) (rules.start_of b)) (progress_at (length log) (x ∷ xs))) (after_activate (index + 1) b a) ((asked + 1) ∷ [])
      came = takes_one rules b index (asked + 1) (installing b log r []) (known (length log) longer [] (x ∷ xs)) (record { from = 0; body = Activated b })
          (message_to_followed O (index + 1) (Append b (length log) (rules.start_of b)) (progress_at (length log) (x ∷ xs)))
          (after_activate (index + 1) b a) told_sent stands runs row
          (outputs_of_messages {C = C} {O = O} (index + 1) (Append b (length log) (rules.start_of b)) (progress_at (length log) (x ∷ xs))) joined

      came_sent : came.after.world.sent ≡ (after_activate (index + 1) b a).world.sent ++ to_each (index + 1) (Append b (length log) (rules.start_of b)) (x ∷ xs)
      came_sent = came.sent ∙ ap (λ (l : List (ℕ × Message C)). (after_activate (index + 1) b a).world.sent ++ l)
          (messages_to_followed O (index + 1) (length log) (Append b (length log) (rules.start_of b)) (x ∷ xs))

      came_long : length came.after.world.sent ≡ asked + 2 + length (x ∷ xs)
      came_long = ap length came_sent ∙ length-append (after_activate (index + 1) b a).world.sent _
          ∙ ap (λ j. j + length (to_each {C = C} (index + 1) (Append b (length log) (rules.start_of b)) (x ∷ xs))) told_long
          ∙ ap (λ j. asked + 2 + j) (length_to_each (index + 1) (Append b (length log) (rules.start_of b)) (x ∷ xs))

      follow_still : (m : ℕ) → In m (x ∷ xs) → NodeIs (Follows b log) came.after.world.nodes m
      follow_still m i = let z = follow m i in record {
        index = z.index;
        number = z.number;
        replica = z.replica;
        stands = came.others z.index (λ e. out (subst (λ (j : ℕ). In j (x ∷ xs)) (z.number ∙ ap (λ j. j + 1) e) i)) ∙ z.stands;
        is = z.is;
      }

      held : AllHold rules b (log ++ rules.start_of b ∷ []) index (x ∷ xs) came.after
          (numbers_from (asked + 2) (length (x ∷ xs)) ++ numbers_from (length came.after.world.sent) (length (x ∷ xs)))
          (length came.after.world.sent + (length (x ∷ xs) + length (x ∷ xs)))
      held =
          all_hold rules b longer log (rules.start_of b) index (record { runs = runs; joined = joined; role = refl }) id refl refl refl (silent longer.machine)
          came.after (asked + 2) x xs apart out
          (stand_in ((after_activate (index + 1) b a).world.sent ++ to_each (index + 1) (Append b (length log) (rules.start_of b)) (x ∷ xs)) came.after.world.sent
          (asked + 2) (to_each (index + 1) (Append b (length log) (rules.start_of b)) (x ∷ xs)) (sym came_sent)
          (stand_at ((after_activate (index + 1) b a).world.sent ++ to_each (index + 1) (Append b (length log) (rules.start_of b)) (x ∷ xs))
          (length (after_activate (index + 1) b a).world.sent) (asked + 2) (to_each (index + 1) (Append b (length log) (rules.start_of b)) (x ∷ xs)) told_long
          (stand_new (after_activate (index + 1) b a).world.sent (to_each (index + 1) (Append b (length log) (rules.start_of b)) (x ∷ xs)))))
          came.stands follow_still
