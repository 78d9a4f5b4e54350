-- Answering.antt: a command that is proposed to the primary of a led ballot is answered at its
-- index.
use Rattle.std.proofs.Common.{◌≡◌, ℕ, ◌+◌, ◌*◌, ◌<◌, List, [], ◌∷◌, ◌++◌, length, map, Some, refl, ap, sym, ◌∙◌, subst, arith, length-append}
use Rattle.std.specs.Prelude.{slice_get}
use Rattle.std.proofs.lemmas.List.{take_all}
use Rattle.machine.specs.Machine.{Rules, replay}
use Rattle.lists.specs.Lists.{In}
use Rattle.lists.proofs.Members.{in_right}
use Rattle.lists.proofs.Places.{get_set, get_set_other}
use Rattle.agreement.specs.whole_logs.Application.{applied_to, outputs_to}
use Rattle.agreement.specs.whole_logs.Messages.Body.{Append, Held, Commit}
use Rattle.agreement.specs.whole_logs.Messages.{Effect, Message}
use Rattle.agreement.specs.whole_logs.Messages.Effect.{Out}
use Rattle.ballot_base.specs.declared.status.Progress.{Progress}
use Rattle.agreement.specs.whole_logs.Protocol.{received, replica_step}
use Rattle.agreement.specs.whole_logs.Protocol.Input.{Proposes}
use Rattle.agreement.specs.whole_logs.Replica.{ReplicaState}
use Rattle.ballot_base.specs.Replica.{is_active, progress_at}
use Rattle.agreement.specs.whole_logs.StepOutcome.{Outcome, message_to_followed}
use Rattle.agreement.specs.whole_logs.Service.{added}
use Rattle.ballot_base.specs.Service.{max_places}
use Rattle.agreement.proofs.of_whole_logs.StepRows.{proposed-adds}
use Rattle.agreement.specs.Moments.{Moment}
use Rattle.agreement.specs.World.{messages, outputs}
use Rattle.agreement.proofs.Agreed.MomentsAgree.{machines_replay}
use Rattle.agreement.proofs.Effects.{outputs_of_messages}
use Rattle.recovery.specs.replicas.Deliveries.{after_outcome, NumbersAreApart, Delivered, NodeIs, numbers_from}
use Rattle.recovery.specs.replicas.LedStates.{Follows, LeadsIn, LeadsWhole}
use Rattle.recovery.specs.replicas.Inside.{known}
use Rattle.recovery.specs.replicas.AnswerTheorems.{AnswersCommand, CommandsAreAnswered, IsHeldByAll}
use Rattle.recovery.proofs.of_replicas.AllCome.{front_stands, last_stands, then_come}
use Rattle.recovery.proofs.of_replicas.Broadcasts.{Answered, all_answer, from_each, to_each}
use Rattle.recovery.proofs.of_replicas.Gathers.{Gathered, all_but_last, nothing_after}
use Rattle.recovery.proofs.of_replicas.Holding.{in_from_each}
use Rattle.recovery.proofs.of_replicas.Installing.{length_from_each, length_to_each}
use Rattle.recovery.proofs.of_replicas.LeaderRows.{added_alone, added_waits, held_goes_on, held_last, outputs_next}
use Rattle.recovery.proofs.of_replicas.Rows.{append_answers, messages_to_followed}
use Rattle.recovery.proofs.of_replicas.Standing.{StandFrom, stand_at, stand_in, stand_new}

module _ {S C O : Type 0} (rules : Rules S C O) (b index : ℕ) (r : ReplicaState S C) (log : List C) (os : List ℕ) (c : C)
    (serves : LeadsWhole b log os (index + 1) r) (room : length log < max_places) (machine : r.machine ≡ replay rules log) where
  abbrev longer : ReplicaState S C
  longer = record r { log = r.log ++ c ∷ [] }

  long : length r.log ≡ length log
  long = ap length serves.log_is

  log_is : longer.log ≡ log ++ c ∷ []
  log_is = ap (λ (l : List C). l ++ c ∷ []) serves.log_is

  lead : LeadsIn b longer
  lead = record { runs = serves.leads.runs; joined = serves.leads.joined; role = serves.leads.role }

  adds : replica_step rules r (Proposes c) ≡ added rules r c
  adds = proposed-adds rules r c (ap is_active serves.leads.role) (omega (arith, long, room))

  -- if it is the sole member, it is answered at once
  pub answers_alone : os ≡ [] → AnswersCommand rules b log c [] (index + 1) (replica_step rules r (Proposes c))
  answers_alone none =
      subst (λ (o : Outcome S C O). AnswersCommand rules b log c [] (index + 1) o) (sym row)
      (record {
        rest = [];
        silent = refl;
        gives = outputs_next rules longer log c log_is serves.applied
            ∙ ap (λ (s : S). let z : List (Effect C O) = map (Out (length log)) (rules.gives s c) in z) machine ∙ sym (nothing_after _);
        serves = record {
          leads = record { runs = serves.leads.runs; joined = serves.leads.joined; role = serves.leads.role };
          id = serves.id;
          held = serves.held;
          log_is = log_is;
          applied = sym (length-append log (c ∷ []));
          progress_is = serves.progress_is ∙ ap (progress_at (length log)) none;
        };
      })
    where
      row : replica_step rules r (Proposes c) ≡ record { state = applied_to rules longer (length log + 1); effects = outputs_to rules longer (length log + 1) }
      row = adds ∙ added_alone rules r c (serves.progress_is ∙ ap (progress_at (length log)) none) (serves.applied ∙ sym long)
          ∙ ap (λ n. let o : Outcome S C O = record { state = applied_to rules longer (n + 1); effects = outputs_to rules longer (n + 1) } in o) long

  -- else when the last of all others has answered
  module _ (a : Moment S C O) (stands : slice_get a.world.nodes index ≡ Some r) (front : List ℕ) (last : ℕ) (are : os ≡ front ++ last ∷ [])
      (apart : NumbersAreApart os) (out : In (index + 1) os → ⊥) (follow : (m : ℕ) → In m os → NodeIs (Follows b log) a.world.nodes m) where
    some : os ≡ [] → ⊥
    some none = no_list front last (sym are ∙ none)
      where
        no_list : (xs : List ℕ) (x : ℕ) → xs ++ x ∷ [] ≡ [] → ⊥
        no_list [] x e = cc
        no_list (y ∷ xs) x e = cc

    count : length os ≡ length front + 1
    count = ap length are ∙ length-append front (last ∷ [])

    row : replica_step rules r (Proposes c)
        ≡ record { state = known (length log) longer [] os; effects = message_to_followed O (index + 1) (Append b (length log) c) (progress_at (length log) os) }
    row = adds
        ∙ added_waits rules r c os some (serves.progress_is ∙ ap (λ n. progress_at n os) (sym long)) (serves.applied ∙ sym long)
        ∙ ap (λ (l : List (Effect C O)). let o : Outcome S C O = record { state = longer; effects = l } in o)
        (nothing_after (message_to_followed O r.id (Append r.joined (length r.log) c) r.progress))
        ∙ ap (λ n. let o : Outcome S C O = record { state = longer; effects = message_to_followed O n (Append r.joined (length r.log) c) r.progress } in o) serves.id
        ∙ ap (λ n. let o : Outcome S C O = record { state = longer; effects = message_to_followed O (index + 1) (Append n (length r.log) c) r.progress } in o) serves.leads.joined
        ∙ ap (λ n. let o : Outcome S C O = record { state = longer; effects = message_to_followed O (index + 1) (Append b n c) r.progress } in o) long
        ∙ ap (λ (l : List Progress). let o : Outcome S C O = record {
          state = record longer { progress = l };
          effects = message_to_followed O (index + 1) (Append b (length log) c) l;
        } in o) serves.progress_is

    abbrev next : Moment S C O
    next = after_outcome index (replica_step rules r (Proposes c)) a

    next_sent : next.world.sent ≡ a.world.sent ++ to_each (index + 1) (Append b (length log) c) os
    next_sent = ap (λ (o : Outcome S C O). a.world.sent ++ messages o.effects) row
        ∙ ap (λ (l : List (ℕ × Message C)). a.world.sent ++ l) (messages_to_followed O (index + 1) (length log) (Append b (length log) c) os)

    next_long : length next.world.sent ≡ length a.world.sent + length os
    next_long = ap length next_sent ∙ length-append a.world.sent _ ∙ ap (λ j. length a.world.sent + j) (length_to_each (index + 1) (Append b (length log) c) os)

    next_stands : slice_get next.world.nodes index ≡ Some (known (length log) longer [] os)
    next_stands = get_set a.world.nodes index r _ stands ∙ ap (λ (o : Outcome S C O). Some o.state) row

    next_follow : (m : ℕ) → In m os → NodeIs (Follows b log) next.world.nodes m
    next_follow m i = let z = follow m i in record {
      index = z.index;
      number = z.number;
      replica = z.replica;
      stands = get_set_other a.world.nodes index z.index _ (λ e. out (subst (λ (j : ℕ). In j os) (z.number ∙ ap (λ j. j + 1) e) i)) ∙ z.stands;
      is = z.is;
    }

    -- all others answer
    all : Answered rules b (index + 1) (Held b (length log + 1)) (Follows b (log ++ c ∷ [])) next (numbers_from (length a.world.sent) (length os)) os
    all =
        all_answer rules b (index + 1) (Append b (length log) c) (Held b (length log + 1)) (Follows b log) (Follows b (log ++ c ∷ []))
        (append_answers rules (index + 1) b log c) next (length a.world.sent) os apart
        (stand_in (a.world.sent ++ to_each (index + 1) (Append b (length log) c) os) next.world.sent (length a.world.sent) (to_each (index + 1) (Append b (length log) c) os) (sym next_sent)
        (stand_new a.world.sent (to_each (index + 1) (Append b (length log) c) os))) next_follow

    all_long : length all.after.world.sent ≡ length a.world.sent + length os + length os
    all_long = ap length all.sent ∙ length-append next.world.sent _
        ∙ (let e : length (from_each {C = C} (index + 1) (Held b (length log + 1)) os) ≡ length os = length_from_each (index + 1) (Held b (length log + 1)) os in
        let f : length next.world.sent + length (from_each {C = C} (index + 1) (Held b (length log + 1)) os) ≡ length a.world.sent + length os + length os = omega (arith, next_long, e) in f)

    answers_stand : StandFrom all.after.world.sent (length a.world.sent + length os) (from_each (index + 1) (Held b (length log + 1)) (front ++ last ∷ []))
    answers_stand =
        subst (λ l. StandFrom all.after.world.sent (length a.world.sent + length os) (from_each (index + 1) (Held b (length log + 1)) l)) are
        (stand_in (next.world.sent ++ from_each (index + 1) (Held b (length log + 1)) os) all.after.world.sent (length a.world.sent + length os)
        (from_each (index + 1) (Held b (length log + 1)) os) (sym all.sent)
        (stand_at (next.world.sent ++ from_each (index + 1) (Held b (length log + 1)) os) (length next.world.sent) (length a.world.sent + length os)
        (from_each (index + 1) (Held b (length log + 1)) os) next_long (stand_new next.world.sent (from_each (index + 1) (Held b (length log + 1)) os))))

    -- and all these answers but the last come
    most : Gathered rules b index (known (length log) longer front (last ∷ [])) all.after (numbers_from (length a.world.sent + length os) (length front))
    most =
        all_but_last rules b index (Held b (length log + 1)) (known (length log) longer) (λ x y. serves.leads.runs) (λ x y. serves.leads.joined)
        (held_goes_on rules b longer log c lead log_is serves.applied) all.after (length a.world.sent + length os) [] front last (subst NumbersAreApart are apart)
        (front_stands (index + 1) (Held b (length log + 1)) all.after.world.sent (length a.world.sent + length os) front last answers_stand)
        (all.others index out ∙ next_stands ∙ ap (λ l. Some (known (length log) longer [] l)) are)

    end_row : received rules (known (length log) longer front (last ∷ [])) last (Held b (length log + 1)) ≡ record {
      state = applied_to rules (known (length log) longer (front ++ last ∷ []) []) (length log + 1);
      effects = map (Out (length log)) (rules.gives r.machine c)
          ++ message_to_followed O r.id (Commit r.joined (length log + 1)) (progress_at (length log + 1) (front ++ last ∷ []) ++ []);
    }
    end_row = held_last rules b longer log c lead log_is serves.applied front last

    answers_end : AnswersCommand rules b log c (front ++ last ∷ []) (index + 1) (received rules (known (length log) longer front (last ∷ [])) last (Held b (length log + 1)))
    answers_end =
        subst (λ (o : Outcome S C O). AnswersCommand rules b log c (front ++ last ∷ []) (index + 1) o) (sym end_row)
        (record {
          rest = message_to_followed O r.id (Commit r.joined (length log + 1)) (progress_at (length log + 1) (front ++ last ∷ []) ++ []);
          silent = outputs_of_messages {C = C} {O = O} r.id (Commit r.joined (length log + 1)) (progress_at (length log + 1) (front ++ last ∷ []) ++ []);
          gives = ap (λ (s : S). map (Out (length log)) (rules.gives s c)
              ++ message_to_followed O r.id (Commit r.joined (length log + 1)) (progress_at (length log + 1) (front ++ last ∷ []) ++ [])) machine;
          serves = record {
            leads = record { runs = serves.leads.runs; joined = serves.leads.joined; role = serves.leads.role };
            id = serves.id;
            held = serves.held;
            log_is = log_is;
            applied = sym (length-append log (c ∷ []));
            progress_is = nothing_after (progress_at (length log + 1) (front ++ last ∷ [])) ∙ ap (λ n. progress_at n (front ++ last ∷ [])) (sym (length-append log (c ∷ [])));
          };
        })

    still : (m : ℕ) → In m os → NodeIs (Follows b (log ++ c ∷ [])) all.after.world.nodes m → NodeIs (Follows b (log ++ c ∷ [])) most.after.world.nodes m
    still m i z = record {
      index = z.index;
      number = z.number;
      replica = z.replica;
      stands = most.others z.index (λ e. out (subst (λ (j : ℕ). In j os) (z.number ∙ ap (λ j. j + 1) e) i)) ∙ z.stands;
      is = z.is;
    }

    pub held_by_all : IsHeldByAll rules a index b r log c front last
    held_by_all =
        record {
          no_outputs = ap (λ (o : Outcome S C O). outputs o.effects) row
              ∙ outputs_of_messages {C = C} {O = O} (index + 1) (Append b (length log) c) (progress_at (length log) os);
          before = most.after;
          delivered = subst (λ n. Delivered rules b next (numbers_from (length a.world.sent) n ++ numbers_from (length a.world.sent + n) (length front)) most.after) count
              (then_come rules all.delivered most.delivered);
          master = most.master ∙ all.master;
          sent = (let e = ap length most.sent in let f = all_long in let g = count in omega (arith, e, f, g));
          told = λ m i. subst (λ (l : List (ℕ × Message C)). In (index + 1, record { from = m; body = Held b (length log + 1) }) l) (sym (most.sent ∙ all.sent))
              (in_right next.world.sent (in_from_each (index + 1) (Held b (length log + 1)) os m (subst (λ l. In m l) (sym are) i)));
          comes = ap (λ (l : List (ℕ × Message C)). slice_get l (length a.world.sent + 2 * length front + 1)) most.sent
              ∙ ap (slice_get all.after.world.sent) (let g = count in
              let e : length a.world.sent + 2 * length front + 1 ≡ length a.world.sent + length os + length front = omega (arith, g) in e)
              ∙ last_stands (index + 1) (Held b (length log + 1)) all.after.world.sent (length a.world.sent + length os) front last answers_stand;
          primary = record {
            index = index;
            number = refl;
            replica = known (length log) longer front (last ∷ []);
            stands = most.stands;
            is = (serves.leads.runs, answers_end);
          };
          each = λ m i. let j = subst (λ l. In m l) (sym are) i in still m j (all.each m j);
        }

pub commands_are_answered : {S C O : Type 0} (rules : Rules S C O) → CommandsAreAnswered rules
commands_are_answered {S = S} {C = C} {O = O} rules config a moments came b index r log os c stands serves room = (
  answers_alone rules b index r log os c serves room machine,
  λ front last are apart out follow. held_by_all rules b index r log os c serves room machine a stands front last are apart out follow,
)
  where
    machine : r.machine ≡ replay rules log
    machine = machines_replay rules config a moments came index r stands serves.leads.runs
        ∙ ap (replay rules) (take_all r.committed r.log (let e = ap length serves.log_is in let f = serves.applied in omega (arith, e, f)) ∙ serves.log_is)
