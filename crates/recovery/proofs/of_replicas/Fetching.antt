-- Fetching.antt: from NewBallot to the State that the new primary is sent.
use Rattle.std.proofs.Common.{◌≡◌, ℕ, zero, suc, ◌+◌, ◌<◌, ◌≤◌, ◌⊎◌, inl, inr, List, [], ◌∷◌, ◌++◌, length, false, true, cond, Bool, Some, Option, refl, ap, sym, ◌∙◌, subst, arith, length-append}
use Rattle.std.specs.Prelude.{slice_get, nat_le, nat_lt}
use Rattle.std.proofs.lemmas.Bool.{cases_eq, le-leb, le-ltb, cases_lt, lt-ltb}
use Rattle.machine.specs.Machine.{Rules}
use Rattle.agreement.specs.whole_logs.Messages.{Body, Message}
use Rattle.agreement.specs.whole_logs.Messages.Body.{NewBallot, Join, State}
use Rattle.ballot_base.specs.declared.config.Config.{Config}
use Rattle.agreement.specs.whole_logs.Protocol.{received}
use Rattle.agreement.specs.whole_logs.Replica.{ReplicaState}
use Rattle.ballot_base.specs.declared.status.Role.TheVariants.{Backup}
use Rattle.agreement.specs.whole_logs.StepOutcome.{Outcome, message_to, message_to_each}
use Rattle.agreement.proofs.of_whole_logs.ChangeRows.{on_join-answers, on_new_ballot-joins}
use Rattle.agreement.specs.MasterState.{MasterState, assigning}
use Rattle.agreement.specs.Moments.{Moment}
use Rattle.lists.specs.Lists.{In}
use Rattle.recovery.specs.replicas.Deliveries.{Delivered, NodeIs, assigned_moment}
use Rattle.recovery.specs.replicas.Inside.{CanTake, fetching}
use Rattle.recovery.proofs.of_replicas.AllCome.{Taken, takes_one, then_come}
use Rattle.recovery.proofs.of_replicas.Broadcasts.{to_each}
use Rattle.recovery.proofs.of_replicas.Installing.{get_new, length_to_each}
use Rattle.recovery.proofs.of_replicas.Rows.{both, messages_to_each, outputs_to_each}

-- a node whose log a new ballot may fetch
pub record CanGive {S C : Type 0} (ballot active : ℕ) (log : List C) (m : ℕ) (r : ReplicaState S C) : Type 0 where
  pub can : CanTake ballot (length log) m r
  pub holds : active ≤ r.held_in
  pub log_is : r.log ≡ log

-- one that joined
abbrev pub joined_one : {S C : Type 0} → ℕ → ReplicaState S C → ReplicaState S C
joined_one b r = cond (nat_lt r.joined b) (record r { joined = b; role = Backup }) r

joined_takes : {S C : Type 0} (b n m : ℕ) (r : ReplicaState S C) → CanTake b n m r → CanTake b n m (joined_one b r)
joined_takes {S = S} {C = C} b n m r t = by (nat_lt r.joined b)
  where
    by : (x : Bool) → CanTake {S = S} {C = C} b n m (cond x (record r { joined = b; role = Backup }) r)
    by true = record { runs = t.runs; id = t.id; joined = omega arith; held = t.held; applied = t.applied }
    by false = t

joined_is : {S C : Type 0} (b : ℕ) (r : ReplicaState S C) → r.joined ≤ b → (joined_one b r).joined ≡ b
joined_is {S = S} {C = C} b r most = by (cases_lt r.joined b)
  where
    by : (r.joined < b) ⊎ (b ≤ r.joined) → (joined_one b r).joined ≡ b
    by (inl low) = ap (λ x. let one : ReplicaState S C = cond x (record r { joined = b; role = Backup }) r in one.joined) (lt-ltb r.joined b low)
    by (inr high) = ap (λ x. let one : ReplicaState S C = cond x (record r { joined = b; role = Backup }) r in one.joined) (le-ltb r.joined b high) ∙ (let e : r.joined ≡ b = omega (arith, most, high) in e)

-- the end
pub record IsFetched {S C O : Type 0} (rules : Rules S C O) (b : ℕ) (log : List C) (index source : ℕ) (r : ReplicaState S C) (os : List ℕ) (a : Moment S C O)
    (ks : List ℕ) (master : MasterState) (long : ℕ) : Type 0 where
  pub after : Moment S C O
  pub delivered : Delivered rules b a ks after
  pub master_is : after.master ≡ master
  pub sent : slice_get after.world.sent long ≡ Some (index + 1, record { from = source + 1; body = State b log })
  pub last : length after.world.sent ≡ long + 1
  pub primary : slice_get after.world.nodes index ≡ Some r
  pub each : (m : ℕ) → In m os → NodeIs (CanTake b (length log)) after.world.nodes m

get_far : {X : Type 0} (all more : List X) (i : ℕ) → slice_get (all ++ more) (length all + i) ≡ slice_get more i
get_far [] more i = ap (slice_get more) (let e : 0 + i ≡ i = omega arith in e)
get_far (x ∷ all) more i = ap (slice_get (x ∷ (all ++ more))) (let e : length (x ∷ all) + i ≡ suc (length all + i) = omega arith in e) ∙ get_far all more i

get_each : {C : Type 0} (p : ℕ) (body : Body C) (ms : List ℕ) (i m : ℕ) → slice_get ms i ≡ Some m →
    slice_get (to_each p body ms) i ≡ Some (m, record { from = p; body = body })
get_each p body [] i m e = cc
get_each {C = C} p body (x ∷ ms) zero m e =
    let same : x ≡ m = cc in ap (λ (n : ℕ). let y : Option (ℕ × Message C) = Some (n, record { from = p; body = body }) in y) same
get_each p body (x ∷ ms) (suc i) m e = get_each p body ms i m e

module _ {S C O : Type 0} (rules : Rules S C O) (a : Moment S C O) (index source i : ℕ) (rp rs : ReplicaState S C) (os : List ℕ) (log : List C) (config : Config)
    (first : config.primary ≡ index + 1) (out : In (index + 1) os → ⊥)
    (stands : slice_get a.world.nodes index ≡ Some rp) (fresh : rp.joined < a.master.given + 1) (can : CanTake (a.master.given + 1) (length log) (index + 1) rp)
    (gives_stands : slice_get a.world.nodes source ≡ Some rs) (gives : CanGive (a.master.given + 1) a.master.active log (source + 1) rs)
    (member : slice_get a.master.members i ≡ Some (source + 1))
    (each : (m : ℕ) → In m os → NodeIs (CanTake (a.master.given + 1) (length log)) a.world.nodes m) where
  -- the new primary
  abbrev r1 : ReplicaState S C
  r1 = fetching (a.master.given + 1) config.members a.master.active a.master.members rp

  assigned_sent : (assigned_moment config a).world.sent
      ≡ a.world.sent ++ (index + 1, record { from = 0; body = NewBallot (a.master.given + 1) config.members a.master.active a.master.members }) ∷ []
  assigned_sent = ap (λ n. a.world.sent ++ (n, record { from = 0; body = NewBallot (a.master.given + 1) config.members a.master.active a.master.members }) ∷ []) first

  row : received rules rp 0 (NewBallot (a.master.given + 1) config.members a.master.active a.master.members)
      ≡ record { state = r1; effects = message_to_each O (index + 1) (Join (a.master.given + 1) a.master.active) a.master.members }
  row = on_new_ballot-joins O rp (a.master.given + 1) config.members a.master.active a.master.members fresh
      ∙ ap (λ n. let o : Outcome S C O = record { state = r1; effects = message_to_each O n (Join (a.master.given + 1) a.master.active) a.master.members } in o) can.id

  t1 : Taken rules (a.master.given + 1) index r1 (message_to_each O (index + 1) (Join (a.master.given + 1) a.master.active) a.master.members) (assigned_moment config a) (length a.world.sent ∷ [])
  t1 = takes_one rules (a.master.given + 1) index (length a.world.sent) rp r1
      (record { from = 0; body = NewBallot (a.master.given + 1) config.members a.master.active a.master.members }) _ (assigned_moment config a)
      (ap (λ (l : List (ℕ × Message C)). slice_get l (length a.world.sent)) assigned_sent ∙ get_new a.world.sent _)
      stands can.runs row (outputs_to_each O (index + 1) (Join (a.master.given + 1) a.master.active) a.master.members) refl

  t1_sent : t1.after.world.sent ≡ (assigned_moment config a).world.sent ++ to_each (index + 1) (Join (a.master.given + 1) a.master.active) a.master.members
  t1_sent = t1.sent ∙ ap (λ (l : List (ℕ × Message C)). (assigned_moment config a).world.sent ++ l)
      (messages_to_each O (index + 1) (Join (a.master.given + 1) a.master.active) a.master.members)

  assigned_long : length (assigned_moment config a).world.sent ≡ length a.world.sent + 1
  assigned_long = length-append a.world.sent _

  t1_long : length t1.after.world.sent ≡ length a.world.sent + 1 + length a.master.members
  t1_long = ap length t1_sent ∙ length-append (assigned_moment config a).world.sent _
      ∙ ap (λ j. j + length (to_each {C = C} (index + 1) (Join (a.master.given + 1) a.master.active) a.master.members)) assigned_long
      ∙ ap (λ j. length a.world.sent + 1 + j) (length_to_each (index + 1) (Join (a.master.given + 1) a.master.active) a.master.members)

  -- the member that is asked, then
  record Source : Type 0 where
    asked : ReplicaState S C
    there : slice_get t1.after.world.nodes source ≡ Some asked
    able : CanGive (a.master.given + 1) a.master.active log (source + 1) asked
    new : index ≡ source → asked ≡ r1

  source_then : Source
  source_then = by (cases_eq source index)
    where
      by : (source ≡ index) ⊎ (source ≡ index → ⊥) → Source
      by (inl same) =
          let one : rs ≡ rp = let z = gives_stands in let y : slice_get a.world.nodes source ≡ Some rp = ap (slice_get a.world.nodes) same ∙ stands in cc in
          record {
            asked = r1;
            there = ap (slice_get t1.after.world.nodes) same ∙ t1.stands;
            able = record {
              can = record { runs = can.runs; id = can.id ∙ ap (λ j. j + 1) (sym same); joined = omega arith; held = can.held; applied = can.applied };
              holds = subst (λ (r : ReplicaState S C). a.master.active ≤ r.held_in) one gives.holds;
              log_is = ap (λ (r : ReplicaState S C). r.log) (sym one) ∙ gives.log_is;
            };
            new = λ e. refl;
          }
      by (inr other) =
          record {
            asked = rs;
            there = t1.others source other ∙ gives_stands;
            able = gives;
            new = λ e. absurd (other (sym e));
          }

  module _ (s : Source) where
    join_row : received rules s.asked (index + 1) (Join (a.master.given + 1) a.master.active) ≡ record {
      state = joined_one (a.master.given + 1) s.asked;
      effects = message_to O (source + 1) (State (a.master.given + 1) log) (index + 1) ∷ [];
    }
    join_row = on_join-answers O s.asked (index + 1) (a.master.given + 1) a.master.active
        (both (nat_le s.asked.joined (a.master.given + 1)) (nat_le a.master.active s.asked.held_in)
        (le-leb s.asked.joined (a.master.given + 1) s.able.can.joined) (le-leb a.master.active s.asked.held_in s.able.holds))
        ∙ ap (λ n. let o : Outcome S C O = record {
          state = joined_one (a.master.given + 1) s.asked;
          effects = message_to O n (State (a.master.given + 1) s.asked.log) (index + 1) ∷ [];
        } in o) s.able.can.id
        ∙ ap (λ (l : List C). let o : Outcome S C O = record {
          state = joined_one (a.master.given + 1) s.asked;
          effects = message_to O (source + 1) (State (a.master.given + 1) l) (index + 1) ∷ [];
        } in o) s.able.log_is

    join_sent : slice_get t1.after.world.sent (length a.world.sent + 1 + i) ≡ Some (source + 1, record { from = index + 1; body = Join (a.master.given + 1) a.master.active })
    join_sent =
        ap (λ (l : List (ℕ × Message C)). slice_get l (length a.world.sent + 1 + i)) t1_sent
        ∙ ap (λ j. slice_get ((assigned_moment config a).world.sent ++ to_each (index + 1) (Join (a.master.given + 1) a.master.active) a.master.members) (j + i)) (sym assigned_long)
        ∙ get_far (assigned_moment config a).world.sent (to_each (index + 1) (Join (a.master.given + 1) a.master.active) a.master.members) i
        ∙ get_each (index + 1) (Join (a.master.given + 1) a.master.active) a.master.members i (source + 1) member

    t2 : Taken rules (a.master.given + 1) source (joined_one (a.master.given + 1) s.asked) (message_to O (source + 1) (State (a.master.given + 1) log) (index + 1) ∷ []) t1.after
        ((length a.world.sent + 1 + i) ∷ [])
    t2 = takes_one rules (a.master.given + 1) source (length a.world.sent + 1 + i) s.asked (joined_one (a.master.given + 1) s.asked)
        (record { from = index + 1; body = Join (a.master.given + 1) a.master.active }) (message_to O (source + 1) (State (a.master.given + 1) log) (index + 1) ∷ [])
        t1.after join_sent s.there s.able.can.runs join_row refl (joined_is (a.master.given + 1) s.asked s.able.can.joined)

    primary_still : (index ≡ source) ⊎ (index ≡ source → ⊥) → slice_get t2.after.world.nodes index ≡ Some r1
    primary_still (inl same) =
        ap (slice_get t2.after.world.nodes) same ∙ t2.stands
        ∙ ap (λ (r : ReplicaState S C). Some (joined_one (a.master.given + 1) r)) (s.new same)
        ∙ ap (λ z. Some (cond z (record r1 { joined = a.master.given + 1; role = Backup }) r1)) (le-ltb (a.master.given + 1) (a.master.given + 1) (omega arith))
    primary_still (inr other) = t2.others index other ∙ t1.stands

    each_still : (m : ℕ) → In m os → (z : NodeIs (CanTake (a.master.given + 1) (length log)) a.world.nodes m) → (z.index ≡ source) ⊎ (z.index ≡ source → ⊥) →
        NodeIs (CanTake (a.master.given + 1) (length log)) t2.after.world.nodes m
    each_still m j z (inl same) =
        record {
          index = source;
          number = z.number ∙ ap (λ x. x + 1) same;
          replica = joined_one (a.master.given + 1) s.asked;
          stands = t2.stands;
          is = subst (λ x. CanTake (a.master.given + 1) (length log) x (joined_one (a.master.given + 1) s.asked)) (sym (z.number ∙ ap (λ x. x + 1) same))
              (joined_takes (a.master.given + 1) (length log) (source + 1) s.asked s.able.can);
        }
    each_still m j z (inr other) =
        record {
          index = z.index;
          number = z.number;
          replica = z.replica;
          stands = t2.others z.index other
              ∙ t1.others z.index (λ e. out (subst (λ (x : ℕ). In x os) (z.number ∙ ap (λ x. x + 1) e) j)) ∙ z.stands;
          is = z.is;
        }

  pub fetched : IsFetched rules (a.master.given + 1) log index source r1 os (assigned_moment config a)
      (length a.world.sent ∷ (length a.world.sent + 1 + i) ∷ []) (assigning a.master config) (length a.world.sent + 1 + length a.master.members)
  fetched = by source_then
    where
      by : Source → IsFetched rules (a.master.given + 1) log index source r1 os (assigned_moment config a)
          (length a.world.sent ∷ (length a.world.sent + 1 + i) ∷ []) (assigning a.master config) (length a.world.sent + 1 + length a.master.members)
      by s =
          record {
            after = (t2 s).after;
            delivered = then_come rules t1.delivered (t2 s).delivered;
            master_is = (t2 s).master ∙ t1.master;
            sent = ap (λ (l : List (ℕ × Message C)). slice_get l (length a.world.sent + 1 + length a.master.members)) (t2 s).sent
                ∙ ap (slice_get (t1.after.world.sent ++ (index + 1, record { from = source + 1; body = State (a.master.given + 1) log }) ∷ [])) (sym t1_long)
                ∙ get_new t1.after.world.sent _;
            last = ap length (t2 s).sent ∙ length-append t1.after.world.sent _ ∙ ap (λ j. j + 1) t1_long;
            primary = primary_still s (cases_eq index source);
            each = λ m j. let z = each m j in each_still s m j z (cases_eq z.index source);
          }
