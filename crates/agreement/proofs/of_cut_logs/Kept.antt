-- Kept.antt: what holds for a world whose logs are cut, in addition to the moments of its whole logs,
-- and that a step keeps it.
use Rattle.std.proofs.Common.{◌≡◌, ℕ, ◌<◌, ◌≤◌, ◌⊎◌, inl, inr, false, List, ◌∷◌, length, take, set, Some, refl, ap, sym, ◌∙◌, subst, arith}
use Rattle.std.specs.Prelude.{slice_get}
use Rattle.std.proofs.lemmas.Bool.{cases_eq, cases_lt, lt-ltb, le-ltb}
use Rattle.machine.specs.Machine.{Rules, replay}
use Rattle.lists.specs.Lists.{In, IsPrefixOf}
use Rattle.lists.specs.Lists.In.{here, there}
use Rattle.lists.proofs.Prefixes.{prefix_then}
use Rattle.lists.proofs.Members.{in_append}
use Rattle.lists.proofs.Places.{get_set, get_set_other}
use Rattle.ballot_base.specs.declared.config.Config.{Config}
use Rattle.agreement.specs.whole_logs.Protocol.{replica_step as whole_step}
use Rattle.ballot_base.specs.Replica.{ReplicaState}
use Rattle.agreement.specs.MasterState.{MasterState}
use Rattle.agreement.specs.Moments.{Moment, Moments, IsAgreed}
use Rattle.agreement.specs.Moments.Moments.{went_on}
use Rattle.agreement.proofs.Agreed.MomentsAgree.{has_agreed}
use Rattle.agreement.proofs.Agreed.MomentsKnown.{moments_known}
use Rattle.ballot_base.specs.Logs.{Log, places}
use Rattle.agreement.specs.cut_logs.Whole.{whole, whole_input}
use Rattle.agreement.specs.cut_logs.Matches.{OutcomeMatches}
use Rattle.ballot_base.specs.declared.message.Body.{Body}
use Rattle.ballot_base.specs.declared.message.Effect.{Effect}
use Rattle.ballot_base.specs.declared.message.Message.{Message}
use Rattle.ballot_base.specs.Losses.{Thinned}
use Rattle.agreement.specs.cut_logs.World.{messages, CutGroupWorld, MayTake, moved, whole_world}
use Rattle.ballot_base.specs.declared.message.Body.TheVariants.{NewBallot, Join, State, Install, Installed, Activate, Activated, Superseded, Append, Held, Commit}
use Rattle.ballot_base.specs.declared.message.Effect.TheVariants.{To, Out}
use Rattle.ballot_base.specs.Losses.Thinned.{none, keeps, loses}
use Rattle.ballot_base.specs.Protocol.{Input, replica_step}
use Rattle.ballot_base.specs.TakenLog.{taken, with_places, with_snapshot, read_into}
use Rattle.agreement.proofs.of_cut_logs.Agreed.{WasApplied}
use Rattle.agreement.proofs.of_cut_logs.Bases.{IsOwn, KeepsBase, SaysOwn}
use Rattle.agreement.proofs.of_cut_logs.Fronts.{whole_front, whole_long}
use Rattle.agreement.proofs.of_cut_logs.Continues.{Continues}
use Rattle.agreement.proofs.of_cut_logs.MoreMoments.{grows_in}
use Rattle.agreement.proofs.of_cut_logs.Adds.{Added, Adds, StepAdds, added_whole, adds_one}
use Rattle.agreement.proofs.of_cut_logs.LogsGoOn.{LogWent, TakesLog, log_goes_on, moment}
use Rattle.agreement.proofs.of_cut_logs.Views.{get_whole, step_whole, whole_loses}

-- a snapshot is the frozen replay of the places of the record below its base
pub record IsSnapshot {S C O : Type 0} (rules : Rules S C O) (archive : List C) (log : Log C) : Type 0 where
  pub within : log.base ≤ length archive
  pub read : 0 < log.base → rules.thawed log.snapshot ≡ Some (replay rules (take log.base archive))
  pub bytes : 0 < log.base → log.snapshot ≡ rules.frozen (replay rules (take log.base archive))

-- .. in a message, too; and these places were applied where it was sent
abbrev pub Carries : {S C O : Type 0} → Rules S C O → List (Moment S C O) → List C → Body C → Type 0
Carries rules moments archive (State b log) = IsSnapshot rules archive log × (0 < log.base → WasApplied moments b log.base (take log.base archive))
Carries rules moments archive (Install b log) = IsSnapshot rules archive log × (0 < log.base → WasApplied moments b log.base (take log.base archive))
Carries rules moments archive _ = Unit {0}

pub record Kept {S C O : Type 0} (rules : Rules S C O) (config : Config) (m : MasterState) (w : CutGroupWorld S C O)
    (earlier : List (Moment S C O)) : Type 0 where
  pub came : Moments rules config (moment m w ∷ earlier)
  pub nodes : (n : ℕ) (r : ReplicaState S C) → slice_get w.nodes n ≡ Some r → IsSnapshot rules w.archive r.log × (r.log.base ≤ r.committed)
  pub each_sent : (to : ℕ) (x : Message C) → In (to, x) w.sent → Carries rules (moment m w ∷ earlier) w.archive x.body
  pub begins : (xs : List C) → IsAgreed config (moment m w ∷ earlier) xs → IsPrefixOf w.archive xs

-- .. and of the moments on whole logs, over an earlier one, what it has more
pub record KeptWith {S C O : Type 0} (rules : Rules S C O) (config : Config) (m : MasterState) (w : CutGroupWorld S C O) (earlier : List (Moment S C O))
    {before : List (Moment S C O)} (came : Moments rules config before) (d : Added C O) : Type 0 where
  pub kept : Kept rules config m w earlier
  pub adds : Adds came kept.came d

-- the moments on whole logs have continued
pub record GoesOn {S C O : Type 0} (rules : Rules S C O) (config : Config) (m : MasterState) (w : CutGroupWorld S C O) {before : List (Moment S C O)}
    (came : Moments rules config before) (d : Added C O) : Type 0 where
  pub more : List (Moment S C O)
  pub kept : Kept rules config m w more
  pub continues : Continues before (moment m w) more
  pub adds : Adds came kept.came d

applied_in : {S C O : Type 0} (moments more : List (Moment S C O)) (b k : ℕ) (front : List C) → ((c : Moment S C O) → In c moments → In c more) →
    WasApplied moments b k front → WasApplied more b k front
applied_in moments more b k front inc w =
    record { earlier = w.earlier; was = inc w.earlier w.was; other = w.other; teacher = w.teacher; stood = w.stood; joined = w.joined; applied = w.applied; same = w.same }

pub carries_in : {S C O : Type 0} (rules : Rules S C O) (moments more : List (Moment S C O)) (archive : List C) (body : Body C) →
    ((c : Moment S C O) → In c moments → In c more) → Carries rules moments archive body → Carries rules more archive body
carries_in rules moments more archive (State b log) inc (is, was) = (is, λ up. applied_in moments more b log.base (take log.base archive) inc (was up))
carries_in rules moments more archive (Install b log) inc (is, was) = (is, λ up. applied_in moments more b log.base (take log.base archive) inc (was up))
carries_in rules moments more archive (NewBallot b members a old) inc x = tt
carries_in rules moments more archive (Join b a) inc x = tt
carries_in rules moments more archive (Installed b held) inc x = tt
carries_in rules moments more archive (Activate b) inc x = tt
carries_in rules moments more archive (Activated b) inc x = tt
carries_in rules moments more archive (Superseded b) inc x = tt
carries_in rules moments more archive (Append b place c) inc x = tt
carries_in rules moments more archive (Held b held) inc x = tt
carries_in rules moments more archive (Commit b held) inc x = tt

-- what a node sends of its own log
own_carries : {S C O : Type 0} (rules : Rules S C O) (moments : List (Moment S C O)) (archive : List C) (s : ReplicaState S C) (body : Body C) →
    IsSnapshot rules archive s.log → WasApplied moments s.joined s.log.base (take s.log.base archive) → IsOwn s body → Carries rules moments archive body
own_carries {S = S} {C = C} {O = O} rules moments archive s (State b log) snap was (at, is) =
    subst (λ (l : Log C). IsSnapshot rules archive l × (0 < l.base → WasApplied moments b l.base (take l.base archive))) (sym is)
    (snap, λ up. subst (λ j. WasApplied moments j s.log.base (take s.log.base archive)) (sym at) was)
own_carries {S = S} {C = C} {O = O} rules moments archive s (Install b log) snap was (at, is) =
    subst (λ (l : Log C). IsSnapshot rules archive l × (0 < l.base → WasApplied moments b l.base (take l.base archive))) (sym is)
    (snap, λ up. subst (λ j. WasApplied moments j s.log.base (take s.log.base archive)) (sym at) was)
own_carries rules moments archive s (NewBallot b members a old) snap was own = tt
own_carries rules moments archive s (Join b a) snap was own = tt
own_carries rules moments archive s (Installed b held) snap was own = tt
own_carries rules moments archive s (Activate b) snap was own = tt
own_carries rules moments archive s (Activated b) snap was own = tt
own_carries rules moments archive s (Superseded b) snap was own = tt
own_carries rules moments archive s (Append b place c) snap was own = tt
own_carries rules moments archive s (Held b held) snap was own = tt
own_carries rules moments archive s (Commit b held) snap was own = tt

-- ---- after a move of a node

pub kept_moved : {S C O : Type 0} (rules : Rules S C O) (config : Config) (m : MasterState) (w : CutGroupWorld S C O) (earlier more : List (Moment S C O))
    (n : ℕ) (r new : ReplicaState S C) (given : List (Effect C O)) (d : Added C O) → (k : Kept rules config m w earlier) → slice_get w.nodes n ≡ Some r →
    (came : Moments rules config (moment m (moved w n new given) ∷ more)) → ((c : Moment S C O) → In c (moment m w ∷ earlier) → In c more) →
    IsSnapshot rules w.archive new.log → new.log.base ≤ new.committed → SaysOwn new given → Adds k.came came d →
    KeptWith rules config m (moved w n new given) more k.came d
kept_moved {S = S} {C = C} {O = O} rules config m w earlier more n r new given d k stands came inc snap low own adds =
    record {
      kept = record {
        came = came;
        nodes = λ i x e. by_place i x e (cases_eq i n);
        each_sent = λ to x i. by_age to x (in_append w.sent (messages given) i);
        begins = λ ys agreed. let xs = has_agreed rules config (moment m w) earlier k.came in
            prefix_then (k.begins xs.0 xs.1) (grows_in config (moment m w ∷ earlier) (moment m (moved w n new given) ∷ more) xs.0 ys (λ c i. there (inc c i)) xs.1 agreed);
      };
      adds = adds;
    }
  where
    by_place : (i : ℕ) (x : ReplicaState S C) → slice_get (set w.nodes n new) i ≡ Some x → (i ≡ n) ⊎ (i ≡ n → ⊥) → IsSnapshot rules w.archive x.log × (x.log.base ≤ x.committed)
    by_place i x e (inl same) =
        let a : Some new ≡ Some x = sym (get_set w.nodes n r new stands) ∙ ap (slice_get (set w.nodes n new)) (sym same) ∙ e in
        let b : new ≡ x = cc in subst (λ (y : ReplicaState S C). IsSnapshot rules w.archive y.log × (y.log.base ≤ y.committed)) b (snap, low)
    by_place i x e (inr other) = k.nodes i x (sym (get_set_other w.nodes n i new other) ∙ e)

    was : WasApplied (moment m (moved w n new given) ∷ more) new.joined new.log.base (take new.log.base w.archive)
    was = record {
      earlier = moment m (moved w n new given);
      was = here;
      other = n;
      teacher = whole w.archive new;
      stood = get_whole (whole w.archive) (set w.nodes n new) n new (get_set w.nodes n r new stands);
      joined = omega arith;
      applied = low;
      same = whole_front w.archive new.log snap.within;
    }

    by_age : (to : ℕ) (x : Message C) → In (to, x) w.sent ⊎ In (to, x) (messages given) →
        Carries rules (moment m (moved w n new given) ∷ more) w.archive x.body
    by_age to x (inl before) =
        carries_in rules (moment m w ∷ earlier) (moment m (moved w n new given) ∷ more) w.archive x.body (λ c i. there (inc c i)) (k.each_sent to x before)
    by_age to x (inr now) = own_carries rules (moment m (moved w n new given) ∷ more) w.archive new x.body snap was (own to x now)

-- fewer messages
own_thinned : {S C O : Type 0} (s : ReplicaState S C) {xs ys : List (Effect C O)} → Thinned xs ys → SaysOwn s ys → SaysOwn s xs
own_thinned s none own to m i = own to m i
own_thinned s (keeps {effect = To to' m'} t) own to m here = own to m here
own_thinned s (keeps {effect = To to' m'} t) own to m (there i) = own_thinned s t (λ a b j. own a b (there j)) to m i
own_thinned s (keeps {effect = Out place o} t) own to m i = own_thinned s t own to m i
own_thinned s (loses t) own to m i = own_thinned s t (λ a b j. own a b (there j)) to m i

-- a step that takes no log, or takes none
pub kept_plainly : {S C O : Type 0} (rules : Rules S C O) (config : Config) (m : MasterState) (w : CutGroupWorld S C O) (earlier : List (Moment S C O))
    (n : ℕ) (r : ReplicaState S C) (input : Input C) (new : ReplicaState S C) (given : List (Effect C O)) → (k : Kept rules config m w earlier) →
    slice_get w.nodes n ≡ Some r → r.stopped ≡ false → MayTake w n input → KeepsBase {O = O} r (replica_step rules r input) →
    OutcomeMatches w.archive (replica_step rules r input) (whole_step rules (whole w.archive r) (whole_input w.archive input)) →
    new ≡ (replica_step rules r input).state → Thinned given (replica_step rules r input).effects →
    KeptWith rules config m (moved w n new given) (moment m w ∷ earlier) k.came (added_whole w.archive n r input new given)
kept_plainly {S = S} {C = C} {O = O} rules config m w earlier n r input new given k stands runs may base matches is thin =
    kept_moved rules config m w earlier (moment m w ∷ earlier) n r new given (added_whole w.archive n r input new given) k stands
    (went_on k.came step.0) (λ c i. i) snap low
    (subst (λ (s : ReplicaState S C). SaysOwn s given) (sym is) (own_thinned (replica_step rules r input).state thin base.own))
    (adds_one k.came (added_whole w.archive n r input new given) step)
  where
    step : StepAdds rules m (whole_world w) m (whole_world (moved w n new given)) (added_whole w.archive n r input new given)
    step = step_whole rules m w n r input new given stands runs may
        (whole_loses rules w.archive r (replica_step rules r input) (whole_step rules (whole w.archive r) (whole_input w.archive input)) new given matches (inl (is, thin)))

    old : IsSnapshot rules w.archive r.log × (r.log.base ≤ r.committed)
    old = k.nodes n r stands

    at_base : new.log.base ≡ r.log.base
    at_base = ap (λ (s : ReplicaState S C). s.log.base) is ∙ base.base

    snap : IsSnapshot rules w.archive new.log
    snap = record {
      within = (let a = old.0.within in omega (arith, a, at_base));
      read = λ up. ap rules.thawed (ap (λ (s : ReplicaState S C). s.log.snapshot) is ∙ base.snapshot) ∙ old.0.read (omega (arith, up, at_base))
          ∙ ap (λ j. Some (replay rules (take j w.archive))) (sym at_base);
      bytes = λ up. ap (λ (s : ReplicaState S C). s.log.snapshot) is ∙ base.snapshot ∙ old.0.bytes (omega (arith, up, at_base))
          ∙ ap (λ j. rules.frozen (replay rules (take j w.archive))) (sym at_base);
    }

    low : new.log.base ≤ new.committed
    low = let a = old.1 in let b = base.committed in let c = ap (λ (s : ReplicaState S C). s.committed) is in omega (arith, a, b, c, at_base)

-- a step that takes a log
pub kept_taking : {S C O : Type 0} (rules : Rules S C O) (config : Config) (m : MasterState) (w : CutGroupWorld S C O) (earlier : List (Moment S C O))
    (n : ℕ) (r : ReplicaState S C) (input : Input C) (ballot : ℕ) (log : Log C) (new : ReplicaState S C) (given : List (Effect C O)) → (k : Kept rules config m w earlier) →
    slice_get w.nodes n ≡ Some r → r.stopped ≡ false → MayTake w n input →
    IsSnapshot rules w.archive log × (0 < log.base → WasApplied (moment m w ∷ earlier) ballot log.base (take log.base w.archive)) →
    TakesLog {O = O} rules w.archive r input ballot log →
    ((took : ReplicaState S C) → taken rules r log ≡ Some took → ((replica_step rules r input).state.log ≡ took.log)
    × ((replica_step rules r input).state.committed ≡ took.committed) × SaysOwn {O = O} (replica_step rules r input).state (replica_step rules r input).effects) →
    new ≡ (replica_step rules r input).state → Thinned given (replica_step rules r input).effects →
    GoesOn rules config m (moved w n new given) k.came (added_whole w.archive n r input new given)
kept_taking {S = S} {C = C} {O = O} rules config m w earlier n r input ballot log new given k stands runs may (snap, was) t after is thin =
    record { more = z.more; kept = all.kept; continues = z.continues; adds = all.adds }
  where
    old : IsSnapshot rules w.archive r.log × (r.log.base ≤ r.committed)
    old = k.nodes n r stands

    held : r.committed ≤ places r.log
    held =
        let a = ((moments_known rules config (moment m w) earlier k.came).serves.sound.nodes n (whole w.archive r) (get_whole (whole w.archive) w.nodes n r stands)).within in
        let b = whole_long w.archive r.log old.0.within in omega (arith, a, b)

    z : LogWent rules config m w earlier n r input new given k.came
    z = log_goes_on rules config m w earlier n r input ballot log (replay rules (take log.base w.archive)) new given k.came stands runs may
        (record { within = old.0.within; low = old.1 }) held snap.within t
        (λ over. let up : 0 < log.base = omega (arith, over) in (snap.read up, refl, was up)) is thin

    by_took : (took : ReplicaState S C) → taken rules r log ≡ Some took → IsSnapshot rules w.archive took.log → took.log.base ≤ took.committed →
        KeptWith rules config m (moved w n new given) z.more k.came (added_whole w.archive n r input new given)
    by_took took e snaps low =
        let b = after took e in
        let x : new.log ≡ took.log = ap (λ (s : ReplicaState S C). s.log) is ∙ b.0 in
        kept_moved rules config m w earlier z.more n r new given (added_whole w.archive n r input new given) k stands z.moments z.all
        (subst (λ (l : Log C). IsSnapshot rules w.archive l) (sym x) snaps)
        (let y = ap (λ (l : Log C). l.base) x in let c = ap (λ (s : ReplicaState S C). s.committed) is in let d = b.1 in omega (arith, low, y, c, d))
        (subst (λ (s : ReplicaState S C). SaysOwn s given) (sym is) (own_thinned (replica_step rules r input).state thin b.2)) z.adds

    by_base : (r.log.base < log.base) ⊎ (log.base ≤ r.log.base) →
        KeptWith rules config m (moved w n new given) z.more k.came (added_whole w.archive n r input new given)
    by_base (inr low) =
        by_took (with_places r log) (rw (le-ltb r.log.base log.base low) refl) (record { within = old.0.within; read = old.0.read; bytes = old.0.bytes }) old.1
    by_base (inl over) =
        by_took (with_snapshot r log (replay rules (take log.base w.archive)))
        (rw (lt-ltb r.log.base log.base over) (ap (read_into r log) (snap.read (omega (arith, over))))) snap (omega arith)

    all : KeptWith rules config m (moved w n new given) z.more k.came (added_whole w.archive n r input new given)
    all = by_base (cases_lt r.log.base log.base)
