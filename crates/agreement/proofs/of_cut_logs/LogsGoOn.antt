-- LogsGoOn.antt: a node that takes a log, by any of the three ways, continues as on whole logs.
use Rattle.std.proofs.Common.{cond, [], ◌≡◌, ℕ, ◌<◌, ◌≤◌, ◌⊎◌, inl, inr, false, List, ◌∷◌, length, set, take, Some, refl, ap, sym, ◌∙◌, subst, arith}
use Rattle.std.specs.Prelude.{◌==◌, slice_get}
use Rattle.std.proofs.lemmas.Bool.{cases_eq, cases_lt, lt-ltb, le-ltb}
use Rattle.std.proofs.lemmas.List.{take-take}
use Rattle.machine.specs.Machine.{Rules, replay}
use Rattle.lists.specs.Lists.{In}
use Rattle.lists.specs.Lists.In.{there}
use Rattle.agreement.specs.whole_logs.Application.{applied_to as whole_applied_to}
use Rattle.ballot_base.specs.declared.config.Config.{Config}
use Rattle.agreement.specs.whole_logs.Protocol.{replica_step as whole_step}
use Rattle.agreement.specs.whole_logs.Replica.{ReplicaState as WholeState}
use Rattle.ballot_base.specs.Replica.{is_active, ReplicaState}
use Rattle.agreement.specs.whole_logs.StepOutcome.{Outcome as WholeOutcome}
use Rattle.agreement.specs.MasterState.{MasterState}
use Rattle.agreement.specs.Moments.{Moment, Moments}
use Rattle.agreement.specs.Moments.Moments.{went_on}
use Rattle.agreement.specs.World.{GroupWorld as WholeWorld, moved as whole_moved}
use Rattle.agreement.proofs.Agreed.MomentsAgree.{machines_replay}
use Rattle.ballot_base.specs.Logs.{Log, places}
use Rattle.agreement.specs.cut_logs.Whole.{whole_log, whole, whole_effects, whole_input}
use Rattle.agreement.specs.cut_logs.Matches.{IsBased, OutcomeMatches}
use Rattle.ballot_base.specs.declared.message.Effect.{Effect}
use Rattle.ballot_base.specs.Losses.{Thinned}
use Rattle.ballot_base.specs.Protocol.{Input, replica_step}
use Rattle.ballot_base.specs.TakenLog.{read_into, taken, with_places, with_snapshot}
use Rattle.agreement.specs.cut_logs.World.{CutGroupWorld, MayTake, moved, whole_world}
use Rattle.lists.proofs.Places.{get_set, get_set_other}
use Rattle.agreement.proofs.of_cut_logs.Continues.{Continues, TellsAs, one_more, two_more}
use Rattle.agreement.proofs.of_cut_logs.Agreed.{WasApplied, fronts_stay, learns_after}
use Rattle.agreement.proofs.of_cut_logs.Fronts.{whole_front, whole_long}
use Rattle.agreement.proofs.of_cut_logs.LogsTaken.{LearnsTo}
use Rattle.agreement.proofs.of_cut_logs.Taking.{places_taken, snapshot_learned, snapshot_taken}
use Rattle.agreement.proofs.of_cut_logs.Adds.{Adds, added_at, added_whole, adds_as, adds_one}
use Rattle.agreement.specs.Proposals.{taken_by as whole_taken_by}
use Rattle.agreement.proofs.of_cut_logs.Views.{get_whole, may_take_whole, moved_whole, step_whole, thinned_then, whole_loses, whole_thinned}

-- a world with a master, on whole logs
abbrev pub moment : {S C O : Type 0} → MasterState → CutGroupWorld S C O → Moment S C O
moment m w = record { master = m; world = whole_world w }

-- what is known about a row that takes a log
pub record TakesLog {S C O : Type 0} (rules : Rules S C O) (archive : List C) (r : ReplicaState S C) (input : Input C) (ballot : ℕ) (log : Log C) :
    Type 0 where
  pub long : r.committed ≤ places log
  pub committed : (whole_step rules (whole archive r) (whole_input archive input)).state.committed ≡ r.committed
  pub log_is : (whole_step rules (whole archive r) (whole_input archive input)).state.log ≡ whole_log archive log
  pub stopped : (whole_step rules (whole archive r) (whole_input archive input)).state.stopped ≡ r.stopped
  pub passive : is_active (whole_step rules (whole archive r) (whole_input archive input)).state.role ≡ false
  pub joined : (whole_step rules (whole archive r) (whole_input archive input)).state.joined ≡ ballot
  pub row : (took : ReplicaState S C) → taken rules r log ≡ Some took → took.id ≡ r.id → took.members ≡ r.members →
      whole archive took ≡ record (whole archive r) { log = whole_log archive log } →
      OutcomeMatches archive (replica_step rules r input) (whole_step rules (whole archive r) (whole_input archive input))
  pub learns : (took : ReplicaState S C) → taken rules r log ≡ Some took →
      whole archive took ≡ whole_applied_to rules (record (whole archive r) { log = whole_log archive log }) log.base →
      LearnsTo rules archive log.base (replica_step rules r input) (whole_step rules (whole archive r) (whole_input archive input))

-- before a node learns its log is there already
tells_before : {S C O : Type 0} (rules : Rules S C O) (m : MasterState) (w : CutGroupWorld S C O) (n : ℕ) (s : WholeState S C) (new : ReplicaState S C)
    (given : List (Effect C O)) (r : ReplicaState S C) (k : ℕ) → slice_get w.nodes n ≡ Some r → whole w.archive new ≡ whole_applied_to rules s k →
    TellsAs (record { master = m; world = whole_moved (whole_world w) n s (whole_effects w.archive given) }) (moment m (moved w n new given))
tells_before {S = S} {C = C} {O = O} rules m w n s new given r k stands is = record {
  master = refl;
  sent = ap (λ (v : WholeWorld S C O). v.sent) (sym (moved_whole w n new given));
  nodes = λ i x e. by_place i x e (cases_eq i n);
}
  where
    there_was : slice_get (whole_world w).nodes n ≡ Some (whole w.archive r)
    there_was = get_whole (whole w.archive) w.nodes n r stands

    at : (i : ℕ) (y : WholeState S C) → slice_get (set (whole_world w).nodes n (whole w.archive new)) i ≡ Some y →
        slice_get (moment m (moved w n new given)).world.nodes i ≡ Some y
    at i y e = ap (λ (v : WholeWorld S C O). slice_get v.nodes i) (moved_whole w n new given) ∙ e

    by_place : (i : ℕ) (x : WholeState S C) → slice_get (set (whole_world w).nodes n s) i ≡ Some x → (i ≡ n) ⊎ (i ≡ n → ⊥) →
        (y : WholeState S C) × (slice_get (moment m (moved w n new given)).world.nodes i ≡ Some y) × (y.log ≡ x.log) × (y.held_in ≡ x.held_in)
    by_place i x e (inl same) =
        let a : Some s ≡ Some x = sym (get_set (whole_world w).nodes n (whole w.archive r) s there_was) ∙ ap (slice_get (set (whole_world w).nodes n s)) (sym same) ∙ e in
        let b : s ≡ x = cc in (
          whole w.archive new,
          at i (whole w.archive new) (ap (slice_get (set (whole_world w).nodes n (whole w.archive new))) same
              ∙ get_set (whole_world w).nodes n (whole w.archive r) (whole w.archive new) there_was),
          ap (λ (z : WholeState S C). z.log) is ∙ ap (λ (z : WholeState S C). z.log) b,
          ap (λ (z : WholeState S C). z.held_in) is ∙ ap (λ (z : WholeState S C). z.held_in) b,
        )
    by_place i x e (inr other) = (
      x,
      at i x (get_set_other (whole_world w).nodes n i (whole w.archive new) other ∙ sym (get_set_other (whole_world w).nodes n i s other) ∙ e),
      refl,
      refl,
    )

-- the moments on whole logs after a node took a log, and what was added to it
pub record LogWent {S C O : Type 0} (rules : Rules S C O) (config : Config) (m : MasterState) (w : CutGroupWorld S C O) (earlier : List (Moment S C O)) (n : ℕ)
    (r : ReplicaState S C) (input : Input C) (new : ReplicaState S C) (given : List (Effect C O)) (came : Moments rules config (moment m w ∷ earlier)) : Type 0 where
  pub more : List (Moment S C O)
  pub moments : Moments rules config (moment m (moved w n new given) ∷ more)
  pub all : (c : Moment S C O) → In c (moment m w ∷ earlier) → In c more
  pub continues : Continues (moment m w ∷ earlier) (moment m (moved w n new given)) more
  pub adds : Adds came moments (added_whole w.archive n r input new given)

-- so the whole logs have continued, by one step or by one and learning
pub log_goes_on : {S C O : Type 0} (rules : Rules S C O) (config : Config) (m : MasterState) (w : CutGroupWorld S C O) (earlier : List (Moment S C O)) (n : ℕ)
    (r : ReplicaState S C) (input : Input C) (ballot : ℕ) (log : Log C) (machine : S) (new : ReplicaState S C) (given : List (Effect C O)) →
    (came : Moments rules config (moment m w ∷ earlier)) → slice_get w.nodes n ≡ Some r → r.stopped ≡ false → MayTake w n input → IsBased w.archive r →
    r.committed ≤ places r.log → log.base ≤ length w.archive → TakesLog {O = O} rules w.archive r input ballot log →
    (r.log.base < log.base → (rules.thawed log.snapshot ≡ Some machine) × (machine ≡ replay rules (take log.base w.archive))
    × WasApplied (moment m w ∷ earlier) ballot log.base (take log.base w.archive)) →
    new ≡ (replica_step rules r input).state → Thinned given (replica_step rules r input).effects →
    LogWent rules config m w earlier n r input new given came
log_goes_on {S = S} {C = C} {O = O} rules config m w earlier n r input ballot log machine new given came stands runs may based held within t reads is thin =
    by_base (cases_lt r.log.base log.base)
  where
    W : WholeState S C
    W = whole w.archive r

    p : WholeOutcome S C O
    p = whole_step rules W (whole_input w.archive input)

    middle : Moment S C O
    middle = record { master = m; world = whole_moved (whole_world w) n p.state (whole_effects w.archive given) }

    there_now : slice_get (whole_world w).nodes n ≡ Some W
    there_now = get_whole (whole w.archive) w.nodes n r stands

    long : r.committed ≤ length (whole_log w.archive log)
    long = let a = whole_long w.archive log within in let b = t.long in omega (arith, a, b)

    old_long : r.committed ≤ length (whole_log w.archive r.log)
    old_long = let a = whole_long w.archive r.log based.within in omega (arith, a, held)

    -- what was applied stays
    front : take r.committed (whole_log w.archive log) ≡ take r.committed (whole_log w.archive r.log)
    front =
        ap (take r.committed) (sym t.log_is)
        ∙ fronts_stay rules config (moment m w) earlier n W (whole_input w.archive input) came there_now runs (may_take_whole w n input may) old_long t.committed
        (subst (λ (us : List C). r.committed ≤ length us) (sym t.log_is) long)

    by_match : OutcomeMatches w.archive (replica_step rules r input) p →
        LogWent rules config m w earlier n r input new given came
    by_match matches =
        let s = step_whole rules m w n r input new given stands runs may
        (whole_loses rules w.archive r (replica_step rules r input) p new given matches (inl (is, thin))) in
        record {
          more = moment m w ∷ earlier;
          moments = went_on came s.0;
          all = λ c i. i;
          continues = one_more (moment m w ∷ earlier) (moment m (moved w n new given));
          adds = adds_one came (added_whole w.archive n r input new given) s;
        }

    by_base : (r.log.base < log.base) ⊎ (log.base ≤ r.log.base) →
        LogWent rules config m w earlier n r input new given came
    by_base (inr low) =
        by_match (t.row (with_places r log) (rw (le-ltb r.log.base log.base low) refl) refl refl
        (places_taken w.archive r log based low t.long
        (sym (take-take r.log.base r.committed (whole_log w.archive log) based.low)
        ∙ ap (take r.log.base) front
        ∙ take-take r.log.base r.committed (whole_log w.archive r.log) based.low
        ∙ whole_front w.archive r.log based.within)))
    by_base (inl over) = by_applied (reads over) (cases_lt r.committed log.base)
      where
        by_applied : (rules.thawed log.snapshot ≡ Some machine) × (machine ≡ replay rules (take log.base w.archive))
            × WasApplied (moment m w ∷ earlier) ballot log.base (take log.base w.archive) → (r.committed < log.base) ⊎ (log.base ≤ r.committed) →
            LogWent rules config m w earlier n r input new given came
        by_applied (read, replays, was) way = by_way way
          where
            took : taken rules r log ≡ Some (with_snapshot r log machine)
            took = rw (lt-ltb r.log.base log.base over) (ap (read_into r log) read)

            by_way : (r.committed < log.base) ⊎ (log.base ≤ r.committed) →
                LogWent rules config m w earlier n r input new given came
            by_way (inr low) = by_match (t.row (with_snapshot r log machine) took refl refl (snapshot_taken w.archive r log machine low))
            by_way (inl moments) =
                let l = t.learns (with_snapshot r log machine) took
                (snapshot_learned rules w.archive r log machine within moments replays
                (machines_replay rules config (moment m w) earlier came n W there_now runs ∙ ap (replay rules) (sym front))) in
                let known : WasApplied (moment m w ∷ earlier) p.state.joined log.base (take log.base p.state.log) =
                subst (λ (us : List C). WasApplied (moment m w ∷ earlier) p.state.joined log.base us)
                (sym (ap (take log.base) t.log_is ∙ whole_front w.archive log within))
                (subst (λ b. WasApplied (moment m w ∷ earlier) b log.base (take log.base w.archive)) (sym t.joined) was) in
                let base_long : log.base ≤ length p.state.log =
                subst (λ (us : List C). log.base ≤ length us) (sym t.log_is) (let a = whole_long w.archive log within in omega (arith, a)) in
                let low : p.state.committed ≤ log.base = let a = t.committed in omega (arith, a, moments) in
                let z = learns_after rules config (moment m w) earlier n W (whole w.archive new) (whole_input w.archive input) (whole_effects w.archive given)
                log.base came there_now runs (may_take_whole w n input may) (thinned_then (whole_thinned w.archive thin) l.effects)
                (t.stopped ∙ runs) t.passive low base_long known (ap (whole w.archive) is ∙ l.state) in
                let e = subst (λ (v : WholeWorld S C O). (q : Moments rules config (record { master = m; world = v } ∷ middle ∷ moment m w ∷ earlier))
                × Adds came q (added_at n W (whole_input w.archive input) p.state (whole_effects w.archive given)))
                (sym (moved_whole w n new given)) z in
                let same = ap (λ (x : WholeState S C). whole_taken_by W x (whole_input w.archive input)) (sym (ap (whole w.archive) is ∙ l.state)) in
                record {
                  more = middle ∷ moment m w ∷ earlier;
                  moments = e.0;
                  all = λ c i. there i;
                  continues = two_more (moment m w ∷ earlier) (moment m (moved w n new given)) middle
                      (tells_before rules m w n p.state new given r log.base stands (ap (whole w.archive) is ∙ l.state));
                  adds = adds_as came e.0 (added_at n W (whole_input w.archive input) p.state (whole_effects w.archive given))
                      (added_whole w.archive n r input new given) refl same (λ i. ap (λ us. cond (n == i) us []) same) (λ i. refl) e.1;
                }
