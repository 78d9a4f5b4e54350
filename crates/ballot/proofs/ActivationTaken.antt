-- ActivationTaken.antt: what a replica does when its ballot is active is the row of the protocol.
use Rattle.std.proofs.Common.{◌≡◌, ℕ, ◌+◌, ◌-◌, ◌<◌, ◌≤◌, Bool, true, false, ◌&&◌, List, [], ◌∷◌, ◌++◌, ◌⊎◌, inl, inr, length, get_or, refl, ap, sym, ◌∙◌, subst, arith}
use Rattle.std.specs.Prelude.{nat_lt, nat_le, ◌==◌}
use Rattle.std.proofs.lemmas.Bool.{and_parts}
use Rattle.std.proofs.lemmas.List.{length-append}
use Rattle.machine.specs.Machine.{Rules, replay_from}
use Rattle.ballot_base.specs.declared.message.Body.TheVariants.{Append}
use Rattle.ballot_base.specs.declared.message.Effect.{Effect}
use Rattle.ballot_base.specs.declared.status.Progress.{Progress}
use Rattle.ballot_base.specs.declared.status.Role.{Role}
use Rattle.ballot_base.specs.declared.status.Role.TheVariants.{Backup, Fetching, Installing, Active}
use Rattle.ballot_base.specs.Replica.{ReplicaState, CountedReplica, is_installing, others, progress_at}
use Rattle.ballot_base.specs.Logs.{Log, places, popped, pushed}
use Rattle.ballot_base.proofs.LongerLogs.{last_pushed, part_pushed, places_pushed, popped_pushed}
use Rattle.ballot_base.specs.Losses.{SendsAndAddsNothing, halted}
use Rattle.ballot_base.specs.StepOutcome.{Outcome, message_to_followed}
use Rattle.ballot_base.specs.Application.{applied_to}
use Rattle.ballot_base.specs.Service.{commit, commit_at, least, max_places, added}
use Rattle.ballot_base.specs.Activation.{may_begin, on_activated}
use Rattle.ballot_base.proofs.ChangeRows.{on_activated-adds}
use Rattle.ballot_base.proofs.StepRows.{added-commits, added-log, commit-stopped}
use Rattle.ballot_base.specs.Sends.{Sends}
use Rattle.ballot.specs.Inside.{ActivationOrLost, PlainStepOrLost}
use Rattle.ballot.proofs.MessagesTaken.{went_sent, went_ignored, went_halted}
use Rattle.ballot_base.proofs.SendsJoin.{Sends-then}

-- a replica that becomes active, before its start is added, and then
abbrev pub active_of : {S C O : Type 0} → Rules S C O → ReplicaState S C → ReplicaState S C
active_of rules r = record (applied_to rules r (places r.log)) { role = Active; progress = progress_at (places r.log) (others r.id r.members) }

abbrev pub begun_of : {S C O : Type 0} → Rules S C O → CountedReplica S C → ℕ → CountedReplica S C
begun_of rules old b = record old { state = record (active_of rules old.state) { log = pushed old.state.log (rules.start_of b) } }

-- the row is not quiet
activated_loud : {S C O : Type 0} (rules : Rules S C O) (r : ReplicaState S C) (b : ℕ) → SendsAndAddsNothing r (added rules (active_of rules r) (rules.start_of b)) → ⊥
activated_loud rules r b quiet =
    let e : pushed r.log (rules.start_of b) ≡ r.log = sym (added-log rules (active_of rules r) (rules.start_of b)) ∙ quiet.same_log in
    let n : places (pushed r.log (rules.start_of b)) ≡ places r.log = ap places e in
    omega (arith, n, places_pushed r.log (rules.start_of b))

-- the start found no memory
pub activated_lost : {S C O : Type 0} (rules : Rules S C O) (old new : CountedReplica S C) (b : ℕ) (before : List (Effect C O)) →
    may_begin old.state b ≡ true → new ≡ old →
    PlainStepOrLost rules old (on_activated rules old.state b) false new before before
activated_lost {S = S} {C = C} {O = O} rules old new b before may same =
    subst (λ (o : Outcome S C O). PlainStepOrLost rules old o false new before before) (sym (on_activated-adds rules old.state b may))
    (went_ignored old _ new before before (ap (λ (z : CountedReplica S C). z.state) same) (ap (λ (z : CountedReplica S C). z.losses) same) refl (activated_loud rules old.state b))

-- a place could not be applied
pub activated_halted : {S C O : Type 0} (rules : Rules S C O) (old grown stopped new : CountedReplica S C) (b : ℕ) (before : List (Effect C O)) →
    may_begin old.state b ≡ true →
    grown ≡ record old { state = record old.state { log = pushed old.state.log (rules.start_of b) } } →
    stopped ≡ record grown { state = halted rules grown.state } →
    new ≡ record stopped { state = record stopped.state { log = popped stopped.state.log } } →
    PlainStepOrLost rules old (on_activated rules old.state b) false new before before
activated_halted {S = S} {C = C} {O = O} rules old grown stopped new b before may p h n =
    let z : CountedReplica S C = record old { state = halted rules (record old.state { log = pushed old.state.log (rules.start_of b) }) } in
    let same : stopped ≡ z = h ∙ ap (λ (y : CountedReplica S C). let x : CountedReplica S C = record y { state = halted rules y.state } in x) p in
    let is : new ≡ record { state = halted rules old.state; losses = old.losses } =
    n ∙ ap (λ (y : CountedReplica S C). let x : CountedReplica S C = record y { state = record y.state { log = popped y.state.log } } in x) same
    ∙ ap (λ us. let x : CountedReplica S C = record { state = halted rules (record old.state { log = us }); losses = old.losses } in x)
    (popped_pushed old.state.log (rules.start_of b)) in
    subst (λ (o : Outcome S C O). PlainStepOrLost rules old o false new before before) (sym (on_activated-adds rules old.state b may))
    (went_halted old _ new before before (ap (λ (y : CountedReplica S C). y.state) is) (ap (λ (y : CountedReplica S C). y.losses) is) refl
    (activated_loud rules old.state b))

-- the role that hands a log over
installing_is : (role : Role) → is_installing role ≡ true → role ≡ Installing
installing_is Backup e = cc
installing_is Fetching e = cc
installing_is Installing e = refl
installing_is Active e = cc

-- a replica that has become active
pub become_active_is : {S C O : Type 0} (rules : Rules S C O) (old grown active : CountedReplica S C) (b : ℕ) (progress : List Progress) →
    grown ≡ record old { state = record old.state { log = pushed old.state.log (rules.start_of b) } } →
    progress ≡ progress_at (places old.state.log) (others old.state.id old.state.members) →
    active ≡ record grown { state = record (applied_to rules grown.state (places grown.state.log - 1)) { role = Active; progress = progress } } →
    active ≡ begun_of rules old b
become_active_is {S = S} {C = C} {O = O} rules old grown active b progress p m a =
    let start = rules.start_of b in
    let long : places (pushed old.state.log start) - 1 ≡ places old.state.log = let n = places_pushed old.state.log start in omega (arith, n) in
    a ∙ ap (λ (y : CountedReplica S C). let x : CountedReplica S C = record y { state = record (applied_to rules y.state (places y.state.log - 1)) { role = Active; progress = progress } } in x) p
    ∙ ap (λ k. let x : CountedReplica S C = record old { state = record (applied_to rules (record old.state { log = pushed old.state.log start }) k) { role = Active; progress = progress } } in x) long
    ∙ ap (λ ps. let x : CountedReplica S C = record old { state = record (applied_to rules (record old.state { log = pushed old.state.log start }) (places old.state.log)) { role = Active; progress = ps } } in x) m
    ∙ ap (λ us. let x : CountedReplica S C = record old {
      state = record (active_of rules old.state) {
        log = pushed old.state.log start;
        machine = replay_from rules old.state.machine us;
      };
    } in x) (part_pushed old.state.log start old.state.committed (places old.state.log) (omega arith))

-- the ballot has begun, or a place could not be applied after its start
abbrev pub Begun : {S C O : Type 0} → Rules S C O → CountedReplica S C → Bool → CountedReplica S C → ℕ → List Progress → List (Effect C O) →
    List (Effect C O) → Type 0
Begun rules active whole new committed waiting before after =
    ActivationOrLost rules active whole new before after
    ⊎ ((whole ≡ false) × (after ≡ before) × (new ≡ record active {
      state = record active.state {
        log = popped active.state.log;
        committed = committed;
        role = Installing;
        progress = waiting;
        stopped = true;
        machine = rules.opening;
      };
    }))

pub activated_begun : {S C O : Type 0} (rules : Rules S C O) (whole : Bool) (old active new : CountedReplica S C) (b committed : ℕ)
    (waiting : List Progress) (before after : List (Effect C O)) →
    may_begin old.state b ≡ true → active ≡ begun_of rules old b → committed ≡ old.state.committed → waiting ≡ old.state.progress →
    Begun rules active whole new committed waiting before after →
    PlainStepOrLost rules old (on_activated rules old.state b) whole new before after
activated_begun {S = S} {C = C} {O = O} rules whole old active new b committed waiting before after may a m w (inl begins) =
    let y : ActivationOrLost rules (begun_of rules old b) whole new before after =
    subst (λ (z : CountedReplica S C). ActivationOrLost rules z whole new before after) a begins in
    subst (λ (o : Outcome S C O). PlainStepOrLost rules old o whole new before after) (sym (on_activated-adds rules old.state b may
    ∙ added-commits rules (active_of rules old.state) (rules.start_of b)))
    (went_sent old _ new before after whole (y.sends old.state.log (rules.start_of b) refl) y.state y.uncounted)
activated_begun {S = S} {C = C} {O = O} rules whole old active new b committed waiting before after may a m w (inr (lost, same, n)) =
    let role : old.state.role ≡ Installing =
    installing_is old.state.role (and_parts (old.state.joined == b) (is_installing old.state.role)
    (and_parts (old.state.joined == b && is_installing old.state.role) (nat_le (length old.state.lacking) 0 && nat_lt (places old.state.log) max_places) may).0).1 in
    let is : new ≡ record { state = halted rules old.state; losses = old.losses } =
    n ∙ ap (λ (y : CountedReplica S C). let x : CountedReplica S C = record y {
      state = record y.state {
        log = popped y.state.log;
        committed = committed;
        role = Installing;
        progress = waiting;
        stopped = true;
        machine = rules.opening;
      };
    } in x) a
    ∙ ap (λ us. let x : CountedReplica S C = record {
      state = record old.state { log = us; committed = committed; role = Installing; progress = waiting; stopped = true; machine = rules.opening };
      losses = old.losses;
    } in x) (popped_pushed old.state.log (rules.start_of b))
    ∙ ap (λ k. let x : CountedReplica S C = record {
      state = record old.state { committed = k; role = Installing; progress = waiting; stopped = true; machine = rules.opening };
      losses = old.losses;
    } in x) m
    ∙ ap (λ ps. let x : CountedReplica S C = record {
      state = record old.state { role = Installing; progress = ps; stopped = true; machine = rules.opening };
      losses = old.losses;
    } in x) w
    ∙ ap (λ q. let x : CountedReplica S C = record {
      state = record old.state { role = q; stopped = true; machine = rules.opening };
      losses = old.losses;
    } in x) (sym role) in
    subst (λ t. PlainStepOrLost rules old (on_activated rules old.state b) t new before after) (sym lost)
    (subst (λ (o : Outcome S C O). PlainStepOrLost rules old o false new before after) (sym (on_activated-adds rules old.state b may))
    (went_halted old _ new before after (ap (λ (y : CountedReplica S C). y.state) is) (ap (λ (y : CountedReplica S C). y.losses) is) same
    (activated_loud rules old.state b)))

-- and such a replica runs, or has taken back its effects
pub begun_stops : {S C O : Type 0} (rules : Rules S C O) (whole : Bool) (old active new : CountedReplica S C) (b committed : ℕ)
    (waiting : List Progress) (before after : List (Effect C O)) →
    active ≡ begun_of rules old b → old.state.stopped ≡ false →
    Begun rules active whole new committed waiting before after → new.state.stopped ≡ true → after ≡ before
begun_stops {S = S} {C = C} {O = O} rules whole old active new b committed waiting before after a running (inl begins) stopped =
    let e : new.state.stopped ≡ false =
    ap (λ (r : ReplicaState S C). r.stopped) begins.state ∙ commit-stopped rules active.state ∙ ap (λ (z : CountedReplica S C). z.state.stopped) a ∙ running in
    let f = sym stopped ∙ e in cc
begun_stops rules whole old active new b committed waiting before after a running (inr (lost, same, n)) stopped = same

-- the places that are applied stay below the start
pub start_after : {S C : Type 0} (old grown : CountedReplica S C) (start : C) →
    grown ≡ record old { state = record old.state { log = pushed old.state.log start } } → old.state.committed ≤ places old.state.log →
    grown.state.committed < places grown.state.log
start_after {S = S} {C = C} old grown start p within =
    let k : grown.state.committed ≡ old.state.committed = ap (λ (z : CountedReplica S C). z.state.committed) p in
    let n : places grown.state.log ≡ places (pushed old.state.log start) = ap (λ (z : CountedReplica S C). places z.state.log) p in
    omega (arith, within, k, n, places_pushed old.state.log start)

pub start_after_active : {S C O : Type 0} (rules : Rules S C O) (old active : CountedReplica S C) (b k : ℕ) → active ≡ begun_of rules old b →
    k ≡ old.state.committed → old.state.committed ≤ places old.state.log → k < places active.state.log
start_after_active {S = S} {C = C} rules old active b k a e within =
    let n : places active.state.log ≡ places (pushed old.state.log (rules.start_of b)) = ap (λ (z : CountedReplica S C). places z.state.log) a in
    omega (arith, within, e, n, places_pushed old.state.log (rules.start_of b))

pub start_after_stopped : {S C O : Type 0} (rules : Rules S C O) (grown stopped : CountedReplica S C) →
    stopped ≡ record grown { state = halted rules grown.state } → grown.state.committed < places grown.state.log →
    stopped.state.committed < places stopped.state.log
start_after_stopped {S = S} {C = C} rules grown stopped h low = subst (λ (z : CountedReplica S C). z.state.committed < places z.state.log) (sym h) low

-- what the helpers commit is what all hold
pub told_commit : {S C O : Type 0} (rules : Rules S C O) (r : ReplicaState S C) (held long : ℕ) (progress : List Progress) →
    held ≡ least long progress → long ≡ places r.log → progress ≡ r.progress → commit_at rules r held ≡ commit rules r
unfolding commit
told_commit rules r held long progress h l p =
    ap (commit_at rules r) (h ∙ ap (λ k. least k progress) l ∙ ap (least (places r.log)) p)

-- the start was sent, and then what all hold was committed
pub start_sent : {S C O : Type 0} (rules : Rules S C O) (r : ReplicaState S C) (front : Log C) (last found : C) (rest : List C) (base long held long' : ℕ)
    (progress progress' : List Progress) (before mid after : List (Effect C O)) (sent told : Bool) →
    r.log ≡ pushed front last → rest ≡ r.log.rest → base ≡ r.log.base → long ≡ length rest → found ≡ get_or rest (long - 1) found → progress ≡ r.progress →
    Sends before mid (message_to_followed O r.id (Append r.joined (base + (long - 1)) found) progress) sent →
    held ≡ least long' progress' → long' ≡ places r.log → progress' ≡ r.progress →
    Sends mid after (commit_at rules r held).effects told →
    Sends before after (message_to_followed O r.id (Append r.joined (places front) last) r.progress ++ (commit rules r).effects) (sent && told)
start_sent {S = S} {C = C} {O = O} rules r front last found rest base long held long' progress progress' before mid after sent told e us b l f p sends h l' p' commits =
    let kept : rest ≡ front.rest ++ last ∷ [] = us ∙ ap (λ (x : Log C). x.rest) e in
    let first : base ≡ front.base = b ∙ ap (λ (x : Log C). x.base) e in
    let at : long - 1 ≡ length front.rest = let n : length rest ≡ length (front.rest ++ last ∷ []) = ap length kept in omega (arith, n, l, length-append front.rest (last ∷ [])) in
    let place : base + (long - 1) ≡ places front = omega (arith, at, first) in
    let is : found ≡ last = f ∙ ap (λ us. get_or us (long - 1) found) kept ∙ ap (λ k. get_or (front.rest ++ last ∷ []) k found) at ∙ last_pushed front.rest last found in
    Sends-then
    (subst (λ ps. Sends before mid (message_to_followed O r.id (Append r.joined (places front) last) ps) sent) p
    (subst (λ (x : C). Sends before mid (message_to_followed O r.id (Append r.joined (places front) x) progress) sent) is
    (subst (λ k. Sends before mid (message_to_followed O r.id (Append r.joined k found) progress) sent) place sends)))
    (subst (λ (o : Outcome S C O). Sends mid after o.effects told) (told_commit rules r held long' progress' h l' p') commits)
