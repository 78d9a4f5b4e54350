-- MessagesTaken.antt: what a replica does with a message or a tick is the row of the protocol.
use Rattle.std.proofs.Common.{◌≡◌, ℕ, ◌-◌, ◌<◌, ◌≤◌, Bool, true, false, cond, inl, inr, List, [], ◌∷◌, ◌++◌, length, max, take, drop, refl, ap, sym, ◌∙◌, subst, arith}
use Rattle.std.proofs.lemmas.List.{append-nil, take_at}
use Rattle.std.proofs.lemmas.Bool.{eq-eqb}
use Rattle.machine.specs.Machine.{Rules, replay_from}
use Rattle.ballot_base.specs.declared.message.Body.TheVariants.{Held}
use Rattle.ballot_base.specs.declared.message.Effect.{Effect}
use Rattle.ballot_base.specs.declared.status.Progress.{Progress}
use Rattle.ballot_base.specs.Replica.{ReplicaState, CountedReplica}
use Rattle.ballot_base.specs.Logs.{Log, part, places, pushed}
use Rattle.ballot_base.proofs.LongerLogs.{places_pushed}
use Rattle.ballot_base.specs.Losses.{AppendedStepOrLost, ReplicaStepOrLost, Loses, SendsAndAddsNothing, halted, one_more}
use Rattle.ballot_base.specs.StepOutcome.{Outcome, nothing_done, message_to}
use Rattle.ballot_base.specs.Application.{applied_to}
use Rattle.ballot_base.specs.Service.{least, raised, follows, leads, extended, commit_at, on_append, on_held, on_commit}
use Rattle.ballot_base.proofs.AppliesInOrder.{part_none}
use Rattle.ballot_base.proofs.StepRows.{commit_at-goes}
use Rattle.ballot_base.proofs.MessageRows.{commit_at-raised, progress_raised, on_append-takes, on_held-raises, on_commit-takes}
use Rattle.ballot_base.specs.Sends.{Sends}
use Rattle.ballot.specs.Inside.{PlainStepOrLost, ReadingStepOrLost}
use Rattle.ballot.specs.Told.{StepTold}
use Rattle.lists.specs.Lists.{IsPrefixOf}

-- such a step, once its losses are counted
pub went_told : {S C O : Type 0} {rules : Rules S C O} {old : CountedReplica S C} {o : Outcome S C O} {unread whole : Bool} {mid : CountedReplica S C} (new : CountedReplica S C) {before later : List (Effect C O)} →
    ReadingStepOrLost rules old o unread whole mid before later → new.state ≡ mid.state → new.losses ≡ cond whole mid.losses (one_more mid.losses) →
    StepTold rules old o whole new before later
went_told {rules = rules} {old = old} {o = o} {whole = whole} {mid = mid} new w state losses =
    record {
      given = w.given;
      appended = w.appended;
      exact = λ e. let d = w.exact e in (state ∙ d.0, d.1, losses ∙ ap (λ t. cond t mid.losses (one_more mid.losses)) e ∙ w.uncounted);
      lossy = λ e. (
        subst (λ s. Loses rules old.state o s w.given) (sym state) (w.lossy e).0,
        losses ∙ ap (λ t. cond t mid.losses (one_more mid.losses)) e ∙ ap one_more w.uncounted,
      );
    }

-- a step that was told is one that was exact or counted
pub told_steps : {S C O : Type 0} {rules : Rules S C O} {old : CountedReplica S C} {o : Outcome S C O} {whole : Bool} {new : CountedReplica S C} {before later : List (Effect C O)} →
    StepTold rules old o whole new before later → AppendedStepOrLost rules old o new before later
told_steps {rules = rules} {old = old} {o = o} {whole = whole} {new = new} t =
    record { given = t.given; appended = t.appended; steps = by_whole whole t.exact t.lossy }
  where
    by_whole : (whole : Bool) →
        (whole ≡ true → (new.state ≡ o.state) × (t.given ≡ o.effects) × (new.losses ≡ old.losses)) →
        (whole ≡ false → Loses rules old.state o new.state t.given × (new.losses ≡ one_more old.losses)) →
        ReplicaStepOrLost rules old o new t.given
    by_whole true exact lossy = inl (exact refl)
    by_whole false exact lossy = inr (lossy refl)

-- a quiet step loses nothing, if no snapshot has to be read
pub went_quiet : {S C O : Type 0} {rules : Rules S C O} {old : CountedReplica S C} {o : Outcome S C O} {unread whole : Bool} {new : CountedReplica S C} {before later : List (Effect C O)} →
    ReadingStepOrLost rules old o unread whole new before later → SendsAndAddsNothing old.state o → unread ≡ false → whole ≡ true
went_quiet {rules = rules} {old = old} {o = o} {unread = unread} {whole = whole} {new = new} w quiet read = by_whole whole w.lossy
  where
    by_whole : (whole : Bool) →
        (whole ≡ false → Loses rules old.state o new.state w.given × (SendsAndAddsNothing old.state o → unread ≡ true)) → whole ≡ true
    by_whole true lossy = refl
    by_whole false lossy = let f = (lossy refl).1 quiet in cc

-- and one that was told is done exactly
pub told_exactly : {S C O : Type 0} {rules : Rules S C O} {old : CountedReplica S C} {o : Outcome S C O} {whole : Bool} {new : CountedReplica S C} {before later : List (Effect C O)} →
    StepTold rules old o whole new before later → whole ≡ true → new ≡ record { state = o.state; losses = old.losses }
told_exactly {S = S} {C = C} {old = old} {o = o} {new = new} t e =
    let d = t.exact e in
    ap (λ s. let z : CountedReplica S C = record { state = s; losses = new.losses } in z) d.0
    ∙ ap (λ n. let z : CountedReplica S C = record { state = o.state; losses = n } in z) d.2

-- the row changes nothing, and nothing was done
pub went_same : {S C O : Type 0} {rules : Rules S C O} {unread : Bool} (old : CountedReplica S C) (o : Outcome S C O) (out : List (Effect C O)) →
    o ≡ nothing_done O old.state → ReadingStepOrLost rules old o unread true old out out
went_same {S = S} {C = C} {O = O} {rules = rules} old o out e =
    record {
      given = [];
      appended = sym (append-nil out);
      uncounted = refl;
      exact = λ _. (ap (λ (z : Outcome S C O). z.state) (sym e), ap (λ (z : Outcome S C O). z.effects) (sym e));
      lossy = λ f. cc;
    }

-- the row was done whole
pub went_whole : {S C O : Type 0} {rules : Rules S C O} {unread : Bool} (old : CountedReplica S C) (o : Outcome S C O) (new : CountedReplica S C) (out : List (Effect C O)) →
    new.state ≡ o.state → o.effects ≡ [] → new.losses ≡ old.losses → ReadingStepOrLost rules old o unread true new out out
went_whole old o new out state none losses =
    record { given = []; appended = sym (append-nil out); uncounted = losses; exact = λ _. (state, sym none); lossy = λ f. cc }

-- the row was done, except messages that were lost
pub went_sent : {S C O : Type 0} {rules : Rules S C O} {unread : Bool} (old : CountedReplica S C) (o : Outcome S C O) (new : CountedReplica S C) (before later : List (Effect C O))
    (whole : Bool) → Sends before later o.effects whole → new.state ≡ o.state →
    new.losses ≡ old.losses → ReadingStepOrLost rules old o unread whole new before later
went_sent {S = S} {C = C} {O = O} {rules = rules} {unread = unread} old o new before later whole sent state losses =
    record {
      given = sent.given;
      appended = sent.appended;
      uncounted = losses;
      exact = λ e. (state, sent.exact e);
      lossy = λ e. (inl (state, sent.thinned), λ quiet. let h = sym e ∙ sent.idle quiet.nothing_sent in cc);
    }

-- nothing was done: there was no memory, or a snapshot does not thaw
pub went_lost : {S C O : Type 0} {rules : Rules S C O} {unread : Bool} (old : CountedReplica S C) (o : Outcome S C O) (new : CountedReplica S C) (before later : List (Effect C O)) →
    new.state ≡ old.state → new.losses ≡ old.losses → later ≡ before → (SendsAndAddsNothing old.state o → unread ≡ true) →
    ReadingStepOrLost rules old o unread false new before later
went_lost old o new before later state losses same busy =
    record {
      given = [];
      appended = same ∙ sym (append-nil before);
      uncounted = losses;
      exact = λ f. cc;
      lossy = λ _. (inr (inl (state, refl)), busy);
    }

pub went_ignored : {S C O : Type 0} {rules : Rules S C O} {unread : Bool} (old : CountedReplica S C) (o : Outcome S C O) (new : CountedReplica S C) (before later : List (Effect C O)) →
    new.state ≡ old.state → new.losses ≡ old.losses → later ≡ before → (SendsAndAddsNothing old.state o → ⊥) →
    ReadingStepOrLost rules old o unread false new before later
went_ignored old o new before later state losses same busy = went_lost old o new before later state losses same (λ quiet. absurd (busy quiet))

-- the replica stopped, because memory ran out
pub went_halted : {S C O : Type 0} {rules : Rules S C O} {unread : Bool} (old : CountedReplica S C) (o : Outcome S C O) (new : CountedReplica S C) (before later : List (Effect C O)) →
    new.state ≡ halted rules old.state → new.losses ≡ old.losses → later ≡ before → (SendsAndAddsNothing old.state o → ⊥) →
    ReadingStepOrLost rules old o unread false new before later
went_halted old o new before later state losses same busy =
    record {
      given = [];
      appended = same ∙ sym (append-nil before);
      uncounted = losses;
      exact = λ f. cc;
      lossy = λ _. (inr (inr (state, refl)), λ quiet. absurd (busy quiet));
    }

-- if nothing was handed out, nothing was
pub went_silent : {S C O : Type 0} {rules : Rules S C O} {old : CountedReplica S C} {o : Outcome S C O} {whole : Bool} {new : CountedReplica S C} (out : List (Effect C O)) →
    PlainStepOrLost rules old o whole new [] [] → PlainStepOrLost rules old o whole new out out
went_silent out w =
    record {
      given = w.given;
      appended = sym (ap (λ xs. out ++ xs) (sym w.appended) ∙ append-nil out);
      uncounted = w.uncounted;
      exact = w.exact;
      lossy = w.lossy;
    }

-- a log that takes a command is another log
longer : {C : Type 0} (log other : Log C) (c : C) → other ≡ pushed log c → other ≡ log → ⊥
longer log other c e f =
    let n : places log ≡ places (pushed log c) = ap places (sym f ∙ e) in omega (arith, n, places_pushed log c)

-- Append that is answered
pub append_taken : {S C : Type 0} (O : Type 0) {rules : Rules S C O} (old new : CountedReplica S C) (from ballot place : ℕ) (command : C) (log : Log C)
    (long : ℕ) (before later : List (Effect C O)) (sent : Bool) →
    follows old.state ballot ≡ true → place ≤ places old.state.log → log ≡ extended place command old.state.log →
    long ≡ places log →
    new ≡ record old { state = record old.state { log = log } } →
    Sends before later (message_to O new.state.id (Held ballot long) from ∷ []) sent →
    PlainStepOrLost rules old (on_append O old.state from ballot place command) sent new before later
append_taken {S = S} {C = C} O {rules = rules} old new from ballot place command log long before later sent follower within e n m said =
    let row = on_append-takes O old.state from ballot place command follower within in
    let named : new.state.id ≡ old.state.id = ap (λ (z : CountedReplica S C). z.state.id) m in
    let sends : Sends before later (message_to O old.state.id (Held ballot long) from ∷ []) sent =
    subst (λ k. Sends before later (message_to O k (Held ballot long) from ∷ []) sent) named said in
    subst (λ (o : Outcome S C O). PlainStepOrLost rules old o sent new before later) (sym row)
    (went_sent old _ new before later sent
    (subst (λ k. Sends before later (message_to O old.state.id (Held ballot k) from ∷ []) sent) (n ∙ ap places e) sends)
    (ap (λ (z : CountedReplica S C). z.state) m ∙ ap (λ xs. let r : ReplicaState S C = record old.state { log = xs } in r) e)
    (ap (λ (z : CountedReplica S C). z.losses) m))

-- Append whose command found no memory
pub append_lost : {S C : Type 0} (O : Type 0) {rules : Rules S C O} (old new : CountedReplica S C) (from ballot place : ℕ) (command : C)
    (before : List (Effect C O)) →
    follows old.state ballot ≡ true → place ≡ places old.state.log →
    new.state ≡ old.state → new.losses ≡ old.losses →
    PlainStepOrLost rules old (on_append O old.state from ballot place command) false new before before
append_lost {S = S} {C = C} O {rules = rules} old new from ballot place command before follower next state losses =
    let row = on_append-takes O old.state from ballot place command follower (omega (arith, next)) in
    let added : extended place command old.state.log ≡ pushed old.state.log command = rw (eq-eqb place (places old.state.log) next) refl in
    subst (λ (o : Outcome S C O). PlainStepOrLost rules old o false new before before) (sym row)
    (went_ignored old _ new before before state losses refl (λ quiet. longer old.state.log _ command added quiet.same_log))

-- Held that raises a progress, and commits what all hold then
pub held_taken : {S C O : Type 0} (rules : Rules S C O) (old after new : CountedReplica S C) (from ballot held n : ℕ)
    (progress progress' : List Progress) (long : ℕ) (before later : List (Effect C O)) (told : Bool) →
    leads old.state ballot ≡ true → progress ≡ old.state.progress → long ≡ places old.state.log → n ≡ least long (raised from held progress) →
    after ≡ record { state = (commit_at rules old.state n).state; losses = old.losses } →
    Sends before later (commit_at rules old.state n).effects told →
    progress' ≡ raised from held after.state.progress →
    new.state ≡ record after.state { progress = progress' } → new.losses ≡ after.losses →
    PlainStepOrLost rules old (on_held rules old.state from ballot held) told new before later
held_taken {S = S} {C = C} {O = O} rules old after new from ballot held n progress progress' long before later told leader m l h a sends m' state losses =
    let n' : n ≡ least (places old.state.log) (raised from held old.state.progress) =
    h ∙ ap (λ k. least k (raised from held progress)) l ∙ ap (λ xs. least (places old.state.log) (raised from held xs)) m in
    let row : on_held rules old.state from ballot held ≡ progress_raised from held (commit_at rules old.state n) =
    on_held-raises rules old.state from ballot held leader
    ∙ ap (commit_at rules (record old.state { progress = raised from held old.state.progress })) (sym n')
    ∙ commit_at-raised rules old.state from held n in
    let after_state : after.state ≡ (commit_at rules old.state n).state = ap (λ (z : CountedReplica S C). z.state) a in
    subst (λ (o : Outcome S C O). PlainStepOrLost rules old o told new before later) (sym row)
    (went_sent old _ new before later told sends
    (state ∙ ap (λ xs. let r : ReplicaState S C = record after.state { progress = xs } in r) m'
    ∙ ap (λ (r : ReplicaState S C). let z : ReplicaState S C = record r { progress = raised from held r.progress } in z) after_state)
    (losses ∙ ap (λ (z : CountedReplica S C). z.losses) a))

-- Held with which all members hold more places commits them
pub held_more : {S C O : Type 0} (rules : Rules S C O) (old : CountedReplica S C) (from ballot held n : ℕ)
    (progress : List Progress) (long : ℕ) →
    leads old.state ballot ≡ true → progress ≡ old.state.progress → long ≡ places old.state.log → n ≡ least long (raised from held progress) →
    old.state.committed < n → old.state.committed < (on_held rules old.state from ballot held).state.committed
held_more {S = S} {C = C} {O = O} rules old from ballot held n progress long leader m l h above =
    let n' : n ≡ least (places old.state.log) (raised from held old.state.progress) =
    h ∙ ap (λ k. least k (raised from held progress)) l ∙ ap (λ xs. least (places old.state.log) (raised from held xs)) m in
    let row : on_held rules old.state from ballot held ≡ progress_raised from held (commit_at rules old.state n) =
    on_held-raises rules old.state from ballot held leader
    ∙ ap (commit_at rules (record old.state { progress = raised from held old.state.progress })) (sym n')
    ∙ commit_at-raised rules old.state from held n in
    let goes : (commit_at rules old.state n).state.committed ≡ n =
    ap (λ (o : Outcome S C O). o.state.committed) (commit_at-goes rules old.state n above) in
    subst (λ (o : Outcome S C O). old.state.committed < o.state.committed) (sym row) (omega (arith, goes, above))

-- Held whose places found no memory when they were applied
pub held_halted : {S C O : Type 0} (rules : Rules S C O) (old after new : CountedReplica S C) (from ballot held n : ℕ)
    (progress : List Progress) (long : ℕ) (before later : List (Effect C O)) →
    leads old.state ballot ≡ true → progress ≡ old.state.progress → long ≡ places old.state.log → n ≡ least long (raised from held progress) →
    old.state.committed < n → after ≡ record { state = halted rules old.state; losses = old.losses } →
    new ≡ after → later ≡ before →
    PlainStepOrLost rules old (on_held rules old.state from ballot held) false new before later
held_halted {S = S} {C = C} {O = O} rules old after new from ballot held n progress long before later leader m l h above a is same =
    let n' : n ≡ least (places old.state.log) (raised from held old.state.progress) =
    h ∙ ap (λ k. least k (raised from held progress)) l ∙ ap (λ xs. least (places old.state.log) (raised from held xs)) m in
    let row : on_held rules old.state from ballot held ≡ progress_raised from held (commit_at rules old.state n) =
    on_held-raises rules old.state from ballot held leader
    ∙ ap (commit_at rules (record old.state { progress = raised from held old.state.progress })) (sym n')
    ∙ commit_at-raised rules old.state from held n in
    let goes : (commit_at rules old.state n).state.committed ≡ n =
    ap (λ (o : Outcome S C O). o.state.committed) (commit_at-goes rules old.state n above) in
    subst (λ (o : Outcome S C O). PlainStepOrLost rules old o false new before later) (sym row)
    (went_halted old _ new before later
    (ap (λ (z : CountedReplica S C). z.state) (is ∙ a))
    (ap (λ (z : CountedReplica S C). z.losses) (is ∙ a)) same
    (λ quiet. let e : (commit_at rules old.state n).state.committed ≡ old.state.committed = quiet.same_committed in omega (arith, e, goes)))

-- Commit of what is applied already
pub commit_known : {S C O : Type 0} (rules : Rules S C O) (r : ReplicaState S C) (ballot held : ℕ) →
    follows r ballot ≡ true → held ≤ places r.log → held ≤ r.committed →
    on_commit rules r ballot held ≡ nothing_done O r
commit_known {S = S} {C = C} {O = O} rules r ballot held follower within known =
    let e : max r.committed held ≡ r.committed = omega arith in
    on_commit-takes rules r ballot held follower within
    ∙ ap (λ n. let o : Outcome S C O = record { state = applied_to rules r n; effects = [] } in o) e
    ∙ ap (λ xs. let o : Outcome S C O = record {
      state = record r { machine = replay_from rules r.machine xs };
      effects = [];
    } in o) (part_none r.log.rest (r.committed - r.log.base))

-- Commit that is applied
pub commit_taken : {S C O : Type 0} (rules : Rules S C O) (old new : CountedReplica S C) (ballot held : ℕ) (machine : S) →
    follows old.state ballot ≡ true → held ≤ places old.state.log → old.state.committed < held →
    new.state ≡ record old.state { committed = held; machine = machine } →
    machine ≡ replay_from rules old.state.machine (part old.state.log old.state.committed held) → new.losses ≡ old.losses →
    PlainStepOrLost rules old (on_commit rules old.state ballot held) true new [] []
commit_taken {S = S} {C = C} {O = O} rules old new ballot held machine follower within above state done losses =
    let e : held ≡ max old.state.committed held = omega arith in
    let row = on_commit-takes rules old.state ballot held follower within in
    subst (λ (o : Outcome S C O). PlainStepOrLost rules old o true new [] []) (sym row)
    (went_whole old _ new []
    (state ∙ ap (λ t. let r : ReplicaState S C = record old.state { committed = held; machine = t } in r) done
    ∙ ap (applied_to rules old.state) e) refl losses)

-- Commit of more places commits them
pub commit_more : {S C O : Type 0} (rules : Rules S C O) (old : CountedReplica S C) (ballot held : ℕ) →
    follows old.state ballot ≡ true → held ≤ places old.state.log → old.state.committed < held →
    old.state.committed < (on_commit rules old.state ballot held).state.committed
commit_more {S = S} {C = C} {O = O} rules old ballot held follower within above =
    let row = on_commit-takes rules old.state ballot held follower within in
    subst (λ (o : Outcome S C O). old.state.committed < o.state.committed) (sym row) (omega (arith, above))

-- Commit whose places found no memory when they were applied
pub commit_halted : {S C O : Type 0} (rules : Rules S C O) (old new : CountedReplica S C) (ballot held : ℕ) →
    follows old.state ballot ≡ true → held ≤ places old.state.log → old.state.committed < held →
    new.state ≡ halted rules old.state → new.losses ≡ old.losses →
    PlainStepOrLost rules old (on_commit rules old.state ballot held) false new [] []
commit_halted {S = S} {C = C} {O = O} rules old new ballot held follower within above state losses =
    let row = on_commit-takes rules old.state ballot held follower within in
    subst (λ (o : Outcome S C O). PlainStepOrLost rules old o false new [] []) (sym row)
    (went_halted old _ new [] [] state losses refl
    (λ quiet. let e : max old.state.committed held ≡ old.state.committed = quiet.same_committed in omega (arith, e)))

-- what a slice of a whole vector was made is what the vector holds
pub written_back : {X : Type 0} (n : ℕ) (xs ys : List X) → length xs ≡ n → take n (xs ++ drop (length xs) ys) ≡ xs
written_back n xs ys e = take_at xs (drop (length xs) ys) n e

-- effects of a call that stopped are undone
pub taken_back : {C O : Type 0} {before later : List (Effect C O)} (back : List (Effect C O)) (n : ℕ) →
    IsPrefixOf before later → n ≡ length before → back ≡ take n later → back ≡ before
taken_back {before = before} back n grew e cut =
    cut ∙ ap (take n) grew.is ∙ take_at before grew.rest n (sym e)
