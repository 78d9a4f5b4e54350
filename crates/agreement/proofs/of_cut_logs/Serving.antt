-- Serving.antt: the rows inside a ballot are those on whole logs.
use Rattle.std.proofs.Common.{cond, Bool, ◌≡◌, ℕ, ◌+◌, ◌≤◌, ◌<◌, ◌⊎◌, inl, inr, true, false, max, List, [], ◌∷◌, ◌++◌, length, map, take, drop, Option, Some, None, refl, ap, ap₂, sym, ◌∙◌, subst}
use Rattle.std.specs.Prelude.{slice_get, nat_lt, nat_le, ◌&&◌, ◌==◌}
use Rattle.std.proofs.lemmas.Bool.{cases_Bool, cases_lt, lt-ltb}
use Rattle.std.proofs.lemmas.List.{map-append}
use Rattle.machine.specs.Machine.{Rules, replay_from}
use Rattle.agreement.specs.whole_logs.Messages.{Effect as WholeEffect}
use Rattle.agreement.specs.whole_logs.Messages.{Effect as effects}
use Rattle.agreement.specs.whole_logs.Messages.{Body as bodies}
use Rattle.agreement.specs.whole_logs.Losses.{Thinned as WholeThinned}
use Rattle.agreement.specs.whole_logs.Losses.Thinned.{none, keeps, loses}
use Rattle.ballot_base.specs.declared.status.Progress.{Progress}
use Rattle.agreement.specs.whole_logs.Replica.{ReplicaState as WholeState}
use Rattle.ballot_base.specs.Replica.{is_active, ReplicaState}
use Rattle.agreement.specs.whole_logs.StepOutcome.{Outcome as WholeOutcome, message_to_followed as whole_followed, nothing_done as whole_nothing, sent_first as whole_sent_first}
use Rattle.agreement.specs.whole_logs.Application.{outputs_from as whole_outputs_from}
use Rattle.ballot_base.specs.Service.{least, max_places, raised, extended, added, append_at, appends_after, commit, commit_at, follows, leads, on_append, on_commit, on_held, on_tick_active, proposed}
use Rattle.agreement.specs.whole_logs.Service.{commit as whole_commit, commit_at as whole_commit_at, added as whole_added, proposed as whole_proposed, on_append as whole_on_append, on_held as whole_on_held, on_commit as whole_on_commit, on_tick_active as whole_on_tick_active, appends_after as whole_appends_after, append_at as whole_append_at, extended as whole_extended}
use Rattle.ballot_base.specs.Logs.{Log, command_at, part, places, pushed}
use Rattle.agreement.specs.cut_logs.Whole.{whole_log, whole, whole_body, whole_effect, whole_effects}
use Rattle.agreement.specs.cut_logs.Matches.{IsBased, OutcomeMatches}
use Rattle.ballot_base.specs.declared.message.Body.{Body}
use Rattle.ballot_base.specs.declared.message.Effect.{Effect}
use Rattle.ballot_base.specs.StepOutcome.{Outcome, message_to_followed, nothing_done, sent_first}
use Rattle.ballot_base.specs.declared.message.Body.TheVariants.{Append, Commit}
use Rattle.ballot_base.specs.Application.{applied_to, outputs_from, outputs_to}
use Rattle.agreement.proofs.of_cut_logs.Fronts.{whole_get, whole_long, whole_part, whole_pushed}

-- effects that are the same are none missing; and parts of lists that are joined
pub thinned_same : {C O : Type 0} (xs : List (WholeEffect C O)) → WholeThinned xs xs
thinned_same [] = none
thinned_same (x ∷ xs) = keeps (thinned_same xs)

pub thinned_join : {C O : Type 0} {xs ys us vs : List (WholeEffect C O)} → WholeThinned xs ys → WholeThinned us vs → WholeThinned (xs ++ us) (ys ++ vs)
thinned_join none q = q
thinned_join (keeps p) q = keeps (thinned_join p q)
thinned_join (loses p) q = loses (thinned_join p q)

-- an outcome with the same effects
pub matches_all : {S C O : Type 0} (archive : List C) (o : Outcome S C O) (p : WholeOutcome S C O) → whole archive o.state ≡ p.state →
    whole_effects archive o.effects ≡ p.effects → OutcomeMatches archive o p
matches_all {S = S} {C = C} {O = O} archive o p e f =
    record { state = e; effects = subst (λ (us : List (WholeEffect C O)). WholeThinned us p.effects) (sym f) (thinned_same p.effects) }

pub matches_nothing : {S C : Type 0} (O : Type 0) (archive : List C) (r : ReplicaState S C) → OutcomeMatches archive (nothing_done O r) (whole_nothing O (whole archive r))
matches_nothing O archive r = record { state = refl; effects = none }

-- messages to followed members
pub whole_to_followed : {C : Type 0} (O : Type 0) (archive : List C) (id : ℕ) (body : Body C) (progress : List Progress) →
    whole_effects archive (message_to_followed O id body progress) ≡ whole_followed O id (whole_body archive body) progress
whole_to_followed O archive id body [] = refl
whole_to_followed O archive id body (reached ∷ progress) =
    ap (λ us. effects.To reached.member (record { from = id; body = whole_body archive body }) ∷ us) (whole_to_followed O archive id body progress)

-- outputs
whole_outs : {C O : Type 0} (archive : List C) (place : ℕ) (os : List O) →
    whole_effects archive (map (Effect.Out place) os) ≡ map (effects.Out place) os
whole_outs archive place [] = refl
whole_outs archive place (o ∷ os) = ap (λ us. effects.Out place o ∷ us) (whole_outs archive place os)

pub whole_outputs : {S C O : Type 0} (rules : Rules S C O) (archive : List C) (s : S) (place : ℕ) (commands : List C) →
    whole_effects archive (outputs_from rules s place commands) ≡ whole_outputs_from rules s place commands
whole_outputs rules archive s place [] = refl
whole_outputs {C = C} {O = O} rules archive s place (c ∷ commands) =
    map-append (whole_effect archive) (map (Effect.Out place) (rules.gives s c)) (outputs_from rules (rules.after s c) (place + 1) commands)
    ∙ ap₂ (λ (us vs : List (WholeEffect C O)). us ++ vs) (whole_outs archive place (rules.gives s c)) (whole_outputs rules archive (rules.after s c) (place + 1) commands)

-- places that are committed
pub at_matches : {S C O : Type 0} (rules : Rules S C O) (archive : List C) (r : ReplicaState S C) (held : ℕ) → IsBased archive r →
    OutcomeMatches {O = O} archive (commit_at rules r held) (whole_commit_at rules (whole archive r) held)
unfolding commit_at whole_commit_at
at_matches {S = S} {C = C} {O = O} rules archive r held b = by_order (cases_Bool (nat_lt r.committed held))
  where
    same : drop r.committed (take held (whole_log archive r.log)) ≡ part r.log r.committed held
    same = whole_part archive r.log r.committed held b.within b.low

    by_order : (nat_lt r.committed held ≡ true) ⊎ (nat_lt r.committed held ≡ false) →
        OutcomeMatches {O = O} archive (commit_at rules r held) (whole_commit_at rules (whole archive r) held)
    by_order (inl e) =
        rw e (matches_all archive
        (record { state = applied_to rules r held; effects = outputs_to rules r held ++ message_to_followed O r.id (Commit r.joined held) r.progress })
        (record {
          state = record (whole archive r) { committed = held; machine = replay_from rules r.machine (drop r.committed (take held (whole_log archive r.log))) };
          effects = whole_outputs_from rules r.machine r.committed (drop r.committed (take held (whole_log archive r.log)))
              ++ whole_followed O r.id (bodies.Commit r.joined held) r.progress;
        })
        (ap (λ (us : List C). let x : WholeState S C = record (whole archive r) { committed = held; machine = replay_from rules r.machine us } in x) (sym same))
        (map-append (whole_effect archive) (outputs_to rules r held) (message_to_followed O r.id (Commit r.joined held) r.progress)
        ∙ ap₂ (λ (us vs : List (WholeEffect C O)). us ++ vs)
        (whole_outputs rules archive r.machine r.committed (part r.log r.committed held)
        ∙ ap (λ (us : List C). whole_outputs_from {O = O} rules r.machine r.committed us) (sym same))
        (whole_to_followed O archive r.id (Commit r.joined held) r.progress)))
    by_order (inr e) = rw e (matches_nothing O archive r)

pub commit_matches : {S C O : Type 0} (rules : Rules S C O) (archive : List C) (r : ReplicaState S C) → IsBased archive r →
    OutcomeMatches {O = O} archive (commit rules r) (whole_commit rules (whole archive r))
unfolding commit whole_commit
commit_matches {O = O} rules archive r b =
    subst (λ (n : ℕ). OutcomeMatches {O = O} archive (commit_at rules r (least (places r.log) r.progress)) (whole_commit_at rules (whole archive r) (least n r.progress)))
    (sym (whole_long archive r.log b.within)) (at_matches rules archive r (least (places r.log) r.progress) b)

-- one outcome or another, by a test
pub if_matches : {S C O : Type 0} (archive : List C) (b c : Bool) (o p : Outcome S C O) (u v : WholeOutcome S C O) → b ≡ c →
    OutcomeMatches archive o u → OutcomeMatches archive p v → OutcomeMatches archive (cond b o p) (cond c u v)
if_matches archive true true o p u v e m n = m
if_matches archive false false o p u v e m n = n
if_matches archive true false o p u v e m n = cc
if_matches archive false true o p u v e m n = cc

-- messages in front
sent_matches : {S C O : Type 0} (archive : List C) (xs : List (Effect C O)) (ys : List (WholeEffect C O)) (o : Outcome S C O) (p : WholeOutcome S C O) →
    whole_effects archive xs ≡ ys → OutcomeMatches archive o p → OutcomeMatches archive (sent_first xs o) (whole_sent_first ys p)
sent_matches {S = S} {C = C} {O = O} archive xs ys o p e m =
    record {
      state = m.state;
      effects = subst (λ (us : List (WholeEffect C O)). WholeThinned us (ys ++ p.effects))
          (sym (map-append (whole_effect archive) xs o.effects ∙ ap (λ (us : List (WholeEffect C O)). us ++ whole_effects archive o.effects) e))
          (thinned_join (thinned_same ys) m.effects);
    }

-- a command that is added
pub added_matches : {S C O : Type 0} (rules : Rules S C O) (archive : List C) (r : ReplicaState S C) (c : C) → IsBased archive r →
    OutcomeMatches {O = O} archive (added rules r c) (whole_added rules (whole archive r) c)
unfolding added whole_added
added_matches {S = S} {C = C} {O = O} rules archive r c b =
    sent_matches archive (message_to_followed O r.id (Append r.joined (places r.log) c) r.progress)
    (whole_followed O r.id (bodies.Append r.joined (length (whole_log archive r.log)) c) r.progress)
    (commit rules (record r { log = pushed r.log c })) (whole_commit rules (record (whole archive r) { log = whole_log archive r.log ++ c ∷ [] }))
    (whole_to_followed O archive r.id (Append r.joined (places r.log) c) r.progress
    ∙ ap (λ n. whole_followed O r.id (bodies.Append r.joined n c) r.progress) (sym (whole_long archive r.log b.within)))
    (subst (λ (us : List C). OutcomeMatches {O = O} archive (commit rules (record r { log = pushed r.log c })) (whole_commit rules (record (whole archive r) { log = us })))
    (whole_pushed archive r.log c)
    (commit_matches rules archive (record r { log = pushed r.log c }) (record { within = b.within; low = b.low })))

pub proposed_matches : {S C O : Type 0} (rules : Rules S C O) (archive : List C) (r : ReplicaState S C) (c : C) → IsBased archive r →
    OutcomeMatches {O = O} archive (proposed rules r c) (whole_proposed rules (whole archive r) c)
unfolding proposed whole_proposed
proposed_matches {O = O} rules archive r c b =
    if_matches archive _ _ _ _ _ _ (ap (λ n. is_active r.role && nat_lt n max_places) (sym (whole_long archive r.log b.within)))
    (added_matches rules archive r c b) (matches_nothing O archive r)

-- Held and Commit
pub held_matches : {S C O : Type 0} (rules : Rules S C O) (archive : List C) (r : ReplicaState S C) (from ballot held : ℕ) → IsBased archive r →
    OutcomeMatches {O = O} archive (on_held rules r from ballot held) (whole_on_held rules (whole archive r) from ballot held)
unfolding on_held whole_on_held
held_matches {O = O} rules archive r from ballot held b =
    if_matches archive (leads r ballot) (leads r ballot) _ _ _ _ refl
    (commit_matches rules archive (record r { progress = raised from held r.progress }) (record { within = b.within; low = b.low })) (matches_nothing O archive r)

pub commits_match : {S C O : Type 0} (rules : Rules S C O) (archive : List C) (r : ReplicaState S C) (ballot held : ℕ) → IsBased archive r →
    OutcomeMatches {O = O} archive (on_commit rules r ballot held) (whole_on_commit rules (whole archive r) ballot held)
unfolding on_commit whole_on_commit
commits_match {S = S} {C = C} {O = O} rules archive r ballot held b =
    if_matches archive _ _ _ _ _ _ (ap (λ n. follows r ballot && nat_le held n) (sym (whole_long archive r.log b.within)))
    (record {
      state = ap (λ (us : List C). let x : WholeState S C = record (whole archive r) { committed = max r.committed held; machine = replay_from rules r.machine us } in x)
          (sym (whole_part archive r.log r.committed (max r.committed held) b.within b.low));
      effects = none;
    })
    (matches_nothing O archive r)

-- Append
extended_whole : {C : Type 0} (archive : List C) (place : ℕ) (c : C) (log : Log C) → log.base ≤ length archive →
    whole_log archive (extended place c log) ≡ whole_extended place c (whole_log archive log)
extended_whole {C = C} archive place c log within =
    by (place == places log) ∙ ap (λ n. cond (place == n) (whole_log archive log ++ c ∷ []) (whole_log archive log)) (sym (whole_long archive log within))
  where
    by : (b : Bool) → whole_log archive (cond b (pushed log c) log) ≡ cond b (whole_log archive log ++ c ∷ []) (whole_log archive log)
    by true = whole_pushed archive log c
    by false = refl

extended_based : {C : Type 0} (place : ℕ) (c : C) (log : Log C) (n : ℕ) → log.base ≤ n → (extended place c log).base ≤ n
extended_based {C = C} place c log n within = by (place == places log)
  where
    by : (b : Bool) → (cond b (pushed log c) log).base ≤ n
    by true = within
    by false = within

pub append_matches : {S C : Type 0} (O : Type 0) (archive : List C) (r : ReplicaState S C) (from ballot place : ℕ) (c : C) → IsBased archive r →
    OutcomeMatches {O = O} archive (on_append O r from ballot place c) (whole_on_append O (whole archive r) from ballot place c)
unfolding on_append whole_on_append
append_matches {S = S} {C = C} O archive r from ballot place c b =
    if_matches archive _ _ _ _ _ _ (ap (λ n. follows r ballot && nat_le place n) (sym (whole_long archive r.log b.within)))
    (matches_all archive _ _ (ap (λ (us : List C). let x : WholeState S C = record (whole archive r) { log = us } in x) same)
    (ap (λ n. let x : WholeEffect C O = effects.To from (record { from = r.id; body = bodies.Held ballot n }) in x ∷ [])
    (sym (whole_long archive (extended place c r.log) (extended_based place c r.log (length archive) b.within)) ∙ ap length same)))
    (matches_nothing O archive r)
  where
    same : whole_log archive (extended place c r.log) ≡ whole_extended place c (whole_log archive r.log)
    same = extended_whole archive place c r.log b.within

-- a tick of an active primary
append_at_thinned : {C : Type 0} (O : Type 0) (archive : List C) (id ballot : ℕ) (reached : Progress) (o : Option C) →
    WholeThinned (whole_effects archive (append_at O id ballot reached o)) (whole_append_at O id ballot reached o)
append_at_thinned O archive id ballot reached None = none
append_at_thinned O archive id ballot reached (Some c) = keeps none

append_at_lost : {C : Type 0} (O : Type 0) (id ballot : ℕ) (reached : Progress) (o : Option C) →
    WholeThinned [] (whole_append_at O id ballot reached o)
append_at_lost O id ballot reached None = none
append_at_lost O id ballot reached (Some c) = loses none

after_thinned : {C : Type 0} (O : Type 0) (archive : List C) (id ballot : ℕ) (log : Log C) (progress : List Progress) → log.base ≤ length archive →
    WholeThinned (whole_effects archive (appends_after O id ballot log progress)) (whole_appends_after O id ballot (whole_log archive log) progress)
after_thinned O archive id ballot log [] within = none
after_thinned {C = C} O archive id ballot log (reached ∷ progress) within =
    subst (λ (us : List (WholeEffect C O)). WholeThinned us (whole_appends_after O id ballot (whole_log archive log) (reached ∷ progress)))
    (sym (map-append (whole_effect archive) (append_at O id ballot reached (command_at log reached.held)) (appends_after O id ballot log progress)))
    (thinned_join (by_order (cases_lt reached.held log.base)) (after_thinned O archive id ballot log progress within))
  where
    by_order : (reached.held < log.base) ⊎ (log.base ≤ reached.held) →
        WholeThinned (whole_effects archive (append_at O id ballot reached (command_at log reached.held))) (whole_append_at O id ballot reached (slice_get (whole_log archive log) reached.held))
    by_order (inl below) =
        let nowhere : command_at log reached.held ≡ None = rw (lt-ltb reached.held log.base below) refl in
        subst (λ (o : Option C). WholeThinned (whole_effects archive (append_at O id ballot reached o)) (whole_append_at O id ballot reached (slice_get (whole_log archive log) reached.held)))
        (sym nowhere) (append_at_lost O id ballot reached (slice_get (whole_log archive log) reached.held))
    by_order (inr low) =
        subst (λ (o : Option C). WholeThinned (whole_effects archive (append_at O id ballot reached (command_at log reached.held))) (whole_append_at O id ballot reached o))
        (sym (whole_get archive log reached.held within low)) (append_at_thinned O archive id ballot reached (command_at log reached.held))

pub tick_active_matches : {S C : Type 0} (O : Type 0) (archive : List C) (r : ReplicaState S C) → IsBased archive r →
    OutcomeMatches {O = O} archive (on_tick_active O r) (whole_on_tick_active O (whole archive r))
unfolding on_tick_active whole_on_tick_active
tick_active_matches {S = S} {C = C} O archive r b =
    record {
      state = refl;
      effects = subst (λ (us : List (WholeEffect C O)). WholeThinned us
          (whole_appends_after O r.id r.joined (whole_log archive r.log) r.progress ++ whole_followed O r.id (bodies.Commit r.joined r.committed) r.progress))
          (sym (map-append (whole_effect archive) (appends_after O r.id r.joined r.log r.progress) (message_to_followed O r.id (Commit r.joined r.committed) r.progress)
          ∙ ap (λ (us : List (WholeEffect C O)). whole_effects archive (appends_after O r.id r.joined r.log r.progress) ++ us)
          (whole_to_followed O archive r.id (Commit r.joined r.committed) r.progress)))
          (thinned_join (after_thinned O archive r.id r.joined r.log r.progress b.within) (thinned_same _));
    }
