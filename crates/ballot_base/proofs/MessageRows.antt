-- MessageRows.antt: what the rows of messages and ticks give, if their conditions hold and if not.
use Rattle.std.proofs.Common.{◌≡◌, ℕ, ◌<◌, ◌≤◌, true, false, List, [], ◌∷◌, ◌++◌, max, refl, ap, sym, ◌∙◌, ◌⊎◌, inl, inr}
use Rattle.std.specs.Prelude.{◌==◌}
use Rattle.std.proofs.lemmas.Bool.{lt-leb, le-leb, cases_lt, cond_both}
use Rattle.machine.specs.Machine.{Rules}
use Rattle.ballot_base.specs.declared.message.Body.{Body}
use Rattle.ballot_base.specs.declared.message.Body.TheVariants.{Held, Commit}
use Rattle.ballot_base.specs.declared.message.Effect.{Effect}
use Rattle.ballot_base.specs.declared.status.Progress.{Progress}
use Rattle.ballot_base.specs.declared.status.Role.{Role}
use Rattle.ballot_base.specs.declared.status.Role.TheVariants.{Backup, Fetching, Installing, Active}
use Rattle.ballot_base.specs.Replica.{ReplicaState, is_active}
use Rattle.ballot_base.specs.StepOutcome.{Outcome, nothing_done, message_to, message_to_followed}
use Rattle.ballot_base.specs.Application.{outputs_to, applied_to}
use Rattle.ballot_base.specs.Logs.{places}
use Rattle.ballot_base.specs.Service.{least, raised, raised_progress, follows, leads, extended, commit_at, commit, on_append, on_held, on_commit, appends_after, on_tick_active}
use Rattle.ballot_base.specs.Protocol.{ticked}
use Rattle.ballot_base.proofs.StepRows.{commit_at-goes, commit_at-stays}

-- a member's progress stays that member's
pub raised_progress-member : (member held : ℕ) (reached : Progress) → (raised_progress member held reached).member ≡ reached.member
raised_progress-member member held reached =
    cond_both (reached.member == member) (record reached { held = max reached.held held }) reached
    (λ (m : Progress). m.member ≡ reached.member) (λ _. refl) (λ _. refl)

-- raised progress are those of the same members
pub message_to_followed-raised : {C : Type 0} (O : Type 0) (id : ℕ) (body : Body C) (member held : ℕ) (progress : List Progress) →
    message_to_followed O id body (raised member held progress) ≡ message_to_followed O id body progress
message_to_followed-raised O id body member held [] = refl
message_to_followed-raised {C = C} O id body member held (reached ∷ progress) =
    let e = raised_progress-member member held reached in
    let rest = message_to_followed-raised O id body member held progress in
    ap (λ n. message_to O id body n ∷ message_to_followed O id body (raised member held progress)) e
    ∙ ap (λ (xs : List (Effect C O)). message_to O id body reached.member ∷ xs) rest

-- an outcome with progress raised in it
abbrev pub progress_raised : {S C O : Type 0} → ℕ → ℕ → Outcome S C O → Outcome S C O
progress_raised member held o =
    record { state = record o.state { progress = raised member held o.state.progress }; effects = o.effects }

-- progress can be raised after a commit as well as before it
pub commit_at-raised : {S C O : Type 0} (rules : Rules S C O) (r : ReplicaState S C) (member held n : ℕ) →
    commit_at rules (record r { progress = raised member held r.progress }) n
    ≡ progress_raised member held (commit_at rules r n)
commit_at-raised {S = S} {C = C} {O = O} rules r member held n = by_order (cases_lt r.committed n)
  where
    by_order : (r.committed < n) ⊎ (n ≤ r.committed) →
        commit_at rules (record r { progress = raised member held r.progress }) n
        ≡ progress_raised member held (commit_at rules r n)
    by_order (inl above) =
        commit_at-goes rules (record r { progress = raised member held r.progress }) n above
        ∙ ap (λ (es : List (Effect C O)).
        let o : Outcome S C O = record {
          state = record (applied_to rules r n) { progress = raised member held r.progress };
          effects = outputs_to rules r n ++ es;
        } in o) (message_to_followed-raised O r.id (Commit r.joined n) member held r.progress)
        ∙ ap (progress_raised member held) (sym (commit_at-goes rules r n above))
    by_order (inr below) =
        commit_at-stays rules (record r { progress = raised member held r.progress }) n below
        ∙ ap (progress_raised member held) (sym (commit_at-stays rules r n below))

-- Append at a replica that does not follow the ballot, or after a gap
pub on_append-elsewhere : {S C : Type 0} (O : Type 0) (r : ReplicaState S C) (from ballot place : ℕ) (command : C) →
    follows r ballot ≡ false → on_append O r from ballot place command ≡ nothing_done O r
unfolding on_append
on_append-elsewhere O r from ballot place command no_follower = rw no_follower refl

pub on_append-gap : {S C : Type 0} (O : Type 0) (r : ReplicaState S C) (from ballot place : ℕ) (command : C) →
    follows r ballot ≡ true → places r.log < place → on_append O r from ballot place command ≡ nothing_done O r
unfolding on_append
on_append-gap O r from ballot place command follower gap = rw (follower, lt-leb place (places r.log) gap) refl

-- Append that is answered
pub on_append-takes : {S C : Type 0} (O : Type 0) (r : ReplicaState S C) (from ballot place : ℕ) (command : C) →
    follows r ballot ≡ true → place ≤ places r.log →
    on_append O r from ballot place command ≡ record {
      state = record r { log = extended place command r.log };
      effects = message_to O r.id (Held ballot (places (extended place command r.log))) from ∷ [];
    }
unfolding on_append
on_append-takes O r from ballot place command follower within =
    rw (follower, le-leb place (places r.log) within) refl

-- Held at a replica that does not lead the ballot, and at its primary
pub on_held-elsewhere : {S C O : Type 0} (rules : Rules S C O) (r : ReplicaState S C) (from ballot held : ℕ) →
    leads r ballot ≡ false → on_held rules r from ballot held ≡ nothing_done O r
unfolding on_held
on_held-elsewhere rules r from ballot held no_leader = rw no_leader refl

pub on_held-raises : {S C O : Type 0} (rules : Rules S C O) (r : ReplicaState S C) (from ballot held : ℕ) →
    leads r ballot ≡ true →
    on_held rules r from ballot held
    ≡ commit_at rules (record r { progress = raised from held r.progress })
    (least (places r.log) (raised from held r.progress))
unfolding on_held commit
on_held-raises rules r from ballot held leader = rw leader refl

-- Commit at a replica that does not follow the ballot, past its log, and of what it has applied
pub on_commit-elsewhere : {S C O : Type 0} (rules : Rules S C O) (r : ReplicaState S C) (ballot held : ℕ) →
    follows r ballot ≡ false → on_commit rules r ballot held ≡ nothing_done O r
unfolding on_commit
on_commit-elsewhere rules r ballot held no_follower = rw no_follower refl

pub on_commit-past : {S C O : Type 0} (rules : Rules S C O) (r : ReplicaState S C) (ballot held : ℕ) →
    follows r ballot ≡ true → places r.log < held → on_commit rules r ballot held ≡ nothing_done O r
unfolding on_commit
on_commit-past rules r ballot held follower past = rw (follower, lt-leb held (places r.log) past) refl

pub on_commit-takes : {S C O : Type 0} (rules : Rules S C O) (r : ReplicaState S C) (ballot held : ℕ) →
    follows r ballot ≡ true → held ≤ places r.log →
    on_commit rules r ballot held ≡ record { state = applied_to rules r (max r.committed held); effects = [] }
unfolding on_commit
on_commit-takes rules r ballot held follower within = rw (follower, le-leb held (places r.log) within) refl

-- a tick of an active primary, by its role
pub ticked-active : {S C : Type 0} (O : Type 0) (r : ReplicaState S C) (role : Role) →
    is_active role ≡ true → ticked O r role ≡ on_tick_active O r
ticked-active O r Backup active = cc
ticked-active O r Fetching active = cc
ticked-active O r Installing active = cc
ticked-active O r Active active = refl

-- what such a tick gives
pub on_tick_active-is : {S C : Type 0} (O : Type 0) (r : ReplicaState S C) →
    on_tick_active O r ≡ record {
      state = r;
      effects = appends_after O r.id r.joined r.log r.progress
          ++ message_to_followed O r.id (Commit r.joined r.committed) r.progress;
    }
unfolding on_tick_active
on_tick_active-is O r = refl
