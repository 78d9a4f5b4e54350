-- StepRows.antt: what each row of the protocol gives if its condition holds, and if it does not.
use Rattle.std.proofs.Common.{◌≡◌, ℕ, ◌<◌, ◌≤◌, true, false, [], ◌∷◌, ◌++◌, length, refl, ap, ◌∙◌, ◌⊎◌, inl, inr}
use Rattle.std.proofs.lemmas.Bool.{lt-ltb, le-ltb, cases_lt}
use Rattle.machine.specs.Machine.{Rules}
use Rattle.agreement.specs.whole_logs.Messages.Body.{Append, Commit}
use Rattle.agreement.specs.whole_logs.Replica.{ReplicaState}
use Rattle.ballot_base.specs.Replica.{is_active}
use Rattle.agreement.specs.whole_logs.StepOutcome.{Outcome, nothing_done, message_to_followed, sent_first}
use Rattle.agreement.specs.whole_logs.Application.{outputs_to, applied_to}
use Rattle.ballot_base.specs.Service.{least, max_places}
use Rattle.agreement.specs.whole_logs.Service.{commit_at, commit, added, proposed}
pub use Rattle.ballot_base.proofs.StepRows.{least-le}

-- nothing new is committed
pub commit_at-stays : {S C O : Type 0} (rules : Rules S C O) (r : ReplicaState S C) (held : ℕ) →
    held ≤ r.committed → commit_at rules r held ≡ nothing_done O r
unfolding commit_at
commit_at-stays rules r held below = rw (le-ltb r.committed held below) refl

-- places are committed
pub commit_at-goes : {S C O : Type 0} (rules : Rules S C O) (r : ReplicaState S C) (held : ℕ) →
    r.committed < held →
    commit_at rules r held ≡ record {
      state = applied_to rules r held;
      effects = outputs_to rules r held ++ message_to_followed O r.id (Commit r.joined held) r.progress;
    }
unfolding commit_at
commit_at-goes rules r held above = rw (lt-ltb r.committed held above) refl

-- a command that is added is committed by what the others hold
pub added-is : {S C O : Type 0} (rules : Rules S C O) (r : ReplicaState S C) (command : C) →
    added rules r command ≡ sent_first
    (message_to_followed O r.id (Append r.joined (length r.log) command) r.progress)
    (commit_at rules (record r { log = r.log ++ command ∷ [] })
    (least (length (r.log ++ command ∷ [])) r.progress))
unfolding added commit
added-is rules r command = refl

-- a proposal is added
pub proposed-adds : {S C O : Type 0} (rules : Rules S C O) (r : ReplicaState S C) (command : C) →
    is_active r.role ≡ true → length r.log < max_places → proposed rules r command ≡ added rules r command
unfolding proposed
proposed-adds rules r command active room = rw (active, lt-ltb (length r.log) max_places room) refl

-- a proposal is not taken by a replica that is no active primary
pub proposed-not_active : {S C O : Type 0} (rules : Rules S C O) (r : ReplicaState S C) (command : C) →
    is_active r.role ≡ false → proposed rules r command ≡ nothing_done O r
unfolding proposed
proposed-not_active rules r command inactive = rw inactive refl

-- nor by one whose log is full
pub proposed-full : {S C O : Type 0} (rules : Rules S C O) (r : ReplicaState S C) (command : C) →
    is_active r.role ≡ true → max_places ≤ length r.log → proposed rules r command ≡ nothing_done O r
unfolding proposed
proposed-full rules r command active full = rw (active, le-ltb (length r.log) max_places full) refl

-- committing stops no replica
pub commit_at-stopped : {S C O : Type 0} (rules : Rules S C O) (r : ReplicaState S C) (held : ℕ) →
    (commit_at rules r held).state.stopped ≡ r.stopped
commit_at-stopped {S = S} {C = C} {O = O} rules r held = by_order (cases_lt r.committed held)
  where
    by_order : (r.committed < held) ⊎ (held ≤ r.committed) → (commit_at rules r held).state.stopped ≡ r.stopped
    by_order (inl above) = ap (λ (o : Outcome S C O). o.state.stopped) (commit_at-goes rules r held above)
    by_order (inr below) = ap (λ (o : Outcome S C O). o.state.stopped) (commit_at-stays rules r held below)

-- nor does adding
pub added-stopped : {S C O : Type 0} (rules : Rules S C O) (r : ReplicaState S C) (command : C) →
    (added rules r command).state.stopped ≡ r.stopped
added-stopped {S = S} {C = C} {O = O} rules r command =
    ap (λ (o : Outcome S C O). o.state.stopped) (added-is rules r command)
    ∙ commit_at-stopped rules (record r { log = r.log ++ command ∷ [] }) _

-- a command that is added is sent, and then what all hold is committed
pub added-commits : {S C O : Type 0} (rules : Rules S C O) (r : ReplicaState S C) (command : C) →
    added rules r command ≡ sent_first
    (message_to_followed O r.id (Append r.joined (length r.log) command) r.progress)
    (commit rules (record r { log = r.log ++ command ∷ [] }))
unfolding added
added-commits rules r command = refl

-- committing leaves the log
pub commit_at-log : {S C O : Type 0} (rules : Rules S C O) (r : ReplicaState S C) (held : ℕ) →
    (commit_at rules r held).state.log ≡ r.log
commit_at-log {S = S} {C = C} {O = O} rules r held = by_order (cases_lt r.committed held)
  where
    by_order : (r.committed < held) ⊎ (held ≤ r.committed) → (commit_at rules r held).state.log ≡ r.log
    by_order (inl above) = ap (λ (o : Outcome S C O). o.state.log) (commit_at-goes rules r held above)
    by_order (inr below) = ap (λ (o : Outcome S C O). o.state.log) (commit_at-stays rules r held below)

-- and adding makes it longer by the command
pub added-log : {S C O : Type 0} (rules : Rules S C O) (r : ReplicaState S C) (command : C) →
    (added rules r command).state.log ≡ r.log ++ command ∷ []
added-log {S = S} {C = C} {O = O} rules r command =
    ap (λ (o : Outcome S C O). o.state.log) (added-is rules r command)
    ∙ commit_at-log rules (record r { log = r.log ++ command ∷ [] }) _

-- committing what all hold stops no replica either
pub commit-stopped : {S C O : Type 0} (rules : Rules S C O) (r : ReplicaState S C) → (commit rules r).state.stopped ≡ r.stopped
unfolding commit
commit-stopped rules r = commit_at-stopped rules r _
