-- ReplicaOpens.antt: a replica with no place is one that opens.
use Rattle.std.proofs.Common.{◌≡◌, ℕ, ◌⊎◌, inl, inr, Bool, true, false, cond, List, [], refl, ap, ◌∙◌}
use Rattle.std.specs.Prelude.{◌==◌}
use Rattle.std.specs.List.{list_any}
use Rattle.std.proofs.lemmas.Bool.{cases_Bool, eq-eqb, eqb-true}
use Rattle.machine.specs.Machine.{Rules}
use Rattle.ballot_base.specs.declared.config.Config.{Config}
use Rattle.ballot_base.specs.declared.status.Progress.{Progress}
use Rattle.ballot_base.specs.declared.status.Role.{Role}
use Rattle.ballot_base.specs.declared.status.Role.TheVariants.{Backup, Active}
use Rattle.ballot_base.specs.Logs.{Log, empty_log}
use Rattle.ballot_base.specs.Replica.{CountedReplica, opening, opening_member, others, progress_at}

-- which ballot a node has joined at first
abbrev pub joined_first : ℕ → Config → ℕ
joined_first id config = cond (list_any (λ member. member == id) config.members) 1 0

pub joined_first-is : (id : ℕ) (config : Config) (ballot : ℕ) (is_member : Bool) → is_member ≡ list_any (λ member. member == id) config.members →
    ballot ≡ cond is_member 1 0 → ballot ≡ joined_first id config
joined_first-is id config ballot is_member e b = b ∙ ap (λ t. cond t 1 0) e

-- a replica to which nothing has happened
abbrev pub at_first : {S C : Type 0} → ℕ → ℕ → Log C → S → Role → List ℕ → List ℕ → List ℕ → List Progress → CountedReplica S C
at_first id ballot log machine role members previous_members lacking progress =
    record {
      state = record {
        id = id;
        joined = ballot;
        held_in = ballot;
        log = log;
        committed = 0;
        machine = machine;
        role = role;
        members = members;
        previous = 0;
        previous_members = previous_members;
        lacking = lacking;
        progress = progress;
        stopped = false;
      };
      losses = 0;
    }

abbrev pub opened_member : {S C O : Type 0} → Rules S C O → ℕ → Config → CountedReplica S C
opened_member rules id config = record { state = opening_member rules id config; losses = 0 }

abbrev pub opened : {S C O : Type 0} → Rules S C O → ℕ → Config → CountedReplica S C
opened rules id config = record { state = opening rules id config; losses = 0 }

-- a node as it opens, before it is known whether it is the primary
pub opens_as_member : {S C O : Type 0} (rules : Rules S C O) (id : ℕ) (config : Config) (ballot : ℕ) (machine : S) (log : Log C)
    (members previous_members lacking : List ℕ) (progress : List Progress) →
    ballot ≡ joined_first id config → machine ≡ rules.opening → log ≡ empty_log C →
    members ≡ [] → previous_members ≡ [] → lacking ≡ [] → progress ≡ [] →
    at_first id ballot log machine Backup members previous_members lacking progress ≡ opened_member rules id config
opens_as_member {S = S} {C = C} rules id config ballot machine log members previous_members lacking progress b m l ms pm k p =
    rw (b, m, l, ms, pm, k, p) refl

-- the primary of ballot 1
pub opens_active : {S C O : Type 0} (rules : Rules S C O) (id : ℕ) (config : Config) (old new : CountedReplica S C) →
    id ≡ config.primary → old ≡ opened_member rules id config →
    new ≡ record old {
      state = record old.state {
        role = Active;
        members = config.members;
        progress = progress_at 0 (others old.state.id config.members);
      };
    } →
    new ≡ opened rules id config
opens_active {S = S} {C = C} rules id config old new first o n =
    n ∙ ap (λ (z : CountedReplica S C). let y : CountedReplica S C = record z {
      state = record z.state {
        role = Active;
        members = config.members;
        progress = progress_at 0 (others z.state.id config.members);
      };
    } in y) o
    ∙ rw (eq-eqb id config.primary first) refl

-- any other node
pub opens_backup : {S C O : Type 0} (rules : Rules S C O) (id : ℕ) (config : Config) (old : CountedReplica S C) →
    (id ≡ config.primary → ⊥) → old ≡ opened_member rules id config → old ≡ opened rules id config
opens_backup {S = S} {C = C} rules id config old other o =
    by_test (cases_Bool (id == config.primary))
  where
    by_test : ((id == config.primary) ≡ true) ⊎ ((id == config.primary) ≡ false) → old ≡ opened rules id config
    by_test (inl e) = absurd (other (eqb-true id config.primary e))
    by_test (inr e) = o ∙ rw e refl
