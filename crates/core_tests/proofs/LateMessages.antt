-- LateMessages.antt: which messages of the protocol change nothing at a replica.
use Rattle.std.proofs.Common.{◌≡◌, ℕ, ◌<◌, ◌≤◌, Bool, true, false, ◌&&◌, List, [], ◌∷◌, refl, ap, ◌∙◌, nat_le, nat_eq, if◌then◌else◌}
use Rattle.std.proofs.Math.Nat.{max-eq_left}
use Rattle.std.proofs.lemmas.Bool.{lt-leb}
use Rattle.std.specs.List.{AllByRecursion, list_any}
use Rattle.machine.specs.Machine.{Rules}
use Rattle.ballot_base.specs.declared.status.Progress.{Progress}
use Rattle.ballot_base.specs.Activation.{on_installed, is_installing_in}
use Rattle.ballot_base.specs.Logs.{places}
use Rattle.ballot_base.specs.Replica.{ReplicaState}
use Rattle.ballot_base.specs.Service.{commit, follows, leads, on_commit, on_held, raised, raised_progress}
use Rattle.ballot_base.specs.StepOutcome.{nothing_done}

and_false : (b : Bool) → (b && false) ≡ false
and_false true = refl
and_false false = refl

-- a choice between two that are equal
either : {A : Type 0} (b : Bool) (x y : A) → x ≡ y → (if b then x else y) ≡ y
either true x y same = same
either false x y same = refl

-- a choice that is not taken
not_so : {A : Type 0} (b : Bool) (x y : A) → b ≡ false → (if b then x else y) ≡ y
not_so true x y is_so = cc
not_so false x y is_so = refl

-- a member of which as much is known
stays : (member held : ℕ) (reached : Progress) → held ≤ reached.held → raised_progress member held reached ≡ reached
stays member held reached less =
    either (nat_eq reached.member member) _ reached (ap (λ n. record reached { held = n }) (max-eq_left less))

-- members of which as much is known
all_stay : (member held : ℕ) (progress : List Progress) → AllByRecursion (λ (reached : Progress). held ≤ reached.held) progress
    → raised member held progress ≡ progress
all_stay member held [] known = refl
all_stay member held (reached ∷ progress) known =
    ap (λ r. r ∷ raised member held progress) (stays member held reached known.0)
    ∙ ap (λ rs. reached ∷ rs) (all_stay member held progress known.1)

pub late_held : {S C O : Type 0} (rules : Rules S C O) (replica : ReplicaState S C) (from ballot held : ℕ)
    → AllByRecursion (λ (reached : Progress). held ≤ reached.held) replica.progress
    → on_held rules replica from ballot held ≡ (if leads replica ballot then commit rules replica else nothing_done O replica)
unfolding on_held
late_held {O = O} rules replica from ballot held known =
    ap (λ (ps : List Progress). if leads replica ballot then commit rules (record replica { progress = ps }) else nothing_done O replica)
    (all_stay from held replica.progress known)

pub long_commit : {S C O : Type 0} (rules : Rules S C O) (replica : ReplicaState S C) (ballot held : ℕ)
    → places replica.log < held → on_commit rules replica ballot held ≡ nothing_done O replica
unfolding on_commit
long_commit rules replica ballot held long =
    not_so (follows replica ballot && nat_le held (places replica.log)) _ _
    (ap (λ b. follows replica ballot && b) (lt-leb held (places replica.log) long) ∙ and_false (follows replica ballot))

pub late_installed : {S C : Type 0} (O : Type 0) (replica : ReplicaState S C) (from ballot : ℕ)
    → replica.lacking ≡ [] → on_installed O replica from ballot ≡ nothing_done O replica
unfolding on_installed
late_installed O replica from ballot none =
    not_so _ _ _
    (ap (λ (ms : List ℕ). is_installing_in replica ballot && list_any (λ member. nat_eq member from) ms) none
    ∙ and_false (is_installing_in replica ballot))
