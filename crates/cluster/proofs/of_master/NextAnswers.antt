-- NextAnswers.antt: what a desk answered is the next answer of its run, and what it did not answer
-- is no answer.
use Rattle.std.proofs.Common.{◌≡◌, ◌≢◌, ◌↔◌, ℕ, ◌+◌, ◌<◌, ◌≤◌, ◌==◌, Bool, true, false, if◌then◌else◌, List, [], ◌∷◌, ◌++◌, Some, None, Result, Ok, Err, OnErr, IfOk, IsErrOf, refl, sym, subst, ap, ◌∙◌, length, arith, ◌⊎◌, inl, inr}
use Rattle.std.proofs.lemmas.Bool.{cases_Bool}
use Rattle.ballot_base.specs.declared.config.Config.{Config}
use Rattle.cluster.specs.declared.desk.desk.Activation.{Activation}
use Rattle.cluster.specs.declared.desk.desk.Activation.TheVariants.{Activated, Superseded}
use Rattle.cluster.specs.declared.desk.error.DeskError.{DeskError}
use Rattle.cluster.specs.declared.desk.error.DeskError.TheVariants as errors
use Rattle.cluster.specs.declared.desk.error.NotKept.{NotKept}
use Rattle.cluster.specs.desk.States.{DeskState, activated_by, assign_refusal, assigned_to, no_number, opening_desk, started, waits_for}
use Rattle.cluster.specs.desk.Keeping.{DeskView, Failed, HasKept}
use Rattle.cluster.specs.desk.Runs.{Answer, Changes, Repeats, Ran}
use Rattle.cluster.specs.desk.Runs.Answer.{number, ballot, activated, superseded}
use Rattle.cluster.specs.desk.Runs.Changes.{starts, assigns, activates}
use Rattle.cluster.specs.desk.Runs.Repeats.{stays, was}
use Rattle.cluster.specs.desk.Runs.Ran.{answers, fails, opens, repeats, restarts}
use Rattle.cluster.specs.desk.Form.{desk_of}
use Rattle.cluster.proofs.of_desk.Forms.{form_written}
use Rattle.cluster.specs.master.Answers.{GoesOn, IsNext, Resumes}

-- ---- any answer

pub kept_next : {K : Type 0} (stands : K → List (List ℕ)) (old new : DeskView K) (answer : Answer) (state : DeskState)
    → Changes old.state answer state → HasKept stands new state → IsNext stands old answer new
kept_next stands old new answer state change kept = λ given ran.
    subst (λ (s : DeskState). Ran (given ++ answer ∷ []) s (stands new.keeper)) (sym kept.0)
    (subst (λ (all : List (List ℕ)). Ran (given ++ answer ∷ []) state all) (sym kept.1)
    (answers answer state ran change))

pub repeated_next : {K : Type 0} (stands : K → List (List ℕ)) (old new : DeskView K) (answer : Answer)
    → Repeats old.state answer → new ≡ old → IsNext stands old answer new
repeated_next stands old new answer again same = λ given ran.
    subst (λ (desk : DeskView _). Ran (given ++ answer ∷ []) desk.state (stands desk.keeper)) (sym same)
    (repeats answer ran again)

pub same_goes_on : {K : Type 0} (stands : K → List (List ℕ)) (old new : DeskView K) → new ≡ old → GoesOn stands old new
same_goes_on stands old new same = λ given ran.
    subst (λ (desk : DeskView _). Ran given desk.state (stands desk.keeper)) (sym same) ran

pub failed_goes_on : {K : Type 0} (keeps : K → List ℕ → Bool → K → Type 0) (stands : K → List (List ℕ)) (old new : DeskView K)
    (answer : Answer) (state : DeskState) → Changes old.state answer state → Failed keeps stands old new state → GoesOn stands old new
failed_goes_on keeps stands old new answer state change failed = λ given ran.
    subst (λ (s : DeskState). Ran given s (stands new.keeper)) (sym failed.same)
    (fails answer state (stands new.keeper) ran change failed.either)

-- ---- a start

left_number : (n : ℕ) → n ≤ 255 → (n ≡ no_number → ⊥) → n < no_number
left_number n bound left = omega (arith, bound, left)

pub start_next : {K : Type 0} (stands : K → List (List ℕ)) (old new : DeskView K) (n : ℕ)
    → old.state.next ≤ 255 → (old.state.next ≡ no_number → ⊥) → n ≡ old.state.next
    → HasKept stands new (started old.state) → IsNext stands old (number n) new
start_next stands old new n bound left is kept =
    subst (λ (m : ℕ). IsNext stands old (number m) new) (sym is)
    (kept_next stands old new (number old.state.next) (started old.state) (starts (left_number old.state.next bound left)) kept)

abbrev failed : DeskError → Result ℕ DeskError
failed error = Err error

pub start_silent : {K : Type 0} (keeps : K → List ℕ → Bool → K → Type 0) (stands : K → List (List ℕ)) (old new : DeskView K) (error : DeskError)
    → old.state.next ≤ 255 → (IsErrOf (failed error) errors.NumbersSpent ↔ (old.state.next ≡ no_number))
    → (IsErrOf (failed error) errors.NumbersSpent → new ≡ old)
    → (error ≢ errors.NumbersSpent → (error ≡ errors.NotKept) × Failed keeps stands old new (started old.state))
    → GoesOn stands old new
start_silent keeps stands old new errors.NumbersSpent bound spent refused lost = same_goes_on stands old new (refused refl)
start_silent keeps stands old new errors.NotKept bound spent refused lost =
    let other : errors.NotKept ≢ errors.NumbersSpent = λ e. cc in
    let unequal : failed errors.NotKept ≡ failed errors.NumbersSpent → ⊥ = λ e. cc in
    failed_goes_on keeps stands old new (number old.state.next) (started old.state)
    (starts (left_number old.state.next bound (λ e. unequal (spent.1 e)))) (lost other).1
start_silent keeps stands old new errors.BadMembers bound spent refused lost =
    let other : errors.BadMembers ≢ errors.NumbersSpent = λ e. cc in
    let unkept : errors.BadMembers ≡ errors.NotKept → ⊥ = λ e. cc in absurd (unkept (lost other).0)
start_silent keeps stands old new errors.NeverGiven bound spent refused lost =
    let other : errors.NeverGiven ≢ errors.NumbersSpent = λ e. cc in
    let unkept : errors.NeverGiven ≡ errors.NotKept → ⊥ = λ e. cc in absurd (unkept (lost other).0)
start_silent keeps stands old new errors.BallotsSpent bound spent refused lost =
    let other : errors.BallotsSpent ≢ errors.NumbersSpent = λ e. cc in
    let unkept : errors.BallotsSpent ≡ errors.NotKept → ⊥ = λ e. cc in absurd (unkept (lost other).0)

-- ---- an assignment

pub assign_next : {K : Type 0} (stands : K → List (List ℕ)) (old new : DeskView K) (b : ℕ) (config : Config)
    → b ≡ old.state.master.given + 1 → assign_refusal old.state config ≡ None → HasKept stands new (assigned_to old.state config)
    → IsNext stands old (ballot b) new
assign_next stands old new b config is may kept =
    subst (λ (m : ℕ). IsNext stands old (ballot m) new) (sym is)
    (kept_next stands old new (ballot (old.state.master.given + 1)) (assigned_to old.state config) (assigns config may) kept)

pub assign_silent : {K : Type 0} (keeps : K → List ℕ → Bool → K → Type 0) (stands : K → List (List ℕ)) (old new : DeskView K) (error : DeskError) (config : Config)
    → (error ≢ errors.NotKept → (assign_refusal old.state config ≡ Some error) × (new ≡ old))
    → (IsErrOf (failed error) errors.NotKept → Failed keeps stands old new (assigned_to old.state config))
    → (IsErrOf (failed error) errors.NotKept → assign_refusal old.state config ≡ None)
    → GoesOn stands old new
assign_silent keeps stands old new errors.NotKept config refused lost may =
    failed_goes_on keeps stands old new (ballot (old.state.master.given + 1)) (assigned_to old.state config) (assigns config (may refl)) (lost refl)
assign_silent keeps stands old new errors.NumbersSpent config refused lost may =
    let other : errors.NumbersSpent ≢ errors.NotKept = λ e. cc in same_goes_on stands old new (refused other).1
assign_silent keeps stands old new errors.BadMembers config refused lost may =
    let other : errors.BadMembers ≢ errors.NotKept = λ e. cc in same_goes_on stands old new (refused other).1
assign_silent keeps stands old new errors.NeverGiven config refused lost may =
    let other : errors.NeverGiven ≢ errors.NotKept = λ e. cc in same_goes_on stands old new (refused other).1
assign_silent keeps stands old new errors.BallotsSpent config refused lost may =
    let other : errors.BallotsSpent ≢ errors.NotKept = λ e. cc in same_goes_on stands old new (refused other).1

-- ---- an activation

abbrev Activates : {K : Type 0} → (K → List (List ℕ)) → DeskView K → DeskView K → ℕ → Result Activation NotKept → Type 0
Activates stands old new b result =
    IfOk result (λ activation. (activation ≡ Activated) × HasKept stands new (activated_by old.state b))

abbrev answer_of : Bool → Activation
answer_of active = if active then Activated else Superseded

abbrev made : Activation → Result Activation NotKept
made activation = Ok activation

abbrev failure : NotKept → Result Activation NotKept
failure error = Err error

is_active : (t : Bool) → made Activated ≡ made (answer_of t) → t ≡ true
is_active true e = refl
is_active false e = cc

is_other : (t : Bool) → made Superseded ≡ made (answer_of t) → t ≡ false
is_other true e = cc
is_other false e = refl

same_number : (b n : ℕ) → (b == n) ≡ true → b ≡ n
same_number b n e = grind (arith, e)

other_number : (b n : ℕ) → (b == n) ≡ false → b ≡ n → ⊥
other_number b n e same = grind (arith, e, same)

active_next : {K : Type 0} (stands : K → List (List ℕ)) (old new : DeskView K) (b : ℕ)
    → (waits_for old.state.master.waiting b ≡ true) ⊎ (waits_for old.state.master.waiting b ≡ false)
    → (waits_for old.state.master.waiting b ≡ true → Activates stands old new b (made Activated))
    → (waits_for old.state.master.waiting b ≡ false → (made Activated ≡ made (answer_of (b == old.state.master.active))) × (new ≡ old))
    → IsNext stands old (activated b) new
active_next stands old new b (inl waits) active other =
    kept_next stands old new (activated b) (activated_by old.state b) (activates b waits) (active waits).1
active_next stands old new b (inr free) active other =
    let same = same_number b old.state.master.active (is_active (b == old.state.master.active) (other free).0) in
    repeated_next stands old new (activated b) (subst (λ (n : ℕ). Repeats old.state (activated n)) (sym same) stays) (other free).1

pub activate_next : {K : Type 0} (stands : K → List (List ℕ)) (old new : DeskView K) (b : ℕ) (result : Result Activation NotKept)
    → (waits_for old.state.master.waiting b ≡ true → Activates stands old new b result)
    → (waits_for old.state.master.waiting b ≡ false → (result ≡ made (answer_of (b == old.state.master.active))) × (new ≡ old))
    → result ≡ made Activated → IsNext stands old (activated b) new
activate_next stands old new b result active other is =
    active_next stands old new b (cases_Bool (waits_for old.state.master.waiting b))
    (subst (λ (r : Result Activation NotKept). waits_for old.state.master.waiting b ≡ true → Activates stands old new b r) is active)
    (subst (λ (r : Result Activation NotKept). waits_for old.state.master.waiting b ≡ false → (r ≡ made (answer_of (b == old.state.master.active))) × (new ≡ old)) is other)

superseded_kept : (P : Type 0) → (Superseded ≡ Activated) × P → ⊥
superseded_kept P both = cc

other_next : {K : Type 0} (stands : K → List (List ℕ)) (old new : DeskView K) (b : ℕ)
    → (waits_for old.state.master.waiting b ≡ true) ⊎ (waits_for old.state.master.waiting b ≡ false)
    → (waits_for old.state.master.waiting b ≡ true → Activates stands old new b (made Superseded))
    → (waits_for old.state.master.waiting b ≡ false → (made Superseded ≡ made (answer_of (b == old.state.master.active))) × (new ≡ old))
    → IsNext stands old (superseded b) new
other_next stands old new b (inl waits) active other = absurd (superseded_kept _ (active waits))
other_next stands old new b (inr free) active other =
    let differ = is_other (b == old.state.master.active) (other free).0 in
    repeated_next stands old new (superseded b) (was b free (other_number b old.state.master.active differ)) (other free).1

pub supersede_next : {K : Type 0} (stands : K → List (List ℕ)) (old new : DeskView K) (b : ℕ) (result : Result Activation NotKept)
    → (waits_for old.state.master.waiting b ≡ true → Activates stands old new b result)
    → (waits_for old.state.master.waiting b ≡ false → (result ≡ made (answer_of (b == old.state.master.active))) × (new ≡ old))
    → result ≡ made Superseded → IsNext stands old (superseded b) new
supersede_next stands old new b result active other is =
    other_next stands old new b (cases_Bool (waits_for old.state.master.waiting b))
    (subst (λ (r : Result Activation NotKept). waits_for old.state.master.waiting b ≡ true → Activates stands old new b r) is active)
    (subst (λ (r : Result Activation NotKept). waits_for old.state.master.waiting b ≡ false → (r ≡ made (answer_of (b == old.state.master.active))) × (new ≡ old)) is other)

failed_silent : {K : Type 0} (keeps : K → List ℕ → Bool → K → Type 0) (stands : K → List (List ℕ)) (old new : DeskView K) (b : ℕ) (error : NotKept)
    → (waits_for old.state.master.waiting b ≡ true) ⊎ (waits_for old.state.master.waiting b ≡ false)
    → (waits_for old.state.master.waiting b ≡ false → (failure error ≡ made (answer_of (b == old.state.master.active))) × (new ≡ old))
    → Failed keeps stands old new (activated_by old.state b) → GoesOn stands old new
failed_silent keeps stands old new b error (inl waits) other failed =
    failed_goes_on keeps stands old new (activated b) (activated_by old.state b) (activates b waits) failed
failed_silent keeps stands old new b error (inr free) other failed = same_goes_on stands old new (other free).1

pub activate_silent : {K : Type 0} (keeps : K → List ℕ → Bool → K → Type 0) (stands : K → List (List ℕ)) (old new : DeskView K) (b : ℕ) (result : Result Activation NotKept) (error : NotKept)
    → (waits_for old.state.master.waiting b ≡ false → (result ≡ made (answer_of (b == old.state.master.active))) × (new ≡ old))
    → OnErr result (Failed keeps stands old new (activated_by old.state b)) → result ≡ failure error → GoesOn stands old new
activate_silent keeps stands old new b result error other failed is =
    failed_silent keeps stands old new b error (cases_Bool (waits_for old.state.master.waiting b))
    (subst (λ (r : Result Activation NotKept). waits_for old.state.master.waiting b ≡ false → (r ≡ made (answer_of (b == old.state.master.active))) × (new ≡ old)) is other)
    (subst (λ (r : Result Activation NotKept). OnErr r (Failed keeps stands old new (activated_by old.state b))) is failed)

-- ---- the beginning, and a restart

pub begun : {K : Type 0} (stands : K → List (List ℕ)) (desk : DeskView K) (cluster : List ℕ) → length cluster ≡ 16
    → HasKept stands desk (opening_desk cluster) → Ran [] desk.state (stands desk.keeper)
begun stands desk cluster size kept =
    subst (λ (s : DeskState). Ran [] s (stands desk.keeper)) (sym kept.0)
    (subst (λ (all : List (List ℕ)). Ran [] (opening_desk cluster) all) (sym kept.1) (opens cluster size))

pub resumed : {K : Type 0} (stands : K → List (List ℕ)) (bytes : List ℕ) (desk : DeskView K) → desk_of bytes ≡ Ok desk.state
    → HasKept stands desk desk.state → Resumes stands bytes desk
resumed stands bytes desk read kept = λ given state stood ran stands_there.
    subst (λ (all : List (List ℕ)). Ran given desk.state all) (ap (λ (b : List ℕ). b ∷ []) (form_written bytes desk.state read) ∙ sym kept.1)
    (restarts bytes desk.state ran stands_there read)
