-- Answering.antt: what the replica did if memory may have run out, and what it gave.
use Rattle.std.proofs.Common.{◌≡◌, ◌≤◌, ◌<◌, ℕ, Bool, true, false, not, if◌then◌else◌, ◌⊎◌, inl, inr, List, [], ◌++◌, length, Result, Ok, Err, refl, sym, ap, subst, ◌∙◌}
use Rattle.std.specs.Prelude.{OnOk, OnErr}
use Rattle.std.specs.Result.{is_ok, IsErrOf}
use Rattle.std.proofs.lemmas.Bool.{lt-ltb, le-ltb, cases_lt}
use Rattle.broker_base.specs.State.{State}
use Rattle.broker_spec.specs.declared.command.Command.{Command}
use Rattle.broker_spec.specs.declared.command.Output.{Output}
use Rattle.ballot_base.specs.Logs.{places}
use Rattle.ballot_base.specs.declared.errors.error.ProposeError.{ProposeError}
use Rattle.ballot_base.specs.declared.errors.error.ProposeError.TheVariants.{NotActive, LogFull, Memory, Halted}
use Rattle.ballot_base.specs.declared.message.Effect.{Effect}
use Rattle.ballot_base.specs.Losses.{AppendedStepOrLost, ReplicaStepOrLost, StepMessagesOrLost, halted, one_more}
use Rattle.ballot_base.specs.Protocol.{Input}
use Rattle.ballot_base.specs.Replica.{CountedReplica, ReplicaState, is_active}
use Rattle.ballot_base.specs.Service.{added, max_places, proposed}
use Rattle.world_base.specs.node_core.Core.{CoreState, rules, serves}
use Rattle.world_base.specs.node_core.Inside.{NodeReplicaStepOrLost, Answered, HandledAll, ProposedBy, StepPartOrLost}
use Rattle.world_base.specs.node_core.Lossy.{Account, HandlesAll, Drives, without_effects}
use Rattle.world_base.specs.node_core.LossyProposals.{ProposesCommand}
use Rattle.world_base.specs.node_core.LossyProposals.Declines.{no_room, forgets, stops}
use Rattle.world_base.specs.node_core.Effects.{has_room, outcome_of_input}
use Rattle.world_base.proofs.of_node_core.Asked.{left_true, right_false, has_room_by, proposed-stopped}
use Rattle.world_base.proofs.of_node_core.Accounts.{ran_without_effects}
use Rattle.world_base.proofs.of_node_core.Delivering.{delivers_nothing}

-- ---- a message or a tick

pub drives_all : (input : Input Command) (a b c : CoreState) (given x y : List (Effect Command Output)) →
    NodeReplicaStepOrLost (outcome_of_input input a.replica.state) a b given → HandledAll given b c x y → StepPartOrLost (Drives input) a c x y
drives_all input a b c given x y acts delivered =
    record {
      account = record { core = c; given = given; messages = delivered.messages };
      runs = record {
        replica = acts.replica;
        steps = acts.steps;
        handles = subst (λ (k : CoreState). HandlesAll given k c delivered.messages) acts.core delivered.handles;
      };
      core = refl;
      appended = delivered.appended;
    }

-- ---- a command

active_in : (old : CoreState) → serves old ≡ true → is_active old.replica.state.role ≡ true
active_in old serving = left_true (is_active old.replica.state.role) (not old.replica.state.stopped) serving

running_in : (old : CoreState) → serves old ≡ true → old.replica.state.stopped ≡ false
running_in old serving = right_false (is_active old.replica.state.role) old.replica.state.stopped serving

-- the log has room, or is full
room_in : (old : CoreState) → serves old ≡ true → (max_places ≤ places old.replica.state.log → ⊥) → has_room old ≡ true
room_in old serving not_full = by (cases_lt (places old.replica.state.log) max_places)
  where
    by : (places old.replica.state.log < max_places) ⊎ (max_places ≤ places old.replica.state.log) → has_room old ≡ true
    by (inl room) = sym (has_room_by old true serving (sym (lt-ltb (places old.replica.state.log) max_places room)))
    by (inr over) = absurd (not_full over)

full_in : (old : CoreState) → serves old ≡ true → max_places ≤ places old.replica.state.log → has_room old ≡ false
full_in old serving over = sym (has_room_by old false serving (sym (le-ltb (places old.replica.state.log) max_places over)))

-- a replica that is stopped after a proposal found no memory
stopped_by : (old : CountedReplica State Command) (command : Command) (new : CountedReplica State Command) (given : List (Effect Command Output)) →
    is_active old.state.role ≡ true → old.state.stopped ≡ false → new.state.stopped ≡ true →
    ReplicaStepOrLost rules old (proposed rules old.state command) new given →
    (new.state ≡ halted rules old.state) × (new.losses ≡ one_more old.losses)
stopped_by old command new given active running stopped (inl exact) =
    let kept = proposed-stopped old.state command active in
    let now = ap (λ (z : ReplicaState State Command). z.stopped) exact.0 in
    absurd cc
stopped_by old command new given active running stopped (inr (inl thinned, counted)) =
    let kept = proposed-stopped old.state command active in
    let now = ap (λ (z : ReplicaState State Command). z.stopped) thinned.0 in
    absurd cc
stopped_by old command new given active running stopped (inr (inr (inl same), counted)) =
    let now = ap (λ (z : ReplicaState State Command). z.stopped) same.0 in
    absurd cc
stopped_by old command new given active running stopped (inr (inr (inr halts), counted)) = (halts.0, counted)

pub answered : (result : Result (Unit {0}) ProposeError) (old : CoreState) (new : CountedReplica State Command) (command : Command)
    (before later : List (Effect Command Output)) → before ≡ [] → serves old ≡ true →
    AppendedStepOrLost rules old.replica (proposed rules old.replica.state command) new before later →
    OnOk result (StepMessagesOrLost old.replica (added rules old.replica.state command) new before later) →
    (IsErrOf result Halted → new.state.stopped ≡ true) →
    (IsErrOf result NotActive → (old.replica.state.stopped ≡ false) × (is_active old.replica.state.role ≡ false)) →
    (IsErrOf result LogFull → max_places ≤ places old.replica.state.log) →
    (max_places ≤ places old.replica.state.log → IsErrOf result LogFull) →
    (IsErrOf result Memory → new ≡ record old.replica { losses = one_more old.replica.losses }) →
    (IsErrOf result LogFull → new ≡ old.replica) →
    OnErr result (later ≡ before) →
    Answered (is_ok result) command old (record old { replica = new }) later
answered (Ok x) old new command before later none serving step done halts inactive full is_full memory same err =
    record {
      room = room_in old serving (λ over. (let e = is_full over in absurd cc));
      replica = new;
      core = refl;
      done = subst (λ (l : List (Effect Command Output)). StepMessagesOrLost old.replica (added rules old.replica.state command) new l later) none done;
    }
answered (Err NotActive) old new command before later none serving step done halts inactive full is_full memory same err =
    let active = active_in old serving in
    let e = (inactive refl).1 in
    absurd cc
answered (Err LogFull) old new command before later none serving step done halts inactive full is_full memory same err = (
  no_room (full_in old serving (full refl)) (ap (λ (r : CountedReplica State Command). without_effects (record old { replica = r })) (same refl)),
  err ∙ none,
)
answered (Err Memory) old new command before later none serving step done halts inactive full is_full memory same err = (
  forgets (room_in old serving (λ over. (let e = is_full over in absurd cc)))
      (ap (λ (r : CountedReplica State Command). without_effects (record old { replica = r })) (memory refl)),
  err ∙ none,
)
answered (Err Halted) old new command before later none serving step done halts inactive full is_full memory same err =
    let did = stopped_by old.replica command new step.given (active_in old serving) (running_in old serving) (halts refl) step.steps in (
      stops (room_in old serving (λ over. (let e = is_full over in absurd cc)))
          (ap (λ (s : ReplicaState State Command). without_effects (record old { replica = record { state = s; losses = new.losses } })) did.0
          ∙ ap (λ (n : ℕ). without_effects (record old { replica = record { state = halted rules old.replica.state; losses = n } })) did.1),
      err ∙ none,
    )

pub answered_kept : (result : Result (Unit {0}) ProposeError) (old : CoreState) (new : CountedReplica State Command) (command : Command)
    (before later : List (Effect Command Output)) (after : CoreState) → before ≡ [] → serves old ≡ true →
    AppendedStepOrLost rules old.replica (proposed rules old.replica.state command) new before later →
    OnOk result (StepMessagesOrLost old.replica (added rules old.replica.state command) new before later) →
    (IsErrOf result Halted → new.state.stopped ≡ true) →
    (IsErrOf result NotActive → (old.replica.state.stopped ≡ false) × (is_active old.replica.state.role ≡ false)) →
    (IsErrOf result LogFull → max_places ≤ places old.replica.state.log) →
    (max_places ≤ places old.replica.state.log → IsErrOf result LogFull) →
    (IsErrOf result Memory → new ≡ record old.replica { losses = one_more old.replica.losses }) →
    (IsErrOf result LogFull → new ≡ old.replica) →
    OnErr result (later ≡ before) → after ≡ record old { replica = new } →
    Answered (is_ok result) command old after later
answered_kept result old new command before later after none serving step done halts inactive full is_full memory same err kept =
    subst (λ (k : CoreState). Answered (is_ok result) command old k later) (sym kept)
    (answered result old new command before later none serving step done halts inactive full is_full memory same err)

-- with what it gave
pub proposed_all : (taken : Bool) (command : Command) (a b c : CoreState) (given x y : List (Effect Command Output)) →
    Answered taken command a b given → HandledAll given b c x y → StepPartOrLost (ProposedBy taken command) a c x y
proposed_all true command a b c given x y took delivered =
    record {
      account = record { core = c; given = given; messages = delivered.messages };
      runs = record {
        room = took.room;
        replica = took.replica;
        done = took.done;
        handles = subst (λ (k : CoreState). HandlesAll given k c delivered.messages) took.core delivered.handles;
      };
      core = refl;
      appended = delivered.appended;
    }
proposed_all false command a b c given x y declined delivered =
    let same = delivers_nothing given b c delivered.messages delivered.handles declined.1 in
    record {
      account = without_effects b;
      runs = declined.0;
      core = same.0;
      appended = delivered.appended ∙ ap (λ (l : List (Effect Command Output)). x ++ l) same.1;
    }

-- it was not put to the replica
pub proposed_not : (command : Command) (core : CoreState) (x : List (Effect Command Output)) → serves core ≡ false →
    StepPartOrLost (ProposedBy false command) core core x x
proposed_not command core x idle =
    ran_without_effects (ProposedBy false command) core core x (no_room (rw idle refl) refl)

pub as_proposes : (taken : Bool) (command : Command) (core : CoreState) (did : Account) → ProposedBy taken command core did →
    ProposesCommand command core did
as_proposes true command core did takes = inl takes
as_proposes false command core did declines = inr declines
