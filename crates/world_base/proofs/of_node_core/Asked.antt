-- Asked.antt: a proposal without losses is taken exactly if there is room.
use Rattle.std.proofs.Common.{◌≡◌, ◌<◌, ◌≤◌, Bool, true, false, not, if◌then◌else◌, ◌&&◌, ◌⊎◌, inl, inr, List, [], nat_lt, Result, Ok, Err, refl, sym, ap, ◌∙◌}
use Rattle.std.specs.Prelude.{OnErr}
use Rattle.std.specs.Result.{is_ok, IsErrOf}
use Rattle.std.proofs.lemmas.Bool.{lt-ltb, le-ltb, cases_lt}
use Rattle.broker_base.specs.State.{State}
use Rattle.broker_spec.specs.declared.command.Command.{Command}
use Rattle.broker_spec.specs.declared.command.Output.{Output}
use Rattle.ballot_base.specs.Logs.{places}
use Rattle.ballot_base.specs.declared.errors.error.ProposeError.{ProposeError}
use Rattle.ballot_base.specs.declared.errors.error.ProposeError.TheVariants.{NotActive, LogFull, Memory, Halted}
use Rattle.ballot_base.specs.declared.message.Effect.{Effect}
use Rattle.ballot.specs.Told.{StepTold}
use Rattle.ballot_base.specs.Replica.{CountedReplica, ReplicaState, is_active}
use Rattle.ballot_base.specs.StepOutcome.{Outcome}
use Rattle.ballot_base.specs.Service.{max_places, proposed}
use Rattle.ballot_base.proofs.StepRows.{proposed-adds, proposed-full, added-stopped}
use Rattle.world_base.specs.node_core.Core.{CoreState, rules, serves}
use Rattle.world_base.specs.node_core.Effects.{has_room}
use Rattle.world_base.specs.node_core.Inside.{RunningStep}
use Rattle.world_base.proofs.of_node_core.Told.{noted_whole}

-- both parts of a test
pub left_true : (a b : Bool) → (a && b) ≡ true → a ≡ true
left_true true b t = refl
left_true false b t = absurd cc

pub right_false : (a b : Bool) → (a && not b) ≡ true → b ≡ false
right_false true false t = refl
right_false true true t = absurd cc
right_false false b t = absurd cc

-- a proposal stops no replica
pub proposed-stopped : (r : ReplicaState State Command) (command : Command) → is_active r.role ≡ true →
    (proposed rules r command).state.stopped ≡ r.stopped
proposed-stopped r command active = by_order (cases_lt (places r.log) max_places)
  where
    by_order : (places r.log < max_places) ⊎ (max_places ≤ places r.log) →
        (proposed rules r command).state.stopped ≡ r.stopped
    by_order (inl room) =
        ap (λ (o : Outcome State Command Output). o.state.stopped) (proposed-adds rules r command active room)
        ∙ added-stopped rules r command
    by_order (inr full) =
        ap (λ (o : Outcome State Command Output). o.state.stopped) (proposed-full rules r command active full)

pub room_answered : (result : Result (Unit {0}) ProposeError) (whole : Bool) (old new : CountedReplica State Command) (command : Command)
    (before after : List (Effect Command Output)) →
    is_active old.state.role ≡ true → old.state.stopped ≡ false →
    StepTold rules old (proposed rules old.state command) whole new before after →
    (IsErrOf result Halted → new.state.stopped ≡ true) →
    (IsErrOf result NotActive → (old.state.stopped ≡ false) × (is_active old.state.role ≡ false)) →
    (IsErrOf result LogFull → max_places ≤ places old.state.log) →
    (max_places ≤ places old.state.log → IsErrOf result LogFull) →
    (IsErrOf result Memory → whole ≡ false) → whole ≡ true →
    is_ok result ≡ nat_lt (places old.state.log) max_places
room_answered (Ok x) whole old new command before after active running told halted inactive full is_full memory is_whole =
    by_order (cases_lt (places old.state.log) max_places)
  where
    by_order : (places old.state.log < max_places) ⊎ (max_places ≤ places old.state.log) →
        true ≡ nat_lt (places old.state.log) max_places
    by_order (inl room) = sym (lt-ltb (places old.state.log) max_places room)
    by_order (inr over) = let e = is_full over in absurd cc
room_answered (Err NotActive) whole old new command before after active running told halted inactive full is_full memory is_whole =
    let e = (inactive refl).1 in absurd cc
room_answered (Err LogFull) whole old new command before after active running told halted inactive full is_full memory is_whole =
    sym (le-ltb (places old.state.log) max_places (full refl))
room_answered (Err Memory) whole old new command before after active running told halted inactive full is_full memory is_whole =
    let e = memory refl in absurd cc
room_answered (Err Halted) whole old new command before after active running told halted inactive full is_full memory is_whole =
    let kept = proposed-stopped old.state command active in
    let now = ap (λ (z : ReplicaState State Command). z.stopped) (told.exact is_whole).0 in
    let stopped = halted refl in
    absurd cc

-- what room means for a node that serves clients
pub has_room_by : (core : CoreState) (b : Bool) → serves core ≡ true →
    b ≡ nat_lt (places core.replica.state.log) max_places → b ≡ has_room core
has_room_by core b serving e = rw serving e

-- a node that serves clients and has no room has a full log
past_limit : (core : CoreState) → serves core ≡ true → has_room core ≡ false → max_places ≤ places core.replica.state.log
past_limit core serving no_room = by_order (cases_lt (places core.replica.state.log) max_places)
  where
    by_order : (places core.replica.state.log < max_places) ⊎ (max_places ≤ places core.replica.state.log) →
        max_places ≤ places core.replica.state.log
    by_order (inl room) =
        let e : true ≡ has_room core = has_room_by core true serving (sym (lt-ltb (places core.replica.state.log) max_places room)) in
        let f = e ∙ no_room in absurd cc
    by_order (inr past) = past

error_kept : {A : Type 0} (result : Result (Unit {0}) ProposeError) → IsErrOf result LogFull → OnErr result A → A
error_kept (Ok x) is kept = absurd cc
error_kept (Err e) is kept = kept

-- with no room nothing is taken and nothing lost
pub room_refused : (result : Result (Unit {0}) ProposeError) (whole : Bool) (old mid new : RunningStep) (replica : CountedReplica State Command)
    (before after : List (Effect Command Output)) → before ≡ [] → serves old.core ≡ true →
    (max_places ≤ places old.core.replica.state.log → IsErrOf result LogFull) →
    (IsErrOf result LogFull → (whole ≡ true) × (replica ≡ old.core.replica)) → OnErr result (after ≡ before) →
    mid ≡ record old { core = record old.core { replica = replica } } → new ≡ record mid { has_lost = if whole then mid.has_lost else true } →
    has_room old.core ≡ false → (new ≡ old) × (after ≡ [])
room_refused result whole old mid new replica before after none serving is_full same err is noted no_room =
    let full = is_full (past_limit old.core serving no_room) in
    let kept = same full in (
      noted_whole mid new whole noted kept.0 ∙ is
          ∙ ap (λ (r : CountedReplica State Command). record old { core = record old.core { replica = r } }) kept.1,
      error_kept result full err ∙ none,
    )
