-- Quiet.antt: events that need no memory are done exactly.
use Rattle.std.proofs.Common.{◌≡◌, ℕ, zero, suc, ◌⊎◌, inl, inr, Bool, true, false, List, [], ◌∷◌, ◌++◌, set, Some, None, Option, refl, ap, sym, ◌∙◌, subst}
use Rattle.std.specs.Prelude.{IsOk, Result, Ok, Err, slice_get, nat_lt}
use Rattle.std.proofs.lemmas.Bool.{and_parts, both_ways, cases_Bool, ltb-true}
use Rattle.std.proofs.lemmas.List.{append-nil}
use Rattle.machine.specs.Machine.{Rules}
use Rattle.ballot_base.specs.declared.config.Config.{Config}
use Rattle.ballot_base.specs.Logs.{places}
use Rattle.ballot_base.specs.declared.message.Effect.{Effect}
use Rattle.ballot_base.specs.declared.message.Message.{Message}
use Rattle.ballot_base.specs.Losses.{SendsAndAddsNothing, halted}
use Rattle.ballot_base.specs.Protocol.{replica_step}
use Rattle.ballot_base.specs.Protocol.Input.{Receives, Proposes, Ticks}
use Rattle.ballot_base.specs.Replica.{ReplicaState, is_active}
use Rattle.ballot_base.specs.StepOutcome.{Outcome, nothing_done}
use Rattle.ballot_base.specs.Service.{max_places}
use Rattle.ballot.proofs.TicksTaken.{ticked-state}
use Rattle.agreement.specs.MasterState.{AssignRefusal, refusal}
use Rattle.agreement.specs.cut_logs.Masters.{MasterOutcome}
use Rattle.agreement.specs.cut_logs.Moments.{Moment}
use Rattle.agreement.specs.cut_logs.World.{CutGroupWorld, moved}
use Rattle.master.specs.declared.event.Event.{Event}
use Rattle.master.specs.declared.event.Event.TheVariants.{Assign, Cut, Deliver, Tick, Crash}
use Rattle.master.specs.Group.{GroupState}
use Rattle.master.specs.Exact.{moment_after_event, gives, event_outcome}
use Rattle.master.specs.Outcomes.{NodeOutcome, EventOutcome, can_take}
use Rattle.master.specs.Outcomes.EventOutcome.{by_node, by_cut, by_master, unheeded}
use Rattle.master.specs.Copies.{has_numbers_alone}
use Rattle.master.specs.Inside.{RunsAt}
use Rattle.master.specs.Inside.Losses.{GroupNodeStepOrLost}
use Rattle.master.specs.Steps.{GroupEventOrLost, GroupTakesNoMemory, done_exactly}
use Rattle.master.specs.Steps.GroupTakesNoMemory.{comes_to_nobody, goes_unheeded, sends_and_adds_nothing, stops_a_node}
use Rattle.master.proofs.Calling.{proposal_busy}
use Rattle.master.proofs.Counting.{delivers_turn, some_idle, stops_turn, takes_turn}

-- an event that changes nothing is done by doing nothing
same_moment : {S C O : Type 0} (rules : Rules S C O) (old : GroupState S C O) (event : Event C) (x : Option (EventOutcome S C O)) →
    event_outcome rules old.moment event ≡ x → moment_after_event old.moment x ≡ old.moment → old ≡ done_exactly rules old event
same_moment {S = S} {C = C} {O = O} rules old event x e f =
    ap (λ (a : Moment S C O). let z : GroupState S C O = record { moment = a; losses = old.losses } in z)
    (sym f ∙ ap (moment_after_event old.moment) (sym e))

pub exactly_none : {S C O : Type 0} (rules : Rules S C O) (old : GroupState S C O) (event : Event C) →
    event_outcome rules old.moment event ≡ None → old ≡ done_exactly rules old event
exactly_none rules old event e = same_moment rules old event None e refl

pub exactly_unheeded : {S C O : Type 0} (rules : Rules S C O) (old : GroupState S C O) (event : Event C) →
    event_outcome rules old.moment event ≡ Some unheeded → old ≡ done_exactly rules old event
exactly_unheeded rules old event e = same_moment rules old event (Some unheeded) e refl

set_same : {X : Type 0} (xs : List X) (n : ℕ) (x : X) → slice_get xs n ≡ Some x → set xs n x ≡ xs
set_same [] n x e = cc
set_same (y ∷ xs) zero x e = let f : y ≡ x = cc in ap (λ z. z ∷ xs) (sym f)
set_same (y ∷ xs) (suc n) x e = ap (λ zs. y ∷ zs) (set_same xs n x e)

moved_same : {S C O : Type 0} (w : CutGroupWorld S C O) (n : ℕ) (r : ReplicaState S C) → slice_get w.nodes n ≡ Some r → moved w n r [] ≡ w
moved_same {S = S} {C = C} {O = O} w n r stands =
    ap (λ xs. let z : CutGroupWorld S C O = record { nodes = xs; sent = w.sent ++ []; left = w.left ++ []; archive = w.archive } in z) (set_same w.nodes n r stands)
    ∙ ap (λ xs. let z : CutGroupWorld S C O = record { nodes = w.nodes; sent = xs; left = w.left ++ []; archive = w.archive } in z) (append-nil w.sent)
    ∙ ap (λ xs. let z : CutGroupWorld S C O = record { nodes = w.nodes; sent = w.sent; left = xs; archive = w.archive } in z) (append-nil w.left)

-- a node that does nothing by the protocol
pub exactly_nothing : {S C O : Type 0} (rules : Rules S C O) (old : GroupState S C O) (event : Event C) (n : ℕ) (r : ReplicaState S C) (o : Outcome S C O) →
    event_outcome rules old.moment event ≡ Some (by_node (record { index = n; before = r; outcome = o })) →
    slice_get old.moment.world.nodes n ≡ Some r → o ≡ nothing_done O r → old ≡ done_exactly rules old event
exactly_nothing {S = S} {C = C} {O = O} rules old event n r o e stands nothing =
    same_moment rules old event _ e
    (ap (λ (p : Outcome S C O). let z : Moment S C O = record old.moment { world = moved old.moment.world n p.state p.effects } in z) nothing
    ∙ ap (λ (w : CutGroupWorld S C O). let z : Moment S C O = record old.moment { world = w } in z) (moved_same old.moment.world n r stands))

-- what is done exactly by doing nothing is a step
pub steps_exactly_done : {S C O : Type 0} (rules : Rules S C O) (old : GroupState S C O) (event : Event C) →
    old ≡ done_exactly rules old event → GroupEventOrLost rules old event old
steps_exactly_done {S = S} {C = C} {O = O} rules old event e =
    record { way = inl (ap (λ (z : GroupState S C O). z.moment) e, ap (λ (z : GroupState S C O). z.losses) e); freezes = inr refl }

-- a node's step needs no memory if it is quiet, or if the node stops
pub node_needs : {S C O : Type 0} {P : Type 0} (rules : Rules S C O) (a : Moment S C O) (event : Event C) (t : NodeOutcome S C O) →
    event_outcome rules a event ≡ Some (by_node t) → ((node : ℕ) → event ≡ Crash node → P) → (SendsAndAddsNothing t.before t.outcome → P) →
    GroupTakesNoMemory rules a event → P
node_needs rules a event t e stops quiet (comes_to_nobody f) = some_idle e f
node_needs rules a event t e stops quiet (goes_unheeded f) = let g = sym e ∙ f in cc
node_needs rules a event t e stops quiet (stops_a_node node f) = stops node f
node_needs {S = S} {C = C} {O = O} rules a event t e stops quiet (sends_and_adds_nothing s f still) =
    let g = sym e ∙ f in let same : t ≡ s = cc in
    quiet (subst (λ (z : NodeOutcome S C O). SendsAndAddsNothing z.before z.outcome) (sym same) still)

-- a step that is quiet was done exactly
pub turn_quiet : {S C O : Type 0} (rules : Rules S C O) (old new : GroupState S C O) (event : Event C) (t : NodeOutcome S C O) →
    event_outcome rules old.moment event ≡ Some (by_node t) → GroupNodeStepOrLost rules old t new → SendsAndAddsNothing t.before t.outcome → new ≡ done_exactly rules old event
turn_quiet {S = S} {C = C} {O = O} rules old new event t e took quiet =
    let z = took.quiet quiet in
    ap (λ (a : Moment S C O). let g : GroupState S C O = record { moment = a; losses = new.losses } in g)
    (took.moment
    ∙ ap (λ (s : ReplicaState S C). let a : Moment S C O = record old.moment { world = moved old.moment.world t.index s took.given } in a) z.0
    ∙ ap (λ (us : List (Effect C O)). let a : Moment S C O = record old.moment { world = moved old.moment.world t.index t.outcome.state us } in a) z.1
    ∙ ap (moment_after_event old.moment) (sym e))
    ∙ ap (λ k. let g : GroupState S C O = record { moment = moment_after_event old.moment (event_outcome rules old.moment event); losses = k } in g) z.2

-- a cut needs some
pub cut_needs : {S C O : Type 0} {P : Type 0} (rules : Rules S C O) (a : Moment S C O) (node : ℕ) (t : NodeOutcome S C O) →
    event_outcome rules a (Cut node) ≡ Some (by_cut t) → GroupTakesNoMemory rules a (Cut node) → P
cut_needs rules a node t e (comes_to_nobody f) = some_idle e f
cut_needs rules a node t e (goes_unheeded f) = let g = sym e ∙ f in cc
cut_needs rules a node t e (stops_a_node other f) = cc
cut_needs rules a node t e (sends_and_adds_nothing s f still) = let g = sym e ∙ f in cc

-- and one of the master needs some
pub master_needs : {S C O : Type 0} {P : Type 0} (rules : Rules S C O) (a : Moment S C O) (event : Event C) (o : MasterOutcome C) →
    event_outcome rules a event ≡ Some (by_master o) → ((node : ℕ) → event ≡ Crash node → P) → GroupTakesNoMemory rules a event → P
master_needs rules a event o e stops (comes_to_nobody f) = some_idle e f
master_needs rules a event o e stops (goes_unheeded f) = let g = sym e ∙ f in cc
master_needs rules a event o e stops (stops_a_node node f) = stops node f
master_needs rules a event o e stops (sends_and_adds_nothing s f still) = let g = sym e ∙ f in cc

-- a proposal that is taken is not quiet
pub proposal_does : {S C O : Type 0} {P : Type 0} (rules : Rules S C O) (r : ReplicaState S C) (command : C) → can_take r (Proposes command) ≡ true →
    SendsAndAddsNothing r (replica_step rules r (Proposes command)) → P
proposal_does {S = S} {C = C} {O = O} rules r command can quiet =
    let p = and_parts (is_active r.role) (nat_lt (places r.log) max_places) can in
    proposal_busy rules r command p.0 (ltb-true (places r.log) max_places p.1) quiet

-- a tick that is quiet does nothing
tick_nothing : {S C O : Type 0} (rules : Rules S C O) (r : ReplicaState S C) → SendsAndAddsNothing r (replica_step rules r Ticks) → replica_step rules r Ticks ≡ nothing_done O r
tick_nothing {S = S} {C = C} {O = O} rules r quiet =
    ap (λ (s : ReplicaState S C). let o : Outcome S C O = record { state = s; effects = (replica_step rules r Ticks).effects } in o) (ticked-state O r r.role)
    ∙ ap (λ (us : List (Effect C O)). let o : Outcome S C O = record { state = r; effects = us } in o) quiet.nothing_sent

-- a tick, if the node would say something and if not
tick_goes : {S C O : Type 0} (rules : Rules S C O) (old : GroupState S C O) (node at : ℕ) (x : RunsAt old.moment.world.nodes node at) →
    event_outcome rules old.moment (Tick node) ≡ Some (by_node (record { index = at; before = x.replica; outcome = replica_step rules x.replica Ticks }))
tick_goes rules old node at x = takes_turn rules old.moment.world node at Ticks x refl

pub tick_silent : {S C O : Type 0} (rules : Rules S C O) (old : GroupState S C O) (node at : ℕ) (x : RunsAt old.moment.world.nodes node at)
    (seen : ReplicaState S C) (speaks : Bool) → seen ≡ x.replica →
    (speaks ≡ false → replica_step rules seen Ticks ≡ nothing_done O seen) × (replica_step rules seen Ticks ≡ nothing_done O seen → speaks ≡ false) →
    speaks ≡ false → old ≡ done_exactly rules old (Tick node)
tick_silent {S = S} {C = C} {O = O} rules old node at x seen speaks same exactly off =
    exactly_nothing rules old (Tick node) at x.replica (replica_step rules x.replica Ticks) (tick_goes rules old node at x) x.stands
    (subst (λ (r : ReplicaState S C). replica_step rules r Ticks ≡ nothing_done O r) same (exactly.0 off))

pub tick_says : {S C O : Type 0} {P : Type 0} (rules : Rules S C O) (old : GroupState S C O) (node at : ℕ) (x : RunsAt old.moment.world.nodes node at)
    (seen : ReplicaState S C) (speaks : Bool) → seen ≡ x.replica →
    (speaks ≡ false → replica_step rules seen Ticks ≡ nothing_done O seen) × (replica_step rules seen Ticks ≡ nothing_done O seen → speaks ≡ false) →
    speaks ≡ true → GroupTakesNoMemory rules old.moment (Tick node) → P
tick_says {S = S} {C = C} {O = O} rules old node at x seen speaks same exactly on =
    node_needs rules old.moment (Tick node) _ (tick_goes rules old node at x) (λ n f. cc)
    (λ f. absurd (both_ways speaks
    (exactly.1 (subst (λ (r : ReplicaState S C). replica_step rules r Ticks ≡ nothing_done O r) (sym same) (tick_nothing rules x.replica f))) on))

-- a message that comes to a node, which ignores it
pub message_passed : {S C O : Type 0} (rules : Rules S C O) (old : GroupState S C O) (k at : ℕ) (x : ℕ × Message C) → slice_get old.moment.world.sent k ≡ Some x →
    (y : RunsAt old.moment.world.nodes x.0 at) (seen : ReplicaState S C) (heeds : Bool) → seen ≡ y.replica →
    (heeds ≡ false → replica_step rules seen (Receives x.1) ≡ nothing_done O seen) × (replica_step rules seen (Receives x.1) ≡ nothing_done O seen → heeds ≡ false) →
    heeds ≡ false → old ≡ done_exactly rules old (Deliver k)
message_passed {S = S} {C = C} {O = O} rules old k at x found y seen heeds same exactly off =
    exactly_nothing rules old (Deliver k) at y.replica (replica_step rules y.replica (Receives x.1)) (delivers_turn rules old.moment k at x x.1 found refl y) y.stands
    (subst (λ (r : ReplicaState S C). replica_step rules r (Receives x.1) ≡ nothing_done O r) same (exactly.0 off))

-- one that is taken
pub message_taken : {S C O : Type 0} (rules : Rules S C O) (old new : GroupState S C O) (k at : ℕ) (x : ℕ × Message C) (m : Message C) →
    slice_get old.moment.world.sent k ≡ Some x → m ≡ x.1 → (y : RunsAt old.moment.world.nodes x.0 at) →
    GroupNodeStepOrLost rules old (record { index = at; before = y.replica; outcome = replica_step rules y.replica (Receives m) }) new →
    GroupTakesNoMemory rules old.moment (Deliver k) → new ≡ done_exactly rules old (Deliver k)
message_taken rules old new k at x m found same y took =
    let goes = delivers_turn rules old.moment k at x m found same y in
    node_needs rules old.moment (Deliver k) _ goes (λ n f. cc) (λ quiet. turn_quiet rules old new (Deliver k) _ goes took quiet)

-- a copy for which there is no memory does not exist
pub not_copied : {X E : Type 0} (result : Result X E) (error : E) → result ≡ Err error → IsOk result → ⊥
not_copied (Ok x) error is ok = cc
not_copied (Err e) error is ok = cc

-- and one for whose copy there is no memory
pub message_lost : {S C O : Type 0} {P : Type 0} (rules : Rules S C O) (old : GroupState S C O) (k at : ℕ) (x : ℕ × Message C) →
    slice_get old.moment.world.sent k ≡ Some x → (y : RunsAt old.moment.world.nodes x.0 at) → (has_numbers_alone x.1.body ≡ true → ⊥) →
    (has_numbers_alone x.1.body ≡ false → SendsAndAddsNothing y.replica (replica_step rules y.replica (Receives x.1)) → ⊥) → GroupTakesNoMemory rules old.moment (Deliver k) → P
message_lost rules old k at x found y numbers more =
    node_needs rules old.moment (Deliver k) _ (delivers_turn rules old.moment k at x x.1 found refl y) (λ n f. cc)
    (λ quiet. absurd (by_kind quiet (cases_Bool (has_numbers_alone x.1.body))))
  where
    by_kind : SendsAndAddsNothing y.replica (replica_step rules y.replica (Receives x.1)) →
        (has_numbers_alone x.1.body ≡ true) ⊎ (has_numbers_alone x.1.body ≡ false) → ⊥
    by_kind quiet (inl e) = numbers e
    by_kind quiet (inr e) = more e quiet

-- a node that stops
pub exactly_stopped : {S C O : Type 0} (rules : Rules S C O) (old new : GroupState S C O) (node at : ℕ) (x : RunsAt old.moment.world.nodes node at) →
    new ≡ record { moment = record old.moment { world = moved old.moment.world at (halted rules x.replica) [] }; losses = old.losses } →
    new ≡ done_exactly rules old (Crash node)
exactly_stopped {S = S} {C = C} {O = O} rules old new node at x e =
    e ∙ ap (λ (a : Moment S C O). let z : GroupState S C O = record { moment = a; losses = old.losses } in z)
    (ap (moment_after_event old.moment) (sym (stops_turn rules old.moment.world.nodes node at x)))

-- the same event by another name
pub quiet_as : {S C O : Type 0} (rules : Rules S C O) (old new : GroupState S C O) (e event : Event C) → event ≡ e →
    (GroupTakesNoMemory rules old.moment e → new ≡ done_exactly rules old e) → GroupTakesNoMemory rules old.moment event → new ≡ done_exactly rules old event
quiet_as {C = C} rules old new e event same quiet =
    subst (λ (x : Event C). GroupTakesNoMemory rules old.moment x → new ≡ done_exactly rules old x) (sym same) quiet

-- a configuration that the master refuses
pub refused_turn : {S C O : Type 0} (rules : Rules S C O) (a : Moment S C O) (config : Config) (can : Bool) →
    (can ≡ true → refusal a.master config ≡ None) × (refusal a.master config ≡ None → can ≡ true) → can ≡ false →
    event_outcome rules a (Assign config) ≡ None
refused_turn {S = S} {C = C} {O = O} rules a config can exactly off = by_refusal (refusal a.master config) refl
  where
    by_refusal : (why : Option AssignRefusal) → refusal a.master config ≡ why → event_outcome rules a (Assign config) ≡ None
    by_refusal (Some why) e = ap (gives rules a.master config) e
    by_refusal None e = absurd (both_ways can off (exactly.1 e))
