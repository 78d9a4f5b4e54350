-- Counting.antt: an outcome, a loss or nothing is the counted step of an event.
use Rattle.std.proofs.Common.{◌≡◌, ℕ, zero, suc, get_or, ◌+◌, ◌-◌, ◌^◌, ◌<◌, ◌≤◌, ◌⊎◌, inl, inr, Bool, true, false, cond, min, List, [], ◌∷◌, length, Some, None, Option, refl, ap, sym, ◌∙◌, subst, arith}
use Rattle.std.specs.Prelude.{slice_get, nat_lt, ◌&&◌}
use Rattle.std.proofs.lemmas.Bool.{le-ltb, lt-ltb}
use Rattle.machine.specs.Machine.{Rules}
use Rattle.ballot_base.specs.declared.message.Message.{Message}
use Rattle.ballot_base.specs.declared.message.Effect.{Effect}
use Rattle.ballot_base.specs.declared.status.Status.{Status}
use Rattle.ballot_base.specs.Losses.{Loses, halted, one_more}
use Rattle.ballot_base.specs.Protocol.{Input, replica_step}
use Rattle.ballot_base.specs.Protocol.Input.{Receives, Proposes}
use Rattle.ballot_base.specs.Replica.{ReplicaState, is_active, status_of}
use Rattle.ballot_base.specs.Service.{max_places}
use Rattle.ballot_base.specs.Compaction.{can_cut}
use Rattle.ballot_base.specs.Logs.{places}
use Rattle.master.specs.declared.event.Event.{Event}
use Rattle.master.specs.declared.event.Event.TheVariants.{Assign, Deliver}
use Rattle.agreement.specs.cut_logs.World.{CutGroupWorld, moved}
use Rattle.agreement.specs.cut_logs.Moments.{Moment}
use Rattle.ballot_base.specs.declared.config.Config.{Config}
use Rattle.lists.specs.Lists.{In}
use Rattle.lists.proofs.Members.{in_at}
use Rattle.agreement.specs.cut_logs.Steps.{sends_from_master}
use Rattle.agreement.specs.cut_logs.Masters.{MasterOutcome, activated, assigned}
use Rattle.agreement.specs.MasterState.{MasterState, refusal}
use Rattle.ballot_base.specs.declared.message.Body.{Body}
use Rattle.ballot_base.specs.declared.message.Body.TheVariants.{NewBallot, Join, State, Install, Installed, Activate, Activated, Superseded, Append, Held, Commit}
use Rattle.master.specs.Outcomes.EventOutcome.{by_node, by_cut, by_master, unheeded}
use Rattle.master.specs.Group.{GroupState}
use Rattle.master.specs.Exact.{takes, hears, comes, gives, event_outcome, moment_after_event, group_step}
use Rattle.master.specs.Outcomes.{NodeOutcome, EventOutcome, running, can_take, outcome_of_taking, stopping, cut_outcome, outcome_of_cutting}
use Rattle.master.specs.Steps.{Freezes, GroupEventLosing, GroupEventOrLost, GroupLosesNothing}
use Rattle.master.specs.Steps.GroupEventLosing.{nothing_happens, node_goes, master_goes}
use Rattle.master.specs.Inside.{RunsAt, asks_for}
use Rattle.master.specs.Inside.Losses.{GroupCutOrLost, GroupMasterStepOrLost, GroupNodeStepOrLost}

-- the outcome for a node that runs
pub takes_turn : {S C O : Type 0} (rules : Rules S C O) (w : CutGroupWorld S C O) (node at : ℕ) (input : Input C) (x : RunsAt w.nodes node at) →
    can_take x.replica input ≡ true →
    takes rules w node input ≡ Some (by_node (record { index = at; before = x.replica; outcome = replica_step rules x.replica input }))
takes_turn {S = S} {C = C} {O = O} rules w node at input x can =
    ap (λ o. outcome_of_taking rules (node - 1) o input) x.runs
    ∙ ap (λ b. cond b (Some (by_node (record { index = node - 1; before = x.replica; outcome = replica_step rules x.replica input }))) None) can
    ∙ ap (λ n. let t : NodeOutcome S C O = record { index = n; before = x.replica; outcome = replica_step rules x.replica input } in Some (by_node t)) (sym x.index)

pub takes_nothing : {S C O : Type 0} (rules : Rules S C O) (w : CutGroupWorld S C O) (node : ℕ) (input : Input C) →
    running w.nodes node ≡ None → takes rules w node input ≡ None
takes_nothing rules w node input idle = ap (λ o. outcome_of_taking rules (node - 1) o input) idle

pub cannot_take : {S C O : Type 0} (rules : Rules S C O) (w : CutGroupWorld S C O) (node at : ℕ) (input : Input C) (x : RunsAt w.nodes node at) →
    can_take x.replica input ≡ false → takes rules w node input ≡ None
cannot_take {S = S} {C = C} {O = O} rules w node at input x can =
    ap (λ o. outcome_of_taking rules (node - 1) o input) x.runs
    ∙ ap (λ b. cond b (Some (by_node (record { index = node - 1; before = x.replica; outcome = replica_step rules x.replica input }))) None) can

pub stops_turn : {S C O : Type 0} (rules : Rules S C O) (nodes : List (ReplicaState S C)) (node at : ℕ) (x : RunsAt nodes node at) →
    stopping rules (node - 1) (running nodes node) ≡ Some (by_node (record { index = at; before = x.replica; outcome = record { state = halted rules x.replica; effects = [] } }))
stops_turn {S = S} {C = C} {O = O} rules nodes node at x =
    ap (stopping rules (node - 1)) x.runs
    ∙ ap (λ n. let t : NodeOutcome S C O = record { index = n; before = x.replica; outcome = record { state = halted rules x.replica; effects = [] } } in Some (by_node t)) (sym x.index)

-- the outcome of a cut
pub cuts_turn : {S C O : Type 0} (rules : Rules S C O) (nodes : List (ReplicaState S C)) (node at : ℕ) (x : RunsAt nodes node at) → can_cut x.replica ≡ true →
    outcome_of_cutting rules (node - 1) (running nodes node) ≡ Some (by_cut (cut_outcome rules at x.replica))
cuts_turn {S = S} {C = C} {O = O} rules nodes node at x can =
    ap (outcome_of_cutting rules (node - 1)) x.runs
    ∙ ap (λ b. let t : Option (EventOutcome S C O) = cond b (Some (by_cut (cut_outcome rules (node - 1) x.replica))) None in t) can
    ∙ ap (λ n. let t : Option (EventOutcome S C O) = Some (by_cut (cut_outcome rules n x.replica)) in t) (sym x.index)

pub cuts_nothing : {S C O : Type 0} (rules : Rules S C O) (nodes : List (ReplicaState S C)) (node at : ℕ) (x : RunsAt nodes node at) → can_cut x.replica ≡ false →
    outcome_of_cutting rules (node - 1) (running nodes node) ≡ None
cuts_nothing {S = S} {C = C} {O = O} rules nodes node at x cannot =
    ap (outcome_of_cutting rules (node - 1)) x.runs
    ∙ ap (λ b. let t : Option (EventOutcome S C O) = cond b (Some (by_cut (cut_outcome rules (node - 1) x.replica))) None in t) cannot

-- what a cut froze, by the outcome
pub freezes_as : {S C O : Type 0} (rules : Rules S C O) {t u : Option (EventOutcome S C O)} → t ≡ u → Freezes rules t → Freezes rules u
freezes_as {S = S} {C = C} {O = O} rules e f = subst (λ (x : Option (EventOutcome S C O)). Freezes rules x) e f

-- an event with an outcome is not idle
pub some_idle : {X : Type 0} {P : Type 0} {o : Option X} {x : X} → o ≡ Some x → o ≡ None → P
some_idle a b = let e = sym a ∙ b in cc

-- an outcome for a node is the step of its event
pub steps_turn : {S C O : Type 0} (rules : Rules S C O) (old new : GroupState S C O) (event : Event C) (t : NodeOutcome S C O) →
    event_outcome rules old.moment event ≡ Some (by_node t) → GroupNodeStepOrLost rules old t new → GroupEventOrLost rules old event new
steps_turn {S = S} {C = C} {O = O} rules old new event t e took =
    record { way = by_way took.way; freezes = inl (freezes_as rules (sym e) tt) }
  where
    by_way : ((took.state ≡ t.outcome.state) × (took.given ≡ t.outcome.effects) × (new.losses ≡ old.losses))
        ⊎ (Loses rules t.before t.outcome took.state took.given × (new.losses ≡ one_more old.losses)) →
        ((new.moment ≡ group_step rules event old.moment) × (new.losses ≡ old.losses))
        ⊎ (GroupEventLosing rules old.moment event new.moment × (new.losses ≡ one_more old.losses))
    by_way (inl (a, b, c)) =
        inl (
          took.moment ∙ ap (λ (s : ReplicaState S C). let z : Moment S C O = record old.moment { world = moved old.moment.world t.index s took.given } in z) a
              ∙ ap (λ (us : List (Effect C O)). let z : Moment S C O = record old.moment { world = moved old.moment.world t.index t.outcome.state us } in z) b
              ∙ ap (moment_after_event old.moment) (sym e),
          c,
        )
    by_way (inr (a, b)) = inr (subst (λ (v : Moment S C O). GroupEventLosing rules old.moment event v) (sym took.moment) (node_goes t e a), b)

-- and the same for one of the master
pub steps_master : {S C O : Type 0} (rules : Rules S C O) (old new : GroupState S C O) (event : Event C) (o : MasterOutcome C) →
    event_outcome rules old.moment event ≡ Some (by_master o) → GroupMasterStepOrLost old o new → GroupEventOrLost rules old event new
steps_master {S = S} {C = C} {O = O} rules old new event o e took =
    record { way = by_way took.way; freezes = inl (freezes_as rules (sym e) tt) }
  where
    by_way : ((new.moment ≡ record { master = o.state; world = sends_from_master old.moment.world o }) × (new.losses ≡ old.losses))
        ⊎ ((new.moment ≡ record old.moment { master = o.state }) × (new.losses ≡ one_more old.losses)) →
        ((new.moment ≡ group_step rules event old.moment) × (new.losses ≡ old.losses))
        ⊎ (GroupEventLosing rules old.moment event new.moment × (new.losses ≡ one_more old.losses))
    by_way (inl (a, b)) = inl (a ∙ ap (moment_after_event old.moment) (sym e), b)
    by_way (inr (a, b)) = inr (subst (λ (v : Moment S C O). GroupEventLosing rules old.moment event v) (sym a) (master_goes o e), b)

-- nothing happened, because memory ran out
pub steps_lost : {S C O : Type 0} (rules : Rules S C O) (old new : GroupState S C O) (event : Event C) →
    new ≡ record old { losses = one_more old.losses } → GroupEventOrLost rules old event new
steps_lost {S = S} {C = C} {O = O} rules old new event e =
    subst (λ (v : GroupState S C O). GroupEventOrLost rules old event v) (sym e)
    (record { way = inr (nothing_happens, refl); freezes = inr refl })

-- and the same for a cut
pub steps_cut : {S C O : Type 0} (rules : Rules S C O) (old new : GroupState S C O) (event : Event C) (t : NodeOutcome S C O) →
    event_outcome rules old.moment event ≡ Some (by_cut t) → GroupCutOrLost rules old t new → GroupEventOrLost rules old event new
steps_cut {S = S} {C = C} {O = O} rules old new event t e took = by_way took.way
  where
    by_way : ((new.moment ≡ moment_after_event old.moment (Some (by_cut t))) × (new.losses ≡ old.losses) × Freezes rules (Some (by_cut t)))
        ⊎ (new ≡ record old { losses = one_more old.losses }) → GroupEventOrLost rules old event new
    by_way (inl (a, b, c)) =
        record { way = inl (a ∙ ap (moment_after_event old.moment) (sym e), b); freezes = inl (freezes_as rules (sym e) c) }
    by_way (inr lost) = steps_lost rules old new event lost

-- an event that does nothing
pub steps_idle : {S C O : Type 0} (rules : Rules S C O) (old : GroupState S C O) (event : Event C) →
    event_outcome rules old.moment event ≡ None → GroupEventOrLost rules old event old
steps_idle rules old event e = record { way = inl (sym (ap (moment_after_event old.moment) e), refl); freezes = inr refl }

pub steps_unheeded : {S C O : Type 0} (rules : Rules S C O) (old : GroupState S C O) (event : Event C) →
    event_outcome rules old.moment event ≡ Some unheeded → GroupEventOrLost rules old event old
steps_unheeded rules old event e = record { way = inl (sym (ap (moment_after_event old.moment) e), refl); freezes = inr refl }

-- a count that did not rise lost nothing
pub steps_exactly : {S C O : Type 0} (rules : Rules S C O) (old new : GroupState S C O) (event : Event C) →
    GroupEventOrLost rules old event new → GroupLosesNothing old new → new.moment ≡ group_step rules event old.moment
steps_exactly rules old new event s exact = by_way s.way
  where
    by_way : ((new.moment ≡ group_step rules event old.moment) × (new.losses ≡ old.losses))
        ⊎ (GroupEventLosing rules old.moment event new.moment × (new.losses ≡ one_more old.losses)) → new.moment ≡ group_step rules event old.moment
    by_way (inl (a, b)) = a
    by_way (inr (a, b)) =
        let f : old.losses ≡ min (old.losses + 1) (2 ^ 64 - 1) = sym exact.0 ∙ b in let below = exact.1 in absurd (omega (arith, f, below))

-- a message that was sent to a node, and one that was not sent
came : {S C O : Type 0} (rules : Rules S C O) (a : Moment S C O) (k : ℕ) (x : ℕ × Message C) → 0 < x.0 → slice_get a.world.sent k ≡ Some x →
    event_outcome rules a (Deliver k) ≡ takes rules a.world x.0 (Receives x.1)
came rules a k (zero, m) positive e = absurd (omega (arith, positive))
came rules a k (suc n, m) positive e = ap (comes rules a) e

pub delivers_turn : {S C O : Type 0} (rules : Rules S C O) (a : Moment S C O) (k at : ℕ) (x : ℕ × Message C) (m : Message C) →
    slice_get a.world.sent k ≡ Some x → m ≡ x.1 → (y : RunsAt a.world.nodes x.0 at) →
    event_outcome rules a (Deliver k) ≡ Some (by_node (record { index = at; before = y.replica; outcome = replica_step rules y.replica (Receives m) }))
delivers_turn {S = S} {C = C} {O = O} rules a k at x m e same y =
    came rules a k x y.positive e ∙ takes_turn rules a.world x.0 at (Receives x.1) y refl
    ∙ ap (λ z. let t : NodeOutcome S C O = record { index = at; before = y.replica; outcome = replica_step rules y.replica (Receives z) } in Some (by_node t)) (sym same)

pub delivers_nothing : {S C O : Type 0} (rules : Rules S C O) (a : Moment S C O) (k : ℕ) (x : ℕ × Message C) → 0 < x.0 →
    slice_get a.world.sent k ≡ Some x → running a.world.nodes x.0 ≡ None → event_outcome rules a (Deliver k) ≡ None
delivers_nothing rules a k x positive e idle = came rules a k x positive e ∙ takes_nothing rules a.world x.0 (Receives x.1) idle

-- a message that was sent to the master
pub delivers_to_master : {S C O : Type 0} (rules : Rules S C O) (a : Moment S C O) (k : ℕ) (x : ℕ × Message C) → x.0 ≡ 0 → slice_get a.world.sent k ≡ Some x →
    event_outcome rules a (Deliver k) ≡ Some (hears rules a.master x.1.from x.1.body)
delivers_to_master rules a k (zero, m) zero_is e = ap (comes rules a) e
delivers_to_master rules a k (suc n, m) zero_is e = absurd (omega (arith, zero_is))

pub hears_ballot : {S C O : Type 0} (rules : Rules S C O) (m : MasterState) (from ballot : ℕ) (body : Body C) → asks_for body ≡ Some ballot →
    (body ≡ Activate ballot) × (hears rules m from body ≡ by_master (activated C m ballot from m.waiting))
hears_ballot rules m from ballot (NewBallot b members a old) e = cc
hears_ballot rules m from ballot (Join b a) e = cc
hears_ballot rules m from ballot (State b log) e = cc
hears_ballot rules m from ballot (Install b log) e = cc
hears_ballot rules m from ballot (Installed b held) e = cc
hears_ballot {S = S} {C = C} {O = O} rules m from ballot (Activate b) e = let same : b ≡ ballot = cc in (ap Activate same, ap (λ x. let t : EventOutcome S C O = by_master (activated C m x from m.waiting) in t) same)
hears_ballot rules m from ballot (Activated b) e = cc
hears_ballot rules m from ballot (Superseded b) e = cc
hears_ballot rules m from ballot (Append b place command) e = cc
hears_ballot rules m from ballot (Held b held) e = cc
hears_ballot rules m from ballot (Commit b held) e = cc

pub hears_nothing : {S C O : Type 0} (rules : Rules S C O) (m : MasterState) (from : ℕ) (body : Body C) → asks_for body ≡ None →
    hears rules m from body ≡ unheeded
hears_nothing rules m from (NewBallot b members a old) e = refl
hears_nothing rules m from (Join b a) e = refl
hears_nothing rules m from (State b log) e = refl
hears_nothing rules m from (Install b log) e = refl
hears_nothing rules m from (Installed b held) e = refl
hears_nothing rules m from (Activate b) e = cc
hears_nothing rules m from (Activated b) e = refl
hears_nothing rules m from (Superseded b) e = refl
hears_nothing rules m from (Append b place command) e = refl
hears_nothing rules m from (Held b held) e = refl
hears_nothing rules m from (Commit b held) e = refl

pub not_sent : {S C O : Type 0} (rules : Rules S C O) (a : Moment S C O) (k : ℕ) → slice_get a.world.sent k ≡ None → event_outcome rules a (Deliver k) ≡ None
not_sent rules a k e = ap (comes rules a) e

pub get_there : {X : Type 0} (xs : List X) (k : ℕ) (x : X) → k < length xs → x ≡ get_or xs k x → slice_get xs k ≡ Some x
get_there [] k x below read = absurd (omega arith)
get_there (y ∷ xs) zero x below read = ap Some (sym read)
get_there (y ∷ xs) (suc k) x below read = get_there xs k x (omega arith) read

pub get_past : {X : Type 0} (xs : List X) (k : ℕ) → length xs ≤ k → slice_get xs k ≡ None
get_past [] k moments = refl
get_past (y ∷ xs) zero moments = absurd (omega arith)
get_past (y ∷ xs) (suc k) moments = get_past xs k (omega arith)

-- whether a proposal is taken, by the status
pub proposal_refused : {S C : Type 0} (r : ReplicaState S C) (status : Status) (active : Bool) (command : C) → status ≡ status_of r → active ≡ is_active status.role →
    (active ≡ false) ⊎ ((active ≡ true) × (max_places ≤ status.held)) → can_take r (Proposes command) ≡ false
proposal_refused r status active command e a (inl off) =
    ap (λ b. b && nat_lt (places r.log) max_places) (ap (λ (s : Status). is_active s.role) (sym e) ∙ sym a ∙ off)
proposal_refused r status active command e a (inr (on, full)) =
    let long : status.held ≡ places r.log = ap (λ (s : Status). s.held) e in
    ap (λ b. b && nat_lt (places r.log) max_places) (ap (λ (s : Status). is_active s.role) (sym e) ∙ sym a ∙ on)
    ∙ le-ltb (places r.log) max_places (omega (arith, long, full))

pub proposal_taken : {S C : Type 0} (r : ReplicaState S C) (status : Status) (active : Bool) (command : C) → status ≡ status_of r → active ≡ is_active status.role →
    active ≡ true → status.held < max_places → can_take r (Proposes command) ≡ true
proposal_taken r status active command e a on room =
    let long : status.held ≡ places r.log = ap (λ (s : Status). s.held) e in
    ap (λ b. b && nat_lt (places r.log) max_places) (ap (λ (s : Status). is_active s.role) (sym e) ∙ sym a ∙ on)
    ∙ lt-ltb (places r.log) max_places (omega (arith, long, room))

-- a ballot that is given
pub gives_turn : {S C O : Type 0} (rules : Rules S C O) (a : Moment S C O) (config : Config) → refusal a.master config ≡ None →
    event_outcome rules a (Assign config) ≡ Some (by_master (assigned C a.master config))
gives_turn rules a config granted = ap (gives rules a.master config) granted

-- whom the master is asked by
pub asked_in : {C : Type 0} (sent : List (ℕ × Message C)) (k b : ℕ) (x : ℕ × Message C) → slice_get sent k ≡ Some x → x.0 ≡ 0 → x.1.body ≡ Activate b →
    In (0, record { from = x.1.from; body = Activate b }) sent
asked_in {C = C} sent k b x found zero_is asks =
    in_at sent k (0, record { from = x.1.from; body = Activate b })
    (found ∙ ap (λ y. Some (y, x.1)) zero_is ∙ ap (λ y. let m : Message C = record { from = x.1.from; body = y } in Some (0, m)) asks)

pub came_in : {S C : Type 0} (nodes : List (ReplicaState S C)) (sent : List (ℕ × Message C)) (k at : ℕ) (x : ℕ × Message C) (m : Message C) →
    slice_get sent k ≡ Some x → m ≡ x.1 → RunsAt nodes x.0 at → In (at + 1, m) sent
came_in {S = S} {C = C} nodes sent k at x m found same y =
    let place = y.index in let positive = y.positive in
    let number : x.0 ≡ at + 1 = omega (arith, place, positive) in
    in_at sent k (at + 1, m) (found ∙ ap (λ n. Some (n, x.1)) number ∙ ap (λ z. let v : ℕ × Message C = (at + 1, z) in Some v) (sym same))
