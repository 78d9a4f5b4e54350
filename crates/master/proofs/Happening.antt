-- Happening.antt: each step of a group is one that may happen to a master and nodes.
use Rattle.std.proofs.Common.{◌≡◌, ℕ, zero, suc, ◌+◌, ◌-◌, ◌⊎◌, inl, inr, Bool, true, false, cond, List, [], Some, None, Option, refl, ap, sym, ◌∙◌, subst, arith}
use Rattle.std.specs.Prelude.{slice_get, nat_lt, not, ◌<◌}
use Rattle.machine.specs.Machine.{Rules}
use Rattle.lists.specs.Lists.{In}
use Rattle.lists.proofs.Members.{in_at}
use Rattle.ballot_base.specs.declared.config.Config.{Config}
use Rattle.ballot_base.specs.declared.message.Message.{Message}
use Rattle.ballot_base.specs.declared.message.Body.{Body}
use Rattle.ballot_base.specs.declared.message.Body.TheVariants.{NewBallot, Join, State, Install, Installed, Activate, Activated, Superseded, Append, Held, Commit}
use Rattle.ballot_base.specs.declared.message.Effect.{Effect}
use Rattle.ballot_base.specs.Losses.{Loses, Thinned, halted}
use Rattle.ballot_base.specs.Protocol.{Input, replica_step}
use Rattle.ballot_base.specs.Protocol.Input.{Receives, Proposes, Ticks}
use Rattle.ballot_base.specs.Replica.{ReplicaState}
use Rattle.ballot_base.specs.StepOutcome.{Outcome}
use Rattle.ballot_base.proofs.ThinnedEffects.{Thinned-same}
use Rattle.agreement.specs.MasterState.{AssignRefusal, MasterState, refusal, master_after}
use Rattle.agreement.specs.cut_logs.Masters.{MasterOutcome, activated, assigned}
use Rattle.agreement.specs.cut_logs.Moments.{Moment}
use Rattle.agreement.specs.cut_logs.Steps.{MayHappen, sends_from_master, world_after}
use Rattle.agreement.specs.cut_logs.World.{MayTake}
use Rattle.agreement.specs.cut_logs.Steps.MayHappen.{node_goes as node_moves, master_assigns, master_hears, assignment_lost, answer_lost}
use Rattle.agreement.specs.cut_logs.World.{CutGroupWorld, moved, recorded}
use Rattle.agreement.specs.cut_logs.World.{NodeGoes as goes}
use Rattle.ballot_base.specs.Compaction.{can_cut, cut}
use Rattle.std.proofs.lemmas.Bool.{and_parts, ltb-true}
use Rattle.master.specs.declared.event.Event.{Event}
use Rattle.master.specs.declared.event.Event.TheVariants.{Propose, Assign, Deliver, Tick, Cut, Crash}
use Rattle.master.specs.Group.{GroupState}
use Rattle.master.specs.Exact.{takes, hears, comes, comes_to, gives, event_outcome, moment_after_event, group_step}
use Rattle.master.specs.Outcomes.{NodeOutcome, EventOutcome, running, unless_stopped, can_take, outcome_of_taking, stopping, cut_outcome, outcome_of_cutting}
use Rattle.master.specs.Outcomes.EventOutcome.{by_node, by_cut, by_master, unheeded}
use Rattle.master.specs.Steps.{Freezes, GroupEventOrLost, GroupEventLosing}
use Rattle.master.specs.Steps.GroupEventLosing.{nothing_happens, node_goes, master_goes}
use Rattle.ballot_base.specs.Losses.{one_more}

-- what may happen between two moments
abbrev pub MayGo : {S C O : Type 0} → Rules S C O → Moment S C O → Moment S C O → Type 0
MayGo rules a b = MayHappen rules a.master a.world b.master b.world

-- nothing may happen: an Assign with no member is refused
pub nothing_may : {S C O : Type 0} (rules : Rules S C O) (a : Moment S C O) → MayGo rules a a
nothing_may rules a = assignment_lost (record { members = []; primary = 0 })

-- what the outcome for a node is: it takes something in, or stops
pub data IsTurn {S C O : Type 0} (rules : Rules S C O) (w : CutGroupWorld S C O) (t : NodeOutcome S C O) : Type 0 where
  it_takes : (input : Input C) → slice_get w.nodes t.index ≡ Some t.before → t.before.stopped ≡ false → MayTake w t.index input →
      t.outcome ≡ replica_step rules t.before input → IsTurn rules w t
  it_stops : slice_get w.nodes t.index ≡ Some t.before → t.before.stopped ≡ false →
      t.outcome ≡ record { state = halted rules t.before; effects = [] } → IsTurn rules w t

-- a node that runs
running_is : {S C : Type 0} (o : Option (ReplicaState S C)) (r : ReplicaState S C) → unless_stopped o ≡ Some r → (o ≡ Some r) × (r.stopped ≡ false)
running_is None r e = cc
running_is {S = S} {C = C} (Some x) r e = by_stop x.stopped refl e
  where
    by_stop : (b : Bool) → x.stopped ≡ b → cond b None (Some x) ≡ Some r → (Some x ≡ Some r) × (r.stopped ≡ false)
    by_stop true f g = cc
    by_stop false f g = let same : x ≡ r = cc in (g, ap (λ (y : ReplicaState S C). y.stopped) (sym same) ∙ f)

taking_is : {S C O : Type 0} (rules : Rules S C O) (w : CutGroupWorld S C O) (n : ℕ) (o : Option (ReplicaState S C)) (input : Input C) (t : NodeOutcome S C O) →
    unless_stopped (slice_get w.nodes n) ≡ o → MayTake w n input → outcome_of_taking rules n o input ≡ Some (by_node t) → IsTurn rules w t
taking_is rules w n None input t is may e = cc
taking_is {S = S} {C = C} {O = O} rules w n (Some r) input t is may e = by_room (can_take r input) e
  where
    now : NodeOutcome S C O
    now = record { index = n; before = r; outcome = replica_step rules r input }

    by_room : (b : Bool) → cond b (Some (by_node now)) None ≡ Some (by_node t) → IsTurn rules w t
    by_room true f =
        let same : now ≡ t = cc in
        let z = running_is (slice_get w.nodes n) r is in
        subst (λ (x : NodeOutcome S C O). IsTurn rules w x) same (it_takes input z.0 z.1 may refl)
    by_room false f = cc

takes_is : {S C O : Type 0} (rules : Rules S C O) (w : CutGroupWorld S C O) (node : ℕ) (input : Input C) (t : NodeOutcome S C O) →
    ((n : ℕ) → node ≡ suc n → MayTake w n input) → takes rules w node input ≡ Some (by_node t) → IsTurn rules w t
takes_is rules w zero input t may e = cc
takes_is {S = S} {C = C} {O = O} rules w (suc n) input t may e =
    let same : suc n - 1 ≡ n = omega arith in
    taking_is rules w n (running w.nodes (suc n)) input t refl (may n refl)
    (subst (λ k. outcome_of_taking rules k (running w.nodes (suc n)) input ≡ Some (by_node t)) same e)

stopping_is : {S C O : Type 0} (rules : Rules S C O) (w : CutGroupWorld S C O) (node : ℕ) (t : NodeOutcome S C O) →
    stopping rules (node - 1) (running w.nodes node) ≡ Some (by_node t) → IsTurn rules w t
stopping_is rules w zero t e = cc
stopping_is {S = S} {C = C} {O = O} rules w (suc n) t e =
    let same : suc n - 1 ≡ n = omega arith in
    by_node_there (unless_stopped (slice_get w.nodes n)) refl
    (subst (λ k. stopping rules k (running w.nodes (suc n)) ≡ Some (by_node t)) same e)
  where
    by_node_there : (o : Option (ReplicaState S C)) → unless_stopped (slice_get w.nodes n) ≡ o → stopping rules n o ≡ Some (by_node t) → IsTurn rules w t
    by_node_there None f g = cc
    by_node_there (Some r) f g =
        let now : NodeOutcome S C O = record { index = n; before = r; outcome = record { state = halted rules r; effects = [] } } in
        let is : now ≡ t = cc in
        let z = running_is (slice_get w.nodes n) r f in
        subst (λ (x : NodeOutcome S C O). IsTurn rules w x) is (it_stops z.0 z.1 refl)

hears_no_node : {S C O : Type 0} (rules : Rules S C O) (m : MasterState) (from : ℕ) (body : Body C) (t : NodeOutcome S C O) →
    hears rules m from body ≡ by_node t → ⊥
hears_no_node rules m from (NewBallot b members a old) t e = cc
hears_no_node rules m from (Join b a) t e = cc
hears_no_node rules m from (State b log) t e = cc
hears_no_node rules m from (Install b log) t e = cc
hears_no_node rules m from (Installed b held) t e = cc
hears_no_node rules m from (Activate b) t e = cc
hears_no_node rules m from (Activated b) t e = cc
hears_no_node rules m from (Superseded b) t e = cc
hears_no_node rules m from (Append b place command) t e = cc
hears_no_node rules m from (Held b held) t e = cc
hears_no_node rules m from (Commit b held) t e = cc

-- an outcome for a node, whatever the event
pub turn_is : {S C O : Type 0} (rules : Rules S C O) (a : Moment S C O) (e : Event C) (t : NodeOutcome S C O) →
    event_outcome rules a e ≡ Some (by_node t) → IsTurn rules a.world t
turn_is rules a (Propose node command) t is = takes_is rules a.world node (Proposes command) t (λ n f. tt) is
turn_is {S = S} {C = C} {O = O} rules a (Assign config) t is = by_refusal (refusal a.master config) is
  where
    by_refusal : (o : Option AssignRefusal) → gives rules a.master config o ≡ Some (by_node t) → IsTurn rules a.world t
    by_refusal (Some why) f = cc
    by_refusal None f = cc
turn_is {S = S} {C = C} {O = O} rules a (Deliver k) t is = by_message (slice_get a.world.sent k) refl is
  where
    by_receiver : (receiver : ℕ) (m : Message C) → slice_get a.world.sent k ≡ Some (receiver, m) → comes_to rules a receiver m ≡ Some (by_node t) →
        IsTurn rules a.world t
    by_receiver zero m e f = let g : hears rules a.master m.from m.body ≡ by_node t = cc in absurd (hears_no_node rules a.master m.from m.body t g)
    by_receiver (suc n) m e f =
        takes_is rules a.world (suc n) (Receives m) t
        (λ j same. in_at a.world.sent k (j + 1, m) (e ∙ ap (λ x. Some (x, m)) (let z : suc n ≡ j + 1 = omega (arith, same) in z))) f

    by_message : (o : Option (ℕ × Message C)) → slice_get a.world.sent k ≡ o → comes rules a o ≡ Some (by_node t) → IsTurn rules a.world t
    by_message None e f = cc
    by_message (Some (receiver, m)) e f = by_receiver receiver m e f
turn_is rules a (Tick node) t is = takes_is rules a.world node Ticks t (λ n f. tt) is
turn_is {S = S} {C = C} {O = O} rules a (Cut node) t is = absurd (no_turn (running a.world.nodes node) is)
  where
    by_need : (r : ReplicaState S C) (b : Bool) → cond b (Some (by_cut (cut_outcome rules (node - 1) r))) None ≡ Some (by_node t) → ⊥
    by_need r true f = cc
    by_need r false f = cc

    no_turn : (o : Option (ReplicaState S C)) → outcome_of_cutting rules (node - 1) o ≡ Some (by_node t) → ⊥
    no_turn None f = cc
    no_turn (Some r) f = by_need r (can_cut r) f
turn_is rules a (Crash node) t is = stopping_is rules a.world node t is

-- what a cut is
pub record IsCut {S C O : Type 0} (rules : Rules S C O) (w : CutGroupWorld S C O) (t : NodeOutcome S C O) : Type 0 where
  pub stands : slice_get w.nodes t.index ≡ Some t.before
  pub can : can_cut t.before ≡ true
  pub is : t.outcome ≡ record { state = cut rules t.before; effects = [] }

cutting_is : {S C O : Type 0} (rules : Rules S C O) (w : CutGroupWorld S C O) (node : ℕ) (t : NodeOutcome S C O) →
    outcome_of_cutting rules (node - 1) (running w.nodes node) ≡ Some (by_cut t) → IsCut rules w t
cutting_is rules w zero t e = cc
cutting_is {S = S} {C = C} {O = O} rules w (suc n) t e =
    let same : suc n - 1 ≡ n = omega arith in
    by_node_there (unless_stopped (slice_get w.nodes n)) refl
    (subst (λ k. outcome_of_cutting rules k (running w.nodes (suc n)) ≡ Some (by_cut t)) same e)
  where
    by_need : (r : ReplicaState S C) (b : Bool) → can_cut r ≡ b → slice_get w.nodes n ≡ Some r →
        cond b (Some (by_cut (cut_outcome rules n r))) None ≡ Some (by_cut t) → IsCut rules w t
    by_need r true can stands f =
        let is : cut_outcome rules n r ≡ t = cc in
        subst (λ (x : NodeOutcome S C O). IsCut rules w x) is (record { stands = stands; can = can; is = refl })
    by_need r false can stands f = cc

    by_node_there : (o : Option (ReplicaState S C)) → unless_stopped (slice_get w.nodes n) ≡ o → outcome_of_cutting rules n o ≡ Some (by_cut t) → IsCut rules w t
    by_node_there None f g = cc
    by_node_there (Some r) f g = by_need r (can_cut r) refl (running_is (slice_get w.nodes n) r f).0 g

-- no other event cuts a log
no_cut_taking : {S C O : Type 0} (rules : Rules S C O) (n : ℕ) (o : Option (ReplicaState S C)) (input : Input C) (t : NodeOutcome S C O) →
    outcome_of_taking rules n o input ≡ Some (by_cut t) → ⊥
no_cut_taking rules n None input t e = cc
no_cut_taking {S = S} {C = C} {O = O} rules n (Some r) input t e = by_room (can_take r input) e
  where
    by_room : (b : Bool) → cond b (Some (by_node (record { index = n; before = r; outcome = replica_step rules r input }))) None ≡ Some (by_cut t) → ⊥
    by_room true f = cc
    by_room false f = cc

no_cut_stopping : {S C O : Type 0} (rules : Rules S C O) (n : ℕ) (o : Option (ReplicaState S C)) (t : NodeOutcome S C O) →
    stopping rules n o ≡ Some (by_cut t) → ⊥
no_cut_stopping rules n None t e = cc
no_cut_stopping rules n (Some r) t e = cc

hears_no_cut : {S C O : Type 0} (rules : Rules S C O) (m : MasterState) (from : ℕ) (body : Body C) (t : NodeOutcome S C O) →
    hears rules m from body ≡ by_cut t → ⊥
hears_no_cut rules m from (NewBallot b members a old) t e = cc
hears_no_cut rules m from (Join b a) t e = cc
hears_no_cut rules m from (State b log) t e = cc
hears_no_cut rules m from (Install b log) t e = cc
hears_no_cut rules m from (Installed b held) t e = cc
hears_no_cut rules m from (Activate b) t e = cc
hears_no_cut rules m from (Activated b) t e = cc
hears_no_cut rules m from (Superseded b) t e = cc
hears_no_cut rules m from (Append b place command) t e = cc
hears_no_cut rules m from (Held b held) t e = cc
hears_no_cut rules m from (Commit b held) t e = cc

pub cut_is : {S C O : Type 0} (rules : Rules S C O) (a : Moment S C O) (e : Event C) (t : NodeOutcome S C O) →
    event_outcome rules a e ≡ Some (by_cut t) → IsCut rules a.world t
cut_is rules a (Propose node command) t is = absurd (no_cut_taking rules (node - 1) (running a.world.nodes node) (Proposes command) t is)
cut_is {S = S} {C = C} {O = O} rules a (Assign config) t is = by_refusal (refusal a.master config) is
  where
    by_refusal : (o : Option AssignRefusal) → gives rules a.master config o ≡ Some (by_cut t) → IsCut rules a.world t
    by_refusal (Some why) f = cc
    by_refusal None f = cc
cut_is {S = S} {C = C} {O = O} rules a (Deliver k) t is = by_message (slice_get a.world.sent k) is
  where
    by_receiver : (receiver : ℕ) (m : Message C) → comes_to rules a receiver m ≡ Some (by_cut t) → IsCut rules a.world t
    by_receiver zero m f = let g : hears rules a.master m.from m.body ≡ by_cut t = cc in absurd (hears_no_cut rules a.master m.from m.body t g)
    by_receiver (suc n) m f = absurd (no_cut_taking rules (suc n - 1) (running a.world.nodes (suc n)) (Receives m) t f)

    by_message : (o : Option (ℕ × Message C)) → comes rules a o ≡ Some (by_cut t) → IsCut rules a.world t
    by_message None f = cc
    by_message (Some (receiver, m)) f = by_receiver receiver m f
cut_is rules a (Tick node) t is = absurd (no_cut_taking rules (node - 1) (running a.world.nodes node) Ticks t is)
cut_is rules a (Cut node) t is = cutting_is rules a.world node t is
cut_is rules a (Crash node) t is = absurd (no_cut_stopping rules (node - 1) (running a.world.nodes node) t is)

-- such a cut may happen if its snapshot can be read
pub cut_may : {S C O : Type 0} (rules : Rules S C O) (m : MasterState) (w : CutGroupWorld S C O) (t : NodeOutcome S C O) → IsCut rules w t →
    Freezes rules (Some (by_cut t)) →
    MayHappen rules m w m (record (moved w t.index t.outcome.state t.outcome.effects) { archive = recorded w.archive t.before })
cut_may {S = S} {C = C} {O = O} rules m w t c freezes =
    subst (λ (o : Outcome S C O). MayHappen rules m w m (record (moved w t.index o.state o.effects) { archive = recorded w.archive t.before })) (sym c.is)
    (node_moves (goes.cuts t.index t.before c.stands runs below (subst (λ (o : Outcome S C O). rules.thawed o.state.log.snapshot ≡ Some t.before.machine) c.is freezes)))
  where
    parts : ((not t.before.stopped) ≡ true) × (nat_lt t.before.log.base t.before.committed ≡ true)
    parts = and_parts (not t.before.stopped) (nat_lt t.before.log.base t.before.committed) c.can

    going : (b : Bool) → not b ≡ true → b ≡ false
    going true e = cc
    going false e = refl

    runs : t.before.stopped ≡ false
    runs = going t.before.stopped parts.0

    below : t.before.log.base < t.before.committed
    below = ltb-true t.before.log.base t.before.committed parts.1

-- whatever a step of a node loses, it may happen
thinned_none : {C O : Type 0} {xs ys : List (Effect C O)} → ys ≡ [] → Thinned xs ys → xs ≡ []
thinned_none e Thinned.none = refl
thinned_none e (Thinned.keeps t) = cc
thinned_none e (Thinned.loses t) = cc

pub node_may : {S C O : Type 0} (rules : Rules S C O) (m : MasterState) (w : CutGroupWorld S C O) (t : NodeOutcome S C O) (new : ReplicaState S C) (given : List (Effect C O)) →
    IsTurn rules w t → Loses rules t.before t.outcome new given → MayHappen rules m w m (moved w t.index new given)
node_may {S = S} {C = C} {O = O} rules m w t new given (it_takes input stands runs may is) loses =
    node_moves (goes.takes t.index t.before input stands runs may (subst (λ (o : Outcome S C O). Loses rules t.before o new given) is loses))
node_may {S = S} {C = C} {O = O} rules m w t new given (it_stops stands runs is) loses = by_loss loses
  where
    stops : new ≡ halted rules t.before → given ≡ [] → MayHappen rules m w m (moved w t.index new given)
    stops e f =
        subst (λ (s : ReplicaState S C). MayHappen rules m w m (moved w t.index s given)) (sym e)
        (subst (λ (us : List (Effect C O)). MayHappen rules m w m (moved w t.index (halted rules t.before) us)) (sym f) (node_moves (goes.stops t.index t.before stands)))

    by_loss : Loses rules t.before t.outcome new given → MayHappen rules m w m (moved w t.index new given)
    by_loss (inl (e, thin)) =
        stops (e ∙ ap (λ (o : Outcome S C O). o.state) is) (thinned_none (ap (λ (o : Outcome S C O). o.effects) is) thin)
    by_loss (inr (inl (e, f))) = node_moves (goes.takes t.index t.before Ticks stands runs tt (inr (inl (e, f))))
    by_loss (inr (inr (e, f))) = stops e f

-- what the outcome for the master is: a ballot that is given, or an answer
pub data IsMasterTurn {S C O : Type 0} (a : Moment S C O) (o : MasterOutcome C) : Type 0 where
  it_gives : (config : Config) → refusal a.master config ≡ None → o ≡ assigned C a.master config → IsMasterTurn a o
  it_answers : (from b : ℕ) → In (0, record { from = from; body = Activate b }) a.world.sent → o ≡ activated C a.master b from a.master.waiting → IsMasterTurn a o

hears_is : {S C O : Type 0} (rules : Rules S C O) (a : Moment S C O) (from : ℕ) (body : Body C) (o : MasterOutcome C) →
    In (0, record { from = from; body = body }) a.world.sent → hears rules a.master from body ≡ by_master o → IsMasterTurn a o
hears_is rules a from (NewBallot b members x old) o i e = cc
hears_is rules a from (Join b x) o i e = cc
hears_is rules a from (State b log) o i e = cc
hears_is rules a from (Install b log) o i e = cc
hears_is rules a from (Installed b held) o i e = cc
hears_is {C = C} rules a from (Activate b) o i e = let same : activated C a.master b from a.master.waiting ≡ o = cc in it_answers from b i (sym same)
hears_is rules a from (Activated b) o i e = cc
hears_is rules a from (Superseded b) o i e = cc
hears_is rules a from (Append b place command) o i e = cc
hears_is rules a from (Held b held) o i e = cc
hears_is rules a from (Commit b held) o i e = cc

no_master_turn : {S C O : Type 0} (rules : Rules S C O) (n : ℕ) (r : Option (ReplicaState S C)) (input : Input C) (o : MasterOutcome C) →
    outcome_of_taking rules n r input ≡ Some (by_master o) → ⊥
no_master_turn rules n None input o e = cc
no_master_turn {S = S} {C = C} {O = O} rules n (Some r) input o e = by_room (can_take r input) e
  where
    by_room : (b : Bool) → cond b (Some (by_node (record { index = n; before = r; outcome = replica_step rules r input }))) None ≡ Some (by_master o) → ⊥
    by_room true f = cc
    by_room false f = cc

no_stop : {S C O : Type 0} (rules : Rules S C O) (n : ℕ) (r : Option (ReplicaState S C)) (o : MasterOutcome C) →
    stopping rules n r ≡ Some (by_master o) → ⊥
no_stop rules n None o e = cc
no_stop rules n (Some r) o e = cc

-- an outcome for the master, whatever the event
pub master_turn_is : {S C O : Type 0} (rules : Rules S C O) (a : Moment S C O) (e : Event C) (o : MasterOutcome C) →
    event_outcome rules a e ≡ Some (by_master o) → IsMasterTurn a o
master_turn_is rules a (Propose node command) o is = absurd (no_master_turn rules (node - 1) (running a.world.nodes node) (Proposes command) o is)
master_turn_is {S = S} {C = C} {O = O} rules a (Assign config) o is = by_refusal (refusal a.master config) refl is
  where
    by_refusal : (why : Option AssignRefusal) → refusal a.master config ≡ why → gives rules a.master config why ≡ Some (by_master o) → IsMasterTurn a o
    by_refusal (Some why) e f = cc
    by_refusal None e f = let same : assigned C a.master config ≡ o = cc in it_gives config e (sym same)
master_turn_is {S = S} {C = C} {O = O} rules a (Deliver k) o is = by_message (slice_get a.world.sent k) refl is
  where
    by_receiver : (receiver : ℕ) (m : Message C) → slice_get a.world.sent k ≡ Some (receiver, m) → comes_to rules a receiver m ≡ Some (by_master o) →
        IsMasterTurn a o
    by_receiver zero m e f =
        let g : hears rules a.master m.from m.body ≡ by_master o = cc in hears_is rules a m.from m.body o (in_at a.world.sent k (0, m) e) g
    by_receiver (suc n) m e f = absurd (no_master_turn rules (suc n - 1) (running a.world.nodes (suc n)) (Receives m) o f)

    by_message : (x : Option (ℕ × Message C)) → slice_get a.world.sent k ≡ x → comes rules a x ≡ Some (by_master o) → IsMasterTurn a o
    by_message None e f = cc
    by_message (Some (receiver, m)) e f = by_receiver receiver m e f
master_turn_is rules a (Tick node) o is = absurd (no_master_turn rules (node - 1) (running a.world.nodes node) Ticks o is)
master_turn_is {S = S} {C = C} {O = O} rules a (Cut node) o is = absurd (no_master_turn_there (running a.world.nodes node) is)
  where
    by_need : (r : ReplicaState S C) (b : Bool) → cond b (Some (by_cut (cut_outcome rules (node - 1) r))) None ≡ Some (by_master o) → ⊥
    by_need r true f = cc
    by_need r false f = cc

    no_master_turn_there : (x : Option (ReplicaState S C)) → outcome_of_cutting rules (node - 1) x ≡ Some (by_master o) → ⊥
    no_master_turn_there None f = cc
    no_master_turn_there (Some r) f = by_need r (can_cut r) f
master_turn_is rules a (Crash node) o is = absurd (no_stop rules (node - 1) (running a.world.nodes node) o is)

-- such an outcome may happen
pub master_may : {S C O : Type 0} (rules : Rules S C O) (a : Moment S C O) (o : MasterOutcome C) → IsMasterTurn a o →
    MayHappen rules a.master a.world o.state (sends_from_master a.world o)
master_may {S = S} {C = C} {O = O} rules a o (it_gives config granted is) =
    subst (λ (x : MasterOutcome C). MayHappen rules a.master a.world x.state (sends_from_master a.world x)) (sym is)
    (subst (λ (why : Option AssignRefusal). MayHappen rules a.master a.world (master_after a.master config why) (world_after a.master a.world config why)) granted
    (master_assigns config))
master_may {S = S} {C = C} {O = O} rules a o (it_answers from b sent is) =
    subst (λ (x : MasterOutcome C). MayHappen rules a.master a.world x.state (sends_from_master a.world x)) (sym is) (master_hears from b sent)

-- it may happen too if its message is lost
pub master_turn_lost : {S C O : Type 0} (rules : Rules S C O) (a : Moment S C O) (o : MasterOutcome C) → IsMasterTurn a o →
    MayHappen rules a.master a.world o.state a.world
master_turn_lost {S = S} {C = C} {O = O} rules a o (it_gives config granted is) =
    subst (λ (x : MasterOutcome C). MayHappen rules a.master a.world x.state a.world) (sym is)
    (subst (λ (why : Option AssignRefusal). MayHappen rules a.master a.world (master_after a.master config why) a.world) granted (assignment_lost config))
master_turn_lost {S = S} {C = C} {O = O} rules a o (it_answers from b sent is) =
    subst (λ (x : MasterOutcome C). MayHappen rules a.master a.world x.state a.world) (sym is) (answer_lost from b sent)

-- what an event does with losses may happen
happens_may : {S C O : Type 0} (rules : Rules S C O) {a b : Moment S C O} {e : Event C} → GroupEventLosing rules a e b → MayGo rules a b
happens_may rules {a = a} nothing_happens = nothing_may rules a
happens_may rules {a = a} {e = e} (node_goes t {new = new} {given = given} is loses) =
    node_may rules a.master a.world t new given (turn_is rules a e t is) loses
happens_may rules {a = a} {e = e} (master_goes o is) = master_turn_lost rules a o (master_turn_is rules a e o is)

-- and what it comes to
exactly_may : {S C O : Type 0} (rules : Rules S C O) (a : Moment S C O) (e : Event C) (t : Option (EventOutcome S C O)) → event_outcome rules a e ≡ t →
    Freezes rules t → MayGo rules a (moment_after_event a t)
exactly_may rules a e None is f = nothing_may rules a
exactly_may rules a e (Some (by_node t)) is f =
    node_may rules a.master a.world t t.outcome.state t.outcome.effects (turn_is rules a e t is) (inl (refl, Thinned-same t.outcome.effects))
exactly_may rules a e (Some (by_cut t)) is f = cut_may rules a.master a.world t (cut_is rules a e t is) f
exactly_may rules a e (Some (by_master o)) is f = master_may rules a o (master_turn_is rules a e o is)
exactly_may rules a e (Some unheeded) is f = nothing_may rules a

-- so each step of a group may happen
pub step_may : {S C O : Type 0} (rules : Rules S C O) (old new : GroupState S C O) (e : Event C) → GroupEventOrLost rules old e new →
    MayGo rules old.moment new.moment
step_may {S = S} {C = C} {O = O} rules old new e s = by_frozen s.freezes
  where
    by_way : Freezes rules (event_outcome rules old.moment e) → ((new.moment ≡ group_step rules e old.moment) × (new.losses ≡ old.losses))
        ⊎ (GroupEventLosing rules old.moment e new.moment × (new.losses ≡ one_more old.losses)) → MayGo rules old.moment new.moment
    by_way f (inl (a, b)) = subst (λ (v : Moment S C O). MayGo rules old.moment v) (sym a) (exactly_may rules old.moment e (event_outcome rules old.moment e) refl f)
    by_way f (inr (a, b)) = happens_may rules a

    by_frozen : Freezes rules (event_outcome rules old.moment e) ⊎ (new.moment ≡ old.moment) → MayGo rules old.moment new.moment
    by_frozen (inl f) = by_way f s.way
    by_frozen (inr same) = subst (λ (v : Moment S C O). MayGo rules old.moment v) (sym same) (nothing_may rules old.moment)
