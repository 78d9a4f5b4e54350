-- What a step of a group does to its nodes and of each connection's bytes: the call of the step
-- says it.
use Rattle.std.proofs.Common.{◌≡◌, ◌⊎◌, inl, inr, ℕ, zero, suc, true, false, List, [], ◌∷◌, Option, Some, None, slice_get, slice_set, refl, sym, ap, ◌∙◌, subst}
use Rattle.std.proofs.lemmas.Bool.{both_ways}
use Rattle.ballot_base.specs.declared.config.Config.{Config}
use Rattle.ballot_base.specs.declared.message.Effect.{Effect}
use Rattle.broker_spec.specs.declared.command.Command.{Command}
use Rattle.broker_spec.specs.declared.command.Output.{Output}
use Rattle.broker_spec.specs.Connection.{ConnectionName}
use Rattle.lists.specs.Lists.{Each, In}
use Rattle.lists.specs.Lists.In.{here, there}
use Rattle.agreement.specs.MasterState.{refusal}
use Rattle.headline.proofs.of_packet_world.Lists.{same_or_other}
use Rattle.world_base.specs.declared.node_connections.connection.Connection.{Connection}
use Rattle.world_base.specs.declared.node_core.item.Item.{Item}
use Rattle.world_base.specs.declared.node_core.item.Item.TheVariants.{Peer, Tick, Opened, Bytes, Ended, Expel, Cut, Crash}
use Rattle.world_base.specs.declared.node_connections.port.Port.{Port}
use Rattle.world_base.specs.node_core.Core.{CoreState, StepOutcome}
use Rattle.world_base.specs.node_core.LossyStep.{RunsOn}
use Rattle.world_base.specs.node_core.Step.{next_name}
use Rattle.headline.specs.node_moves.Ends.{IsGiven, IsOrderly}
use Rattle.headline.specs.node_moves.Moves.{NodeCall, MoveTrace, done}
use Rattle.headline.specs.node_moves.Moves.NodeCall.{takes, hands_out}
use Rattle.headline.specs.node_moves.LossyRuns.{MoveTraceOrLost}
use Rattle.headline.specs.node_moves.ItemRuns.{IsRunOn, came_with}
use Rattle.headline.specs.node_moves.LossyRuns.MoveTraceOrLost.{rests, goes_on}
use Rattle.headline.proofs.of_node_moves.LossyReads.{losses_read_in_order}
use Rattle.headline.specs.node_group.Group.{Group}
use Rattle.headline.specs.node_group.Steps.{GroupStep, GroupTrace}
use Rattle.headline.specs.node_group.Steps.GroupStep.{node_acts, node_loses, master_assigns, master_hears, assigns_unheard, answers_unheard}
use Rattle.headline.proofs.of_node_group.LosingNone.{losing_none}
use Rattle.headline.proofs.of_node_group.NamesInGroups.{all_well, each_got}
use Rattle.headline.proofs.of_node_group.Placed.{get_of_set}
use Rattle.headline.specs.node_group.Streams.{comes_up, goes_down}
use Rattle.headline.proofs.of_node_group.CarriedInOrder.{assigned_nodes}
use Rattle.headline.proofs.of_node_group.Given.{stays_given}
use Rattle.headline.proofs.of_node_group.States.{set_back}
use Rattle.headline.specs.byte_world.Steps.{IsFaithful, coming_with, node_call_of, going_with, is_apart}
use Rattle.headline.proofs.of_byte_world.PortsKept.{IsNew, IsOfOld, each_was, each_was_or_new, is_still}
use Rattle.headline.proofs.of_byte_world.PortsLosing.{each_new_losing, each_was_losing}

-- ---- one node

-- a connection that this call opens at the node at this index
pub record IsOpened (node_call : Option (ℕ × NodeCall)) (n : ℕ) (core : CoreState) (d : Connection) : Type 0 where
  pub port : Port
  pub now : ℕ
  pub is : node_call ≡ Some (n, takes (Opened port now))
  pub new : IsNew core.connections port (next_name core) d

-- the node at this index after a step with this call
pub record IsAfter (node_call : Option (ℕ × NodeCall)) (n : ℕ) (core later : CoreState) : Type 0 where
  pub given : (x : ConnectionName) → IsGiven core.last_name x → IsGiven later.last_name x
  pub was : (d : Connection) → In d later.connections → IsOfOld core.connections d ⊎ IsOpened node_call n core d

pub of_each : {X : Type 0} (P : X → Type 0) {x : X} {xs : List X} → Each P xs → In x xs → P x
of_each P all here = all.0
of_each P all (there i) = of_each P all.1 i

stays_after : (node_call : Option (ℕ × NodeCall)) (n : ℕ) (core : CoreState) → IsAfter node_call n core core
stays_after node_call n core = record { given = λ x given. given; was = λ d i. inl (is_still core.connections d i) }

run_given : (x : ConnectionName) (core : CoreState) (outcome : StepOutcome) (run : MoveTraceOrLost core outcome) → IsOrderly core → IsGiven core.last_name x → IsGiven outcome.core.last_name x
run_given x core outcome rests o given = given
run_given x core outcome (goes_on {first = first} {next = next} m run) o given =
    run_given x first.core next run (losses_read_in_order core first m o).0 (stays_given x core first m o given)

old_or_opened : (n : ℕ) (node_call : NodeCall) (core : CoreState) (d : Connection) → In d (done node_call core).core.connections → IsOfOld core.connections d ⊎ IsOpened (Some (n, node_call)) n core d
old_or_opened n (takes (Opened port now)) core d i = by (of_each _ (each_was_or_new port now core) i)
  where
    by : IsOfOld core.connections d ⊎ IsNew core.connections port (next_name core) d → IsOfOld core.connections d ⊎ IsOpened (Some (n, takes (Opened port now))) n core d
    by (inl o) = inl o
    by (inr new) = inr (record { port = port; now = now; is = refl; new = new })
old_or_opened n (takes (Peer message)) core d i = inl (of_each _ (each_was (takes (Peer message)) core tt) i)
old_or_opened n (takes (Tick now)) core d i = inl (of_each _ (each_was (takes (Tick now)) core tt) i)
old_or_opened n (takes (Bytes port piece now)) core d i =
    inl (of_each _ (each_was (takes (Bytes port piece now)) core tt) i)
old_or_opened n (takes (Ended port)) core d i = inl (of_each _ (each_was (takes (Ended port)) core tt) i)
old_or_opened n (takes (Expel client)) core d i = inl (of_each _ (each_was (takes (Expel client)) core tt) i)
old_or_opened n (takes Cut) core d i = inl (of_each _ (each_was (takes Cut) core tt) i)
old_or_opened n (takes Crash) core d i = inl (of_each _ (each_was (takes Crash) core tt) i)
old_or_opened n (hands_out port) core d i = inl (of_each _ (each_was (hands_out port) core tt) i)

acts_after : (n : ℕ) (core : CoreState) (node_call : NodeCall) (outcome : StepOutcome) → MoveTrace core outcome → outcome ≡ done node_call core → IsOrderly core → IsAfter (Some (n, node_call)) n core outcome.core
acts_after n core node_call outcome run is o =
    record {
      given = λ x given. run_given x core outcome (losing_none run) o given;
      was = λ d i. old_or_opened n node_call core d (subst (λ (t : StepOutcome). In d t.core.connections) is i);
    }

old_or_new : (n : ℕ) (item : Item) (core new : CoreState) (messages : List (Effect Command Output)) → RunsOn item core new messages → (d : Connection) → In d new.connections
    → IsOfOld core.connections d ⊎ IsOpened (Some (n, takes item)) n core d
old_or_new n (Opened port now) core new messages runs d i = by (of_each _ (each_new_losing port now core new messages runs) i)
  where
    by : IsOfOld core.connections d ⊎ IsNew core.connections port (next_name core) d → IsOfOld core.connections d ⊎ IsOpened (Some (n, takes (Opened port now))) n core d
    by (inl o) = inl o
    by (inr one) = inr (record { port = port; now = now; is = refl; new = one })
old_or_new n (Peer message) core new messages runs d i = inl (of_each _ (each_was_losing (Peer message) core new messages tt runs) i)
old_or_new n (Tick now) core new messages runs d i = inl (of_each _ (each_was_losing (Tick now) core new messages tt runs) i)
old_or_new n (Bytes port piece now) core new messages runs d i = inl (of_each _ (each_was_losing (Bytes port piece now) core new messages tt runs) i)
old_or_new n (Ended port) core new messages runs d i = inl (of_each _ (each_was_losing (Ended port) core new messages tt runs) i)
old_or_new n (Expel client) core new messages runs d i = inl (of_each _ (each_was_losing (Expel client) core new messages tt runs) i)
old_or_new n Cut core new messages runs d i = inl (of_each _ (each_was_losing Cut core new messages tt runs) i)
old_or_new n Crash core new messages runs d i = inl (of_each _ (each_was_losing Crash core new messages tt runs) i)

loses_after : (n : ℕ) (core : CoreState) (item : Item) (outcome : StepOutcome) → IsRunOn item core outcome → RunsOn item core outcome.core outcome.messages → IsOrderly core
    → IsAfter (Some (n, takes item)) n core outcome.core
loses_after n core item outcome by runs o =
    record {
      given = λ x given. run_given x core outcome by.run o given;
      was = λ d i. old_or_new n item core outcome.core outcome.messages runs d i;
    }

-- ---- a node of a group

-- a node that comes after a step, and what it was
pub record StoodAs (g h : Group) (node_call : Option (ℕ × NodeCall)) (n : ℕ) (later : CoreState) : Type 0 where
  pub core : CoreState
  pub stands : slice_get g.nodes n ≡ Some core
  pub after : IsAfter node_call n core later

-- a node before a step, and what it is after
pub record StandsAs (g h : Group) (node_call : Option (ℕ × NodeCall)) (n : ℕ) (core : CoreState) : Type 0 where
  pub later : CoreState
  pub stands : slice_get h.nodes n ≡ Some later
  pub after : IsAfter node_call n core later

set_other : {X : Type 0} (xs : List X) (i k : ℕ) (y : X) → (k ≡ i → ⊥) → slice_get (slice_set xs i y) k ≡ slice_get xs k
set_other [] i k y other = refl
set_other (x ∷ xs) zero zero y other = absurd (other refl)
set_other (x ∷ xs) zero (suc k) y other = refl
set_other (x ∷ xs) (suc i) zero y other = refl
set_other (x ∷ xs) (suc i) (suc k) y other = set_other xs i k y (λ e. other (ap suc e))

same_core : (a b : CoreState) → (let o : Option CoreState = Some a in o) ≡ Some b → a ≡ b
same_core a b e = cc

master_stands : (g h : Group) (node_call : Option (ℕ × NodeCall)) (n : ℕ) (core : CoreState) → h.nodes ≡ g.nodes → slice_get g.nodes n ≡ Some core → StandsAs g h node_call n core
master_stands g h node_call n core same at = record { later = core; stands = ap (λ l. slice_get l n) same ∙ at; after = stays_after node_call n core }

-- the node at one place becomes another
node_stands : (g : Group) (sent : Group) (node_call : NodeCall) (i : ℕ) (core new : CoreState) (n : ℕ) (mine : CoreState) → slice_get g.nodes i ≡ Some core → sent.nodes ≡ slice_set g.nodes i new
    → IsAfter (Some (i, node_call)) i core new → slice_get g.nodes n ≡ Some mine → StandsAs g sent (Some (i, node_call)) n mine
node_stands g h node_call i core new n mine at nodes after stood_there = by (same_or_other n i)
  where
    by : (n ≡ i) ⊎ (n ≡ i → ⊥) → StandsAs g h (Some (i, node_call)) n mine
    by (inl same) =
        let one : core ≡ mine = same_core core mine (sym at ∙ ap (slice_get g.nodes) (sym same) ∙ stood_there) in
        subst (λ k. StandsAs g h (Some (i, node_call)) k mine) (sym same)
        (subst (λ (c : CoreState). StandsAs g h (Some (i, node_call)) i c) one
        (record { later = new; stands = ap (λ l. slice_get l i) nodes ∙ get_of_set g.nodes i core new at; after = after }))
    by (inr apart) =
        record { later = mine; stands = ap (λ l. slice_get l n) nodes ∙ set_other g.nodes i n new apart ∙ stood_there; after = stays_after (Some (i, node_call)) n mine }

pub stands_as : {nodes : ℕ} {config : Config} (g h : Group) → GroupTrace nodes config g → (step : GroupStep g h) (n : ℕ) (core : CoreState) → slice_get g.nodes n ≡ Some core
    → StandsAs g h (node_call_of step) n core
stands_as {nodes = nodes} {config = config} g h went (node_acts i core node_call outcome run at is first sent) n mine stood_there =
    node_stands g h node_call i core outcome.core n mine at refl (acts_after i core node_call outcome run is (each_got _ g.nodes i core (all_well nodes config g went).0 at).orderly) stood_there
stands_as {nodes = nodes} {config = config} g h went (node_loses i core item outcome kept by at runs sent thinned) n mine stood_there =
    node_stands g h (takes item) i core outcome.core n mine at refl (loses_after i core item outcome by runs (each_got _ g.nodes i core (all_well nodes config g went).0 at).orderly) stood_there
stands_as g h went (master_assigns wanted) n core at = master_stands g h None n core (assigned_nodes g wanted (refusal g.master wanted)) at
stands_as g h went (master_hears from ballot sent) n core at = master_stands g h None n core refl at
stands_as g h went (assigns_unheard wanted) n core at = master_stands g h None n core refl at
stands_as g h went (answers_unheard from ballot sent) n core at = master_stands g h None n core refl at

-- each node that is there after it was there before
set_before : (g : Group) (i : ℕ) (core new : CoreState) (n : ℕ) (later : CoreState) → slice_get g.nodes i ≡ Some core → ((n ≡ i) × (later ≡ new)) ⊎ (slice_get g.nodes n ≡ Some later)
    → (c : CoreState) × (slice_get g.nodes n ≡ Some c)
set_before g i core new n later at (inl (same, e)) = (core, ap (slice_get g.nodes) same ∙ at)
set_before g i core new n later at (inr stood) = (later, stood)

there_before : (g h : Group) (step : GroupStep g h) (n : ℕ) (later : CoreState) → slice_get h.nodes n ≡ Some later → (core : CoreState) × (slice_get g.nodes n ≡ Some core)
there_before g h (node_acts i core node_call outcome run at is first sent) n later stood_there = set_before g i core outcome.core n later at (set_back g.nodes i n outcome.core later stood_there)
there_before g h (node_loses i core item outcome kept by at runs sent thinned) n later stood_there =
    set_before g i core outcome.core n later at (set_back g.nodes i n outcome.core later stood_there)
there_before g h (master_assigns wanted) n later stood_there = (later, ap (λ l. slice_get l n) (sym (assigned_nodes g wanted (refusal g.master wanted))) ∙ stood_there)
there_before g h (master_hears from ballot sent) n later stood_there = (later, stood_there)
there_before g h (assigns_unheard wanted) n later stood_there = (later, stood_there)
there_before g h (answers_unheard from ballot sent) n later stood_there = (later, stood_there)

pub stood_as : {nodes : ℕ} {config : Config} (g h : Group) → GroupTrace nodes config g → (step : GroupStep g h) (n : ℕ) (later : CoreState) → slice_get h.nodes n ≡ Some later
    → StoodAs g h (node_call_of step) n later
stood_as g h went step n later stood_there =
    let before = there_before g h step n later stood_there in
    let now = stands_as g h went step n before.0 before.1 in
    record {
      core = before.0;
      stands = before.1;
      after = subst (λ (c : CoreState). IsAfter (node_call_of step) n before.0 c) (same_core now.later later (sym now.stands ∙ stood_there)) now.after;
    }

-- ---- bytes

-- the node of a call, and what is carried with it
pub record CarriesWith (g h : Group) (step : GroupStep g h) (n : ℕ) (node_call : NodeCall) : Type 0 where
  pub core : CoreState
  pub stands : slice_get g.nodes n ≡ Some core
  pub up : (x : ConnectionName) → comes_up x step ≡ coming_with x node_call core
  pub down : (x : ConnectionName) → goes_down x step ≡ going_with x node_call core

some_pair : {A : Type 0} (a b : A) → (let o : Option A = Some a in o) ≡ Some b → a ≡ b
some_pair a b e = cc

none_pair : {A : Type 0} (b : A) → (let o : Option A = None in o) ≡ Some b → ⊥
none_pair b e = cc

-- what comes with an item
pub came_so : (x : ConnectionName) (item : Item) (core : CoreState) → came_with x item core ≡ coming_with x (takes item) core
came_so x (Bytes port piece now) core = refl
came_so x (Peer message) core = refl
came_so x (Tick now) core = refl
came_so x (Opened port now) core = refl
came_so x (Ended port) core = refl
came_so x (Expel client) core = refl
came_so x Cut core = refl
came_so x Crash core = refl

pub carries_with : (g h : Group) (step : GroupStep g h) (n : ℕ) (node_call : NodeCall) → IsFaithful step → node_call_of step ≡ Some (n, node_call) → CarriesWith g h step n node_call
carries_with g h (node_acts i core done_so outcome run at is first sent) n node_call faithful e =
    subst (λ (z : ℕ × NodeCall). CarriesWith g h (let s : GroupStep g h = node_acts i core done_so outcome run at is first sent in s) z.0 z.1) (some_pair (i, done_so) (n, node_call) e)
    (record { core = core; stands = at; up = λ x. (faithful x).0; down = λ x. (faithful x).1 })
carries_with g h (node_loses i core item outcome kept by at runs sent thinned) n node_call faithful e =
    subst (λ (z : ℕ × NodeCall). CarriesWith g h (let s : GroupStep g h = node_loses i core item outcome kept by at runs sent thinned in s) z.0 z.1) (some_pair (i, takes item) (n, node_call) e)
    (record { core = core; stands = at; up = λ x. came_so x item core; down = λ x. refl })
carries_with g h (master_assigns wanted) n node_call faithful e = absurd (none_pair (n, node_call) e)
carries_with g h (master_hears from ballot sent) n node_call faithful e = absurd (none_pair (n, node_call) e)
carries_with g h (assigns_unheard wanted) n node_call faithful e = absurd (none_pair (n, node_call) e)
carries_with g h (answers_unheard from ballot sent) n node_call faithful e = absurd (none_pair (n, node_call) e)

-- with a call in which connections have no part nothing is carried
quiet_with : (n : ℕ) (node_call : NodeCall) (core : CoreState) (x : ConnectionName) → is_apart (Some (n, node_call)) ≡ true → (coming_with x node_call core ≡ []) × (going_with x node_call core ≡ [])
quiet_with n (takes (Peer message)) core x e = (refl, refl)
quiet_with n (takes (Tick now)) core x e = (refl, refl)
quiet_with n (takes (Ended port)) core x e = (refl, refl)
quiet_with n (takes (Expel client)) core x e = (refl, refl)
quiet_with n (takes Cut) core x e = (refl, refl)
quiet_with n (takes Crash) core x e = (refl, refl)
quiet_with n (takes (Opened port now)) core x e = absurd (both_ways false refl e)
quiet_with n (takes (Bytes port piece now)) core x e = absurd (both_ways false refl e)
quiet_with n (hands_out port) core x e = absurd (both_ways false refl e)

pub is_quiet : (g h : Group) (step : GroupStep g h) → IsFaithful step → is_apart (node_call_of step) ≡ true → (x : ConnectionName) → (comes_up x step ≡ []) × (goes_down x step ≡ [])
is_quiet g h (node_acts i core node_call outcome run at is first sent) faithful e x =
    let q = quiet_with i node_call core x e in let f = faithful x in (f.0 ∙ q.0, f.1 ∙ q.1)
is_quiet g h (node_loses i core item outcome kept by at runs sent thinned) faithful e x = (came_so x item core ∙ (quiet_with i (takes item) core x e).0, refl)
is_quiet g h (master_assigns wanted) faithful e x = (refl, refl)
is_quiet g h (master_hears from ballot sent) faithful e x = (refl, refl)
is_quiet g h (assigns_unheard wanted) faithful e x = (refl, refl)
is_quiet g h (answers_unheard from ballot sent) faithful e x = (refl, refl)
