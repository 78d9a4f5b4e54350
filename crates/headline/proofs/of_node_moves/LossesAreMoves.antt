-- All that a node does with an item, when memory may run out, is a run of moves.
use Rattle.std.proofs.Common.{◌≡◌, inl, inr, ℕ, Bool, true, false, List, [], ◌∷◌, length, refl, sym, ap, subst, append_assoc}
use Rattle.std.proofs.lemmas.List.{append-nil}
use Rattle.ballot_base.specs.Protocol.{Input}
use Rattle.ballot_base.specs.Protocol.Input.{Receives, Ticks}
use Rattle.broker_spec.specs.declared.command.Command.{Command}
use Rattle.broker_spec.specs.Connection.{ConnectionName}
use Rattle.world_base.specs.declared.node_connections.port.Port.{Port}
use Rattle.world_base.specs.declared.node_core.item.Item.{Item}
use Rattle.world_base.specs.declared.node_core.item.Item.TheVariants.{Peer, Tick, Opened, Bytes, Ended, Expel, Cut, Crash}
use Rattle.world_base.specs.node_connections.ConnectionChanges.{closed_connection, with_unread}
use Rattle.world_base.specs.node_core.Core.{CoreState, StepOutcome}
use Rattle.world_base.specs.node_core.Lossy.{Account, both_accounts, without_effects}
use Rattle.world_base.specs.node_core.LossyStep.{LogCutOrLost, HoldsBytes, ReportsAllFailed, AcceptsConnection, DoesItem}
use Rattle.world_base.specs.node_core.LossyEndings.{EndsSilent}
use Rattle.world_base.specs.node_core.LossyPacketInput.{ReadsNext}
use Rattle.world_base.specs.node_core.LossyStep.LogCutOrLost.{nothing_to_cut, cuts_log as cuts_log_at, forgets_cut}
use Rattle.world_base.specs.node_core.LossyEndings.EndsConnection.{none_open, unproposed, proposed}
use Rattle.world_base.specs.node_core.PacketInput.{changes, open_at, unread_of}
use Rattle.world_base.specs.node_core.Step.{crashed, with_next_connection, settled, with_cut}
use Rattle.headline.specs.node_moves.Ends.{piece_on}
use Rattle.headline.specs.node_moves.LossyMoves.{with_loss, outcome_in}
use Rattle.headline.specs.node_moves.ItemRuns.{IsRunOn, LossesAreMoves, came_with, heard_with, is_cut}
use Rattle.headline.specs.node_moves.LossyMoves.NodeMoveOrLost.{exactly, hears_losing, forgets, drops}
use Rattle.headline.specs.node_moves.Moves.{and_then}
use Rattle.headline.specs.node_moves.Moves.NodeMove.{holds, opens_one, cuts_log, crashes, settles}
use Rattle.headline.proofs.of_node_moves.LossyRuns.{Calm, First, Given, Still, all_failed, calm_join, calm_move, first_calm, first_move, still_ends, still_expelled, still_lost, still_reads, still_repeated, still_silent}

-- what was done is such a run, whatever calm one comes after it
abbrev Before : CoreState → Account → List (Input Command) → Bool → (ConnectionName → List ℕ) → Type 0
Before core account inputs may_cut bytes = (next : StepOutcome) → Calm account.core next → First core (and_then (outcome_in account) next) inputs may_cut bytes

before_is : (core : CoreState) (one account : Account) (inputs : List (Input Command)) (may_cut : Bool) (bytes : ConnectionName → List ℕ) → account ≡ one → Before core one inputs may_cut bytes
    → Before core account inputs may_cut bytes
before_is core one account inputs may_cut bytes is b = subst (λ (d : Account). Before core d inputs may_cut bytes) (sym is) b

before_then : (core : CoreState) (one two : Account) (inputs : List (Input Command)) (may_cut : Bool) (bytes : ConnectionName → List ℕ) → Before core one inputs may_cut bytes
    → Still one.core two → Before core (both_accounts one two) inputs may_cut bytes
before_then core one two inputs may_cut bytes b still next tail =
    subst (λ (given : Given). First core (let t : StepOutcome = record { core = next.core; messages = given } in t) inputs may_cut bytes)
    (sym (append_assoc one.messages two.messages next.messages)) (b (and_then (outcome_in two) next) (calm_join still tail))

before_calm : (core : CoreState) (account : Account) (may_cut : Bool) (bytes : ConnectionName → List ℕ) → ((x : ConnectionName) → bytes x ≡ []) → Still core account → Before core account [] may_cut bytes
before_calm core account may_cut bytes none still next tail = first_calm may_cut bytes none (calm_join still tail)

-- ---- an item

held : (port : Port) (piece : List ℕ) (now : ℕ) (core : CoreState) (account : Account) → HoldsBytes port piece core account
    → Before core account [] false (λ x. came_with x (Bytes port piece now) core)
held port piece now core account (inl is) =
    before_is core (without_effects (changes port (with_unread piece) core)) account [] false _ is
    (λ next tail. first_move (exactly (holds port piece)) false (λ x. came_with x (Bytes port piece now) core) refl (λ x. refl) (λ e. refl) tt tail)
held port piece now core account (inr (none_open none is)) =
    before_is core (without_effects core) account [] false _ is (λ next tail. first_calm false (λ x. came_with x (Bytes port piece now) core) (λ x. ap (piece_on x piece) none) tail)
held port piece now core account (inr (unproposed c found other is)) =
    before_is core (without_effects (changes port closed_connection core)) account [] false _ is
    (λ next tail. first_move (drops port piece) false (λ x. came_with x (Bytes port piece now) core) refl (λ x. refl) (λ e. refl) tt tail)
held port piece now core account (inr (proposed c found heard proposes)) =
    λ next tail. first_move (drops port piece) false (λ x. came_with x (Bytes port piece now) core) refl (λ x. refl) (λ e. refl) tt
    (calm_join (still_lost c.name (changes port closed_connection core) account proposes) tail)

opened : (port : Port) (now : ℕ) (core : CoreState) (account : Account) → AcceptsConnection port core account → Before core account [] false (λ x. came_with x (Opened port now) core)
opened port now core account (inl is) =
    before_is core (without_effects (with_next_connection port core)) account [] false _ is
    (before_calm core (without_effects (with_next_connection port core)) false (λ x. []) (λ x. refl) (calm_move (exactly (opens_one port)) (refl, refl, refl, λ x. refl)))
opened port now core account (inr is) = before_is core (without_effects core) account [] false _ is (λ next tail. first_calm false (λ x. []) (λ x. refl) tail)

cut : (core : CoreState) (account : Account) → LogCutOrLost core account → Before core account [] true (λ x. came_with x Cut core)
cut core account (nothing_to_cut none is) = before_is core (without_effects core) account [] true _ is (λ next tail. first_calm true (λ x. []) (λ x. refl) tail)
cut core account (cuts_log_at can reads is) =
    before_is core (without_effects (with_cut core)) account [] true _ is (λ next tail. first_move (exactly (cuts_log can)) true (λ x. []) refl (λ x. refl) (λ e. absurd cc) reads tail)
cut core account (forgets_cut can is) =
    before_is core (without_effects (with_loss core)) account [] true _ is
    (before_calm core (without_effects (with_loss core)) true (λ x. []) (λ x. refl) (calm_move forgets (refl, refl, refl, λ x. refl)))

taken_in : (item : Item) (core : CoreState) (account : Account) → DoesItem item core account → Before core account (heard_with item) (is_cut item) (λ x. came_with x item core)
taken_in (Peer message) core account drives = λ next tail. first_move (hears_losing (Receives message) account refl drives) false (λ x. []) refl (λ x. refl) (λ e. refl) tt tail
taken_in (Tick now) core account t =
    before_is core (both_accounts t.one t.two) account (Ticks ∷ []) false _ t.is
    (before_then core t.one t.two (Ticks ∷ []) false (λ x. []) (λ next tail. first_move (hears_losing Ticks t.one refl t.first) false (λ x. []) refl (λ x. refl) (λ e. refl) tt tail)
    (still_repeated (length t.one.core.connections) (EndsSilent now) (still_silent now) t.one.core t.two t.next))
taken_in (Opened port now) core account o = opened port now core account o
taken_in (Bytes port piece now) core account t =
    before_is core (both_accounts t.one t.two) account [] false _ t.is
    (before_then core t.one t.two [] false _ (held port piece now core t.one t.first)
    (still_repeated (unread_of (open_at port t.one.core)) (ReadsNext now port) (still_reads now port) t.one.core t.two t.next))
taken_in (Ended port) core account runs = before_calm core account false (λ x. []) (λ x. refl) (still_ends port core account runs)
taken_in (Expel client) core account runs = before_calm core account false (λ x. []) (λ x. refl) (still_expelled client core account runs)
taken_in Cut core account c = cut core account c
taken_in Crash core account is =
    before_is core (without_effects (crashed core)) account [] false _ is (λ next tail. first_move (exactly crashes) false (λ x. []) refl (λ x. refl) (λ e. refl) tt tail)

-- ---- a step

-- the failed ones are reported to the broker, and connections are settled
tail_of : (core : CoreState) (account : Account) → ReportsAllFailed core account → Calm core (let t : StepOutcome = record { core = settled account.core; messages = account.messages } in t)
tail_of core account runs =
    subst (λ (given : Given). Calm core (let t : StepOutcome = record { core = settled account.core; messages = given } in t)) (append-nil account.messages)
    (calm_join (all_failed core account runs) (calm_move (exactly settles) (refl, refl, refl, λ x. refl)))

as_run : (item : Item) (core : CoreState) (outcome : StepOutcome) → First core outcome (heard_with item) (is_cut item) (λ x. came_with x item core) → IsRunOn item core outcome
as_run item core outcome f = record { run = f.run; first = f.first; hears = f.hears; bytes = f.bytes_so; hands = f.hands; cuts = f.cuts; freezes = f.freezes }

pub losses_are_moves : LossesAreMoves
losses_are_moves item core later messages r =
    subst (λ (given : Given). IsRunOn item core (let t : StepOutcome = record { core = later; messages = given } in t)) (sym r.handed)
    (subst (λ (k : CoreState). IsRunOn item core (let t : StepOutcome = record { core = k; messages = r.account.messages } in t)) (sym r.settles)
    (subst (λ (d : Account). IsRunOn item core (let t : StepOutcome = record { core = settled d.core; messages = d.messages } in t)) (sym r.acts.is)
    (as_run item core _
    (taken_in item core r.acts.one r.acts.first (let t : StepOutcome = record { core = settled r.acts.two.core; messages = r.acts.two.messages } in t)
    (tail_of r.acts.one.core r.acts.two r.acts.next)))))
