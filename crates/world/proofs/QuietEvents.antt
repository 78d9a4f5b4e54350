-- QuietEvents.antt: what takes no memory raises no count.
use Rattle.std.proofs.Common.{◌≡◌, inl, inr, ◌<◌, ◌^◌, ◌-◌, ◌↔◌, ℕ, zero, suc, Bool, true, false, if◌then◌else◌, List, Option, Some, None, Result, Ok, Err, IsErr, slice_get, refl, sym, ap, ◌∙◌, subst}
use Rattle.std.proofs.lemmas.Bool.{both_ways}
use Rattle.std.proofs.lemmas.Option.{none-some, same_Some}
use Rattle.ballot_base.specs.declared.message.Body.{Body}
use Rattle.ballot_base.specs.declared.message.Body.TheVariants.{NewBallot, Join, State, Install, Installed, Activate, Activated, Superseded, Append, Held, Commit}
use Rattle.ballot_base.specs.declared.message.Message.{Message}
use Rattle.broker_spec.specs.declared.command.Command.{Command}
use Rattle.master.specs.declared.event.Idle.{Idle}
use Rattle.world_base.specs.node_core.Core.{CountedCore}
use Rattle.world_base.specs.node_core.Losses.{WaitsNothing}
use Rattle.world_base.specs.node_core.Step.{node_step}
use Rattle.world_base.specs.declared.node_core.item.Item.{Item}
use Rattle.world_base.specs.declared.node_core.item.Item.TheVariants.{Peer}
use Rattle.world_base.proofs.of_node_core.Calmly.{step_waits}
use Rattle.world_nodes.specs.ExactSteps.{MessageArrives, HeardByMaster, TakesExactly}
use Rattle.world_nodes.specs.RunningNodes.{numbered_node, running, unless_stopped}
use Rattle.world_nodes.specs.Nodes.{NodesState}
use Rattle.world_nodes.specs.Quiet.{ComesUnheeded, IsUnheeded, RestsAt}
use Rattle.world_pipes.specs.declared.events.event.Event.{Event}
use Rattle.world_pipes.specs.declared.clients.connection_slot.ConnectionSlot.{ConnectionSlot}
use Rattle.world.specs.Cannot.{CannotHappen}
use Rattle.world.specs.EventSteps.{receiver_of}
use Rattle.world.specs.Events.{EventHappens}
use Rattle.world_pipes.specs.clients.NodeOutput.{StaysQuiet, HasNothingToHandOver}
use Rattle.world.specs.Quiet.{ComesQuietly, EndsQuietly, IsQuietAt, EventTakesNoMemory}
use Rattle.world.specs.World.{WorldState}
use Rattle.world_pipes.proofs.of_clients.HandsQuietly.{node_set}

-- ---- a node among nodes

there_of : (o : Option CountedCore) (core : CountedCore) → unless_stopped o ≡ Some core → o ≡ Some core
there_of None core runs = runs
there_of (Some c) core runs = by c.core.replica.state.stopped runs
  where
    by : (b : Bool) → (if b then None else Some c) ≡ Some core → Some c ≡ Some core
    by true is = absurd (none-some core is)
    by false is = is

runs_there : (nodes : List CountedCore) (node : ℕ) (core : CountedCore) → running nodes node ≡ Some core → numbered_node nodes node ≡ Some core
runs_there nodes zero core runs = absurd (none-some core runs)
runs_there nodes (suc at) core runs = there_of (slice_get nodes at) core runs

-- ---- what goes down

pub stays_join : (node : ℕ) (a b c : NodesState) → StaysQuiet node a b → StaysQuiet node b c → StaysQuiet node a c
stays_join node a b c first next = λ holds. let one = first holds in let two = next one.0 in (two.0, two.1 ∙ one.1)

-- ---- an item, and what goes down then

taken_quiet : (node : ℕ) (item : Item) (old between : NodesState) → IsQuietAt node item old → TakesExactly node item old between → HasNothingToHandOver node between × (between.losses ≡ old.losses)
taken_quiet node item old between quiet took =
    let later : CountedCore = record took.core { core = (node_step item took.core.core).core } in
    let rests = quiet.0 in
    let same : rests.core ≡ took.core = same_Some rests.core took.core (sym rests.runs ∙ took.runs) in
    let there = runs_there old.nodes node took.core took.runs in
    let waits = subst (λ (c : CountedCore). WaitsNothing c.core → WaitsNothing (node_step item c.core).core) same (step_waits item rests.core.core rests.takes rests.none_failed) (quiet.1 took.core there) in (
      λ core found.
          let is : core ≡ later = node_set old.nodes node took.core later core there (subst (λ (n : NodesState). numbered_node n.nodes node ≡ Some core) took.is found) in
          subst (λ (c : CountedCore). WaitsNothing c.core) (sym is) waits,
      ap (λ (n : NodesState). n.losses) took.is,
    )

pub item_quiet : (node : ℕ) (item : Item) (old between new : NodesState) → IsQuietAt node item old → (RestsAt node item old → TakesExactly node item old between)
    → StaysQuiet node between new → new.losses ≡ old.losses
item_quiet node item old between new quiet took stays = let t = taken_quiet node item old between quiet (took quiet.0) in (stays t.0).1 ∙ t.1

-- ---- a message

unheeded : (from : ℕ) (body : Body Command) (old new : NodesState) → IsUnheeded body → HeardByMaster from body old new → new ≡ old
unheeded from (Activate ballot) old new none hears = absurd none
unheeded from (NewBallot b members a o) old new none hears = hears
unheeded from (Join b a) old new none hears = hears
unheeded from (State b log) old new none hears = hears
unheeded from (Install b log) old new none hears = hears
unheeded from (Installed b held) old new none hears = hears
unheeded from (Activated b) old new none hears = hears
unheeded from (Superseded b) old new none hears = hears
unheeded from (Append b place command) old new none hears = hears
unheeded from (Held b held) old new none hears = hears
unheeded from (Commit b held) old new none hears = hears

nobody_holds : (n : NodesState) → HasNothingToHandOver 0 n
nobody_holds n = λ core there. absurd (none-some core there)

pub message_quiet : (o : Option (ℕ × Message Command)) (receiver : ℕ) (old between new : NodesState) → receiver ≡ receiver_of o → ComesQuietly o old → (ComesUnheeded o old → MessageArrives o old between)
    → StaysQuiet receiver between new → new.losses ≡ old.losses
message_quiet None receiver old between new is quiet comes stays = absurd quiet
message_quiet (Some (zero, message)) receiver old between new is quiet comes stays =
    (subst (λ (k : ℕ). StaysQuiet k between new) is stays (nobody_holds between)).1
    ∙ ap (λ (n : NodesState). n.losses) (unheeded message.from message.body old between quiet (comes quiet))
message_quiet (Some (suc at, message)) receiver old between new is quiet comes stays =
    item_quiet (suc at) (Peer message) old between new quiet comes (subst (λ (k : ℕ). StaysQuiet k between new) is stays)

-- the end of a connection
pub end_quiet : {X : Type 0} (number : ℕ) (o : Option ConnectionSlot) (place : ConnectionSlot) (n : NodesState) → o ≡ Some place → EndsQuietly number o n → (EndsQuietly number (Some place) n → X) → X
end_quiet number o place n is quiet then_so = then_so (subst (λ (p : Option ConnectionSlot). EndsQuietly number p n) is quiet)

pub no_end : {X : Type 0} (number : ℕ) (o : Option ConnectionSlot) (n : NodesState) → o ≡ None → EndsQuietly number o n → X
no_end number o n is quiet = absurd (subst (λ (p : Option ConnectionSlot). EndsQuietly number p n) is quiet)

-- ---- whole steps

pub quiet_by : (event : Event) (old : WorldState) (result : Result (Unit {0}) Idle) (new : WorldState) → EventHappens event old result new → EventTakesNoMemory event old → old.nodes.losses < 2 ^ 64 - 1
    → new.losses ≡ old.losses
quiet_by event old (Err idle) new happens none low = ap (λ (w : WorldState). w.losses) happens.1
quiet_by event old (Ok done) new (inl exactly) none low = exactly.uncounted
quiet_by event old (Ok done) new (inr loses) none low = absurd (loses.takes_memory none low)

pub idle_exactly : (event : Event) (old : WorldState) (result : Result (Unit {0}) Idle) (new : WorldState) → EventHappens event old result new → IsErr result ↔ CannotHappen event old
idle_exactly event old (Err idle) new happens = ((λ err. happens.0), (λ cannot. refl))
idle_exactly event old (Ok done) new (inl exactly) = ((λ err. absurd (both_ways false refl err)), (λ cannot. absurd (exactly.possible cannot)))
idle_exactly event old (Ok done) new (inr loses) = ((λ err. absurd (both_ways false refl err)), (λ cannot. absurd (loses.possible cannot)))
