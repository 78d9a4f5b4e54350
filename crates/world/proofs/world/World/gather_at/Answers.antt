use Rattle.std.proofs.Common.{◌-◌, ℕ, Bool, true, false, List, slice_get, refl, ap, ◌∙◌, subst, arith}
use Rattle.world_pipes.specs.declared.clients.connection_slot.ConnectionSlot.{ConnectionSlot}
use Rattle.world.specs.Inside.PortOutput.{GatheringOrLost}
use Rattle.world_pipes.specs.clients.NodeOutput.{StaysQuiet}
use Rattle.world.specs.World.{WorldState}
use Rattle.world.proofs.Joined.{goes_on_join, goes_on_rest, goes_on_still}
use Rattle.world.proofs.Gathered.{stays_open}
use Rattle.world.proofs.Walked.{gathers_at_none, gathers_at_one}
use Rattle.world.proofs.QuietEvents.{stays_join}
use Rattle.world_pipes.proofs.of_clients.HandsQuietly.{stays_rest}
use Rattle.world.proofs.world.World.gather_at.Goals as goal

pub returns-then-slot-node-clause-goes : goal.returns-then-slot-node-clause-goes
returns-then-slot-node-clause-goes c = goes_on_rest _ _ refl

pub returns-then-slot-node-clause-gathers : goal.returns-then-slot-node-clause-gathers
returns-then-slot-node-clause-gathers c =
    gathers_at_none c.args.node c.args.at c.open_at-number.result.0 c.open_at-number.result.1 c.args.self.now c.open_at-number.ensures.number c.open_at-number.ensures.slot
    c.open_at-number.ensures.positive c.if-slot-node.true

pub returns-else-not-gather_on-clause-goes : goal.returns-else-not-gather_on-clause-goes
returns-else-not-gather_on-clause-goes c = c.gather_on.ensures.goes

pub returns-else-not-gather_on-clause-gathers : goal.returns-else-not-gather_on-clause-gathers
returns-else-not-gather_on-clause-gathers c =
    gathers_at_one c.args.node c.args.at c.open_at-number.result.0 c.open_at-number.result.1 true c.args.self.now c.gather_on.new.self c.gather_on.new.self c.open_at-number.ensures.number
    c.open_at-number.ensures.slot c.open_at-number.ensures.positive c.open_at-number.ensures.up c.if-slot-node.false c.gather_on.ensures.connections
    (subst (λ (b : Bool). GatheringOrLost c.open_at-number.result.0 c.open_at-number.result.1 c.args.self.now b c.gather_on.new.self) c.if-not-gather_on.false c.gather_on.ensures.gathers)
    (stays_open c.open_at-number.result.0 c.open_at-number.result.1 c.gather_on.new.self
    (ap (λ (l : List ConnectionSlot). slice_get l (c.open_at-number.result.0 - 1)) c.gather_on.ensures.connections ∙ c.open_at-number.ensures.slot) c.open_at-number.ensures.up)

pub returns-then-not-gather_on-clause-goes : goal.returns-then-not-gather_on-clause-goes
returns-then-not-gather_on-clause-goes c =
    goes_on_join _ _ _ c.gather_on.ensures.goes (goes_on_still _ _ (ap (λ (w : WorldState). w.nodes) c.close.ensures) (ap (λ (w : WorldState). w.clients) c.close.ensures)
    (let same = ap (λ (w : WorldState). w.losses) c.close.ensures in omega (arith, same)))

pub returns-then-not-gather_on-clause-gathers : goal.returns-then-not-gather_on-clause-gathers
returns-then-not-gather_on-clause-gathers c =
    gathers_at_one c.args.node c.args.at c.open_at-number.result.0 c.open_at-number.result.1 false c.args.self.now c.gather_on.new.self c.close.new.self c.open_at-number.ensures.number
    c.open_at-number.ensures.slot c.open_at-number.ensures.positive c.open_at-number.ensures.up c.if-slot-node.false c.gather_on.ensures.connections
    (subst (λ (b : Bool). GatheringOrLost c.open_at-number.result.0 c.open_at-number.result.1 c.args.self.now b c.gather_on.new.self) c.if-not-gather_on.true c.gather_on.ensures.gathers)
    c.close.ensures

pub returns-then-slot-node-clause-quiet : goal.returns-then-slot-node-clause-quiet
returns-then-slot-node-clause-quiet c = stays_rest c.args.node c.args.self.now.nodes c.args.self.now.nodes refl

pub returns-else-not-gather_on-clause-quiet : goal.returns-else-not-gather_on-clause-quiet
returns-else-not-gather_on-clause-quiet c =
    subst (λ (k : ℕ). StaysQuiet k c.args.self.now.nodes c.gather_on.new.self.nodes) c.if-slot-node.false c.gather_on.ensures.quiet

pub returns-then-not-gather_on-clause-quiet : goal.returns-then-not-gather_on-clause-quiet
returns-then-not-gather_on-clause-quiet c =
    stays_join c.args.node c.args.self.now.nodes c.gather_on.new.self.nodes c.close.new.self.nodes
    (subst (λ (k : ℕ). StaysQuiet k c.args.self.now.nodes c.gather_on.new.self.nodes) c.if-slot-node.false c.gather_on.ensures.quiet)
    (stays_rest c.args.node c.gather_on.new.self.nodes c.close.new.self.nodes (ap (λ (w : WorldState). w.nodes) c.close.ensures))
