use Rattle.std.proofs.Common.{refl, ◌∙◌, arith}
use Rattle.world.proofs.Joined.{goes_on_rest}
use Rattle.world.proofs.Walked.{next_there, walk_begins, walk_ends, walk_goes_on}
use Rattle.world.proofs.QuietEvents.{stays_join}
use Rattle.world_pipes.proofs.of_clients.HandsQuietly.{stays_rest}
use Rattle.world.proofs.world.World.gather_open.Goals as goal

pub loop-at-init : goal.loop-at-init
loop-at-init c = record { walk = walk_begins c.args.node c.open_len-at.result c.args.self.now c.open_len-at.ensures (goes_on_rest _ _ refl); still = refl; quiet = stays_rest c.args.node c.args.self.now.nodes c.args.self.now.nodes refl }

pub gather_at-requires : goal.gather_at-requires
gather_at-requires c = next_there c.args.node c.loop-at.at _ c.args.self.now c.loop-at.self (omega arith) refl c.loop-at.invariant.walk

pub loop-at-preserved : goal.loop-at-preserved
loop-at-preserved c =
    record {
      walk = walk_goes_on c.args.node c.loop-at.at _ c.args.self.now c.loop-at.self c.gather_at.new.self (omega arith) refl c.loop-at.invariant.walk c.gather_at.ensures.goes c.gather_at.ensures.gathers;
      still = c.gather_at.ensures.still ∙ c.loop-at.invariant.still;
      quiet = stays_join c.args.node c.args.self.now.nodes c.loop-at.self.nodes c.gather_at.new.self.nodes c.loop-at.invariant.quiet c.gather_at.ensures.quiet;
    }

pub returns-clause-goes : goal.returns-clause-goes
returns-clause-goes c = c.loop-at.invariant.walk.gathering.goes

pub returns-clause-gathers : goal.returns-clause-gathers
returns-clause-gathers c = walk_ends c.args.node c.loop-at.at c.args.self.now c.loop-at.self (omega arith) c.loop-at.invariant.walk

pub returns-clause-quiet : goal.returns-clause-quiet
returns-clause-quiet c = c.loop-at.invariant.quiet
