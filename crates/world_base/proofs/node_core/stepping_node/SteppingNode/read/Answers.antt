use Rattle.std.proofs.Common.{◌≡◌, ◌≤◌, ℕ, suc, ◌+◌, refl, subst, arith}
use Rattle.world_base.specs.node_core.Inside.{StepPartOrLost, DoesOutcome}
use Rattle.world_base.specs.node_core.Lossy.{Repeated}
use Rattle.world_base.specs.node_core.LossyStep.{ReadsPackets}
use Rattle.world_base.specs.node_core.LossyPacketInput.{ReadsNext}
use Rattle.world_base.specs.node_core.PacketInput.{open_at, reads_next, unread_of}
use Rattle.world_base.specs.node_core.Effects.{repeated}
use Rattle.world_base.proofs.of_node_core.Accounts.{ran_as, ran_enough, ran_more, ran_none}
use Rattle.world_base.proofs.of_node_core.Idle.{few_unread}
use Rattle.world_base.proofs.of_node_core.Repeats.{repeats_none, repeats_more, repeats_enough}
use Rattle.world_base.proofs.node_core.stepping_node.SteppingNode.read.Goals as goal

pub loop-packet-init : goal.loop-packet-init
loop-packet-init c = record {
  exact = repeats_none (reads_next c.args.now c.args.port) c.args.self.now c.args.effects.now.items;
  lossy = ran_none (ReadsNext c.args.now c.args.port) c.args.self.now.core c.args.effects.now.items;
  none = λ _. refl;
}

-- no whole packet is left
pub returns-then-not-read_next-clause-exact : goal.returns-then-not-read_next-clause-exact
returns-then-not-read_next-clause-exact c =
    let few : suc c.loop-packet._packet ≤ unread_of (open_at c.args.port c.args.self.now.core) =
    omega (arith, c.loop-packet-test.true, c.unread_len-packet-end.ensures) in
    repeats_enough (reads_next c.args.now c.args.port) (suc c.loop-packet._packet) (unread_of (open_at c.args.port c.args.self.now.core))
    c.args.self.now c.read_next.new.self c.args.effects.now.items c.read_next.new.effects.items few
    (repeats_more (reads_next c.args.now c.args.port) c.loop-packet._packet c.args.self.now c.loop-packet.self c.read_next.new.self
    c.args.effects.now.items c.loop-packet.effects.items c.read_next.new.effects.items
    c.loop-packet.invariant.exact c.read_next.ensures.exact)
    (λ whole. c.read_next.ensures.done c.if-not-read_next.true whole)

pub returns-then-not-read_next-clause-lossy : goal.returns-then-not-read_next-clause-lossy
returns-then-not-read_next-clause-lossy c =
    let few : suc c.loop-packet._packet ≤ unread_of (open_at c.args.port c.args.self.now.core) =
    omega (arith, c.loop-packet-test.true, c.unread_len-packet-end.ensures) in
    ran_as (Repeated (unread_of (open_at c.args.port c.args.self.now.core)) (ReadsNext c.args.now c.args.port))
    (ReadsPackets c.args.now c.args.port) c.args.self.now.core c.args.self.now.core _ _ _ (λ account runs. runs)
    (ran_enough (ReadsNext c.args.now c.args.port) (suc c.loop-packet._packet) (unread_of (open_at c.args.port c.args.self.now.core))
    c.args.self.now.core c.read_next.new.self.core c.args.effects.now.items c.read_next.new.effects.items few
    (ran_more (ReadsNext c.args.now c.args.port) c.loop-packet._packet c.args.self.now.core c.loop-packet.self.core c.read_next.new.self.core
    c.args.effects.now.items c.loop-packet.effects.items c.read_next.new.effects.items
    c.loop-packet.invariant.lossy c.read_next.ensures.lossy)
    (c.read_next.ensures.idle c.if-not-read_next.true))

pub loop-packet-preserved : goal.loop-packet-preserved
loop-packet-preserved c =
    let one_more : suc c.loop-packet._packet ≡ c.loop-packet._packet + 1 = omega arith in
    record {
      exact = subst (λ (k : ℕ). DoesOutcome c.args.self.now c.read_next.new.self c.args.effects.now.items c.read_next.new.effects.items
          (repeated k (reads_next c.args.now c.args.port) c.args.self.now.core)) one_more
          (repeats_more (reads_next c.args.now c.args.port) c.loop-packet._packet c.args.self.now c.loop-packet.self c.read_next.new.self
          c.args.effects.now.items c.loop-packet.effects.items c.read_next.new.effects.items
          c.loop-packet.invariant.exact c.read_next.ensures.exact);
      lossy = subst (λ (k : ℕ). StepPartOrLost (Repeated k (ReadsNext c.args.now c.args.port)) c.args.self.now.core c.read_next.new.self.core
          c.args.effects.now.items c.read_next.new.effects.items) one_more
          (ran_more (ReadsNext c.args.now c.args.port) c.loop-packet._packet c.args.self.now.core c.loop-packet.self.core c.read_next.new.self.core
          c.args.effects.now.items c.loop-packet.effects.items c.read_next.new.effects.items
          c.loop-packet.invariant.lossy c.read_next.ensures.lossy);
      none = λ none. let some = few_unread c.args.port c.args.self.now.core none in
          absurd (omega (arith, some, c.loop-packet-test.true, c.unread_len-packet-end.ensures));
    }

pub returns-then-not-read_next-clause-none : goal.returns-then-not-read_next-clause-none
returns-then-not-read_next-clause-none c = λ none.
    let some = few_unread c.args.port c.args.self.now.core none in
    absurd (omega (arith, some, c.loop-packet-test.true, c.unread_len-packet-end.ensures))
