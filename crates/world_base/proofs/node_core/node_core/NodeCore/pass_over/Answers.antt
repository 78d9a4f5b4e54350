use Rattle.std.proofs.Common.{◌≡◌, if◌then◌else◌, not, ap, refl, sym, subst, ◌∙◌}
use Rattle.ballot_base.specs.Losses.{one_more}
use Rattle.world_base.specs.declared.node_core.node_core.NodeCore.TheInside.{Inside}
use Rattle.world_base.specs.declared.node_core.item.Item.TheVariants.{Peer}
use Rattle.world_base.specs.node_core.Core.{CoreState, CountedCore}
use Rattle.world_base.specs.node_core.Inside.{RunningStep}
use Rattle.world_base.specs.node_core.Losses.{DoesNothing, ItemStepOrLost}
use Rattle.world_base.specs.node_core.Step.{settled}
use Rattle.world_base.proofs.of_node_core.EndsRun.{core_of}
use Rattle.world_base.proofs.of_node_core.Idle.{quiet_ignored, ran_ignored, turns_ignored}
use Rattle.world_base.proofs.of_node_core.ItemsRun.{stepped_by}
use Rattle.world_base.proofs.node_core.node_core.NodeCore.pass_over.Goals as goal

pub returns : goal.returns
returns c =
    let idle = subst (λ (n : Inside). DoesNothing (Peer c.args.message.now) n.stepping.core) (sym c.self-inside.view_is)
    (subst (λ (n : CountedCore). DoesNothing (Peer c.args.message.now) n.core) (sym c.self.view_is) c.requires) in
    let kept : c.self-inside-2.inside.0.1.0 ≡ c.self.inside.losses =
    cc (ap (λ (n : Inside). n.losses) c.self-inside.view_is, ap (λ (n : Inside). n.losses) c.self-inside-2.view_is) in
    let settles : c.settle.new.self.core ≡ settled c.report_failed.new.self.core =
    cc (ap (λ (r : RunningStep). r.core) c.settle.ensures, ap (λ (n : Inside). settled n.stepping.core) c.self-inside-2.view_is) in
    subst (λ (n : CountedCore). ItemStepOrLost n (Peer c.args.message.now) (record { core = c.settle.new.self.core; losses = c.counted-self-inside-inside.result })
    c.args.effects.now.items c.report_failed.new.effects.items) c.self.view_is
    (stepped_by _ (Peer c.args.message.now) _ c.report_failed.new.self c.settle.new.self.core c.counted-self-inside-inside.result _ _
    (core_of _ _ (ap (λ (n : Inside). n.stepping) c.self-inside.view_is)) (turns_ignored c.args.message.now _ _ _ _ idle c.report_failed.ensures.exact)
    (ran_ignored c.args.message.now _ _ _ _ idle c.report_failed.ensures.lossy) settles
    (c.counted-self-inside-inside.ensures
    ∙ ap (λ k. if not c.self-inside-2.inside.0.0.has_lost then k else one_more k) kept
    ∙ ap (λ (n : Inside). if not n.stepping.has_lost then c.self.inside.losses else one_more c.self.inside.losses) c.self-inside-2.view_is)
    refl (λ _. quiet_ignored _ _ c.report_failed.ensures.none))
