use Rattle.std.proofs.Common.{◌≡◌, ◌+◌, length, ◌++◌, drop, refl, ap, sym, ◌∙◌, subst}
use mathlib.Core.List.{IsPrefix}
use Rattle.world_base.specs.declared.node_core.item.Item.{Item}
use Rattle.world_base.specs.node_core.Core.{CountedCore}
use Rattle.world_base.specs.node_core.LossyStep.{RunsOn}
use Rattle.run_history.specs.declared.event.NodeAct.TheVariants.{Takes}
use Rattle.run_history.specs.declared.event.NodeEvent.{NodeEvent}
use Rattle.run_history.specs.History.{IsNodeOf}
use Rattle.run_history.specs.Log.{sent_in}
use Rattle.run_history.specs.Parties.{NodeView}
use Rattle.run_history.specs.Rules.MayAdd.{node_may}
use Rattle.run_history.specs.Sending.{ItemWasSent}
use Rattle.run_history.proofs.Knowing.{drop_before, known_so, node_after, took_so}
use Rattle.run_history.proofs.LongerLogs.{item_sent_later}
use Rattle.run_history.proofs.node_on_record.NodeOnRecord.take.Goals as goal

pub add_or_wait-requires-clause-may : goal.add_or_wait-requires-clause-may
add_or_wait-requires-clause-may g c =
    let me = c.self.inside in
    let v = c.learn.new.self in
    let old_effects = c.args.effects.now in
    let is_item : c.of-taken.result.value ≡ c.args.item = c.of-taken.ensures in
    let is_next : c.of.result.value ≡ c.step.new.self = c.of.ensures in
    let is_effects : c.of-2.result.value.items ≡ old_effects.items ++ c.step.ensures.given = ap (λ e. e.items) c.of-2.ensures ∙ c.step.ensures.appended in
    let count : c.len-before.result ≡ length old_effects.items = c.len-before.ensures ∙ old_effects.ok.0 in
    let given_is : drop c.len-before.result c.of-2.result.value.items ≡ c.step.ensures.given = drop_before old_effects.items c.step.ensures.given c.of-2.result.value.items c.len-before.result count is_effects in
    let begins : IsPrefix me.seen v = subst (λ l. IsPrefix l v) c.again-seen.ensures c.learn.ensures.this in
    let sent : ItemWasSent (sent_in c.args.known.now) me.index c.args.item = subst (λ (s : NodeView). ItemWasSent (sent_in c.args.known.now) s.index c.args.item) (sym c.self.view_is) c.requires in
    let runs : RunsOn c.args.item me.core.core c.step.new.self.core (drop c.len-before.result c.of-2.result.value.items) = subst (RunsOn c.args.item me.core.core c.step.new.self.core) (sym given_is) c.step.ensures.run in
    let runs' : RunsOn c.args.item me.core.core c.of.result.value.core (drop c.len-before.result c.of-2.result.value.items) = subst (λ (n : CountedCore). RunsOn c.args.item me.core.core n.core (drop c.len-before.result c.of-2.result.value.items)) (sym is_next) runs in
    let event : NodeEvent = record { node = me.index; act = Takes c.of-taken.result.value; after = c.of.result.value; given = drop c.len-before.result c.of-2.result.value.items } in
    let sent' : ItemWasSent (sent_in v) me.index c.of-taken.result.value = subst (ItemWasSent (sent_in v) me.index) (sym is_item) (item_sent_later me.index c.args.item c.args.known.now v c.learn.ensures.that sent) in
    let runs'' : RunsOn c.of-taken.result.value me.core.core c.of.result.value.core (drop c.len-before.result c.of-2.result.value.items) = subst (λ (i : Item). RunsOn i me.core.core c.of.result.value.core (drop c.len-before.result c.of-2.result.value.items)) (sym is_item) runs' in
    node_may event me.seen me.core.core begins c.self.invariant.2 c.self.invariant.1 (sent', runs'')

pub invariant_of-self : goal.invariant_of-self
invariant_of-self g c =
    let nodes = g.H.RunNaming.nodes in
    let config = g.H.RunNaming.config in
    let me = c.self.inside in
    let v = c.learn.new.self in
    let w = c.add_or_wait.new.self in
    let event : NodeEvent = record { node = me.index; act = Takes c.of-taken.result.value; after = c.of.result.value; given = drop c.len-before.result c.of-2.result.value.items } in
    let begins : IsPrefix me.seen v = subst (λ l. IsPrefix l v) c.again-seen.ensures c.learn.ensures.this in
    let after : IsNodeOf nodes config w me.index c.of.result.value.core (me.count + 1) = node_after nodes config me.seen v w event me.core.core me.count begins c.self.invariant.2 c.add_or_wait.ensures in
    (c.self.invariant.0, c.self.invariant.1, subst (λ (n : CountedCore). IsNodeOf nodes config w me.index n.core (me.count + 1)) c.of.ensures after)

pub returns-clause-took : goal.returns-clause-took
returns-clause-took g c =
    let me = c.self.inside in
    let v = c.learn.new.self in
    let old_effects = c.args.effects.now in
    let given = drop c.len-before.result c.of-2.result.value.items in
    let is_effects : c.of-2.result.value.items ≡ old_effects.items ++ c.step.ensures.given = ap (λ e. e.items) c.of-2.ensures ∙ c.step.ensures.appended in
    let count : c.len-before.result ≡ length old_effects.items = c.len-before.ensures ∙ old_effects.ok.0 in
    let given_is : given ≡ c.step.ensures.given = drop_before old_effects.items c.step.ensures.given c.of-2.result.value.items c.len-before.result count is_effects in
    let begins : IsPrefix me.seen v = subst (λ l. IsPrefix l v) c.again-seen.ensures c.learn.ensures.this in
    let sent : ItemWasSent (sent_in c.args.known.now) me.index c.args.item = subst (λ (s : NodeView). ItemWasSent (sent_in c.args.known.now) s.index c.args.item) (sym c.self.view_is) c.requires in
    rw (← c.self.view_is) (took_so _ _ c.args.known.now v c.args.item c.of-taken.result.value given c.of.result.value me.count old_effects.items c.step.new.effects.items begins c.learn.ensures.that c.add_or_wait.ensures c.of-taken.ensures c.of.ensures c.self.invariant.2.counted refl c.step.ensures given_is sent)

pub returns-clause-known : goal.returns-clause-known
returns-clause-known g c =
    let me = c.self.inside in
    known_so c.args.known.now c.learn.new.self c.add_or_wait.new.self me.count _ c.learn.ensures.that c.add_or_wait.ensures
