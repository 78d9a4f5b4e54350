-- The effects of an event were sent.
use Rattle.std.proofs.Common.{ℕ, List, [], ◌∷◌, ◌++◌, sym, subst}
use mathlib.Core.List.{IsPrefix}
use Rattle.lists.specs.Lists.{In}
use Rattle.lists.specs.Lists.In.{here, there}
use Rattle.lists.proofs.Members.{in_right}
use Rattle.lists.proofs.OfEach.{each_append}
use Rattle.ballot_base.specs.declared.message.Effect.{Effect}
use Rattle.ballot_base.specs.declared.message.Effect.TheVariants.{To, Out}
use Rattle.ballot_base.specs.declared.message.Message.{Message}
use Rattle.broker_spec.specs.declared.command.Command.{Command}
use Rattle.broker_spec.specs.declared.command.Output.{Output}
use Rattle.agreement.specs.cut_logs.World.{messages}
use Rattle.world_base.specs.declared.node_core.item.Item.{Item}
use Rattle.run_history.specs.declared.event.NodeAct.{NodeAct}
use Rattle.run_history.specs.declared.event.NodeAct.TheVariants.{Takes}
use Rattle.run_history.specs.declared.event.RunEvent.{RunEvent}
use Rattle.run_history.specs.declared.event.RunEvent.TheVariants.{ByNode}
use Rattle.run_history.specs.Log.{sent_in}
use Rattle.run_history.specs.Parties.{DidAct, NodeView, TookItem}
use Rattle.run_history.specs.Sending.{AllSent, EffectWasSent}
use Rattle.run_history.proofs.LongerLogs.{in_later, sent_more}
use Rattle.run_history.proofs.Prefixes.{prefix_more, prefix_trans}

-- messages of some effects are among more messages
each_sent : (effects : List (Effect Command Output)) (sent : List (ℕ × Message Command)) → ((x : ℕ × Message Command) → In x (messages effects) → In x sent) → AllSent sent effects
each_sent [] sent all = tt
each_sent (To receiver message ∷ effects) sent all = (all (receiver, message) here, each_sent effects sent (λ x i. all x (there i)))
each_sent (Out place output ∷ effects) sent all = (tt, each_sent effects sent all)

-- what an act gave was sent by the log that has it
pub given_sent : (old new : NodeView) (act : NodeAct) (given : List (Effect Command Output)) → DidAct old act given new → AllSent (sent_in new.log) given
given_sent old new act given did =
    each_sent given (sent_in new.log) (λ x i.
    subst (λ (l : List RunEvent). In x (sent_in l)) (sym did.now)
    (subst (In x) (sym (sent_more did.earlier (ByNode (record { node = old.index; act = act; after = new.node; given = given })))) (in_right (sent_in did.earlier) i)))

-- what was sent by a shorter log was sent by a longer one
each_later : (effects : List (Effect Command Output)) (xs ys : List RunEvent) → IsPrefix xs ys → AllSent (sent_in xs) effects → AllSent (sent_in ys) effects
each_later [] xs ys p all = tt
each_later (To receiver message ∷ effects) xs ys p all = (in_later (receiver, message) xs ys p all.0, each_later effects xs ys p all.1)
each_later (Out place output ∷ effects) xs ys p all = (tt, each_later effects xs ys p all.1)

-- all that steps gave, this step with those before it, was sent
pub took_sent : (old new : NodeView) (item : Item) (before after : List (Effect Command Output)) → TookItem old item new before after
    → AllSent (sent_in old.log) before → AllSent (sent_in new.log) after
took_sent old new item before after took all =
    let event : RunEvent = ByNode (record { node = old.index; act = Takes item; after = new.node; given = took.stepped.given }) in
    let longer : IsPrefix old.log new.log =
    subst (IsPrefix old.log) (sym took.did.now) (prefix_trans old.log took.did.earlier (took.did.earlier ++ event ∷ []) took.did.begins (prefix_more took.did.earlier (event ∷ []))) in
    subst (AllSent (sent_in new.log)) (sym took.stepped.appended)
    (each_append (EffectWasSent (sent_in new.log)) before took.stepped.given (each_later before old.log new.log longer all)
    (given_sent old new (Takes item) took.stepped.given took.did))
