-- Replaying.antt: a replay continues.
use Rattle.std.proofs.Common.{◌≡◌, ℕ, List, [], ◌∷◌, ◌++◌, sym, subst}
use Rattle.mailbox.specs.Ends.{ReceiverView}
use Rattle.broker_spec.specs.declared.command.Command.{Command}
use Rattle.broker_spec.specs.declared.command.Output.{Output}
use Rattle.ballot_base.specs.declared.message.Effect.{Effect}
use Rattle.world_base.specs.declared.node_core.item.Item.{Item}
use Rattle.world_base.specs.node_core.Core.{CountedCore}
use Rattle.world_base.specs.node_core.Losses.{ItemStepOrLost}
use Rattle.node.specs.State.{Replays}
use Rattle.node.specs.State.Replays.{opens, steps}

-- nothing was taken yet
pub opened : (first_of : ℕ → CountedCore) (receiver : ReceiverView Item) (core : CountedCore) → receiver.taken ≡ []
    → core ≡ first_of receiver.inbox → Replays (first_of receiver.inbox) receiver.taken core
opened first_of receiver core none is =
    subst (λ (items : List (ℕ × Item)). Replays (first_of receiver.inbox) items core) (sym none)
    (subst (λ (c : CountedCore). Replays (first_of receiver.inbox) [] c) (sym is) opens)

-- one item was taken, and its step was done
pub stepped : (first_of : ℕ → CountedCore) (old new : ReceiverView Item) (taken : ℕ × Item) (core next : CountedCore)
    (before after : List (Effect Command Output))
    → new ≡ record old { taken = old.taken ++ taken ∷ [] }
    → Replays (first_of old.inbox) old.taken core → ItemStepOrLost core taken.1 next before after
    → Replays (first_of new.inbox) new.taken next
stepped first_of old new taken core next before after is replays step =
    subst (λ (t : ReceiverView Item). Replays (first_of t.inbox) t.taken next) (sym is)
    (steps taken next before after replays step)
