-- Delivering.antt: what the replica gave was done one by one, if memory may have run out.
use Rattle.std.proofs.Common.{◌≡◌, ℕ, Bool, true, false, if◌then◌else◌, List, [], ◌∷◌, ◌++◌, append_assoc, refl, sym, ap, ◌∙◌}
use Rattle.std.proofs.lemmas.List.{append-nil}
use Rattle.broker_spec.specs.declared.command.Command.{Command}
use Rattle.broker_spec.specs.declared.command.Output.{Output}
use Rattle.ballot_base.specs.declared.message.Effect.{Effect}
use Rattle.ballot_base.specs.declared.message.Effect.TheVariants.{To, Out}
use Rattle.ballot_base.specs.declared.message.Message.{Message}
use Rattle.world_base.specs.node_core.Core.{CoreState}
use Rattle.world_base.specs.node_core.Inside.{HandledAll}
use Rattle.world_base.specs.node_core.Lossy.{HandlesAll, Performs}
use Rattle.world_base.specs.node_core.Lossy.HandlesAll.{nothing, does, sends, loses}

delivers_both : (xs ys : List (Effect Command Output)) (a b c : CoreState) (m n : List (Effect Command Output)) →
    HandlesAll xs a b m → HandlesAll ys b c n → HandlesAll (xs ++ ys) a c (m ++ n)
delivers_both _ ys _ _ c _ n nothing after = after
delivers_both _ ys _ _ c _ n (does served more) after = does served (delivers_both _ ys _ _ c _ n more after)
delivers_both _ ys _ _ c _ n (sends more) after = sends (delivers_both _ ys _ _ c _ n more after)
delivers_both _ ys _ _ c _ n (loses more) after = loses (delivers_both _ ys _ _ c _ n more after)

-- if nothing was given nothing is done
pub delivers_nothing : (given : List (Effect Command Output)) (a b : CoreState) (messages : List (Effect Command Output)) →
    HandlesAll given a b messages → given ≡ [] → (b ≡ a) × (messages ≡ [])
delivers_nothing _ _ _ _ nothing none = (refl, refl)
delivers_nothing _ _ _ _ (does served more) none = absurd cc
delivers_nothing _ _ _ _ (sends more) none = absurd cc
delivers_nothing _ _ _ _ (loses more) none = absurd cc

-- ---- what the code did

pub delivered_none : (core : CoreState) (x : List (Effect Command Output)) → HandledAll [] core core x x
delivered_none core x = record { messages = []; handles = nothing; appended = sym (append-nil x) }

pub delivered_push : (a b c : CoreState) (x y z given : List (Effect Command Output)) (e : Effect Command Output) →
    HandledAll given a b x y → HandledAll (e ∷ []) b c y z → HandledAll (given ++ e ∷ []) a c x z
delivered_push a b c x y z given e one two =
    record {
      messages = one.messages ++ two.messages;
      handles = delivers_both given (e ∷ []) a b c one.messages two.messages one.handles two.handles;
      appended = two.appended ∙ ap (λ (l : List (Effect Command Output)). l ++ two.messages) one.appended
          ∙ append_assoc x one.messages two.messages;
    }

pub delivered_output : (place : ℕ) (output : Output) (a b : CoreState) (x : List (Effect Command Output)) → Performs output a b →
    HandledAll (Out place output ∷ []) a b x x
delivered_output place output a b x served =
    record { messages = []; handles = does served nothing; appended = sym (append-nil x) }

pub delivered_message : (receiver : ℕ) (message : Message Command) (sent : Bool) (a : CoreState) (x y : List (Effect Command Output)) →
    y ≡ (if sent then x ++ To receiver message ∷ [] else x) → HandledAll (To receiver message ∷ []) a a x y
delivered_message receiver message true a x y pushed =
    record { messages = To receiver message ∷ []; handles = sends nothing; appended = pushed }
delivered_message receiver message false a x y same =
    record { messages = []; handles = loses nothing; appended = same ∙ sym (append-nil x) }
