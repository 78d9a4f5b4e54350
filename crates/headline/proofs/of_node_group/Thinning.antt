-- Messages that are lost: of what a replica gave some messages are missing, and no output.
use Rattle.std.proofs.Common.{◌≡◌, inl, inr, ℕ, List, [], ◌∷◌, ◌++◌, filter, refl, ap, subst, sym}
use Rattle.ballot_base.specs.declared.message.Effect.{Effect}
use Rattle.ballot_base.specs.declared.message.Effect.TheVariants.{To, Out}
use Rattle.ballot_base.specs.Losses.{Loses, ReplicaStepOrLost, Thinned}
use Rattle.ballot_base.specs.Losses.Thinned.{none, keeps, loses}
use Rattle.ballot_base.specs.declared.message.Message.{Message}
use Rattle.ballot_base.specs.Replica.{CountedReplica, ReplicaState}
use Rattle.ballot_base.specs.StepOutcome.{Outcome, is_message}
use Rattle.broker_base.specs.State.{State}
use Rattle.broker_spec.specs.declared.command.Command.{Command}
use Rattle.broker_spec.specs.declared.command.Output.{Output}
use Rattle.agreement.specs.cut_logs.World.{messages, outputs}
use Rattle.world_base.specs.node_core.Core.{CoreState, rules}
use Rattle.world_base.specs.node_core.Lossy.{HandlesAll}
use Rattle.world_base.specs.node_core.Lossy.HandlesAll.{nothing, does, sends, loses as loses_one}

abbrev pub Given : Type 0
Given = List (Effect Command Output)

-- ---- one list and another

pub all_kept : (effects : Given) → Thinned effects effects
all_kept [] = none
all_kept (e ∷ effects) = keeps (all_kept effects)

pub nothing_kept : (kept : Given) → Thinned kept [] → kept ≡ []
nothing_kept [] none = refl
nothing_kept (e ∷ kept) t = elim t [ ]

pub thinned_more : {a b c : Given} → Thinned a b → Thinned b c → Thinned a c
thinned_more p none = p
thinned_more p (loses q) = loses (thinned_more p q)
thinned_more (keeps p) (keeps q) = keeps (thinned_more p q)
thinned_more (loses p) (keeps q) = loses (thinned_more p q)

-- what is kept of two lists is what is kept of each
pub record KeptOfBoth (kept a b : Given) : Type 0 where
  pub front : Given
  pub rest : Given
  pub is : kept ≡ front ++ rest
  pub first : Thinned front a
  pub next : Thinned rest b

pub kept_of_both : (a b kept : Given) → Thinned kept (a ++ b) → KeptOfBoth kept a b
kept_of_both [] b kept t = record { front = []; rest = kept; is = refl; first = none; next = t }
kept_of_both (e ∷ a) b (d ∷ kept) (keeps t) =
    let z = kept_of_both a b kept t in record { front = d ∷ z.front; rest = z.rest; is = ap (λ l. d ∷ l) z.is; first = keeps z.first; next = z.next }
kept_of_both (To receiver message ∷ a) b kept (loses t) =
    let z = kept_of_both a b kept t in record { front = z.front; rest = z.rest; is = z.is; first = loses z.first; next = z.next }

-- ---- what is kept of what was handed out

-- what the replica gave without the messages that were lost
pub record KeptOf (kept given : Given) : Type 0 where
  pub thin : Given
  pub thinned : Thinned thin given
  pub sent : messages kept ≡ messages thin
  pub left : outputs given ≡ outputs thin

kept_output : (place : ℕ) (output : Output) (kept given : Given) → KeptOf kept given → KeptOf kept (Out place output ∷ given)
kept_output place output kept given k =
    record { thin = Out place output ∷ k.thin; thinned = keeps k.thinned; sent = k.sent; left = ap (λ l. (place, output) ∷ l) k.left }

kept_message : (receiver : ℕ) (message : Message Command) (kept given : Given) → KeptOf kept given → KeptOf (To receiver message ∷ kept) (To receiver message ∷ given)
kept_message receiver message kept given k =
    record { thin = To receiver message ∷ k.thin; thinned = keeps k.thinned; sent = ap (λ l. (receiver, message) ∷ l) k.sent; left = k.left }

lost_message : (receiver : ℕ) (message : Message Command) (kept given : Given) → KeptOf kept given → KeptOf kept (To receiver message ∷ given)
lost_message receiver message kept given k = record { thin = k.thin; thinned = loses k.thinned; sent = k.sent; left = k.left }

-- of all messages
pub kept_of_all : (effects kept : Given) → Thinned kept (filter is_message effects) → KeptOf kept effects
kept_of_all [] [] none = record { thin = []; thinned = none; sent = refl; left = refl }
kept_of_all [] (e ∷ kept) t = elim t [ ]
kept_of_all (Out place output ∷ effects) kept t = kept_output place output kept effects (kept_of_all effects kept t)
kept_of_all (To receiver message ∷ effects) (d ∷ kept) (keeps t) = kept_message receiver message kept effects (kept_of_all effects kept t)
kept_of_all (To receiver message ∷ effects) kept (loses t) = lost_message receiver message kept effects (kept_of_all effects kept t)

-- of those that the node found memory for
pub kept_of_told : (given : Given) (core new : CoreState) (told kept : Given) → HandlesAll given core new told → Thinned kept told → KeptOf kept given
kept_of_told _ core _ _ [] nothing none = record { thin = []; thinned = none; sent = refl; left = refl }
kept_of_told _ core _ _ (e ∷ kept) nothing t = elim t [ ]
kept_of_told _ core new told kept (does {place} {output} {core = k} {next = next} {given = given} served more) t =
    kept_output place output kept given (kept_of_told given next new told kept more t)
kept_of_told _ core new _ (d ∷ kept) (sends {receiver} {message} {given = given} {messages = told} more) (keeps t) =
    kept_message receiver message kept given (kept_of_told given core new told kept more t)
kept_of_told _ core new _ kept (sends {receiver} {message} {given = given} {messages = told} more) (loses t) =
    lost_message receiver message kept given (kept_of_told given core new told kept more t)
kept_of_told _ core new told kept (loses_one {receiver} {message} {given = given} more) t =
    lost_message receiver message kept given (kept_of_told given core new told kept more t)

-- ---- a step of the replica

-- with more messages missing it is a step with losses still
pub loses_more : (old new : ReplicaState State Command) (outcome : Outcome State Command Output) (given thin : Given) → Loses rules old outcome new given → Thinned thin given
    → Loses rules old outcome new thin
loses_more old new outcome given thin (inl (is, t)) more = inl (is, thinned_more more t)
loses_more old new outcome given thin (inr (inl (is, e))) more = inr (inl (is, nothing_kept thin (subst (λ (l : Given). Thinned thin l) e more)))
loses_more old new outcome given thin (inr (inr (is, e))) more = inr (inr (is, nothing_kept thin (subst (λ (l : Given). Thinned thin l) e more)))

-- whether it was counted or not
pub steps_lose : (old new : CountedReplica State Command) (outcome : Outcome State Command Output) (given : Given) → ReplicaStepOrLost rules old outcome new given
    → Loses rules old.state outcome new.state given
steps_lose old new outcome given (inl (is, e, count)) = inl (is, subst (λ (l : Given). Thinned l outcome.effects) (sym e) (all_kept outcome.effects))
steps_lose old new outcome given (inr (lost, count)) = lost
