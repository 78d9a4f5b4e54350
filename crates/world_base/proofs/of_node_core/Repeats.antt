-- Repeats.antt: one more of a thing that is done several times, and that no more are done once it does nothing.
use Rattle.std.proofs.Common.{◌≡◌, ℕ, zero, suc, ◌+◌, ◌-◌, ◌≤◌, false, List, ◌++◌, append_assoc, refl, sym, ap, subst, ◌∙◌, arith}
use Rattle.std.proofs.lemmas.List.{append-nil}
use Rattle.broker_spec.specs.declared.command.Command.{Command}
use Rattle.broker_spec.specs.declared.command.Output.{Output}
use Rattle.ballot_base.specs.declared.message.Effect.{Effect}
use Rattle.world_base.specs.node_core.Core.{CoreState, StepOutcome}
use Rattle.world_base.specs.node_core.Inside.{RunningStep, DoesOutcome}
use Rattle.world_base.specs.node_core.Effects.{without_messages, repeated, then_also}
use Rattle.world_base.proofs.of_node_core.StepsJoin.{turns_as, turns_idle, turns_join}

-- a turn with these messages
abbrev given_by : CoreState → List (Effect Command Output) → StepOutcome
given_by core messages = record { core = core; messages = messages }

-- nothing more after it
ends_without_messages : (t : StepOutcome) → then_also t without_messages ≡ t
ends_without_messages t = ap (given_by t.core) (append-nil t.messages)

joins : (t : StepOutcome) (f g : CoreState → StepOutcome) → then_also t (λ core. then_also (f core) g) ≡ then_also (then_also t f) g
joins t f g = ap (given_by (g (f t.core).core).core) (sym (append_assoc t.messages (f t.core).messages (g (f t.core).core).messages))

module _ (next : CoreState → StepOutcome) where
  -- the last one is done after the others
  one_more : (n : ℕ) (core : CoreState) → repeated (suc n) next core ≡ then_also (repeated n next core) next
  unfolding repeated
  one_more zero core = ends_without_messages (next core)
  one_more (suc n) core =
      let first : StepOutcome = next core in
      ap (λ (t : StepOutcome). given_by t.core (first.messages ++ t.messages)) (one_more n first.core)
      ∙ joins first (repeated n next) next

  none_of_them : (core : CoreState) → repeated 0 next core ≡ without_messages core
  unfolding repeated
  none_of_them core = refl

  -- once the next one does nothing, no more are done
  no_more : (n m : ℕ) (core : CoreState) → next (repeated n next core).core ≡ without_messages (repeated n next core).core →
      repeated (m + n) next core ≡ repeated n next core
  no_more n zero core last = let same : 0 + n ≡ n = omega arith in ap (λ (k : ℕ). repeated k next core) same
  no_more n (suc m) core last =
      let next_one : suc m + n ≡ suc (m + n) = omega arith in
      ap (λ (k : ℕ). repeated k next core) next_one
      ∙ one_more (m + n) core
      ∙ ap (λ (t : StepOutcome). then_also t next) (no_more n m core last)
      ∙ ap (λ (t : StepOutcome). given_by t.core ((repeated n next core).messages ++ t.messages)) last
      ∙ ends_without_messages (repeated n next core)

  -- ---- what the code did

  pub repeats_none : (r : RunningStep) (x : List (Effect Command Output)) → DoesOutcome r r x x (repeated 0 next r.core)
  repeats_none r x = subst (λ (t : StepOutcome). DoesOutcome r r x x t) (sym (none_of_them r.core)) (turns_idle r x)

  pub repeats_more : (n : ℕ) (a b c : RunningStep) (x y z : List (Effect Command Output)) →
      DoesOutcome a b x y (repeated n next a.core) → DoesOutcome b c y z (next b.core) → DoesOutcome a c x z (repeated (suc n) next a.core)
  repeats_more n a b c x y z done more =
      subst (λ (t : StepOutcome). DoesOutcome a c x z t) (sym (one_more n a.core))
      (turns_join a b c x y z (repeated n next a.core) next done more)

  -- the last one says that the next would do nothing
  pub repeats_enough : (n all : ℕ) (a b : RunningStep) (x y : List (Effect Command Output)) → n ≤ all →
      DoesOutcome a b x y (repeated n next a.core) → (b.has_lost ≡ false → next b.core ≡ without_messages b.core) →
      DoesOutcome a b x y (repeated all next a.core)
  repeats_enough n all a b x y few done last =
      turns_as a b x y (repeated n next a.core) (repeated all next a.core) same done
    where
      same : b.has_lost ≡ false → repeated n next a.core ≡ repeated all next a.core
      same whole =
          let core : b.core ≡ (repeated n next a.core).core = ap (λ (r : RunningStep). r.core) (done.exact whole).0 in
          let without_messages_there = subst (λ (k : CoreState). next k ≡ without_messages k) core (last whole) in
          let rest : ℕ = all - n in
          let is : rest + n ≡ all = omega (arith, few) in
          sym (no_more n rest a.core without_messages_there) ∙ ap (λ (k : ℕ). repeated k next a.core) is
