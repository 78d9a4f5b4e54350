-- StepsJoin.antt: two things that a node does, one after another, are done as one.
use Rattle.std.proofs.Common.{◌≡◌, true, false, List, [], ◌∷◌, ◌++◌, append_assoc, refl, sym, ap, subst, ◌∙◌}
use Rattle.std.specs.List.{fold, filter}
use Rattle.std.proofs.lemmas.List.{append-nil}
use Rattle.std.proofs.lemmas.List.Sums.{fold_push}
use Rattle.std.proofs.lemmas.List.Elements.{filter-append}
use Rattle.broker_spec.specs.declared.command.Command.{Command}
use Rattle.broker_spec.specs.declared.command.Output.{Output}
use Rattle.ballot_base.specs.declared.message.Effect.{Effect}
use Rattle.ballot_base.specs.StepOutcome.{is_message}
use Rattle.world_base.specs.node_core.Core.{CoreState, StepOutcome}
use Rattle.world_base.specs.node_core.Inside.{RunningStep, DoesExactly, DoesOutcome}
use Rattle.world_base.specs.node_core.Effects.{without_messages, then_also, handled_all, with_effect}

-- nothing was done
pub turns_idle : (r : RunningStep) (out : List (Effect Command Output)) → DoesOutcome r r out out (without_messages r.core)
turns_idle r out = record { given = []; appended = sym (append-nil out); exact = λ _. (refl, refl) }

-- something without messages
pub turns_without_messages : (old new : RunningStep) (out : List (Effect Command Output)) (core : CoreState) →
    DoesExactly old new core → DoesOutcome old new out out (without_messages core)
turns_without_messages old new out core does =
    record { given = []; appended = sym (append-nil out); exact = λ whole. (does whole, refl) }

-- the parts of a step that was done
pub has_lost_kept : (a b : RunningStep) (core : CoreState) → b ≡ record a { core = core } → b.has_lost ≡ false → a.has_lost ≡ false
has_lost_kept a b core e whole = sym (ap (λ (z : RunningStep). z.has_lost) e) ∙ whole

-- one thing and then another
pub turns_join : (a b c : RunningStep) (x y z : List (Effect Command Output)) (first : StepOutcome) (next : CoreState → StepOutcome) →
    DoesOutcome a b x y first → DoesOutcome b c y z (next b.core) → DoesOutcome a c x z (then_also first next)
turns_join a b c x y z first next one two =
    record {
      given = one.given ++ two.given;
      appended = two.appended ∙ ap (λ (l : List (Effect Command Output)). l ++ two.given) one.appended
          ∙ append_assoc x one.given two.given;
      exact = λ whole. joined whole (two.exact whole);
    }
  where
    joined : c.has_lost ≡ false → (c ≡ record b { core = (next b.core).core }) × (two.given ≡ (next b.core).messages) →
        (c ≡ record a { core = (then_also first next).core })
        × (one.given ++ two.given ≡ (then_also first next).messages)
    joined whole did =
        let before = one.exact (has_lost_kept b c (next b.core).core did.0 whole) in
        let core : b.core ≡ first.core = ap (λ (r : RunningStep). r.core) before.0 in (
          did.0 ∙ ap (λ (r : RunningStep). record r { core = (next r.core).core }) before.0,
          ap (λ (l : List (Effect Command Output)). l ++ two.given) before.1
              ∙ ap (λ (l : List (Effect Command Output)). first.messages ++ l)
              (did.1 ∙ ap (λ (k : CoreState). (next k).messages) core),
        )

-- effects that were done one by one
pub turns_push : (a b c : RunningStep) (x y z given : List (Effect Command Output)) (e : Effect Command Output) →
    DoesOutcome a b x y (handled_all given a.core) → DoesOutcome b c y z (handled_all (e ∷ []) b.core) →
    DoesOutcome a c x z (handled_all (given ++ e ∷ []) a.core)
turns_push a b c x y z given e one two =
    subst (λ (t : StepOutcome). DoesOutcome a c x z t) same
    (turns_join a b c x y z (handled_all given a.core) (handled_all (e ∷ [])) one two)
  where
    same : then_also (handled_all given a.core) (handled_all (e ∷ [])) ≡ handled_all (given ++ e ∷ []) a.core
    same =
        ap (λ (k : CoreState). let t : StepOutcome = record { core = k; messages = filter is_message given ++ filter is_message (e ∷ []) } in t)
        (sym (fold_push with_effect a.core given e))
        ∙ ap (λ (l : List (Effect Command Output)). let t : StepOutcome = record { core = fold with_effect a.core (given ++ e ∷ []); messages = l } in t)
        (sym (filter-append is_message given (e ∷ [])))

-- memory ran out before: nothing exact is said
pub turns_lost : (a b c : RunningStep) (x y : List (Effect Command Output)) (t u : StepOutcome) → b.has_lost ≡ true →
    DoesOutcome b c x y t → DoesOutcome a c x y u
turns_lost a b c x y t u lost turns =
    record {
      given = turns.given;
      appended = turns.appended;
      exact = λ whole. (let kept = has_lost_kept b c t.core (turns.exact whole).0 whole in absurd cc);
    }

-- the same turn, if memory suffices
pub turns_as : (a c : RunningStep) (x y : List (Effect Command Output)) (t u : StepOutcome) → (c.has_lost ≡ false → t ≡ u) →
    DoesOutcome a c x y t → DoesOutcome a c x y u
turns_as a c x y t u same turns =
    record {
      given = turns.given;
      appended = turns.appended;
      exact = λ whole. (
        (turns.exact whole).0 ∙ ap (λ (z : StepOutcome). record a { core = z.core }) (same whole),
        (turns.exact whole).1 ∙ ap (λ (z : StepOutcome). z.messages) (same whole),
      );
    }

-- something after a change without messages
pub turns_after : (a b c : RunningStep) (x y : List (Effect Command Output)) (core : CoreState) (next : CoreState → StepOutcome) →
    b ≡ record a { core = core } → DoesOutcome b c x y (next b.core) → DoesOutcome a c x y (next core)
turns_after a b c x y core next e turns =
    record {
      given = turns.given;
      appended = turns.appended;
      exact = λ whole. (
        (turns.exact whole).0 ∙ ap (λ (r : RunningStep). record r { core = (next r.core).core }) e,
        (turns.exact whole).1 ∙ ap (λ (r : RunningStep). (next r.core).messages) e,
      );
    }
