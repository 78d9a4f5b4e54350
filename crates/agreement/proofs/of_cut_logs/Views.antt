-- Views.antt: a step of a node, perhaps with losses, is one on the whole logs.
use Rattle.std.proofs.Common.{◌≡◌, ℕ, zero, suc, inl, inr, false, List, [], ◌∷◌, ◌++◌, map, set, Some, refl, ap, ap₂, sym, ◌∙◌, subst}
use Rattle.std.specs.Prelude.{slice_get}
use Rattle.std.proofs.lemmas.List.{map-append}
use Rattle.machine.specs.Machine.{Rules}
use Rattle.agreement.specs.whole_logs.Messages.{Effect as WholeEffect}
use Rattle.agreement.specs.whole_logs.Losses.{Loses as WholeLoses, Thinned as WholeThinned}
use Rattle.agreement.specs.whole_logs.Losses.Thinned.{none as none_left, keeps as keeps_one, loses as loses_one}
use Rattle.agreement.specs.whole_logs.Protocol.{replica_step as whole_step}
use Rattle.agreement.specs.whole_logs.StepOutcome.{Outcome as WholeOutcome}
use Rattle.agreement.specs.MasterState.{MasterState}
use Rattle.agreement.specs.Steps.{MayTake as WholeMayTake}
use Rattle.agreement.specs.Steps.MayHappen.{node_takes}
use Rattle.agreement.specs.World.{GroupWorld as WholeWorld, moved as whole_moved, messages as whole_messages, outputs as whole_outputs}
use Rattle.lists.specs.Lists.{In}
use Rattle.lists.specs.Lists.In.{here, there}
use Rattle.agreement.specs.cut_logs.Matches.{OutcomeMatches}
use Rattle.ballot_base.specs.declared.message.Effect.{Effect}
use Rattle.ballot_base.specs.StepOutcome.{Outcome}
use Rattle.ballot_base.specs.Losses.{Thinned, Loses}
use Rattle.agreement.specs.cut_logs.World.{messages, outputs, CutGroupWorld, MayTake, moved, whole_sent, whole_world}
use Rattle.ballot_base.specs.declared.message.Effect.TheVariants.{To, Out}
use Rattle.ballot_base.specs.Losses.Thinned.{none, keeps, loses}
use Rattle.ballot_base.specs.Replica.{ReplicaState}
use Rattle.ballot_base.specs.Protocol.{Input}
use Rattle.ballot_base.specs.Protocol.Input.{Receives, Proposes, Ticks}
use Rattle.agreement.specs.cut_logs.Whole.{whole, whole_effects, whole_input}
use Rattle.agreement.proofs.of_cut_logs.Adds.{StepAdds, added_whole}

-- missing messages, and those that are missing of these
pub whole_thinned : {C O : Type 0} (archive : List C) {xs ys : List (Effect C O)} → Thinned xs ys → WholeThinned (whole_effects archive xs) (whole_effects archive ys)
whole_thinned archive none = none_left
whole_thinned archive (keeps t) = keeps_one (whole_thinned archive t)
whole_thinned archive (loses t) = loses_one (whole_thinned archive t)

pub thinned_then : {C O : Type 0} {xs ys zs : List (WholeEffect C O)} → WholeThinned xs ys → WholeThinned ys zs → WholeThinned xs zs
thinned_then t none_left = t
thinned_then (keeps_one t) (keeps_one u) = keeps_one (thinned_then t u)
thinned_then (loses_one t) (keeps_one u) = loses_one (thinned_then t u)
thinned_then t (loses_one u) = loses_one (thinned_then t u)

-- losses
pub whole_loses : {S C O : Type 0} (rules : Rules S C O) (archive : List C) (old : ReplicaState S C) (o : Outcome S C O) (p : WholeOutcome S C O)
    (new : ReplicaState S C) (given : List (Effect C O)) → OutcomeMatches archive o p → Loses rules old o new given →
    WholeLoses rules (whole archive old) p (whole archive new) (whole_effects archive given)
whole_loses rules archive old o p new given m (inl (e, t)) = inl (ap (whole archive) e ∙ m.state, thinned_then (whole_thinned archive t) m.effects)
whole_loses rules archive old o p new given m (inr (inl (e, none_given))) = inr (inl (ap (whole archive) e, ap (whole_effects archive) none_given))
whole_loses rules archive old o p new given m (inr (inr (e, none_given))) = inr (inr (ap (whole archive) e, ap (whole_effects archive) none_given))

-- the messages and outputs
messages_whole : {C O : Type 0} (archive : List C) (es : List (Effect C O)) → map (whole_sent archive) (messages es) ≡ whole_messages (whole_effects archive es)
messages_whole archive [] = refl
messages_whole archive (To to m ∷ es) = ap (λ us. whole_sent archive (to, m) ∷ us) (messages_whole archive es)
messages_whole archive (Out place o ∷ es) = messages_whole archive es

pub outputs_whole : {C O : Type 0} (archive : List C) (es : List (Effect C O)) → outputs es ≡ whole_outputs (whole_effects archive es)
outputs_whole archive [] = refl
outputs_whole archive (To to m ∷ es) = outputs_whole archive es
outputs_whole archive (Out place o ∷ es) = ap (λ us. (place, o) ∷ us) (outputs_whole archive es)

pub map_set : {X Y : Type 0} (g : X → Y) (xs : List X) (n : ℕ) (x : X) → map g (set xs n x) ≡ set (map g xs) n (g x)
map_set g [] n x = refl
map_set g (y ∷ xs) zero x = refl
map_set g (y ∷ xs) (suc n) x = ap (λ us. g y ∷ us) (map_set g xs n x)

-- a node's move
pub moved_whole : {S C O : Type 0} (w : CutGroupWorld S C O) (n : ℕ) (new : ReplicaState S C) (given : List (Effect C O)) →
    whole_world (moved w n new given) ≡ whole_moved (whole_world w) n (whole w.archive new) (whole_effects w.archive given)
moved_whole {S = S} {C = C} {O = O} w n new given =
    ap (λ ns. let x : WholeWorld S C O = record { nodes = ns; sent = map (whole_sent w.archive) (w.sent ++ messages given); left = w.left ++ outputs given } in x)
    (map_set (whole w.archive) w.nodes n new)
    ∙ ap₂ (λ us vs. let x : WholeWorld S C O = record { nodes = set (map (whole w.archive) w.nodes) n (whole w.archive new); sent = us; left = w.left ++ vs } in x)
    (map-append (whole_sent w.archive) w.sent (messages given) ∙ ap (λ us. map (whole_sent w.archive) w.sent ++ us) (messages_whole w.archive given))
    (outputs_whole w.archive given)

-- what was found and what was sent
pub get_whole : {X Y : Type 0} (g : X → Y) (xs : List X) (n : ℕ) (x : X) → slice_get xs n ≡ Some x → slice_get (map g xs) n ≡ Some (g x)
get_whole g [] n x e = cc
get_whole g (y ∷ xs) zero x e = let h : y ≡ x = cc in ap (λ z. Some (g z)) h
get_whole g (y ∷ xs) (suc n) x e = get_whole g xs n x e

pub in_whole : {X Y : Type 0} (g : X → Y) {x : X} {xs : List X} → In x xs → In (g x) (map g xs)
in_whole g here = here
in_whole g (there i) = there (in_whole g i)

pub may_take_whole : {S C O : Type 0} (w : CutGroupWorld S C O) (n : ℕ) (input : Input C) → MayTake w n input → WholeMayTake (whole_world w) n (whole_input w.archive input)
may_take_whole w n (Receives m) i = in_whole (whole_sent w.archive) i
may_take_whole w n (Proposes c) i = i
may_take_whole w n Ticks i = i

-- so a step whose outcome is that on the whole logs is one of the group on the whole logs, which adds the same
pub step_whole : {S C O : Type 0} (rules : Rules S C O) (m : MasterState) (w : CutGroupWorld S C O) (n : ℕ) (r : ReplicaState S C) (input : Input C)
    (new : ReplicaState S C) (given : List (Effect C O)) → slice_get w.nodes n ≡ Some r → r.stopped ≡ false → MayTake w n input →
    WholeLoses rules (whole w.archive r) (whole_step rules (whole w.archive r) (whole_input w.archive input)) (whole w.archive new) (whole_effects w.archive given) →
    StepAdds rules m (whole_world w) m (whole_world (moved w n new given)) (added_whole w.archive n r input new given)
step_whole {S = S} {C = C} {O = O} rules m w n r input new given stands runs may lost =
    subst (λ (v : WholeWorld S C O). StepAdds rules m (whole_world w) m v (added_whole w.archive n r input new given)) (sym (moved_whole w n new given)) (
      node_takes n (whole w.archive r) (whole_input w.archive input) (get_whole (whole w.archive) w.nodes n r stands) runs (may_take_whole w n input may) lost,
      record { proposes = refl; takes = refl; takes_at = λ i. refl; gives = λ i. refl },
    )
