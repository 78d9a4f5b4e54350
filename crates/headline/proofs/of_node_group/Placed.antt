-- Nodes at their places, and their replicas at the same places.
use Rattle.std.proofs.Common.{◌≡◌, ℕ, zero, suc, ◌+◌, List, [], ◌∷◌, ◌++◌, Some, map, slice_get, slice_set, refl, sym, ap, ◌∙◌}
use Rattle.std.proofs.lemmas.Option.{same_Some, none-some}
use Rattle.ballot_base.specs.declared.config.Config.{Config}
use Rattle.ballot_base.specs.declared.message.Effect.{Effect}
use Rattle.ballot_base.specs.declared.message.Effect.TheVariants.{To, Out}
use Rattle.ballot_base.specs.Replica.{opening}
use Rattle.ballot_base.specs.StepOutcome.{is_message}
use Rattle.broker_spec.specs.declared.command.Command.{Command}
use Rattle.broker_spec.specs.declared.command.Output.{Output}
use Rattle.agreement.specs.cut_logs.World.{messages}
use Rattle.agreement.specs.cut_logs.Moments.{opening_nodes}
use Rattle.world_base.specs.node_core.Core.{opening_core, rules}
use Rattle.std.specs.List.{filter}
use Rattle.headline.specs.node_group.Group.{opening_cores, replica_of}

pub set_mapped : {X Y : Type 0} (f : X → Y) (xs : List X) (n : ℕ) (x : X) → map f (slice_set xs n x) ≡ slice_set (map f xs) n (f x)
set_mapped f [] n x = refl
set_mapped f (y ∷ ys) zero x = refl
set_mapped f (y ∷ ys) (suc n) x = ap (λ l. f y ∷ l) (set_mapped f ys n x)

pub set_same : {X : Type 0} (xs : List X) (n : ℕ) (x : X) → slice_get xs n ≡ Some x → slice_set xs n x ≡ xs
set_same [] n x e = refl
set_same (y ∷ ys) zero x e = ap (λ z. z ∷ ys) (sym (same_Some y x e))
set_same (y ∷ ys) (suc n) x e = ap (λ l. y ∷ l) (set_same ys n x e)

pub get_mapped : {X Y : Type 0} (f : X → Y) (xs : List X) (n : ℕ) (x : X) → slice_get xs n ≡ Some x → slice_get (map f xs) n ≡ Some (f x)
get_mapped f [] n x e = absurd (none-some x e)
get_mapped f (y ∷ ys) zero x e = ap (λ z. Some (f z)) (same_Some y x e)
get_mapped f (y ∷ ys) (suc n) x e = get_mapped f ys n x e

pub set_twice : {X : Type 0} (xs : List X) (n : ℕ) (x y : X) → slice_set (slice_set xs n x) n y ≡ slice_set xs n y
set_twice [] n x y = refl
set_twice (z ∷ zs) zero x y = refl
set_twice (z ∷ zs) (suc n) x y = ap (λ l. z ∷ l) (set_twice zs n x y)

pub get_of_set : {X : Type 0} (xs : List X) (n : ℕ) (x y : X) → slice_get xs n ≡ Some x → slice_get (slice_set xs n y) n ≡ Some y
get_of_set [] n x y e = absurd (none-some x e)
get_of_set (z ∷ zs) zero x y e = refl
get_of_set (z ∷ zs) (suc n) x y e = get_of_set zs n x y e

map_joined : {X Y : Type 0} (f : X → Y) (xs ys : List X) → map f (xs ++ ys) ≡ map f xs ++ map f ys
map_joined f [] ys = refl
map_joined f (x ∷ xs) ys = ap (λ l. f x ∷ l) (map_joined f xs ys)

pub opened_replicas : (n : ℕ) (config : Config) → map replica_of (opening_cores n config) ≡ opening_nodes rules n config
opened_replicas zero config = refl
opened_replicas (suc n) config =
    map_joined replica_of (opening_cores n config) (opening_core (n + 1) config ∷ [])
    ∙ ap (λ l. l ++ opening rules (n + 1) config ∷ []) (opened_replicas n config)

-- the messages of a turn are those of what the replica gave
pub messages_kept : (effects : List (Effect Command Output)) → messages (filter is_message effects) ≡ messages effects
messages_kept [] = refl
messages_kept (To receiver message ∷ effects) = ap (λ l. (receiver, message) ∷ l) (messages_kept effects)
messages_kept (Out place output ∷ effects) = messages_kept effects
