-- Premises.antt: what moments say about nodes that live: each can take the log of any member of the
-- active configuration, and that member can give it.
use Rattle.std.proofs.Common.{◌≡◌, ℕ, ◌+◌, ◌<◌, ◌≤◌, ◌⊎◌, inl, inr, false, List, ◌∷◌, length, Some, refl, sym, subst, arith}
use Rattle.std.specs.Prelude.{slice_get}
use Rattle.std.proofs.lemmas.List.{length-take-le}
use Rattle.machine.specs.Machine.{Rules}
use Rattle.lists.specs.Lists.{In}
use Rattle.lists.specs.Lists.In.{here}
use Rattle.lists.proofs.Prefixes.{prefix_length}
use Rattle.ballot_base.specs.declared.config.Config.{Config}
use Rattle.agreement.specs.whole_logs.Replica.{ReplicaState}
use Rattle.agreement.specs.Agreement.{Agrees}
use Rattle.agreement.specs.Moments.{Moment, Moments}
use Rattle.agreement.specs.Inside.Ballots.{Given, Line, IsChosenIn}
use Rattle.agreement.proofs.Agreed.MomentsAgree.{has_agreed, nodes_agree}
use Rattle.agreement.proofs.Agreed.MomentsAreKnown.{IsKnown}
use Rattle.agreement.proofs.Agreed.MomentsKnown.{moments_known}
use Rattle.agreement.proofs.Frame.Bases.{chosen_told}
use Rattle.recovery.specs.replicas.LedStates.{whole_log_of_node}
use Rattle.recovery.specs.replicas.Inside.{CanTake}
use Rattle.recovery.proofs.of_replicas.Fetching.{CanGive}

module _ {S C O : Type 0} (rules : Rules S C O) (config : Config) (a : Moment S C O) (moments : List (Moment S C O)) (came : Moments rules config (a ∷ moments)) where
  known : IsKnown rules config a moments
  known = moments_known rules config a moments came

  agrees : (xs : List C) × Agrees rules a.master a.world xs
  agrees = let z = has_agreed rules config a moments came in (z.0, (nodes_agree rules config a moments z.0 came z.1).0)

  -- no node has joined a ballot above those that were given
  joined_low : (n : ℕ) (r : ReplicaState S C) → slice_get a.world.nodes n ≡ Some r → r.joined ≤ a.master.given
  joined_low n r stands = by (known.serves.sound.nodes n r stands).joined_by
    where
      by : (r.joined ≡ 0) ⊎ ((g : Given) × (known.history.given r.joined ≡ Some g)
          × (In (n + 1) g.members ⊎ ((old : Given) × (known.history.given g.previous ≡ Some old) × In (n + 1) old.members))) → r.joined ≤ a.master.given
      by (inl e) = omega (arith, e)
      by (inr (g, e, _)) = (known.serves.master.numbered r.joined g e).1

  pub joined_below : (n : ℕ) (r : ReplicaState S C) → slice_get a.world.nodes n ≡ Some r → r.joined < a.master.given + 1
  joined_below n r stands = let z = joined_low n r stands in omega (arith, z)

  held_below : (n : ℕ) (r : ReplicaState S C) → slice_get a.world.nodes n ≡ Some r → r.held_in < a.master.given + 1
  held_below n r stands = let z = joined_low n r stands in let y = (known.serves.sound.nodes n r stands).placed.order in omega (arith, z, y)

  -- what a node applied is no longer than the log of a member of the active configuration
  applied_low : (n source : ℕ) (r rs : ReplicaState S C) → slice_get a.world.nodes n ≡ Some r → slice_get a.world.nodes source ≡ Some rs →
      In (source + 1) a.master.members → r.committed ≤ length (whole_log_of_node rs)
  applied_low n source r rs stands gives_stands member =
      let p = prefix_length (agrees.1.applied n r stands) in
      let q = prefix_length (agrees.1.held source rs gives_stands member) in
      let e = length-take-le r.committed r.log (known.serves.sound.nodes n r stands).within in
      omega (arith, p, q, e)

  -- each node that runs can take that log
  pub can_take : (n source : ℕ) (r rs : ReplicaState S C) → slice_get a.world.nodes n ≡ Some r → slice_get a.world.nodes source ≡ Some rs →
      In (source + 1) a.master.members → r.stopped ≡ false → CanTake (a.master.given + 1) (length (whole_log_of_node rs)) (n + 1) r
  can_take n source r rs stands gives_stands member runs =
      record {
        runs = runs;
        id = (known.serves.sound.nodes n r stands).id;
        joined = (let z = joined_low n r stands in omega (arith, z));
        held = held_below n r stands;
        applied = applied_low n source r rs stands gives_stands member;
      }

  -- a member of the active configuration holds its log in the active ballot or in a later one
  holds_active : (source : ℕ) (rs : ReplicaState S C) → slice_get a.world.nodes source ≡ Some rs → In (source + 1) a.master.members → a.master.active ≤ rs.held_in
  holds_active source rs stands member =
      by known.serves.master.active_members
      (known.serves.sound.lines.told a.master.active (subst (λ bs. In a.master.active bs) (sym known.serves.master.newest) here))
    where
      by : (g : Given) × (known.history.given a.master.active ≡ Some g) × (g.members ≡ a.master.members) →
          (l : Line C) × (known.history.line a.master.active ≡ Some l) × IsChosenIn a.world known.history a.master.active (length l.base) →
          a.master.active ≤ rs.held_in
      by (g, given, same) (l, lined, chosen) =
          (known.serves.sound.nodes source rs stands).placed.told a.master.active (length l.base)
          (chosen_told a.world known.history a.master.active (length l.base) g (source + 1) chosen given (subst (λ ms. In (source + 1) ms) (sym same) member))

  -- so it can give that log
  pub can_give : (source : ℕ) (rs : ReplicaState S C) → slice_get a.world.nodes source ≡ Some rs → In (source + 1) a.master.members → rs.stopped ≡ false →
      CanGive (a.master.given + 1) a.master.active (whole_log_of_node rs) (source + 1) rs
  can_give source rs stands member runs =
      record { can = can_take source source rs rs stands stands member runs; holds = holds_active source rs stands member; log_is = refl }
