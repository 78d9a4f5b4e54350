-- Holders.antt: members whose logs are long enough, by what is read of their replicas.
use Rattle.std.proofs.Common.{◌≡◌, ℕ, zero, suc, ◌-◌, ◌<◌, ◌≤◌, List, [], ◌∷◌, length, map, get_or, Option, ap, sym, ◌∙◌, subst, arith}
use Rattle.std.specs.Prelude.{slice_get}
use Rattle.lists.specs.Lists.{In}
use Rattle.ballot_base.specs.Replica.{CountedReplica, ReplicaState, status_of}
use Rattle.ballot_base.specs.declared.status.Status.{Status}
use Rattle.master.specs.Inside.{HoldsAt, IsShort}
use Rattle.master.proofs.Groups.{in_item}
use Rattle.master.proofs.StepsOfNodes.{stands_at}

-- a member whose log is long enough, by what was read of its replica, and members whose logs are not
pub holds_at : {S C : Type 0} (nodes : List (CountedReplica S C)) (members ms : List ℕ) (i at held : ℕ) (r : CountedReplica S C) (status : Status) → i < length ms →
    ms ≡ members → at ≡ get_or ms i 0 - 1 → at < length nodes → r ≡ get_or nodes at r → status ≡ status_of r.state → held ≤ status.held →
    HoldsAt (map (λ (z : CountedReplica S C). z.state) nodes) members held at
holds_at nodes members ms i at held r status below same place there read told long =
    record {
      member = get_or ms i 0;
      is_member = subst (λ us. In (get_or ms i 0) us) same (in_item {X = ℕ} ms i 0 below);
      index = place;
      replica = r.state;
      stands = stands_at nodes at r there read;
      long = (let e = ap (λ (s : Status). s.held) told in omega (arith, e, long));
    }

pub is_short : {S C : Type 0} (nodes : List (CountedReplica S C)) (n at held : ℕ) (r : CountedReplica S C) (status : Status) → at ≡ n → at < length nodes →
    r ≡ get_or nodes at r → status ≡ status_of r.state → status.held < held →
    IsShort (slice_get (map (λ (z : CountedReplica S C). z.state) nodes) n) held
is_short {S = S} {C = C} nodes n at held r status same there read told low =
    subst (λ (o : Option (ReplicaState S C)). IsShort o held)
    (sym (stands_at nodes at r there read) ∙ ap (slice_get (map (λ (z : CountedReplica S C). z.state) nodes)) same)
    (let e = ap (λ (s : Status). s.held) told in omega (arith, e, low))

pub is_unknown : {S C : Type 0} (nodes : List (CountedReplica S C)) (n at held : ℕ) → at ≡ n → length nodes ≤ at →
    IsShort (slice_get (map (λ (z : CountedReplica S C). z.state) nodes) n) held
is_unknown {S = S} {C = C} nodes n at held same past = beyond nodes n (omega (arith, same, past))
  where
    beyond : (us : List (CountedReplica S C)) (k : ℕ) → length us ≤ k → IsShort (slice_get (map (λ (z : CountedReplica S C). z.state) us) k) held
    beyond [] k past = tt
    beyond (u ∷ us) zero past = absurd (omega (arith, past))
    beyond (u ∷ us) (suc k) past = beyond us k (omega (arith, past))
