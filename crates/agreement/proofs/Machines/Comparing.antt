-- Comparing.antt: of what two nodes applied one begins the other, and what a node applied stays in its log.
use Rattle.std.proofs.Common.{◌≡◌, ℕ, ◌<◌, ◌≤◌, ◌⊎◌, inl, inr, List, [], ◌∷◌, length, take, Some, refl, ap, sym, ◌∙◌, subst, arith}
use Rattle.std.specs.Prelude.{slice_get}
use Rattle.std.proofs.lemmas.Bool.{cases_lt}
use Rattle.std.proofs.lemmas.List.{length-take-le}
use Rattle.machine.specs.Machine.{Rules}
use Rattle.agreement.specs.whole_logs.Replica.{ReplicaState}
use Rattle.agreement.specs.World.{GroupWorld}
use Rattle.lists.specs.Lists.{In, IsPrefixOf}
use Rattle.agreement.specs.Inside.Ballots.{Line, History, IsChosenIn}
use Rattle.agreement.specs.Inside.BallotsStand.{Applied}
use Rattle.agreement.specs.Inside.BallotsStand.Applied.{nothing, in_ballot}
use Rattle.agreement.specs.Inside.Keeps.{NodeGoesOn}
use Rattle.agreement.specs.Inside.Sound.{IsSoundWorld}
use Rattle.lists.proofs.Prefixes.{prefix_then, prefix_either, prefix_take, take_prefix}
use Rattle.agreement.proofs.Frame.Framing.{within_of}
use Rattle.agreement.proofs.Changing.InstallHeard.{same_front}
use Rattle.agreement.proofs.Frame.Later.{applied_kept}
use Rattle.agreement.proofs.Frame.Bases.{one_line}
use Rattle.agreement.proofs.Frame.Taking.{activated_base}

-- of two lists that are chosen in activated ballots one begins the other
pub chosen_either : {S C O : Type 0} (rules : Rules S C O) (w : GroupWorld S C O) (h : History C) (b d k j : ℕ) (l m : Line C) → IsSoundWorld rules w h →
    In b h.activated → In d h.activated → h.line b ≡ Some l → h.line d ≡ Some m → IsChosenIn w h b k → IsChosenIn w h d j →
    IsPrefixOf (take k l.list) (take j m.list) ⊎ IsPrefixOf (take j m.list) (take k l.list)
chosen_either {S = S} {C = C} rules w h b d k j l m s x y e f c g = by_order (cases_lt b d) (cases_lt d b)
  where
    by_order : (b < d) ⊎ (d ≤ b) → (d < b) ⊎ (b ≤ d) → IsPrefixOf (take k l.list) (take j m.list) ⊎ IsPrefixOf (take j m.list) (take k l.list)
    by_order (inl less) other =
        prefix_either (take k l.list) (take j m.list) m.list
        (prefix_then (activated_base w h s.ballots s.lines b d k x y less c l m e f) (s.lines.prefix d m f)) (prefix_take j m.list)
    by_order (inr high) (inl more) =
        prefix_either (take k l.list) (take j m.list) l.list (prefix_take k l.list)
        (prefix_then (activated_base w h s.ballots s.lines d b j y x more g m l f e) (s.lines.prefix b l e))
    by_order (inr high) (inr low) =
        let same : b ≡ d = omega (arith, high, low) in
        let one : l ≡ m = one_line (h.line d) l m (ap h.line (sym same) ∙ e) f in
        prefix_either (take k l.list) (take j m.list) m.list
        (subst (λ (u : Line C). IsPrefixOf (take k l.list) u.list) one (prefix_take k l.list)) (prefix_take j m.list)

-- two prefixes of one list, the shorter first
pub front_of_longer : {X : Type 0} (xs ys zs : List X) → IsPrefixOf xs zs → IsPrefixOf ys zs → length xs ≤ length ys → IsPrefixOf xs ys
front_of_longer {X = X} xs ys zs p q short =
    subst (λ (us : List X). IsPrefixOf us ys) (sym (take_prefix (length xs) q short) ∙ sym (whole (length xs) xs zs p refl))
    (prefix_take (length xs) ys)
  where
    whole : (n : ℕ) (xs zs : List X) → IsPrefixOf xs zs → n ≡ length xs → xs ≡ take n zs
    whole n xs zs p e = sym (take_prefix n p (omega (arith, e)) ∙ ap (λ k. take k xs) e ∙ all_of xs)
      where
        all_of : (xs : List X) → take (length xs) xs ≡ xs
        all_of [] = refl
        all_of (x ∷ xs) = ap (λ us. x ∷ us) (all_of xs)

-- who applied no more than another has the same places
pub applied_same : {S C O : Type 0} (rules : Rules S C O) (w : GroupWorld S C O) (h : History C) (r q : ReplicaState S C) → IsSoundWorld rules w h →
    Applied w h r → Applied w h q → r.committed ≤ length r.log → q.committed ≤ length q.log → r.committed ≤ q.committed →
    IsPrefixOf (take r.committed r.log) (take q.committed q.log)
applied_same rules w h r q s (nothing e) y a b low =
    subst (λ k. IsPrefixOf (take k r.log) (take q.committed q.log)) (sym e) (record { rest = take q.committed q.log; is = refl })
applied_same rules w h r q s (in_ballot c k l i up e chosen front) (nothing f) a b low =
    let none : r.committed ≡ 0 = omega (arith, f, low) in
    subst (λ k. IsPrefixOf (take k r.log) (take q.committed q.log)) (sym none) (record { rest = take q.committed q.log; is = refl })
applied_same {S = S} {C = C} rules w h r q s (in_ballot c k l i up e chosen front) (in_ballot d j m x high f also begins) a b low =
    by_longer (chosen_either rules w h c d k j l m s i x e f chosen also)
  where
    short : length (take r.committed r.log) ≤ length (take q.committed q.log)
    short = let y = length-take-le r.committed r.log a in let z = length-take-le q.committed q.log b in omega (arith, y, z, low)

    by_longer : IsPrefixOf (take k l.list) (take j m.list) ⊎ IsPrefixOf (take j m.list) (take k l.list) →
        IsPrefixOf (take r.committed r.log) (take q.committed q.log)
    by_longer (inl p) =
        front_of_longer (take r.committed r.log) (take q.committed q.log) (take j m.list) (prefix_then front p) begins short
    by_longer (inr p) =
        front_of_longer (take r.committed r.log) (take q.committed q.log) (take k l.list) front (prefix_then begins p) short

-- what a node applied stays in its log after each of its moves, so its machine stays the replay of
-- its applied places
pub applied_stays : {S C O : Type 0} (rules : Rules S C O) (w v : GroupWorld S C O) (h : History C) (n : ℕ) (old new : ReplicaState S C)
    (adds : ℕ → C → Type 0) → IsSoundWorld rules w h → (g : NodeGoesOn rules w h adds v) → slice_get w.nodes n ≡ Some old →
    slice_get v.nodes n ≡ Some new → old.committed ≤ new.committed → take old.committed new.log ≡ take old.committed old.log
applied_stays {S = S} {C = C} rules w v h n old new adds s g stands after up =
    let t = s.nodes n old stands in let u = g.sound.nodes n new after in
    let x = applied_kept w v h g.history old g.extends g.active (within_of rules w h s) t.applied in
    let p = applied_same rules v g.history old new g.sound x u.applied t.within u.within up in
    same_front old.committed old.log new.log t.within (prefix_then p (prefix_take new.committed new.log))
