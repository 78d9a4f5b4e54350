-- Assigns.antt: an Assign that is not refused is one that may happen, and members that the master has keep numbers of nodes.
use Rattle.std.proofs.Common.{◌≡◌, ℕ, zero, suc, ◌+◌, ◌<◌, ◌≤◌, ◌⊎◌, inl, inr, Bool, true, false, cond, List, [], ◌∷◌, Some, None, Option, refl, ap, sym, ◌∙◌, subst, arith}
use Rattle.std.specs.Prelude.{nat_le, ◌&&◌, ◌==◌}
use Rattle.std.specs.List.{list_all}
use Rattle.std.proofs.lemmas.Bool.{and_parts, cases_Bool, eqb-true, leb-true, leb-false}
use Rattle.ballot_base.specs.LawfulConfig.{is_lawful}
use Rattle.ballot_base.specs.declared.config.Config.{Config}
use Rattle.agreement.specs.World.{can_open}
use Rattle.lists.specs.Lists.{In}
use Rattle.lists.specs.Lists.In.{here, there}
use Rattle.agreement.specs.MasterState.{AssignRefusal, refusal, master_after, MasterState, activated}
use Rattle.machine.specs.Ballots.{max_ballot}
use Rattle.agreement.specs.Inside.Masters.{AreNodes, IsServing}
use Rattle.agreement.specs.MasterState.AssignRefusal.{bad_members, ballots_spent}
use Rattle.agreement.proofs.LawfulConfigs.{lawful_config, any_in}

-- what holds for all holds for each
all_in : (nodes : ℕ) (members : List ℕ) (m : ℕ) → list_all (λ member. nat_le member nodes) members ≡ true → In m members → m ≤ nodes
all_in nodes [] m all i = elim i [ ]
all_in nodes (x ∷ members) m all here = leb-true m nodes (and_parts (nat_le m nodes) (list_all (λ member. nat_le member nodes) members) all).0
all_in nodes (x ∷ members) m all (there i) =
    all_in nodes members m (and_parts (nat_le x nodes) (list_all (λ member. nat_le member nodes) members) all).1 i

-- a lawful configuration: its primary is a member, and its members have numbers of nodes
pub lawful_is : (greatest : ℕ) (config : Config) → is_lawful greatest config.members config.primary ≡ true →
    In config.primary config.members × AreNodes config.members
lawful_is greatest config e =
    let l = lawful_config greatest config e in
    (any_in config.primary config.members l.member, λ x i. by_number x (l.positive x i))
  where
    by_number : (x : ℕ) → 0 < x → (n : ℕ) × (x ≡ n + 1)
    by_number zero p = absurd (omega (arith, p))
    by_number (suc n) p = (n, omega arith)

-- a configuration that a group may open with is lawful, and its members are nodes that there are
pub can_open_is : (greatest nodes : ℕ) (config : Config) → can_open greatest nodes config ≡ true →
    (is_lawful greatest config.members config.primary ≡ true) × ((x : ℕ) → In x config.members → x ≤ nodes)
can_open_is greatest nodes config e =
    let a = and_parts (nat_le nodes greatest) (is_lawful greatest config.members config.primary && list_all (λ member. nat_le member nodes) config.members) e in
    let b = and_parts (is_lawful greatest config.members config.primary) (list_all (λ member. nat_le member nodes) config.members) a.1 in
    (b.0, λ x i. all_in nodes config.members x b.1 i)

-- what is not refused may be, and is not the last ballot
pub not_refused : (m : MasterState) (config : Config) → refusal m config ≡ None →
    (is_lawful m.greatest config.members config.primary ≡ true) × (m.given < max_ballot)
not_refused m config e = by_members (is_lawful m.greatest config.members config.primary) refl e
  where
    by_count : (b : Bool) → nat_le max_ballot m.given ≡ b → cond b (Some ballots_spent) None ≡ None → m.given < max_ballot
    by_count true f g = cc
    by_count false f g = let z = leb-false max_ballot m.given f in omega (arith, z)

    by_members : (b : Bool) → is_lawful m.greatest config.members config.primary ≡ b →
        cond b (cond (nat_le max_ballot m.given) (Some ballots_spent) None) (Some bad_members) ≡ None →
        (is_lawful m.greatest config.members config.primary ≡ true) × (m.given < max_ballot)
    by_members true f g = (f, by_count (nat_le max_ballot m.given) refl g)
    by_members false f g = cc

-- an Assign keeps what the master has
pub serving_assigned : (m : MasterState) (config : Config) (o : Option AssignRefusal) → refusal m config ≡ o →
    IsServing m → IsServing (master_after m config o)
serving_assigned m config (Some why) e s = s
serving_assigned m config None e s =
    let z = not_refused m config e in
    record { waiting = λ b c f. waits b c f; given = (let y = z.1 in omega (arith, y)) }
  where
    waits : (b : ℕ) (c : Config) → ◌≡◌ {A = Option (ℕ × Config)} (Some (m.given + 1, config)) (Some (b, c)) → AreNodes c.members
    waits b c f =
        let both : ◌≡◌ {A = ℕ × Config} (m.given + 1, config) (b, c) = cc in
        subst (λ (y : Config). AreNodes y.members) (ap (λ (y : ℕ × Config). y.1) both)
        (lawful_is m.greatest config (not_refused m config e).0).1

-- and so does an Activate
pub serving_activated : (C : Type 0) (m : MasterState) (b from : ℕ) (waiting : Option (ℕ × Config)) → m.waiting ≡ waiting →
    IsServing m → IsServing (activated C m b from waiting).state
serving_activated C m b from None e s = s
serving_activated C m b from (Some (x, config)) e s = by_ballot (cases_Bool (b == x))
  where
    by_ballot : ((b == x) ≡ true) ⊎ ((b == x) ≡ false) → IsServing (activated C m b from (Some (x, config))).state
    by_ballot (inl f) = rw f (record { waiting = λ c k g. cc; given = s.given })
    by_ballot (inr f) = rw f s

-- the active ballot stays, or it is the one that waited, of which an Activate came
pub active_or_waiting : (C : Type 0) (m : MasterState) (b from : ℕ) (waiting : Option (ℕ × Config)) → m.waiting ≡ waiting →
    ((activated C m b from waiting).state.active ≡ m.active)
    ⊎ (((activated C m b from waiting).state.active ≡ b) × ((config : Config) × (m.waiting ≡ Some (b, config))))
active_or_waiting C m b from None e = inl refl
active_or_waiting C m b from (Some (x, config)) e = by_ballot (cases_Bool (b == x))
  where
    by_ballot : ((b == x) ≡ true) ⊎ ((b == x) ≡ false) →
        ((activated C m b from (Some (x, config))).state.active ≡ m.active)
        ⊎ (((activated C m b from (Some (x, config))).state.active ≡ b) × ((config : Config) × (m.waiting ≡ Some (b, config))))
    by_ballot (inl f) = inr (rw f refl, (config, e ∙ ap (λ y. Some (y, config)) (sym (eqb-true b x f))))
    by_ballot (inr f) = inl (rw f refl)
