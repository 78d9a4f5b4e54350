-- LawfulConfigs.antt: what a lawful configuration is: its members rise from above 0, and the primary is one of them.
use Rattle.std.proofs.Common.{◌≡◌, ℕ, ◌+◌, ◌-◌, ◌<◌, ◌⊎◌, inl, inr, true, List, [], ◌∷◌, length, sym, subst, arith}
use Rattle.std.specs.Prelude.{◌==◌, ◌&&◌, nat_le, nat_lt}
use Rattle.std.specs.List.{list_any}
use Rattle.std.proofs.lemmas.Bool.{and_parts, or_cases, eqb-true, ltb-true}
use Rattle.ballot_base.specs.LawfulConfig.{are_rising, is_lawful}
use Rattle.ballot_base.specs.declared.config.Config.{Config}
use Rattle.lists.specs.Lists.{In}
use Rattle.lists.specs.Lists.In.{here, there}

-- each member is above what comes before it
rising_above : (greatest last : ℕ) (members : List ℕ) (m : ℕ) → are_rising greatest last members ≡ true → In m members → last < m
rising_above greatest last [] m rising i = elim i [ ]
rising_above greatest last (x ∷ members) m rising here =
    let a = and_parts (nat_lt last m && nat_le m greatest) (are_rising greatest m members) rising in
    let b = and_parts (nat_lt last m) (nat_le m greatest) a.0 in ltb-true last m b.0
rising_above greatest last (x ∷ members) m rising (there i) =
    let a = and_parts (nat_lt last x && nat_le x greatest) (are_rising greatest x members) rising in
    let b = and_parts (nat_lt last x) (nat_le x greatest) a.0 in
    let c = ltb-true last x b.0 in let d = rising_above greatest x members m a.1 i in omega (arith, c, d)

-- a test that finds a number finds a member
pub any_in : (k : ℕ) (members : List ℕ) → list_any (λ member. member == k) members ≡ true → In k members
any_in k [] any = cc
any_in k (m ∷ members) any =
    by_first (any_in k members) (or_cases (m == k) (list_any (λ member. member == k) members) any)
  where
    by_first : (list_any (λ member. member == k) members ≡ true → In k members) →
        ((m == k) ≡ true) ⊎ (list_any (λ member. member == k) members ≡ true) → In k (m ∷ members)
    by_first f (inl e) = subst (λ x. In k (x ∷ members)) (sym (eqb-true m k e)) here
    by_first f (inr h) = there (f h)

-- what a lawful configuration gives
pub record Lawful (config : Config) (p : ℕ) : Type 0 where
  pub primary : config.primary ≡ p + 1
  pub member : list_any (λ member. member == config.primary) config.members ≡ true
  pub positive : (m : ℕ) → In m config.members → 0 < m

-- and it gives that
pub lawful_config : (greatest : ℕ) (config : Config) → is_lawful greatest config.members config.primary ≡ true → Lawful config (config.primary - 1)
lawful_config greatest config lawful =
    let a = and_parts (are_rising greatest 0 config.members)
    (nat_le 1 (length config.members) && (nat_le (length config.members) 7 && list_any (λ member. member == config.primary) config.members)) lawful in
    let b = and_parts (nat_le 1 (length config.members)) (nat_le (length config.members) 7 && list_any (λ member. member == config.primary) config.members) a.1 in
    let c = and_parts (nat_le (length config.members) 7) (list_any (λ member. member == config.primary) config.members) b.1 in
    let positive = rising_above greatest 0 config.members config.primary a.0 (any_in config.primary config.members c.1) in
    record {
      primary = omega (arith, positive);
      member = c.1;
      positive = λ m i. rising_above greatest 0 config.members m a.0 i;
    }
