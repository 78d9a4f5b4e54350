-- OpeningTold.antt: at the opening ballot 1 alone is given, and nothing is acknowledged.
use Rattle.std.proofs.Common.{◌≡◌, ℕ, Bool, true, false, cond, List, [], ◌∷◌, length, Some, None, refl, ap, sym, ◌∙◌, subst, arith}
use Rattle.std.specs.Prelude.{◌==◌, ◌||◌}
use Rattle.std.specs.List.{list_any}
use Rattle.std.proofs.lemmas.Bool.{eqb-true, eq-eqb}
use Rattle.machine.specs.Machine.{Rules}
use Rattle.ballot_base.specs.declared.config.Config.{Config}
use Rattle.agreement.specs.World.{opening_world}
use Rattle.lists.specs.Lists.{In}
use Rattle.lists.specs.Lists.In.{here, there}
use Rattle.agreement.specs.Inside.Ballots.{Given, Line, Acknowledged}
use Rattle.agreement.specs.Inside.Ballots.Acknowledged.{told_at_opening, told_by_held, told_by_installed, told_as_primary}
use Rattle.agreement.specs.Inside.OpeningHistory.{first_ballot, first_line, opening_history}

-- a member is found
pub in_any : (k : ℕ) (ms : List ℕ) → In k ms → list_any (λ member. member == k) ms ≡ true
in_any k [] i = elim i [ ]
in_any k (m ∷ ms) here = rw (eq-eqb k k refl) refl
in_any k (m ∷ ms) (there i) = rw (in_any k ms i) (or_true (m == k))
  where
    or_true : (b : Bool) → (b || true) ≡ true
    or_true true = refl
    or_true false = refl

-- ballot 1 is the only one
pub first_given : (C : Type 0) (config : Config) (b : ℕ) (g : Given) → (opening_history C config).given b ≡ Some g →
    (b ≡ 1) × (first_ballot config ≡ g)
first_given C config b g e = by_ballot (b == 1) refl e
  where
    by_ballot : (t : Bool) → (b == 1) ≡ t → cond t (Some (first_ballot config)) None ≡ Some g → (b ≡ 1) × (first_ballot config ≡ g)
    by_ballot true f e = (eqb-true b 1 f, (let same : first_ballot config ≡ g = cc in same))
    by_ballot false f e = cc

pub first_lined : (C : Type 0) (config : Config) (b : ℕ) (l : Line C) → (opening_history C config).line b ≡ Some l →
    (b ≡ 1) × (first_line C ≡ l)
first_lined C config b l e = by_ballot (b == 1) refl e
  where
    by_ballot : (t : Bool) → (b == 1) ≡ t → cond t (Some (first_line C)) None ≡ Some l → (b ≡ 1) × (first_line C ≡ l)
    by_ballot true f e = (eqb-true b 1 f, (let same : first_line C ≡ l = cc in same))
    by_ballot false f e = cc

-- the members have acknowledged nothing of ballot 1, and no more is acknowledged
pub told_opens : {S C O : Type 0} (rules : Rules S C O) (nodes : ℕ) (config : Config) → In config.primary config.members → (m b k : ℕ) →
    Acknowledged (opening_world rules nodes config) (opening_history C config) m b k → (b ≡ 1) × (k ≡ 0) × In m config.members
told_opens {C = C} rules nodes config led m b k (told_at_opening g one none is member) =
    (one, none, subst (λ (x : Given). In m x.members) (sym (first_given C config 1 g is).1) member)
told_opens {C = C} rules nodes config led m b k (told_by_held receiver held j below) = elim j [ ]
told_opens {C = C} rules nodes config led m b k (told_by_installed receiver held j below) = elim j [ ]
told_opens {C = C} rules nodes config led m b k (told_as_primary g l is primary lined below) =
    let y = first_given C config b g is in let z = first_lined C config b l lined in
    let short = ap (λ (u : Line C). length u.list) z.1 in
    let p = ap (λ (u : Given). u.primary) y.1 in
    (y.0, omega (arith, below, short), subst (λ x. In x config.members) (p ∙ primary) led)
