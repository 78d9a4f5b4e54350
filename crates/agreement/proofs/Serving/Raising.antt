-- Raising.antt: progress that is raised is acknowledged.
use Rattle.std.proofs.Common.{◌≡◌, ℕ, ◌<◌, ◌≤◌, ◌⊎◌, inl, inr, cond, max, List, [], ◌∷◌, refl, ap, sym, subst, arith}
use Rattle.std.proofs.lemmas.Bool.{cases_eq, cases_lt, eq-eqb, ne_eqb}
use Rattle.ballot_base.specs.declared.status.Progress.{Progress}
use Rattle.ballot_base.specs.Service.{raised, raised_progress}
use Rattle.agreement.specs.World.{GroupWorld}
use Rattle.lists.specs.Lists.{In}
use Rattle.lists.specs.Lists.In.{here, there}
use Rattle.agreement.specs.Inside.Ballots.{History, Acknowledged}

-- progress that are raised
pub in_raised : (member held : ℕ) (progress : List Progress) (reached : Progress) → In reached (raised member held progress) →
    (before : Progress) × In before progress × (reached ≡ raised_progress member held before)
in_raised member held [] reached i = elim i [ ]
in_raised member held (m ∷ progress) reached here = (m, here, refl)
in_raised member held (m ∷ progress) reached (there i) =
    let q = in_raised member held progress reached i in (q.0, there q.1, q.2)

pub raised_in : (member held : ℕ) (progress : List Progress) (reached : Progress) → In reached progress →
    In (raised_progress member held reached) (raised member held progress)
raised_in member held [] reached i = elim i [ ]
raised_in member held (m ∷ progress) reached here = here
raised_in member held (m ∷ progress) reached (there i) = there (raised_in member held progress reached i)

-- a raised progress is no lower, and acknowledged
pub raised_told : {S C O : Type 0} (w : GroupWorld S C O) (h : History C) (from b held : ℕ) (before : Progress) → Acknowledged w h from b held →
    Acknowledged w h before.member b before.held →
    (before.held ≤ (raised_progress from held before).held) × Acknowledged w h before.member b (raised_progress from held before).held
raised_told {S = S} {C = C} {O = O} w h from b held before heard told = by_member (cases_eq before.member from)
  where
    greater : before.member ≡ from → (before.held < held) ⊎ (held ≤ before.held) → Acknowledged w h before.member b (max before.held held)
    greater same (inl less) =
        subst (λ k. Acknowledged w h before.member b k) (let e : held ≡ max before.held held = omega arith in e)
        (subst (λ m. Acknowledged w h m b held) (sym same) heard)
    greater same (inr more) =
        subst (λ k. Acknowledged w h before.member b k) (let e : before.held ≡ max before.held held = omega arith in e) told

    by_member : (before.member ≡ from) ⊎ (before.member ≡ from → ⊥) →
        (before.held ≤ (raised_progress from held before).held) × Acknowledged w h before.member b (raised_progress from held before).held
    by_member (inl same) =
        let e : (raised_progress from held before).held ≡ max before.held held =
        ap (λ b. (cond b (record before { held = max before.held held }) before).held) (eq-eqb before.member from same) in
        (omega (arith, e), subst (λ k. Acknowledged w h before.member b k) (sym e) (greater same (cases_lt before.held held)))
    by_member (inr other) =
        let e : (raised_progress from held before).held ≡ before.held =
        ap (λ b. (cond b (record before { held = max before.held held }) before).held) (ne_eqb before.member from other) in
        (omega (arith, e), subst (λ k. Acknowledged w h before.member b k) (sym e) told)
