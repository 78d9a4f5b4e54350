-- Runs.antt: events one after another, and the agreement after them.
use Rattle.std.proofs.Common.{◌≡◌, ℕ, ◌+◌, ◌-◌, ◌^◌, ◌<◌, ◌≤◌, ◌⊎◌, inl, inr, min, List, [], ◌∷◌, ◌++◌, length, map, take, get_or, refl, ap, sym, ◌∙◌, subst, append_assoc, arith}
use Rattle.std.proofs.lemmas.List.{take_more}
use Rattle.machine.specs.Machine.{Rules}
use Rattle.ballot_base.specs.declared.config.Config.{Config}
use Rattle.ballot_base.specs.Losses.{one_more}
use Rattle.lists.specs.Lists.{IsPrefixOf}
use Rattle.lists.proofs.Prefixes.{prefix_then}
use Rattle.agreement.specs.cut_logs.Moments.{Moment, Moments, whole_moment}
use Rattle.agreement.specs.Moments.{IsAgreed, IsChosen, WasActive}
use Rattle.agreement.specs.Moments.{Moment as WholeMoment}
use Rattle.agreement.specs.cut_logs.Moments.Moments.{went_on}
use Rattle.agreement.proofs.of_cut_logs.MomentsAgree.{agreed_grows, has_agreed, nodes_agree}
use Rattle.master.specs.declared.event.Event.{Event}
use Rattle.master.specs.Group.{GroupState}
use Rattle.master.specs.Exact.{group_step, group_run}
use Rattle.master.specs.Steps.{GroupEventLosing, GroupTraceOrLost, GroupEventOrLost, GroupLosesNothing}
use Rattle.master.specs.Steps.GroupTraceOrLost.{ends, goes_on}
use Rattle.master.specs.Agreement.{AgreesAfter}
use Rattle.master.proofs.Counting.{steps_exactly}
use Rattle.master.proofs.Happening.{step_may}

-- what is seen of a group after some events
pub record Ran {S C O : Type 0} (rules : Rules S C O) (old : GroupState S C O) (events : List (Event C)) (new : GroupState S C O) : Type 0 where
  pub ran : GroupTraceOrLost rules old events new
  pub counts : old.losses ≤ 2 ^ 64 - 1 → (old.losses ≤ new.losses) × (new.losses ≤ 2 ^ 64 - 1)
  pub exact : GroupLosesNothing old new → new.moment ≡ group_run rules events old.moment

-- one event more
run_more : {S C O : Type 0} {rules : Rules S C O} {w v u : GroupState S C O} {events : List (Event C)} {e : Event C} →
    GroupTraceOrLost rules w events v → GroupEventOrLost rules v e u → GroupTraceOrLost rules w (events ++ e ∷ []) u
run_more ends s = goes_on s ends
run_more (goes_on t r) s = goes_on t (run_more r s)

group_run-more : {S C O : Type 0} (rules : Rules S C O) (events : List (Event C)) (e : Event C) (w : Moment S C O) →
    group_run rules (events ++ e ∷ []) w ≡ group_step rules e (group_run rules events w)
group_run-more rules [] e w = refl
group_run-more rules (x ∷ events) e w = group_run-more rules events e (group_step rules x w)

counted : {S C O : Type 0} (rules : Rules S C O) (old new : GroupState S C O) (e : Event C) → GroupEventOrLost rules old e new →
    (new.losses ≡ old.losses) ⊎ (new.losses ≡ one_more old.losses)
counted {S = S} {C = C} {O = O} rules old new e s = by_way s.way
  where
    by_way : ((new.moment ≡ group_step rules e old.moment) × (new.losses ≡ old.losses))
        ⊎ (GroupEventLosing rules old.moment e new.moment × (new.losses ≡ one_more old.losses)) → (new.losses ≡ old.losses) ⊎ (new.losses ≡ one_more old.losses)
    by_way (inl (a, b)) = inl b
    by_way (inr (a, b)) = inr b

pub ran_none : {S C O : Type 0} (rules : Rules S C O) (old : GroupState S C O) → Ran rules old [] old
ran_none rules old =
    record { ran = ends; counts = λ below. (omega arith, below); exact = λ h. refl }

-- the next of a list of events
pub ran_next : {S C O : Type 0} (rules : Rules S C O) (old now new : GroupState S C O) (events : List (Event C)) (i : ℕ) (e : Event C) → i < length events →
    e ≡ get_or events i e → Ran rules old (take i events) now → GroupEventOrLost rules now e new → Ran rules old (take (i + 1) events) new
ran_next {S = S} {C = C} rules old now new events i e below read r s =
    subst (λ (es : List (Event C)). Ran rules old es new)
    (sym (take_more events i e below ∙ ap (λ (x : Event C). take i events ++ x ∷ []) (sym read)))
    (record {
      ran = run_more r.ran s;
      counts = λ few. counts (r.counts few) (counted rules now new e s);
      exact = λ h. exact h (r.counts (let a = h.1 in omega (arith, a))) (counted rules now new e s);
    })
  where
    counts : (old.losses ≤ now.losses) × (now.losses ≤ 2 ^ 64 - 1) → (new.losses ≡ now.losses) ⊎ (new.losses ≡ one_more now.losses) →
        (old.losses ≤ new.losses) × (new.losses ≤ 2 ^ 64 - 1)
    counts (a, b) (inl f) = (omega (arith, a, f), omega (arith, b, f))
    counts (a, b) (inr f) = let g : new.losses ≡ min (now.losses + 1) (2 ^ 64 - 1) = f in (omega (arith, a, b, g), omega (arith, g))

    exact : GroupLosesNothing old new → (old.losses ≤ now.losses) × (now.losses ≤ 2 ^ 64 - 1) →
        (new.losses ≡ now.losses) ⊎ (new.losses ≡ one_more now.losses) → new.moment ≡ group_run rules (take i events ++ e ∷ []) old.moment
    exact (same, few) (a, b) (inl f) =
        let g : now.losses ≡ old.losses = sym f ∙ same in
        steps_exactly rules now new e s (f, omega (arith, g, few)) ∙ ap (group_step rules e) (r.exact (g, few))
        ∙ sym (group_run-more rules (take i events) e old.moment)
    exact (same, few) (a, b) (inr f) =
        let g : new.losses ≡ min (now.losses + 1) (2 ^ 64 - 1) = f in absurd (omega (arith, same, few, a, b, g))

-- the moments that a run leaves, in which what was agreed begins what is agreed
pub record Went {S C O : Type 0} (rules : Rules S C O) (config : Config) (moments : List (Moment S C O)) (a : Moment S C O) : Type 0 where
  pub earlier : List (Moment S C O)
  pub between : List (Moment S C O)
  pub goes_on : a ∷ earlier ≡ between ++ moments
  pub came : Moments rules config (a ∷ earlier)
  pub grown : (xs ys : List C) → IsAgreed config (map whole_moment moments) xs → IsAgreed config (map whole_moment (a ∷ earlier)) ys → IsPrefixOf xs ys

-- the agreed list is the longest, so there is one
one_agreed : {S C O : Type 0} (config : Config) (moments : List (WholeMoment S C O)) (xs ys : List C) → IsAgreed config moments xs → IsAgreed config moments ys → IsPrefixOf xs ys
one_agreed {S = S} {C = C} {O = O} config moments xs ys x y = by_chosen x.chosen
  where
    by_chosen : (xs ≡ []) ⊎ ((b : ℕ) × WasActive moments b × IsChosen config moments b xs) → IsPrefixOf xs ys
    by_chosen (inl none) = subst (λ (us : List C). IsPrefixOf us ys) (sym none) (record { rest = ys; is = refl })
    by_chosen (inr (b, active, chosen)) = y.longest b xs active chosen

went : {S C O : Type 0} (rules : Rules S C O) (config : Config) (w v : GroupState S C O) (moments : List (Moment S C O)) (events : List (Event C)) →
    Moments rules config (w.moment ∷ moments) → GroupTraceOrLost rules w events v → Went rules config (w.moment ∷ moments) v.moment
went rules config w v moments events came ends =
    record { earlier = moments; between = []; goes_on = refl; came = came; grown = λ xs ys before after. one_agreed config (map whole_moment (w.moment ∷ moments)) xs ys before after }
went {S = S} {C = C} {O = O} rules config w v moments events came (goes_on {next = u} {event = e} {events = rest} s r) =
    let now : Moments rules config (u.moment ∷ (w.moment ∷ moments)) = went_on came (step_may rules w u e s) in
    let q = went rules config u v (w.moment ∷ moments) rest now r in
    let mid = has_agreed rules config u.moment (w.moment ∷ moments) now in
    record {
      earlier = q.earlier;
      between = q.between ++ u.moment ∷ [];
      goes_on = q.goes_on ∙ sym (append_assoc q.between (u.moment ∷ []) (w.moment ∷ moments));
      came = q.came;
      grown = λ xs ys before after. prefix_then (agreed_grows rules config u.moment (w.moment ∷ moments) xs mid.0 before mid.1) (q.grown mid.0 ys mid.1 after);
    }

-- so the nodes agree after a run
pub agrees_after : {S C O : Type 0} (rules : Rules S C O) (config : Config) (first last : GroupState S C O) (moments : List (Moment S C O)) (events : List (Event C)) →
    Moments rules config (first.moment ∷ moments) → GroupTraceOrLost rules first events last → AgreesAfter rules config (first.moment ∷ moments) last.moment
agrees_after {S = S} {C = C} rules config first last moments events came r =
    let q = went rules config first last moments events came r in
    let xs = has_agreed rules config last.moment q.earlier q.came in
    let z = nodes_agree rules config last.moment q.earlier xs.0 q.came xs.1 in
    record {
      earlier = q.earlier;
      between = q.between;
      goes_on = q.goes_on;
      came = q.came;
      list = xs.0;
      agreed = xs.1;
      agrees = z.0;
      holds = z.1;
      leaves = z.2;
      recorded = z.3;
      only_grown = λ ys before. q.grown ys xs.0 before xs.1;
    }

-- and after one event
pub agrees_next : {S C O : Type 0} (rules : Rules S C O) (config : Config) (first last : GroupState S C O) (moments : List (Moment S C O)) (event : Event C) →
    Moments rules config (first.moment ∷ moments) → GroupEventOrLost rules first event last → AgreesAfter rules config (first.moment ∷ moments) last.moment
agrees_next rules config first last moments event came s = agrees_after rules config first last moments (event ∷ []) came (goes_on s ends)
