-- MomentsKnown.antt: all moments are known.
use Rattle.std.proofs.Common.{◌≡◌, ℕ, ◌+◌, ◌⊎◌, inl, inr, true, List, [], ◌∷◌, refl, ap, sym, ◌∙◌, subst}
use Rattle.machine.specs.Machine.{Rules}
use Rattle.lists.specs.Lists.{In}
use Rattle.lists.specs.Lists.In.{here, there}
use Rattle.ballot_base.specs.declared.config.Config.{Config}
use Rattle.agreement.specs.Inside.Ballots.{Given, History}
use Rattle.agreement.specs.Inside.Extension.{Extends}
use Rattle.agreement.specs.Inside.MomentSteps.{adds_of, MomentStep}
use Rattle.agreement.specs.Inside.Serves.{Serves}
use Rattle.agreement.specs.Inside.OpeningHistory.{opening_history}
use Rattle.agreement.specs.Moments.{Learns, Moment, Moments, WasActive, opening_moment}
use Rattle.agreement.specs.Moments.Moments.{began, went_on, learned}
use Rattle.agreement.specs.Moments.HasConfig.{opened_with}
use Rattle.agreement.specs.Proposals.{proposal_of}
use Rattle.agreement.specs.World.{can_open}
use Rattle.agreement.proofs.Masters.Assigns.{can_open_is, lawful_is}
use Rattle.agreement.proofs.Frame.Framing.{within_of}
use Rattle.agreement.proofs.Frame.Going.{goes_same}
use Rattle.agreement.proofs.Frame.Later.{applied_kept}
use Rattle.agreement.proofs.Runs.Learning.{Teaches, learned_goes_on, learned_serves}
use Rattle.agreement.proofs.Runs.OpeningServes.{opening_is_serving}
use Rattle.agreement.proofs.Runs.OpeningTold.{first_given, told_opens}
use Rattle.agreement.proofs.Runs.RunsGoOn.{group_goes_on}
use Rattle.agreement.proofs.Runs.Serves.{one_step}
use Rattle.agreement.proofs.Agreed.MomentsAreKnown.{IsKnown}
use Rattle.agreement.proofs.Agreed.KnownSteps.{serves_then, known_step, known_same}

-- an opening
known_opening : {S C O : Type 0} (rules : Rules S C O) (config : Config) (greatest nodes : ℕ) → can_open greatest nodes config ≡ true →
    IsKnown rules config (opening_moment rules greatest nodes config) []
known_opening {S = S} {C = C} {O = O} rules config greatest nodes lawful =
    let z = opening_is_serving rules greatest nodes config lawful in
    let opens = lawful_is greatest config (can_open_is greatest nodes config lawful).0 in
    record {
      history = opening_history C config;
      serves = z;
      first = refl;
      numbers = opens.1;
      histories = λ c i. histories c i;
      configs = λ b g e. let y = first_given C config b g e in
          (config, opened_with y.0 refl, sym (ap (λ (u : Given). u.members) y.1), sym (ap (λ (u : Given). u.primary) y.1));
      active = λ b i. active b i;
      tells = λ n b k t. inl (told_opens rules nodes config opens.0 (n + 1) b k t).1;
    }
  where
    histories : (c : Moment S C O) → In c (opening_moment rules greatest nodes config ∷ []) → (g : History C) × Serves rules c.master c.world g
        × Extends c.world g (opening_moment rules greatest nodes config).world (opening_history C config)
        × ((b : ℕ) → In b g.activated → In b (opening_history C config).activated)
    histories c here =
        let z = opening_is_serving rules greatest nodes config lawful in
        (opening_history C config, z, (goes_same rules (opening_moment rules greatest nodes config).world (opening_history C config) z.sound).extends, λ b j. j)
    histories c (there i) = elim i [ ]

    active : (b : ℕ) → In b (1 ∷ []) → WasActive (opening_moment rules greatest nodes config ∷ []) b
    active b here = (opening_moment rules greatest nodes config, here, refl)
    active b (there i) = elim i [ ]

-- a node that learns
known_learned : {S C O : Type 0} (rules : Rules S C O) (config : Config) (a v : Moment S C O) (moments : List (Moment S C O)) →
    (q : IsKnown rules config a moments) → Learns rules (a ∷ moments) a v → IsKnown rules config v (a ∷ moments)
known_learned {S = S} {C = C} {O = O} rules config a v moments q y =
    let s = q.serves in
    let z = q.histories y.earlier y.was in
    let teaches : Teaches a.world q.history y.replica y.teacher y.places = record {
      applied = applied_kept y.earlier.world a.world z.0 q.history y.teacher z.2 z.3 (within_of rules y.earlier.world z.0 z.1.sound)
          (z.1.sound.nodes y.other y.teacher y.stood).applied;
      joined = y.joined;
      had = y.applied;
      same = y.same;
    } in
    let x = learned_goes_on rules a.master a.world q.history y.node y.replica y.teacher y.places s y.stands y.runs y.passive y.more y.within teaches in
    subst (λ (u : Moment S C O). IsKnown rules config u (a ∷ moments)) (sym y.becomes)
    (known_step rules config a _ moments [] q x (learned_serves rules a.master a.world q.history y.node y.replica y.places s y.stands x))

-- all moments are known
pub moments_known : {S C O : Type 0} (rules : Rules S C O) (config : Config) (a : Moment S C O) (moments : List (Moment S C O)) →
    Moments rules config (a ∷ moments) → IsKnown rules config a moments
moments_known {S = S} {C = C} {O = O} rules config a moments (began greatest nodes lawful is) =
    subst (λ (u : Moment S C O). IsKnown rules config u []) (sym is) (known_opening rules config greatest nodes lawful)
moments_known {S = S} {C = C} {O = O} rules config v (a ∷ moments) (went_on came step) =
    let q = moments_known rules config a moments came in
    by_step q (one_step rules a.master a.world v.master v.world step)
  where
    by_step : (q : IsKnown rules config a moments) → ((v.master ≡ a.master) × (v.world ≡ a.world))
        ⊎ ((g : MomentStep rules a.master a.world v.master v.world) × (adds_of g ≡ proposal_of step)) →
        IsKnown rules config v (a ∷ moments)
    by_step q (inl (same, still)) =
        known_same rules config a v moments q
        (ap (λ m. let u : Moment S C O = record { master = m; world = v.world } in u) same
        ∙ ap (λ w. let u : Moment S C O = record { master = a.master; world = w } in u) still)
    by_step q (inr (goes, taken)) =
        let s = q.serves in
        let x = group_goes_on rules a.master v.master a.world v.world q.history s.sound s.long s.replays s.master goes in
        known_step rules config a v moments (adds_of goes) q x (serves_then rules a.master v.master a.world v.world q.history (adds_of goes) s x step)
moments_known rules config v (a ∷ moments) (learned came learns) =
    known_learned rules config a v moments (moments_known rules config a moments came) learns
