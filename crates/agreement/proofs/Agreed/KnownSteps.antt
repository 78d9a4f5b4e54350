-- KnownSteps.antt: what is known continues after each step.
use Rattle.std.proofs.Common.{◌≡◌, ℕ, ◌+◌, ◌≤◌, ◌⊎◌, inl, inr, List, ◌∷◌, length, Some, sym, subst}
use Rattle.machine.specs.Machine.{Rules}
use Rattle.lists.specs.Lists.{In}
use Rattle.lists.specs.Lists.In.{here, there}
use Rattle.ballot_base.specs.declared.config.Config.{Config}
use Rattle.agreement.specs.Inside.Ballots.{Given, History, Acknowledged, TellsHere}
use Rattle.agreement.specs.Inside.Extension.{Extends}
use Rattle.agreement.specs.Inside.Serves.{Serves}
use Rattle.agreement.specs.Inside.OpeningHistory.{first_ballot}
use Rattle.agreement.specs.MasterState.{MasterState}
use Rattle.agreement.specs.Moments.{Moment, HasConfig, WasActive, HasAcknowledged}
use Rattle.agreement.specs.Moments.HasConfig.{was_assigned}
use Rattle.agreement.specs.Steps.{MayHappen}
use Rattle.agreement.specs.World.{GroupWorld}
use Rattle.agreement.proofs.Frame.Going.{goes_same, extends_then}
use Rattle.agreement.proofs.Agreed.MomentsGrow.{config_stays, active_stays, told_stays}
use Rattle.agreement.proofs.Runs.RunsGoOn.{StepGoesOn}
use Rattle.agreement.proofs.Runs.SendersStay.{senders_stay, led_then}
use Rattle.agreement.proofs.Runs.Serves.{serving_step}
use Rattle.agreement.proofs.Agreed.MomentsAreKnown.{IsKnown, told_now}

-- a group that serves continues serving
pub serves_then : {S C O : Type 0} (rules : Rules S C O) (m k : MasterState) (w v : GroupWorld S C O) (h : History C) (adds : List (ℕ × C)) →
    Serves rules m w h → (x : StepGoesOn rules w h k v adds) → MayHappen rules m w k v → Serves rules k v x.run.group.goes_on.history
serves_then rules m k w v h adds s x step =
    record {
      sound = x.run.group.goes_on.sound;
      master = x.run.group.master;
      replays = x.run.replays;
      serving = serving_step rules m w k v step s.serving;
      senders = senders_stay rules m w k v h s.sound step s.senders;
      led = led_then rules m w k v h x.run.group.goes_on.history s x.run.group.goes_on.extends step;
      begun = x.run.begun s.begun;
      long = x.run.long;
    }

-- a step of the group
pub known_step : {S C O : Type 0} (rules : Rules S C O) (config : Config) (a v : Moment S C O) (moments : List (Moment S C O)) →
    (adds : List (ℕ × C)) (q : IsKnown rules config a moments) → (x : StepGoesOn rules a.world q.history v.master v.world adds) →
    Serves rules v.master v.world x.run.group.goes_on.history → IsKnown rules config v (a ∷ moments)
known_step {S = S} {C = C} {O = O} rules config a v moments adds q x s =
    record {
      history = x.run.group.goes_on.history;
      serves = s;
      first = x.run.group.goes_on.extends.given 1 (first_ballot config) q.first;
      numbers = q.numbers;
      histories = λ c i. histories c i;
      configs = configs;
      active = λ b j. active b (x.activates b j);
      tells = λ n b k t. tells n b k t (x.tells (n + 1) b k t);
    }
  where
    h : History C
    h = x.run.group.goes_on.history

    histories : (c : Moment S C O) → In c (v ∷ a ∷ moments) → (g : History C) × Serves rules c.master c.world g
        × Extends c.world g v.world x.run.group.goes_on.history × ((b : ℕ) → In b g.activated → In b x.run.group.goes_on.history.activated)
    histories c here = (x.run.group.goes_on.history, s, (goes_same rules v.world x.run.group.goes_on.history s.sound).extends, λ b j. j)
    histories c (there i) =
        let z = q.histories c i in (
          z.0,
          z.1,
          extends_then c.world a.world v.world z.0 q.history x.run.group.goes_on.history z.2 x.run.group.goes_on.extends,
          λ b j. x.run.group.goes_on.active b (z.3 b j),
        )

    configs : (b : ℕ) (g : Given) → x.run.group.goes_on.history.given b ≡ Some g →
        (c : Config) × HasConfig config (v ∷ a ∷ moments) b c × (g.members ≡ c.members) × (g.primary ≡ c.primary)
    configs b g e = by_given (x.gives b g e)
      where
        by_given : (q.history.given b ≡ Some g) ⊎ ((c : Config) × (v.master.waiting ≡ Some (b, c)) × (g.members ≡ c.members) × (g.primary ≡ c.primary)) →
            (c : Config) × HasConfig config (v ∷ a ∷ moments) b c × (g.members ≡ c.members) × (g.primary ≡ c.primary)
        by_given (inl before) = let z = q.configs b g before in (z.0, config_stays config (a ∷ moments) v b z.0 z.1, z.2, z.3)
        by_given (inr (c, waits, members, primary)) = (c, was_assigned v here waits, members, primary)

    active : (b : ℕ) → In b q.history.activated ⊎ (v.master.active ≡ b) → WasActive (v ∷ a ∷ moments) b
    active b (inl j) = active_stays (a ∷ moments) v b (q.active b j)
    active b (inr e) = (v, here, e)

    tells : (n b k : ℕ) → Acknowledged v.world x.run.group.goes_on.history (n + 1) b k →
        Acknowledged a.world q.history (n + 1) b k ⊎ TellsHere v.world (n + 1) b k →
        (k ≡ 0) ⊎ ((xs : List C) × HasAcknowledged config (v ∷ a ∷ moments) b n xs × (k ≤ length xs))
    tells n b k t (inr now) = told_now rules config v (a ∷ moments) x.run.group.goes_on.history n b k s configs now t
    tells n b k t (inl before) = by_before (q.tells n b k before)
      where
        by_before : (k ≡ 0) ⊎ ((xs : List C) × HasAcknowledged config (a ∷ moments) b n xs × (k ≤ length xs)) →
            (k ≡ 0) ⊎ ((xs : List C) × HasAcknowledged config (v ∷ a ∷ moments) b n xs × (k ≤ length xs))
        by_before (inl nothing) = inl nothing
        by_before (inr (xs, has, short)) = inr (xs, told_stays config (a ∷ moments) v b n xs has, short)

-- a moment in which nothing changed
pub known_same : {S C O : Type 0} (rules : Rules S C O) (config : Config) (a v : Moment S C O) (moments : List (Moment S C O)) →
    (q : IsKnown rules config a moments) → v ≡ a → IsKnown rules config v (a ∷ moments)
known_same {S = S} {C = C} {O = O} rules config a v moments q same =
    subst (λ (u : Moment S C O). IsKnown rules config u (a ∷ moments)) (sym same)
    (record {
      history = q.history;
      serves = q.serves;
      first = q.first;
      numbers = q.numbers;
      histories = λ c i. histories c i;
      configs = λ b g e. let z = q.configs b g e in (z.0, config_stays config (a ∷ moments) a b z.0 z.1, z.2, z.3);
      active = λ b j. active_stays (a ∷ moments) a b (q.active b j);
      tells = λ n b k t. tells n b k (q.tells n b k t);
    })
  where
    histories : (c : Moment S C O) → In c (a ∷ a ∷ moments) → (g : History C) × Serves rules c.master c.world g
        × Extends c.world g a.world q.history × ((b : ℕ) → In b g.activated → In b q.history.activated)
    histories c here = q.histories a here
    histories c (there i) = q.histories c i

    tells : (n b k : ℕ) → (k ≡ 0) ⊎ ((xs : List C) × HasAcknowledged config (a ∷ moments) b n xs × (k ≤ length xs)) →
        (k ≡ 0) ⊎ ((xs : List C) × HasAcknowledged config (a ∷ a ∷ moments) b n xs × (k ≤ length xs))
    tells n b k (inl nothing) = inl nothing
    tells n b k (inr (xs, has, short)) = inr (xs, told_stays config (a ∷ moments) a b n xs has, short)
