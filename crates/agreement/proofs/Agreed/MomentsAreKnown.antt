-- MomentsAreKnown.antt: what is known after some moments, and what is acknowledged at the last.
use Rattle.std.proofs.Common.{◌≡◌, ℕ, ◌+◌, ◌≤◌, ◌⊎◌, inl, inr, List, ◌∷◌, length, take, Some, refl, sym, ◌∙◌, subst, arith}
use Rattle.std.specs.Prelude.{slice_get}
use Rattle.std.proofs.lemmas.List.{length-take-le}
use Rattle.machine.specs.Machine.{Rules}
use Rattle.lists.specs.Lists.{In}
use Rattle.lists.specs.Lists.In.{here}
use Rattle.lists.proofs.Prefixes.{prefix_take}
use Rattle.ballot_base.specs.declared.config.Config.{Config}
use Rattle.agreement.specs.whole_logs.Replica.{ReplicaState}
use Rattle.agreement.specs.Inside.Ballots.{Given, History, Acknowledged, TellsHere}
use Rattle.agreement.specs.Inside.Extension.{Extends}
use Rattle.agreement.specs.Inside.Ballots.Acknowledged.{told_at_opening, told_by_held, told_by_installed, told_as_primary}
use Rattle.agreement.specs.Inside.Serves.{Serves}
use Rattle.agreement.specs.Inside.OpeningHistory.{first_ballot}
use Rattle.agreement.specs.Moments.{Moment, HasConfig, WasActive, HasAcknowledged, AcknowledgedLength}
use Rattle.agreement.specs.Moments.HasAcknowledged.{told_as_log, told_by_message}

-- what is known after some moments
pub record IsKnown {S C O : Type 0} (rules : Rules S C O) (config : Config) (a : Moment S C O) (moments : List (Moment S C O)) : Type 0 where
  pub history : History C
  pub serves : Serves rules a.master a.world history
  pub first : history.given 1 ≡ Some (first_ballot config)
  pub numbers : (x : ℕ) → In x config.members → (n : ℕ) × (x ≡ n + 1)
  -- the history of each moment, from which this one continues
  pub histories : (c : Moment S C O) → In c (a ∷ moments) → (g : History C) × Serves rules c.master c.world g
      × Extends c.world g a.world history × ((b : ℕ) → In b g.activated → In b history.activated)
  -- given ballots have configurations, activated ones were active, and what is acknowledged was
  -- acknowledged
  pub configs : (b : ℕ) (g : Given) → history.given b ≡ Some g →
      (c : Config) × HasConfig config (a ∷ moments) b c × (g.members ≡ c.members) × (g.primary ≡ c.primary)
  pub active : (b : ℕ) → In b history.activated → WasActive (a ∷ moments) b
  pub tells : (n b k : ℕ) → Acknowledged a.world history (n + 1) b k →
      (k ≡ 0) ⊎ ((xs : List C) × HasAcknowledged config (a ∷ moments) b n xs × (k ≤ length xs))

-- a length that a node acknowledged of the ballot in which it holds its log
acknowledged_length : {S C O : Type 0} (rules : Rules S C O) (config : Config) (a : Moment S C O) (moments : List (Moment S C O)) (h : History C)
    (n b k held : ℕ) (r : ReplicaState S C) → Serves rules a.master a.world h → slice_get a.world.nodes n ≡ Some r → b ≡ r.held_in →
    AcknowledgedLength a.world (n + 1) b held → Acknowledged a.world h (n + 1) b held → k ≤ held →
    (xs : List C) × HasAcknowledged config (a ∷ moments) b n xs × (k ≤ length xs)
acknowledged_length {S = S} {C = C} rules config a moments h n b k held r s stands own sent told below =
    let within : held ≤ length r.log = (s.sound.nodes n r stands).placed.acknowledged_here held (subst (λ x. Acknowledged a.world h (n + 1) x held) own told) in
    let long : length (take held r.log) ≡ held = length-take-le held r.log within in (
      take held r.log,
      told_by_message a r here stands (sym own) (subst (λ j. AcknowledgedLength a.world (n + 1) b j) (sym long) sent) (prefix_take held r.log),
      omega (arith, long, below),
    )

-- what is acknowledged now
pub told_now : {S C O : Type 0} (rules : Rules S C O) (config : Config) (a : Moment S C O) (moments : List (Moment S C O)) (h : History C)
    (n b k : ℕ) → Serves rules a.master a.world h →
    ((b : ℕ) (g : Given) → h.given b ≡ Some g →
    (c : Config) × HasConfig config (a ∷ moments) b c × (g.members ≡ c.members) × (g.primary ≡ c.primary)) →
    TellsHere a.world (n + 1) b k → Acknowledged a.world h (n + 1) b k →
    (k ≡ 0) ⊎ ((xs : List C) × HasAcknowledged config (a ∷ moments) b n xs × (k ≤ length xs))
told_now {S = S} {C = C} rules config a moments h n b k s configs t = by_told
  where
    stands : slice_get a.world.nodes n ≡ Some t.replica
    stands = let e = t.number in let same : t.node ≡ n = omega (arith, e) in subst (λ j. slice_get a.world.nodes j ≡ Some t.replica) same t.stands

    by_told : Acknowledged a.world h (n + 1) b k → (k ≡ 0) ⊎ ((xs : List C) × HasAcknowledged config (a ∷ moments) b n xs × (k ≤ length xs))
    by_told (told_at_opening g one nothing is member) = inl nothing
    by_told (told_by_held receiver held j below) =
        inr (acknowledged_length rules config a moments h n b k held t.replica s stands t.held (receiver, inl j) (told_by_held receiver held j (omega arith)) below)
    by_told (told_by_installed receiver held j below) =
        inr (acknowledged_length rules config a moments h n b k held t.replica s stands t.held (receiver, inr j) (told_by_installed receiver held j (omega arith)) below)
    by_told (told_as_primary g l is primary lined below) =
        let z = configs b g is in
        inr (t.replica.log, told_as_log a t.replica z.0 here stands (sym t.held) z.1 (sym z.3 ∙ primary) refl, t.short)
