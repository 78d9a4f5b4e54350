-- Assigned.antt: what is to be shown of the master after an Assign or an Activate.
use Rattle.std.proofs.Common.{◌≡◌, ℕ, ◌≤◌, ◌⊎◌, inl, inr, List, ◌∷◌, Some, Option, refl, ap, sym, ◌∙◌, arith}
use Rattle.std.proofs.lemmas.Bool.{cases_eq, eq-eqb, ne_eqb}
use Rattle.machine.specs.Machine.{Rules}
use Rattle.ballot_base.specs.declared.config.Config.{Config}
use Rattle.agreement.specs.World.{GroupWorld}
use Rattle.lists.specs.Lists.{In}
use Rattle.lists.specs.Lists.In.{here, there}
use Rattle.agreement.specs.Inside.Ballots.{Given, History}
use Rattle.agreement.specs.Inside.BallotsStand.{IsChain}
use Rattle.agreement.specs.Inside.Keeps.{HistoryGoesOn}
use Rattle.agreement.specs.MasterState.{MasterState, MasterOutcome}
use Rattle.agreement.specs.Inside.Masters.{IsMaster}
use Rattle.agreement.specs.Steps.{sends_from_master}
use Rattle.agreement.specs.Inside.MovesAt.{given_at}
use Rattle.agreement.proofs.Masters.MasterSends.{ToldBack}
use Rattle.agreement.proofs.Frame.Taking.{chain_falls}

-- the ballot that was given, and the others
pub given_here : (b : ℕ) (g : Given) (given : ℕ → Option Given) → given_at b g given b ≡ Some g
given_here b g given = rw (eq-eqb b b refl) refl

pub given_other : (b : ℕ) (g : Given) (given : ℕ → Option Given) (x : ℕ) → (x ≡ b → ⊥) → given_at b g given x ≡ given x
given_other b g given x ne = rw (ne_eqb x b ne) refl

pub given_cases : (b : ℕ) (g : Given) (given : ℕ → Option Given) (x : ℕ) (o : Given) → given_at b g given x ≡ Some o →
    ((x ≡ b) × (g ≡ o)) ⊎ (given x ≡ Some o)
given_cases b g given x o e = by_ballot (cases_eq x b)
  where
    by_ballot : (x ≡ b) ⊎ (x ≡ b → ⊥) → ((x ≡ b) × (g ≡ o)) ⊎ (given x ≡ Some o)
    by_ballot (inl same) =
        let f : given_at b g given x ≡ Some g = ap (given_at b g given) same ∙ given_here b g given in
        let z : g ≡ o = cc in inl (same, z)
    by_ballot (inr ne) = inr (sym (given_other b g given x ne) ∙ e)

-- activated ballots are at most the newest
pub at_most_newest : {C : Type 0} (h : History C) (b : ℕ) (older : List ℕ) → IsChain h (b ∷ older) → (c : ℕ) → In c (b ∷ older) → c ≤ b
at_most_newest h b older chain c here = omega arith
at_most_newest h b older chain c (there i) = let z = chain_falls h b older chain c i in omega (arith, z)

-- a ballot was given before, or waits now with this configuration
abbrev pub GivenNow : {C : Type 0} → History C → MasterState → History C → Type 0
GivenNow h k i =
    (b : ℕ) (g : Given) → i.given b ≡ Some g →
    (h.given b ≡ Some g) ⊎ ((config : Config) × (k.waiting ≡ Some (b, config)) × (g.members ≡ config.members) × (g.primary ≡ config.primary))

-- a ballot was activated before, or is the active one now
abbrev pub ActivatedNow : {C : Type 0} → History C → MasterState → History C → Type 0
ActivatedNow h k i = (b : ℕ) → In b i.activated → In b h.activated ⊎ (k.active ≡ b)

-- the master has given a ballot, and sends it to its primary
pub record Assigned {S C O : Type 0} (rules : Rules S C O) (m : MasterState) (w : GroupWorld S C O) (h : History C) (o : MasterOutcome C) : Type 0 where
  pub goes_on : HistoryGoesOn rules w h (sends_from_master w o)
  pub master : IsMaster o.state goes_on.history
  -- no list of a ballot changes
  pub lists : goes_on.history.line ≡ h.line
  -- and the same if its message is lost
  pub lost : HistoryGoesOn rules w h w
  pub lost_master : IsMaster o.state lost.history
  pub lost_lists : lost.history.line ≡ h.line
  -- nothing more is acknowledged, and what is given or activated again is in the master's fields
  pub told : ToldBack w h (sends_from_master w o) goes_on.history
  pub gives : GivenNow h o.state goes_on.history
  pub activates : ActivatedNow h o.state goes_on.history
  pub lost_told : ToldBack w h w lost.history
  pub lost_gives : GivenNow h o.state lost.history
  pub lost_activates : ActivatedNow h o.state lost.history
