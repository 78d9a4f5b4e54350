-- MomentsAgree.antt: the nodes agree on the list that is agreed by the moments.
use Rattle.std.proofs.Common.{◌≡◌, ℕ, ◌⊎◌, inl, inr, List, [], ◌∷◌, refl, sym, subst}
use Rattle.machine.specs.Machine.{Rules}
use Rattle.lists.specs.Lists.{IsPrefixOf}
use Rattle.ballot_base.specs.declared.config.Config.{Config}
use Rattle.agreement.specs.Inside.Chosen.{ChosenList, IsAgreedIn}
use Rattle.agreement.specs.Theorems.{HasAgreed, NodesAgree, MachinesReplay}
use Rattle.agreement.specs.Moments.{Moment, WasActive, IsChosen, IsAgreed}
use Rattle.agreement.proofs.Agreed.AgreedExists.{agreed_exists}
use Rattle.agreement.proofs.Agreed.Agreeing.{sound_agrees, sound_leaves}
use Rattle.agreement.proofs.Agreed.MomentsAreKnown.{IsKnown}
use Rattle.agreement.proofs.Agreed.MomentsKnown.{moments_known}
use Rattle.agreement.proofs.Runs.Serves.{serves_held}
use Rattle.agreement.proofs.Agreed.MomentsChosen.{chosen_known, chosen_back}

-- what is agreed by the moments is agreed by the history
pub agreed_known : {S C O : Type 0} (rules : Rules S C O) (config : Config) (a : Moment S C O) (moments : List (Moment S C O)) →
    (q : IsKnown rules config a moments) → (xs : List C) → IsAgreed config (a ∷ moments) xs → IsAgreedIn a.world q.history xs
agreed_known {S = S} {C = C} {O = O} rules config a moments q xs agreed =
    record { chosen = by_chosen agreed.chosen; longest = λ ys c. by_back ys (chosen_back rules config a moments q ys c) }
  where
    by_chosen : (xs ≡ []) ⊎ ((b : ℕ) × WasActive (a ∷ moments) b × IsChosen config (a ∷ moments) b xs) → (xs ≡ []) ⊎ ChosenList a.world q.history xs
    by_chosen (inl none) = inl none
    by_chosen (inr (b, active, chosen)) = inr (chosen_known rules config a moments q b xs active chosen)

    by_back : (ys : List C) → (ys ≡ []) ⊎ ((b : ℕ) × WasActive (a ∷ moments) b × IsChosen config (a ∷ moments) b ys) → IsPrefixOf ys xs
    by_back ys (inl none) = subst (λ (us : List C). IsPrefixOf us xs) (sym none) (record { rest = xs; is = refl })
    by_back ys (inr (b, active, chosen)) = agreed.longest b ys active chosen

-- and the other way round
agreed_back : {S C O : Type 0} (rules : Rules S C O) (config : Config) (a : Moment S C O) (moments : List (Moment S C O)) →
    (q : IsKnown rules config a moments) → (xs : List C) → IsAgreedIn a.world q.history xs → IsAgreed config (a ∷ moments) xs
agreed_back {S = S} {C = C} {O = O} rules config a moments q xs agreed =
    record {
      chosen = by_chosen agreed.chosen;
      longest = λ b ys active chosen. agreed.longest ys (chosen_known rules config a moments q b ys active chosen);
    }
  where
    by_chosen : (xs ≡ []) ⊎ ChosenList a.world q.history xs → (xs ≡ []) ⊎ ((b : ℕ) × WasActive (a ∷ moments) b × IsChosen config (a ∷ moments) b xs)
    by_chosen (inl none) = inl none
    by_chosen (inr c) = chosen_back rules config a moments q xs c

-- there is an agreed list at each moment
pub has_agreed : {S C O : Type 0} (rules : Rules S C O) → HasAgreed rules
has_agreed rules config a moments came =
    let q = moments_known rules config a moments came in
    let xs = agreed_exists rules a.master a.world q.history q.serves.sound q.serves.master in
    (xs.0, agreed_back rules config a moments q xs.0 xs.1)

-- the nodes agree on it, and one of them holds it
pub nodes_agree : {S C O : Type 0} (rules : Rules S C O) → NodesAgree rules
nodes_agree rules config a moments xs came agreed =
    let q = moments_known rules config a moments came in
    let z = agreed_known rules config a moments q xs agreed in (
      sound_agrees rules a.master a.world q.history xs q.serves.sound q.serves.master z,
      serves_held rules a.master a.world q.history xs q.serves.sound q.serves.master q.serves.led z,
      sound_leaves rules (a ∷ moments) a.world q.history xs q.serves.sound z q.active,
    )

-- and machines are replays
pub machines_replay : {S C O : Type 0} (rules : Rules S C O) → MachinesReplay rules
machines_replay rules config a moments came = (moments_known rules config a moments came).serves.replays
