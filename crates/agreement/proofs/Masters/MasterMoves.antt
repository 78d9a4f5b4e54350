-- MasterMoves.antt: a world after a message of the master, or one that was lost.
use Rattle.std.proofs.Common.{◌≡◌, ℕ, ◌<◌, List, [], ◌∷◌, length, Some, Option, subst}
use Rattle.std.proofs.lemmas.List.{append-nil}
use Rattle.machine.specs.Machine.{Rules}
use Rattle.agreement.specs.whole_logs.Messages.{Message}
use Rattle.agreement.specs.World.{GroupWorld}
use Rattle.lists.specs.Lists.{In}
use Rattle.lists.specs.Lists.In.{here, there}
use Rattle.agreement.specs.Inside.Ballots.{Given, Line, History, IsChosenIn}
use Rattle.agreement.specs.Inside.BallotsStand.{AreBallots}
use Rattle.agreement.specs.Inside.Extension.{Extends}
use Rattle.agreement.specs.MasterState.{MasterOutcome}
use Rattle.agreement.specs.Steps.{sends_from_master}
use Rattle.agreement.specs.Inside.Sound.{IsSoundWorld}
use Rattle.agreement.specs.Inside.MessageMeaning.{SpeaksTruth}
use Rattle.agreement.proofs.Frame.Joining.{IsSilent, AreSilent}
use Rattle.agreement.proofs.Masters.MasterSends.{with_ballots, ToldBack, master_sends}

-- a message of the master
pub master_goes_on : {S C O : Type 0} (rules : Rules S C O) (w : GroupWorld S C O) (h : History C) (o : MasterOutcome C)
    (given : ℕ → Option Given) (activated : List ℕ) → IsSoundWorld rules w h → IsSilent o.body →
    ((c : ℕ) (g : Given) → h.given c ≡ Some g → given c ≡ Some g) →
    ((c : ℕ) (g : Given) → given c ≡ Some g → 0 < c) →
    ((c : ℕ) → In c h.activated → In c activated) → AreBallots (with_ballots h given activated) →
    ((c : ℕ) → In c activated → (l : Line C) × (h.line c ≡ Some l) × IsChosenIn w h c (length l.base)) →
    SpeaksTruth (sends_from_master w o) (with_ballots h given activated) o.receiver 0 o.body →
    IsSoundWorld rules (sends_from_master w o) (with_ballots h given activated)
    × Extends w h (sends_from_master w o) (with_ballots h given activated)
    × ToldBack w h (sends_from_master w o) (with_ballots h given activated)
master_goes_on {S = S} {C = C} rules w h o given activated s silent more positive active ballots told says =
    master_sends rules w h ((o.receiver, record { from = 0; body = o.body }) ∷ []) given activated s by_silent more positive active ballots told by_says
  where
    by_silent : AreSilent ((o.receiver, record { from = 0; body = o.body }) ∷ [])
    by_silent to m here = silent
    by_silent to m (there i) = elim i [ ]

    by_says : (to : ℕ) (m : Message C) → In {X = ℕ × Message C} (to, m) ((o.receiver, record { from = 0; body = o.body }) ∷ []) →
        SpeaksTruth (sends_from_master w o) (with_ballots h given activated) to m.from m.body
    by_says to m here = says
    by_says to m (there i) = elim i [ ]

-- and the same if it is lost
pub master_lost : {S C O : Type 0} (rules : Rules S C O) (w : GroupWorld S C O) (h : History C)
    (given : ℕ → Option Given) (activated : List ℕ) → IsSoundWorld rules w h →
    ((c : ℕ) (g : Given) → h.given c ≡ Some g → given c ≡ Some g) →
    ((c : ℕ) (g : Given) → given c ≡ Some g → 0 < c) →
    ((c : ℕ) → In c h.activated → In c activated) → AreBallots (with_ballots h given activated) →
    ((c : ℕ) → In c activated → (l : Line C) × (h.line c ≡ Some l) × IsChosenIn w h c (length l.base)) →
    IsSoundWorld rules w (with_ballots h given activated) × Extends w h w (with_ballots h given activated)
    × ToldBack w h w (with_ballots h given activated)
master_lost {S = S} {C = C} {O = O} rules w h given activated s more positive active ballots told =
    subst (λ (us : List (ℕ × Message C)). IsSoundWorld rules (record w { sent = us }) (with_ballots h given activated)
    × Extends w h (record w { sent = us }) (with_ballots h given activated)
    × ToldBack w h (record w { sent = us }) (with_ballots h given activated)) (append-nil w.sent)
    (master_sends rules w h [] given activated s (λ to m i. elim i [ ]) more positive active ballots told (λ to m i. elim i [ ]))
