-- MasterActivates.antt: the master activates the ballot that waits.
use Rattle.std.proofs.Common.{◌≡◌, ℕ, ◌<◌, ◌≤◌, ◌⊎◌, inl, inr, true, false, ◌∷◌, length, Some, None, Option, refl, sym, subst, arith}
use Rattle.std.specs.Prelude.{◌==◌}
use Rattle.std.proofs.lemmas.Bool.{cases_Bool, eqb-true}
use Rattle.machine.specs.Machine.{Rules}
use Rattle.ballot_base.specs.declared.config.Config.{Config}
use Rattle.agreement.specs.whole_logs.Messages.Body.{Activate, Activated}
use Rattle.agreement.specs.World.{GroupWorld}
use Rattle.lists.specs.Lists.{In}
use Rattle.lists.specs.Lists.In.{here, there}
use Rattle.agreement.specs.Inside.Ballots.{Given, Line, History, IsChosenIn}
use Rattle.agreement.specs.Inside.BallotsStand.{IsChain, AreBallots}
use Rattle.agreement.specs.Inside.Extension.{Extends}
use Rattle.agreement.specs.MasterState.{MasterState, MasterOutcome, activated}
use Rattle.agreement.specs.Inside.Masters.{IsMaster}
use Rattle.agreement.specs.Steps.{sends_from_master}
use Rattle.agreement.specs.Inside.Sound.{IsSoundWorld}
use Rattle.agreement.specs.Inside.MessageMeaning.{SpeaksTruth}
use Rattle.agreement.proofs.Masters.Assigned.{Assigned}
use Rattle.agreement.proofs.Masters.MasterSends.{ToldBack, with_ballots, chain_more}
use Rattle.agreement.proofs.Masters.MasterMoves.{master_goes_on, master_lost}
use Rattle.agreement.proofs.Masters.MasterAnswers.{answer_goes_on}

-- the ballot that waits is activated
waiting_goes_on : {S C O : Type 0} (rules : Rules S C O) (m : MasterState) (w : GroupWorld S C O) (h : History C) (b from : ℕ) (config : Config) →
    IsSoundWorld rules w h → IsMaster m h → SpeaksTruth w h 0 from (Activate b) → m.waiting ≡ Some (b, config) →
    Assigned rules m w h (record {
      state = record m { active = b; members = config.members; waiting = None };
      receiver = from;
      body = Activated b;
    })
waiting_goes_on {S = S} {C = C} {O = O} rules m w h b from config s k (g, is_of, sender, (l, lined, chosen)) waits =
    record {
      goes_on = record { history = with_ballots h h.given (b ∷ h.activated); extends = whole.1; active = λ c j. there j; sound = whole.0 };
      lists = refl;
      master = is_master;
      lost = record { history = with_ballots h h.given (b ∷ h.activated); extends = gone.1; active = λ c j. there j; sound = gone.0 };
      lost_master = is_master;
      lost_lists = refl;
      told = whole.2;
      gives = λ c y e. inl e;
      activates = λ c j. activated_now c j;
      lost_told = gone.2;
      lost_gives = λ c y e. inl e;
      lost_activates = λ c j. activated_now c j;
    }
  where
    activated_now : (c : ℕ) → In c (b ∷ h.activated) → In c h.activated ⊎ (b ≡ c)
    activated_now c here = inr refl
    activated_now c (there j) = inl j

    x : (b ≡ m.given) × (m.active < b) × ((y : Given) × (h.given b ≡ Some y) × (y.previous ≡ m.active)
        × (y.members ≡ config.members) × (y.primary ≡ config.primary))
    x = k.waits b config waits

    low : 0 < m.active
    low = (k.numbered m.active k.active_members.0 k.active_members.1).0

    older : IsChain (with_ballots h h.given (b ∷ h.activated)) (m.active ∷ k.older)
    older = chain_more h h.given (b ∷ h.activated) (m.active ∷ k.older) (λ c y e. e) (subst (λ bs. IsChain h bs) k.newest s.ballots.chain)

    chain : IsChain (with_ballots h h.given (b ∷ h.activated)) (b ∷ h.activated)
    chain = subst (λ bs. IsChain (with_ballots h h.given (b ∷ h.activated)) (b ∷ bs)) (sym k.newest)
        ((x.2.0, x.2.1, x.2.2, low, x.1), older)

    gap : (c : ℕ) (y : Given) → h.given c ≡ Some y → 0 < y.previous → (d : ℕ) → In d (b ∷ h.activated) → d < c → d ≤ y.previous
    gap c y e later d here less = absurd (let z = (k.numbered c y e).1 in let a = x.0 in omega (arith, z, a, less))
    gap c y e later d (there j) less = s.ballots.gap c y e later d j less

    were_given : (c : ℕ) → In c (b ∷ h.activated) → (y : Given) × (h.given c ≡ Some y) × (0 < c)
    were_given c here = (x.2.0, x.2.1, (k.numbered b x.2.0 x.2.1).0)
    were_given c (there j) = s.ballots.were_given c j

    ballots : AreBallots (with_ballots h h.given (b ∷ h.activated))
    ballots =
        record {
          chain = chain;
          first = s.ballots.first;
          previous = λ c y e later. let z = s.ballots.previous c y e later in (there z.0, z.1);
          gap = gap;
          were_given = were_given;
          led = s.ballots.led;
        }

    told : (c : ℕ) → In c (b ∷ h.activated) → (y : Line C) × (h.line c ≡ Some y) × IsChosenIn w h c (length y.base)
    told c here = (l, lined, chosen)
    told c (there j) = s.lines.told c j

    outcome : MasterOutcome C
    outcome = record {
      state = record m { active = b; members = config.members; waiting = None };
      receiver = from;
      body = Activated b;
    }

    is_master : IsMaster outcome.state (with_ballots h h.given (b ∷ h.activated))
    is_master = record {
      older = h.activated;
      newest = refl;
      active_members = (x.2.0, x.2.1, x.2.3);
      numbered = k.numbered;
      waits = λ c d e. cc;
    }

    gone : IsSoundWorld rules w (with_ballots h h.given (b ∷ h.activated)) × Extends w h w (with_ballots h h.given (b ∷ h.activated))
        × ToldBack w h w (with_ballots h h.given (b ∷ h.activated))
    gone = master_lost rules w h h.given (b ∷ h.activated) s (λ c y e. e) (λ c y e. (k.numbered c y e).0) (λ c j. there j) ballots told

    whole : IsSoundWorld rules (sends_from_master w outcome) (with_ballots h h.given (b ∷ h.activated))
        × Extends w h (sends_from_master w outcome) (with_ballots h h.given (b ∷ h.activated))
        × ToldBack w h (sends_from_master w outcome) (with_ballots h h.given (b ∷ h.activated))
    whole = master_goes_on rules w h outcome h.given (b ∷ h.activated) s tt (λ c y e. e) (λ c y e. (k.numbered c y e).0) (λ c j. there j) ballots told
        (g, is_of.given, sender, here)

-- an Activate that comes to the master
pub activate_goes_on : {S C O : Type 0} (rules : Rules S C O) (m : MasterState) (w : GroupWorld S C O) (h : History C) (b from : ℕ) →
    IsSoundWorld rules w h → IsMaster m h → In (0, record { from = from; body = Activate b }) w.sent →
    (waiting : Option (ℕ × Config)) → m.waiting ≡ waiting → Assigned rules m w h (activated C m b from waiting)
activate_goes_on rules m w h b from s k sent None e = answer_goes_on rules m w h b from s k (s.said 0 _ sent)
activate_goes_on {S = S} {C = C} rules m w h b from s k sent (Some (waiting, config)) e = by_ballot (cases_Bool (b == waiting))
  where
    by_ballot : ((b == waiting) ≡ true) ⊎ ((b == waiting) ≡ false) → Assigned rules m w h (activated C m b from (Some (waiting, config)))
    by_ballot (inl same) =
        rw same (waiting_goes_on rules m w h b from config s k (s.said 0 _ sent)
        (subst (λ x. m.waiting ≡ Some (x, config)) (sym (eqb-true b waiting same)) e))
    by_ballot (inr other) = rw other (answer_goes_on rules m w h b from s k (s.said 0 _ sent))
