-- MasterAnswers.antt: the master answers for a ballot that does not wait.
use Rattle.std.proofs.Common.{◌≡◌, ℕ, inl, Bool, true, false, cond, None, refl, sym, subst}
use Rattle.std.specs.Prelude.{◌==◌}
use Rattle.std.proofs.lemmas.Bool.{eqb-true}
use Rattle.machine.specs.Machine.{Rules}
use Rattle.agreement.specs.whole_logs.Messages.Body.{Activate, Activated, Superseded}
use Rattle.agreement.specs.World.{GroupWorld}
use Rattle.lists.specs.Lists.{In}
use Rattle.lists.specs.Lists.In.{here}
use Rattle.agreement.specs.Inside.Ballots.{History}
use Rattle.agreement.specs.Inside.Extension.{Extends}
use Rattle.agreement.specs.MasterState.{MasterState, activated}
use Rattle.agreement.specs.Inside.Masters.{IsMaster}
use Rattle.agreement.specs.Steps.{sends_from_master}
use Rattle.agreement.specs.Inside.Sound.{IsSoundWorld}
use Rattle.agreement.specs.Inside.MessageMeaning.{SpeaksTruth}
use Rattle.agreement.proofs.Masters.Assigned.{Assigned}
use Rattle.agreement.proofs.Frame.Joining.{IsSilent}
use Rattle.agreement.proofs.Masters.MasterSends.{ToldBack}
use Rattle.agreement.proofs.Masters.MasterMoves.{master_goes_on, master_lost}

-- a ballot that does not wait is answered
pub answer_goes_on : {S C O : Type 0} (rules : Rules S C O) (m : MasterState) (w : GroupWorld S C O) (h : History C) (b from : ℕ) →
    IsSoundWorld rules w h → IsMaster m h → SpeaksTruth w h 0 from (Activate b) → Assigned rules m w h (activated C m b from None)
answer_goes_on {S = S} {C = C} {O = O} rules m w h b from s k (g, is_of, sender, (l, lined, chosen)) =
    record {
      goes_on = record { history = h; extends = whole.1; active = λ c j. j; sound = whole.0 };
      lists = refl;
      master = k;
      lost = record { history = h; extends = gone.1; active = λ c j. j; sound = gone.0 };
      lost_master = k;
      lost_lists = refl;
      told = whole.2;
      gives = λ c x e. inl e;
      activates = λ c j. inl j;
      lost_told = gone.2;
      lost_gives = λ c x e. inl e;
      lost_activates = λ c j. inl j;
    }
  where
    silent : (t : Bool) → IsSilent {C = C} (cond t (Activated b) (Superseded b))
    silent true = tt
    silent false = tt

    says : (t : Bool) → (b == m.active) ≡ t → SpeaksTruth (sends_from_master w (activated C m b from None)) h from 0 (cond t (Activated b) (Superseded b))
    says true e = (
      g,
      is_of.given,
      sender,
      subst (λ x. In x h.activated) (sym (eqb-true b m.active e)) (subst (λ bs. In m.active bs) (sym k.newest) here),
    )
    says false e = (g, is_of.given, sender)

    gone : IsSoundWorld rules w h × Extends w h w h × ToldBack w h w h
    gone = master_lost rules w h h.given h.activated s (λ c x e. e) (λ c x e. (k.numbered c x e).0) (λ c j. j) s.ballots s.lines.told

    whole : IsSoundWorld rules (sends_from_master w (activated C m b from None)) h × Extends w h (sends_from_master w (activated C m b from None)) h
        × ToldBack w h (sends_from_master w (activated C m b from None)) h
    whole = master_goes_on rules w h (activated C m b from None) h.given h.activated s (silent (b == m.active)) (λ c x e. e)
        (λ c x e. (k.numbered c x e).0) (λ c j. j) s.ballots s.lines.told (says (b == m.active) refl)
