-- Untold.antt: nothing was acknowledged in the ballot that comes next, on whole logs.
use Rattle.std.proofs.Common.{◌≡◌, ℕ, ◌+◌, ◌<◌, ◌≤◌, ◌⊎◌, inl, inr, true, false, cond, List, [], ◌∷◌, Some, refl, ap, ◌∙◌, arith}
use Rattle.std.specs.Prelude.{◌==◌}
use Rattle.std.proofs.lemmas.Bool.{cases_Bool, ne_eqb}
use Rattle.machine.specs.Machine.{Rules}
use Rattle.lists.specs.Lists.{In}
use Rattle.lists.specs.Lists.In.{here, there}
use Rattle.ballot_base.specs.declared.config.Config.{Config}
use Rattle.agreement.specs.whole_logs.Messages.{Body, Message}
use Rattle.agreement.specs.whole_logs.Messages.Body.{NewBallot, Join, State, Install, Installed, Activate, Activated, Superseded, Append, Held, Commit}
use Rattle.agreement.specs.Inside.Ballots.{Given, History}
use Rattle.agreement.specs.Inside.MessageMeaning.{SpeaksTruth}
use Rattle.agreement.specs.Inside.AcknowledgedLengths.{max_acknowledged, acknowledged_by, acknowledged_in}
use Rattle.agreement.specs.Moments.{Moment, Moments}
use Rattle.agreement.specs.World.{GroupWorld}
use Rattle.agreement.proofs.Agreed.MomentsKnown.{moments_known}

-- messages that say nothing
pub told_none : {C : Type 0} (m b : ℕ) (sent : List (ℕ × Message C)) → ((x : ℕ × Message C) → In x sent → acknowledged_in m b x.1 ≡ 0) →
    max_acknowledged m b sent ≡ 0
told_none m b [] all = refl
told_none m b (x ∷ sent) all =
    let e = all x here in let f = told_none m b sent (λ y i. all y (there i)) in omega (arith, e, f)

silent : {C : Type 0} (m b from : ℕ) (body : Body C) → acknowledged_by b body ≡ 0 → acknowledged_in m b (record { from = from; body = body }) ≡ 0
silent m b from body e = by_sender (cases_Bool (from == m))
  where
    by_sender : ((from == m) ≡ true) ⊎ ((from == m) ≡ false) → cond (from == m) (acknowledged_by b body) 0 ≡ 0
    by_sender (inl f) = ap (λ k. cond k (acknowledged_by b body) 0) f ∙ e
    by_sender (inr f) = ap (λ k. cond k (acknowledged_by b body) 0) f

-- nothing was acknowledged in the ballot that comes next
untold_body : {S C O : Type 0} (w : GroupWorld S C O) (h : History C) (given to from : ℕ) (body : Body C) → SpeaksTruth w h to from body →
    ((b : ℕ) (g : Given) → h.given b ≡ Some g → (0 < b) × (b ≤ given)) → acknowledged_by (given + 1) body ≡ 0
untold_body w h given to from (NewBallot b members a old) says low = refl
untold_body w h given to from (Join b a) says low = refl
untold_body w h given to from (State b log) says low = refl
untold_body w h given to from (Install b log) says low = refl
untold_body w h given to from (Installed b held) says low =
    let z = (low b says.0 says.1.given).1 in
    ap (λ k. cond k held 0) (ne_eqb b (given + 1) (λ e. omega (arith, e, z)))
untold_body w h given to from (Activate b) says low = refl
untold_body w h given to from (Activated b) says low = refl
untold_body w h given to from (Superseded b) says low = refl
untold_body w h given to from (Append b place command) says low = refl
untold_body w h given to from (Held b held) says low =
    let z = (low b says.0 says.1).1 in
    ap (λ k. cond k held 0) (ne_eqb b (given + 1) (λ e. omega (arith, e, z)))
untold_body w h given to from (Commit b held) says low = refl

pub whole_untold : {S C O : Type 0} (rules : Rules S C O) (config : Config) (a : Moment S C O) (moments : List (Moment S C O)) → Moments rules config (a ∷ moments) →
    (m : ℕ) → max_acknowledged m (a.master.given + 1) a.world.sent ≡ 0
whole_untold {S = S} {C = C} {O = O} rules config a moments came m =
    let q = moments_known rules config a moments came in
    told_none m (a.master.given + 1) a.world.sent
    (λ x i. silent m (a.master.given + 1) x.1.from x.1.body
    (untold_body a.world q.history a.master.given x.0 x.1.from x.1.body (q.serves.sound.said x.0 x.1 i) q.serves.master.numbered))
