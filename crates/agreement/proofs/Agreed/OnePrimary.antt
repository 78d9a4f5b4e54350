-- OnePrimary.antt: a ballot has one active primary at most, over all moments of a group.
use Rattle.std.proofs.Common.{◌≡◌, ℕ, ◌+◌, List, ◌∷◌, Some, Option, ap, sym, ◌∙◌, arith}
use Rattle.machine.specs.Machine.{Rules}
use Rattle.lists.specs.Lists.{In}
use Rattle.ballot_base.specs.declared.config.Config.{Config}
use Rattle.agreement.specs.Inside.Ballots.{Given}
use Rattle.agreement.specs.Theorems.{OnePrimaryABallot}
use Rattle.agreement.specs.Moments.{Moment}
use Rattle.agreement.specs.Primaries.{IsPrimary}
use Rattle.agreement.proofs.Agreed.MomentsAreKnown.{IsKnown}
use Rattle.agreement.proofs.Agreed.MomentsKnown.{moments_known}
use Rattle.agreement.proofs.Frame.Roles.{role_active}

-- who is active is the primary with which the ballot was given
leads_ballot : {S C O : Type 0} (rules : Rules S C O) (config : Config) (a : Moment S C O) (moments : List (Moment S C O)) →
    (q : IsKnown rules config a moments) → (c : Moment S C O) → In c (a ∷ moments) → (n ballot : ℕ) → IsPrimary c.world n ballot →
    (g : Given) × (q.history.given ballot ≡ Some g) × (g.primary ≡ n + 1)
leads_ballot rules config a moments q c i n ballot p =
    let z = q.histories c i in
    let l = ((z.1.sound.nodes n p.replica p.stands).active (role_active p.replica.role p.active)).leads in
    (l.0, z.2.given ballot l.0 (ap z.0.given (sym p.joined) ∙ l.1), l.2)

same_ballot : (o : Option Given) (g h : Given) → o ≡ Some g → o ≡ Some h → g ≡ h
same_ballot o g h e f = cc

pub one_primary_a_ballot : {S C O : Type 0} (rules : Rules S C O) → OnePrimaryABallot rules
one_primary_a_ballot rules config a moments came c d m n ballot i j p r =
    let q = moments_known rules config a moments came in
    let x = leads_ballot rules config a moments q c i m ballot p in
    let y = leads_ballot rules config a moments q d j n ballot r in
    let same = ap (λ (g : Given). g.primary) (same_ballot (q.history.given ballot) x.0 y.0 x.1 y.1) in
    let e = x.2 in let f = y.2 in omega (arith, same, e, f)
