-- SaysLater.antt: what messages say stays so in a later world.
use Rattle.std.proofs.Common.{ℕ, ◌≤◌, inl, inr, List, length, ap, sym, ◌∙◌, subst, arith}
use Rattle.agreement.specs.whole_logs.Messages.{Body}
use Rattle.agreement.specs.whole_logs.Messages.Body.{NewBallot, Join, State, Install, Installed, Activate, Activated, Superseded, Append, Held, Commit}
use Rattle.agreement.specs.World.{GroupWorld}
use Rattle.lists.specs.Lists.{In, IsPrefixOf}
use Rattle.agreement.specs.Inside.Ballots.{Given, History, Acknowledged, IsChosenIn}
use Rattle.agreement.specs.Inside.Extension.{Extends, AcknowledgedIsWithin}
use Rattle.agreement.specs.Inside.MessageMeaning.{HasJoined, IsOf, IsOffered, SpeaksTruth}
use Rattle.agreement.specs.Inside.Ballots.Acknowledged.{told_at_opening, told_by_held, told_by_installed, told_as_primary}
use Rattle.lists.proofs.Prefixes.{prefix_then, prefix_length, prefix_get}
use Rattle.agreement.proofs.Frame.Later.{sealed_kept, chosen_kept}

pub joined_kept : {S C O : Type 0} (w v : GroupWorld S C O) (h i : History C) (m b : ℕ) → Extends w h v i → HasJoined w m b → HasJoined v m b
joined_kept w v h i m b x (n, is, (r, stands, low)) =
    let y = x.nodes n r stands in (n, is, (y.0, y.1, (let a = y.2 in omega (arith, low, a))))

pub of_kept : {S C O : Type 0} (w v : GroupWorld S C O) (h i : History C) (b : ℕ) (g : Given) → Extends w h v i → IsOf h b g → IsOf i b g
of_kept w v h i b g x o = record { given = x.given b g o.given; later = o.later }

pub offered_kept : {S C O : Type 0} (w v : GroupWorld S C O) (h i : History C) (b : ℕ) (g : Given) (xs : List C) → Extends w h v i →
    IsOffered h b g xs → IsOffered i b g xs
offered_kept w v h i b g xs x (inl (p, lined, front)) =
    let z = x.lines g.previous p lined in inl (z.0, z.1, prefix_then front z.3)
offered_kept {S = S} {C = C} w v h i b g xs x (inr (l, lined, base, front)) =
    let z = x.lines b l lined in
    inr (z.0, z.1, subst (λ (us : List C). IsPrefixOf us xs) (sym z.2) base, prefix_then front z.3)

-- what a message says stays so
pub says_kept : {S C O : Type 0} (w v : GroupWorld S C O) (h i : History C) (to from : ℕ) (body : Body C) → Extends w h v i →
    ((b : ℕ) → In b h.activated → In b i.activated) → AcknowledgedIsWithin w h → SpeaksTruth w h to from body → SpeaksTruth v i to from body
says_kept w v h i to from (NewBallot b ms a am) x active within (g, o, s, t, p, q, (old, given, members)) =
    (g, of_kept w v h i b g x o, s, t, p, q, (old, x.given a old given, members))
says_kept w v h i to from (Join b a) x active within (g, o, s, t, p, (old, given, member)) =
    (g, of_kept w v h i b g x o, s, t, joined_kept w v h i from b x p, (old, x.given a old given, member))
says_kept w v h i to from (State b xs) x active within (g, o, s, p, q, sealed, offered) = (
  g,
  of_kept w v h i b g x o,
  s,
  joined_kept w v h i from b x p,
  joined_kept w v h i to b x q,
  sealed_kept w v h i g.previous xs x within sealed,
  offered_kept w v h i b g xs x offered,
)
says_kept w v h i to from (Install b xs) x active within (g, o, s, p, (l, lined, base)) =
    let z = x.lines b l lined in (g, of_kept w v h i b g x o, s, p, (z.0, z.1, z.2 ∙ base))
says_kept w v h i to from (Installed b held) x active within (g, o, s, p, (l, lined, base)) =
    let z = x.lines b l lined in
    (g, of_kept w v h i b g x o, s, p, (z.0, z.1, base ∙ sym (ap length z.2)))
says_kept {S = S} {C = C} {O = O} w v h i to from (Activate b) x active within (g, o, s, (l, lined, chosen)) =
    let z = x.lines b l lined in (
      g,
      of_kept w v h i b g x o,
      s,
      (
        z.0,
        z.1,
        subst (λ (us : List C). IsChosenIn v i b (length us)) (sym z.2) (chosen_kept w v h i b (length l.base) x chosen),
      ),
    )
says_kept w v h i to from (Activated b) x active within (g, given, s, j) = (g, x.given b g given, s, active b j)
says_kept w v h i to from (Superseded b) x active within (g, given, s) = (g, x.given b g given, s)
says_kept w v h i to from (Append b place c) x active within (g, given, s, p, j, (l, lined, low, stands)) =
    let z = x.lines b l lined in (
      g,
      x.given b g given,
      s,
      p,
      active b j,
      (z.0, z.1, (let e = ap length z.2 in omega (arith, e, low)), prefix_get place c z.3 stands),
    )
says_kept w v h i to from (Held b held) x active within (g, given, s, p, (l, lined, low, high)) =
    let z = x.lines b l lined in (
      g,
      x.given b g given,
      s,
      p,
      (z.0, z.1, (let e = ap length z.2 in omega (arith, e, low)), (let e = prefix_length z.3 in omega (arith, e, high))),
    )
says_kept w v h i to from (Commit b held) x active within (g, given, s, p, j, chosen) =
    (g, x.given b g given, s, p, active b j, chosen_kept w v h i b held x chosen)

-- a node that has acknowledged more has acknowledged less
pub told_less : {S C O : Type 0} (w : GroupWorld S C O) (h : History C) (m b k j : ℕ) → j ≤ k → Acknowledged w h m b k → Acknowledged w h m b j
told_less w h m b k j less (told_at_opening g one none given member) = told_at_opening g one (omega (arith, none, less)) given member
told_less w h m b k j less (told_by_held receiver held i below) = told_by_held receiver held i (omega (arith, less, below))
told_less w h m b k j less (told_by_installed receiver held i below) = told_by_installed receiver held i (omega (arith, less, below))
told_less w h m b k j less (told_as_primary g l given primary lined below) =
    told_as_primary g l given primary lined (omega (arith, less, below))
