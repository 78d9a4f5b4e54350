-- MasterSends.antt: messages of the master keep a world sound.
use Rattle.std.proofs.Common.{◌≡◌, ℕ, ◌+◌, ◌<◌, ◌⊎◌, inl, inr, List, [], ◌∷◌, ◌++◌, length, Some, Option, refl, ap, sym, ◌∙◌, subst, arith}
use Rattle.machine.specs.Machine.{Rules}
use Rattle.agreement.specs.whole_logs.Messages.{Message}
use Rattle.agreement.specs.whole_logs.Messages.Body.{Held, Installed}
use Rattle.agreement.specs.World.{GroupWorld}
use Rattle.lists.specs.Lists.{In}
use Rattle.lists.specs.Lists.In.{here, there}
use Rattle.agreement.specs.Inside.Ballots.{Given, Line, History, Acknowledged, IsChosenIn}
use Rattle.agreement.specs.Inside.BallotsStand.{IsChain, AreBallots}
use Rattle.agreement.specs.Inside.Extension.{Extends, AcknowledgedIsWithin}
use Rattle.agreement.specs.Inside.Ballots.Acknowledged.{told_at_opening, told_by_held, told_by_installed, told_as_primary}
use Rattle.agreement.specs.Inside.Sound.{IsSoundWorld}
use Rattle.agreement.specs.Inside.MessageMeaning.{SpeaksTruth}
use Rattle.lists.proofs.Prefixes.{prefix_same}
use Rattle.lists.proofs.Members.{in_left, in_append}
use Rattle.agreement.proofs.Frame.Framing.{within_of}
use Rattle.agreement.proofs.Frame.Joining.{IsSilent, AreSilent}
use Rattle.agreement.proofs.Frame.Later.{chosen_kept, sealed_kept}
use Rattle.agreement.proofs.Frame.SaysLater.{says_kept}
use Rattle.agreement.proofs.Frame.Leaving.{bounds_back, segment_kept}
use Rattle.agreement.proofs.Masters.MasterNodes.{node_with_ballots}

-- the history with other ballots
abbrev pub with_ballots : {C : Type 0} → History C → (ℕ → Option Given) → List ℕ → History C
with_ballots h given activated = record h { given = given; activated = activated }

-- a chain stays one where more is given
pub chain_more : {C : Type 0} (h : History C) (given : ℕ → Option Given) (activated bs : List ℕ) →
    ((c : ℕ) (g : Given) → h.given c ≡ Some g → given c ≡ Some g) → IsChain h bs → IsChain (with_ballots h given activated) bs
chain_more h given activated [] more c = c
chain_more h given activated (b ∷ []) more c = c
chain_more h given activated (b ∷ (p ∷ older)) more ((g, is, prev, low, rises), c) =
    ((g, more b g is, prev, low, rises), chain_more h given activated (p ∷ older) more c)

-- ballot 1 was activated first
pub chain_has_one : {C : Type 0} (h : History C) (bs : List ℕ) → IsChain h bs → In 1 bs
chain_has_one h [] c = absurd c
chain_has_one h (b ∷ []) c = subst (λ x. In 1 (x ∷ [])) (sym c) here
chain_has_one h (b ∷ (p ∷ older)) c = there (chain_has_one h (p ∷ older) c.1)

-- nothing more is acknowledged
abbrev pub ToldBack : {S C O : Type 0} → GroupWorld S C O → History C → GroupWorld S C O → History C → Type 0
ToldBack w h v i = (m b k : ℕ) → Acknowledged v i m b k → Acknowledged w h m b k

-- messages of the master, perhaps none
pub master_sends : {S C O : Type 0} (rules : Rules S C O) (w : GroupWorld S C O) (h : History C) (extra : List (ℕ × Message C))
    (given : ℕ → Option Given) (activated : List ℕ) → IsSoundWorld rules w h → AreSilent extra →
    ((c : ℕ) (g : Given) → h.given c ≡ Some g → given c ≡ Some g) →
    ((c : ℕ) (g : Given) → given c ≡ Some g → 0 < c) →
    ((c : ℕ) → In c h.activated → In c activated) → AreBallots (with_ballots h given activated) →
    ((c : ℕ) → In c activated → (l : Line C) × (h.line c ≡ Some l) × IsChosenIn w h c (length l.base)) →
    ((to : ℕ) (m : Message C) → In (to, m) extra →
    SpeaksTruth (record w { sent = w.sent ++ extra }) (with_ballots h given activated) to m.from m.body) →
    IsSoundWorld rules (record w { sent = w.sent ++ extra }) (with_ballots h given activated)
    × Extends w h (record w { sent = w.sent ++ extra }) (with_ballots h given activated)
    × ToldBack w h (record w { sent = w.sent ++ extra }) (with_ballots h given activated)
master_sends {S = S} {C = C} {O = O} rules w h extra given activated s silent more positive active ballots told says = (
  record {
    ballots = ballots;
    lines = record {
      lined = λ c l e. let z = s.lines.lined c l e in (z.0, more c z.0 z.1);
      prefix = s.lines.prefix;
      sealed = λ c g l e later f. sealed_kept w v h i g.previous l.base extends within
          (s.lines.sealed c g l (back c g e (s.lines.lined c l f)) later f);
      base_in = λ c g l e later f. s.lines.base_in c g l (back c g e (s.lines.lined c l f)) later f;
      still = λ c l e. by_still c l (s.lines.still c l e);
      told = λ c j. let z = told c j in (z.0, z.1, chosen_kept w v h i c (length z.0.base) extends z.2);
    };
    within = λ m c k t. s.within m c k (told_back m c k t);
    said = λ to m j. by_sent to m (in_append w.sent _ j);
    nodes = λ n r e. node_with_ballots w v h given activated n r extends active within back positive (told_back (n + 1)) s.lines (s.nodes n r e);
    left = record {
      segments = s.left.segments;
      left = λ agreed bounds. s.left.left agreed (bounds_back w h v i agreed extends active bounds);
      chosen = λ y j. segment_kept w v h i y extends active (s.left.chosen y j);
      applied = λ y j g e n is r f. s.left.applied y j g
          (back y.ballot g e (let z = s.ballots.were_given y.ballot (s.left.chosen y j).0 in (z.0, z.1))) n is r f;
      in_order = s.left.in_order;
    };
  },
  extends,
  told_back,
)
  where
    v : GroupWorld S C O
    v = record w { sent = w.sent ++ extra }

    i : History C
    i = with_ballots h given activated

    within : AcknowledgedIsWithin w h
    within = within_of rules w h s

    back : (c : ℕ) (g : Given) → given c ≡ Some g → (x : Given) × (h.given c ≡ Some x) → h.given c ≡ Some g
    back c g e (x, f) = let d = more c x f in let same : x ≡ g = cc in f ∙ ap Some same

    old_or_silent : (y : ℕ × Message C) → In y (w.sent ++ extra) → In y w.sent ⊎ IsSilent y.1.body
    old_or_silent y j = by_part (in_append w.sent _ j)
      where
        by_part : In y w.sent ⊎ In y extra → In y w.sent ⊎ IsSilent y.1.body
        by_part (inl k) = inl k
        by_part (inr k) = inr (silent y.0 y.1 k)

    one_given : (x : Given) × (h.given 1 ≡ Some x)
    one_given = let z = s.ballots.were_given 1 (chain_has_one h h.activated s.ballots.chain) in (z.0, z.1)

    told_back : (m c k : ℕ) → Acknowledged (record w { sent = w.sent ++ extra }) (with_ballots h given activated) m c k → Acknowledged w h m c k
    told_back m c k (told_at_opening g one none is member) = told_at_opening g one none (back 1 g is one_given) member
    told_back m c k (told_as_primary g l is primary lined below) =
        told_as_primary g l (back c g is (s.lines.lined c l lined)) primary lined below
    told_back m c k (told_by_held receiver held j below) = by_sent (old_or_silent (receiver, record { from = m; body = Held c held }) j)
      where
        by_sent : In {X = ℕ × Message C} (receiver, record { from = m; body = Held c held }) w.sent ⊎ ⊥ → Acknowledged w h m c k
        by_sent (inl y) = told_by_held receiver held y below
        by_sent (inr y) = absurd y
    told_back m c k (told_by_installed receiver held j below) = by_sent (old_or_silent (receiver, record { from = m; body = Installed c held }) j)
      where
        by_sent : In {X = ℕ × Message C} (receiver, record { from = m; body = Installed c held }) w.sent ⊎ ⊥ → Acknowledged w h m c k
        by_sent (inl y) = told_by_installed receiver held y below
        by_sent (inr y) = absurd y

    extends : Extends w h (record w { sent = w.sent ++ extra }) (with_ballots h given activated)
    extends =
        record {
          sent = λ x j. in_left _ j;
          nodes = λ n r e. (r, e, omega arith);
          given = more;
          lines = λ c l e. (l, e, refl, prefix_same l.list);
          told = λ n c k r e t. inl (told_back (n + 1) c k t);
        }

    by_still : (c : ℕ) (l : Line C) → In c h.activated ⊎ (l.list ≡ l.base) → In c activated ⊎ (l.list ≡ l.base)
    by_still c l (inl j) = inl (active c j)
    by_still c l (inr e) = inr e

    by_sent : (to : ℕ) (m : Message C) → In (to, m) w.sent ⊎ In (to, m) extra →
        SpeaksTruth (record w { sent = w.sent ++ extra }) (with_ballots h given activated) to m.from m.body
    by_sent to m (inl j) =
        says_kept w (record w { sent = w.sent ++ extra }) h (with_ballots h given activated) to m.from m.body extends active (within_of rules w h s) (s.said to m j)
    by_sent to m (inr j) = says to m j
