-- Others.antt: the nodes that did not move stay as they should be.
use Rattle.std.proofs.Common.{◌≡◌, ℕ, ◌+◌, ◌⊎◌, inl, inr, List, length, Some, Option, sym, ◌∙◌, subst, arith}
use Rattle.agreement.specs.whole_logs.Messages.{Effect}
use Rattle.agreement.specs.whole_logs.Replica.{ReplicaState}
use Rattle.agreement.specs.World.{GroupWorld, moved}
use Rattle.lists.specs.Lists.{IsPrefixOf}
use Rattle.agreement.specs.Inside.Ballots.{Given, Line, History, Acknowledged}
use Rattle.agreement.specs.Inside.Extension.{Extends, AcknowledgedIsWithin}
use Rattle.agreement.specs.Inside.MovesAt.{MovesAt, with_lines, TellsNow}
use Rattle.agreement.specs.Inside.SoundNodes.{IsSoundNode}
use Rattle.lists.proofs.Prefixes.{prefix_then}
use Rattle.agreement.proofs.Frame.Later.{told_kept, applied_kept}
use Rattle.agreement.proofs.Frame.SaysLater.{of_kept}
use Rattle.agreement.proofs.Frame.Framing.{move_extends}

-- the lists lie between the base and the list of a ballot that grows
pub between_kept : {S C O : Type 0} (w v : GroupWorld S C O) (h i : History C) (b : ℕ) (xs : List C) → Extends w h v i →
    (g : Given) × (h.given b ≡ Some g) × ((l : Line C) × (h.line b ≡ Some l) × IsPrefixOf l.base xs × IsPrefixOf xs l.list) →
    (g : Given) × (i.given b ≡ Some g) × ((l : Line C) × (i.line b ≡ Some l) × IsPrefixOf l.base xs × IsPrefixOf xs l.list)
between_kept {S = S} {C = C} w v h i b xs x (g, given, (l, lined, base, list)) =
    let y = x.lines b l lined in
    (g, x.given b g given, (y.0, y.1, subst (λ (us : List C). IsPrefixOf us xs) (sym y.2) base, prefix_then list y.3))

-- a node that did not move
pub other_node : {S C O : Type 0} (w : GroupWorld S C O) (h : History C) (line : ℕ → Option (Line C)) (n : ℕ)
    (old new : ReplicaState S C) (given : List (Effect C O)) → MovesAt w h line n old new given → AcknowledgedIsWithin w h →
    (m : ℕ) (r : ReplicaState S C) → (m ≡ n → ⊥) → IsSoundNode w h m r →
    IsSoundNode (moved w n new given) (with_lines h line) m r
other_node {S = S} {C = C} {O = O} w h line n old new given q within m r other s =
    record {
      id = s.id;
      placed = record {
        order = s.placed.order;
        between = λ up. between_kept w v h i r.held_in r.log x (s.placed.between up);
        told = λ b k t. s.placed.told b k (back b k t);
        acknowledged_here = λ k t. s.placed.acknowledged_here k (back r.held_in k t);
      };
      empty = s.empty;
      member = s.member;
      primary_log = λ g l e is lined. s.primary_log g l e is (sym (same r.held_in g e is) ∙ lined);
      joined_by = s.joined_by;
      within = s.within;
      applied = applied_kept w v h i r x (λ b j. j) within s.applied;
      fetching = λ e. let f = s.fetching e in
          (f.0, f.1, same r.joined f.0.0 f.0.1 f.0.2 ∙ f.2, (f.3.0, of_kept w v h i r.joined f.3.0 x f.3.1, f.3.2, f.3.3));
      installing = λ e. let j = s.installing e in record {
        leads = j.leads;
        later = (j.later.0, of_kept w v h i r.joined j.later.0 x j.later.1);
        own = j.own;
        line = j.line;
        lined = same r.joined j.leads.0 j.leads.1 j.leads.2 ∙ j.lined;
        base = j.base;
        noted = λ k y. noted k j.line (j.noted k y);
        lacks = j.lacks;
      };
      active = λ e. let a = s.active e in record {
        leads = a.leads;
        own = a.own;
        activated = a.activated;
        line = a.line;
        lined = same r.joined a.leads.0 a.leads.1 a.leads.2 ∙ a.lined;
        begun = a.begun;
        above = a.above;
        covered = a.covered;
        followed = λ reached j. let z = a.followed reached j in
            (z.0, z.1, z.2, told_kept w v h i reached.member r.joined reached.held x z.3);
        others = a.others;
      };
    }
  where
    v : GroupWorld S C O
    v = moved w n new given

    i : History C
    i = with_lines h line

    x : Extends w h (moved w n new given) (with_lines h line)
    x = move_extends w h line n old new given q

    back : (b k : ℕ) → Acknowledged (moved w n new given) (with_lines h line) (m + 1) b k → Acknowledged w h (m + 1) b k
    back b k t = by_teller (q.tells (m + 1) b k t)
      where
        by_teller : Acknowledged w h (m + 1) b k ⊎ ((m + 1 ≡ n + 1) × TellsNow line old new b k) → Acknowledged w h (m + 1) b k
        by_teller (inl before) = before
        by_teller (inr (one, l)) = absurd (other (omega (arith, one)))

    same : (b : ℕ) (g : Given) → h.given b ≡ Some g → g.primary ≡ m + 1 → line b ≡ h.line b
    same b g e is = q.own b g e (λ f. other (omega (arith, is, f)))

    noted : {X : Type 0} (k : ℕ) (l : Line C) → X ⊎ Acknowledged w h k r.joined (length l.base) →
        X ⊎ Acknowledged (moved w n new given) (with_lines h line) k r.joined (length l.base)
    noted k l (inl y) = inl y
    noted k l (inr t) =
        inr (told_kept w (moved w n new given) h (with_lines h line) k r.joined (length l.base)
        (move_extends w h line n old new given q) t)
