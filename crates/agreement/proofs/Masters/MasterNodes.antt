-- MasterNodes.antt: nodes stay as they should be when ballots are given or activated.
use Rattle.std.proofs.Common.{◌≡◌, ℕ, ◌+◌, ◌<◌, ◌≤◌, ◌⊎◌, inl, inr, List, length, Some, Option, arith}
use Rattle.std.proofs.lemmas.Bool.{cases_lt}
use Rattle.agreement.specs.whole_logs.Replica.{ReplicaState}
use Rattle.agreement.specs.World.{GroupWorld}
use Rattle.lists.specs.Lists.{In}
use Rattle.agreement.specs.Inside.Ballots.{Given, Line, History, Acknowledged}
use Rattle.agreement.specs.Inside.BallotsStand.{BallotListsStand}
use Rattle.agreement.specs.Inside.Extension.{Extends, AcknowledgedIsWithin}
use Rattle.agreement.specs.Inside.SoundNodes.{IsSoundNode}
use Rattle.agreement.proofs.Frame.Later.{told_kept, applied_kept}
use Rattle.agreement.proofs.Frame.SaysLater.{of_kept}
use Rattle.agreement.proofs.Frame.Others.{between_kept}

-- a node, with more ballots
pub node_with_ballots : {S C O : Type 0} (w v : GroupWorld S C O) (h : History C) (given : ℕ → Option Given) (activated : List ℕ) (n : ℕ)
    (r : ReplicaState S C) → Extends w h v (record h { given = given; activated = activated }) →
    ((c : ℕ) → In c h.activated → In c activated) → AcknowledgedIsWithin w h →
    ((c : ℕ) (g : Given) → given c ≡ Some g → (x : Given) × (h.given c ≡ Some x) → h.given c ≡ Some g) →
    ((c : ℕ) (g : Given) → given c ≡ Some g → 0 < c) →
    ((c k : ℕ) → Acknowledged v (record h { given = given; activated = activated }) (n + 1) c k → Acknowledged w h (n + 1) c k) →
    BallotListsStand w h → IsSoundNode w h n r → IsSoundNode v (record h { given = given; activated = activated }) n r
node_with_ballots {S = S} {C = C} {O = O} w v h given activated n r x active within back positive told_back lines s =
    record {
      id = s.id;
      placed = record {
        order = s.placed.order;
        between = λ up. between_kept w v h i r.held_in r.log x (s.placed.between up);
        told = λ c k t. s.placed.told c k (told_back c k t);
        acknowledged_here = λ k t. s.placed.acknowledged_here k (told_back r.held_in k t);
      };
      empty = s.empty;
      member = λ g e. s.member g (by_held g e (cases_lt 0 r.held_in));
      primary_log = λ g l e is f. s.primary_log g l (back r.held_in g e (lines.lined r.held_in l f)) is f;
      joined_by = by_joined s.joined_by;
      within = s.within;
      applied = applied_kept w v h i r x active within s.applied;
      fetching = λ e. let f = s.fetching e in (
        (f.0.0, x.given r.joined f.0.0 f.0.1, f.0.2, f.0.3),
        f.1,
        f.2,
        (f.3.0, of_kept w v h i r.joined f.3.0 x f.3.1, f.3.2, (f.3.3.0, x.given f.3.0.previous f.3.3.0 f.3.3.1, f.3.3.2)),
      );
      installing = λ e. let j = s.installing e in record {
        leads = (j.leads.0, x.given r.joined j.leads.0 j.leads.1, j.leads.2, j.leads.3);
        later = (j.later.0, of_kept w v h i r.joined j.later.0 x j.later.1);
        own = j.own;
        line = j.line;
        lined = j.lined;
        base = j.base;
        noted = λ k y. noted k j.line (j.noted k y);
        lacks = j.lacks;
      };
      active = λ e. let a = s.active e in record {
        leads = (a.leads.0, x.given r.joined a.leads.0 a.leads.1, a.leads.2, a.leads.3);
        own = a.own;
        activated = active r.joined a.activated;
        line = a.line;
        lined = a.lined;
        begun = a.begun;
        above = a.above;
        covered = a.covered;
        followed = λ reached j. let z = a.followed reached j in
            (z.0, z.1, z.2, told_kept w v h i reached.member r.joined reached.held x z.3);
        others = a.others;
      };
    }
  where
    i : History C
    i = record h { given = given; activated = activated }

    by_held : (g : Given) → given r.held_in ≡ Some g → (0 < r.held_in) ⊎ (r.held_in ≤ 0) → h.given r.held_in ≡ Some g
    by_held g e (inl up) = let z = s.placed.between up in back r.held_in g e (z.0, z.1)
    by_held g e (inr none) = absurd (let up = positive r.held_in g e in omega (arith, up, none))

    by_joined : (r.joined ≡ 0) ⊎ ((g : Given) × (h.given r.joined ≡ Some g)
        × (In (n + 1) g.members ⊎ ((old : Given) × (h.given g.previous ≡ Some old) × In (n + 1) old.members))) →
        (r.joined ≡ 0) ⊎ ((g : Given) × (given r.joined ≡ Some g)
        × (In (n + 1) g.members ⊎ ((old : Given) × (given g.previous ≡ Some old) × In (n + 1) old.members)))
    by_joined (inl e) = inl e
    by_joined (inr (g, e, (inl j))) = inr (g, x.given r.joined g e, inl j)
    by_joined (inr (g, e, (inr (old, f, j)))) = inr (g, x.given r.joined g e, inr (old, x.given g.previous old f, j))

    noted : {X : Type 0} (k : ℕ) (l : Line C) → X ⊎ Acknowledged w h k r.joined (length l.base) →
        X ⊎ Acknowledged v (record h { given = given; activated = activated }) k r.joined (length l.base)
    noted k l (inl y) = inl y
    noted k l (inr t) = inr (told_kept w v h (record h { given = given; activated = activated }) k r.joined (length l.base) x t)
