-- SameNode.antt: a node that stays as it is, in a world that continued.
use Rattle.std.proofs.Common.{ℕ, ◌⊎◌, inl, inr, List, length, refl, arith}
use Rattle.agreement.specs.whole_logs.Messages.{Effect}
use Rattle.agreement.specs.whole_logs.Replica.{ReplicaState}
use Rattle.agreement.specs.World.{GroupWorld, moved}
use Rattle.agreement.specs.Inside.Ballots.{Line, History, Acknowledged}
use Rattle.agreement.specs.Inside.Extension.{Extends, AcknowledgedIsWithin}
use Rattle.agreement.specs.Inside.MovesAt.{MovesAt, with_lines}
use Rattle.agreement.specs.Inside.SoundNodes.{IsSoundNode}
use Rattle.agreement.proofs.Frame.Framing.{move_extends}
use Rattle.agreement.proofs.Frame.Later.{told_kept, applied_kept}
use Rattle.agreement.proofs.Frame.SaysLater.{of_kept}
use Rattle.agreement.proofs.Frame.Telling.{told_placed, told_in_log}

-- a node that acknowledges more and stays as it was
pub same_node : {S C O : Type 0} (w : GroupWorld S C O) (h : History C) (n : ℕ) (r : ReplicaState S C) (given : List (Effect C O)) →
    MovesAt w h h.line n r r given → AcknowledgedIsWithin w h → IsSoundNode w h n r → IsSoundNode (moved w n r given) (with_lines h h.line) n r
same_node {S = S} {C = C} {O = O} w h n r given q within s =
    record {
      id = s.id;
      placed = record {
        order = s.placed.order;
        between = s.placed.between;
        told = told_placed w h h.line n r r given q s.placed (omega arith);
        acknowledged_here = told_in_log w h h.line n r r given q s.placed (inr (refl, omega arith));
      };
      empty = s.empty;
      member = s.member;
      primary_log = s.primary_log;
      joined_by = s.joined_by;
      within = s.within;
      applied = applied_kept w v h i r x (λ b j. j) within s.applied;
      fetching = λ e. let f = s.fetching e in (f.0, f.1, f.2, (f.3.0, of_kept w v h i r.joined f.3.0 x f.3.1, f.3.2, f.3.3));
      installing = λ e. let j = s.installing e in record {
        leads = j.leads;
        later = (j.later.0, of_kept w v h i r.joined j.later.0 x j.later.1);
        own = j.own;
        line = j.line;
        lined = j.lined;
        base = j.base;
        noted = λ k y. noted k j.line (j.noted k y);
        lacks = j.lacks;
      };
      active = λ e. let a = s.active e in record {
        leads = a.leads;
        own = a.own;
        activated = a.activated;
        line = a.line;
        lined = a.lined;
        begun = a.begun;
        above = a.above;
        covered = a.covered;
        followed = λ reached j. let z = a.followed reached j in
            (z.0, z.1, z.2, told_kept w v h i reached.member r.joined reached.held x z.3);
        others = a.others;
      };
    }
  where
    v : GroupWorld S C O
    v = moved w n r given

    i : History C
    i = with_lines h h.line

    x : Extends w h (moved w n r given) (with_lines h h.line)
    x = move_extends w h h.line n r r given q

    noted : {X : Type 0} (k : ℕ) (l : Line C) → X ⊎ Acknowledged w h k r.joined (length l.base) →
        X ⊎ Acknowledged (moved w n r given) (with_lines h h.line) k r.joined (length l.base)
    noted k l (inl y) = inl y
    noted k l (inr t) = inr (told_kept w (moved w n r given) h (with_lines h h.line) k r.joined (length l.base)
        (move_extends w h h.line n r r given q) t)
