-- Installs.antt: an Install that is taken.
use Rattle.std.proofs.Common.{◌≡◌, ℕ, ◌+◌, ◌<◌, ◌≤◌, inl, inr, List, [], ◌∷◌, length, take, Some, refl, ap, sym, ◌∙◌, subst, arith}
use Rattle.std.specs.Prelude.{slice_get}
use Rattle.machine.specs.Machine.{Rules}
use Rattle.agreement.specs.whole_logs.Messages.Body.{Installed}
use Rattle.ballot_base.specs.declared.status.Role.TheVariants.{Backup}
use Rattle.agreement.specs.whole_logs.Replica.{ReplicaState}
use Rattle.agreement.specs.whole_logs.StepOutcome.{message_to}
use Rattle.agreement.specs.World.{GroupWorld, moved}
use Rattle.lists.specs.Lists.{In, IsPrefixOf}
use Rattle.agreement.specs.Inside.Ballots.{Given, History}
use Rattle.agreement.specs.Inside.BallotsStand.{Applied}
use Rattle.agreement.specs.Inside.BallotsStand.Applied.{nothing, in_ballot}
use Rattle.agreement.specs.Inside.Keeps.LineAdds.{as_it_was}
use Rattle.agreement.specs.Inside.Keeps.{KeepsSoundness}
use Rattle.agreement.specs.Inside.MovesAt.{MovesAt, with_lines}
use Rattle.agreement.specs.Inside.Sound.{IsSoundWorld}
use Rattle.agreement.specs.Inside.SoundNodes.{IsSoundNode}
use Rattle.lists.proofs.Prefixes.{prefix_same}
use Rattle.agreement.proofs.Effects.{thinned_messages}
use Rattle.agreement.proofs.Frame.MoveLines.{tells_here}
use Rattle.agreement.proofs.Frame.Framing.{within_of, move_extends}
use Rattle.agreement.proofs.Frame.Later.{applied_kept}
use Rattle.agreement.proofs.Frame.Leaving.{left_same}
use Rattle.agreement.proofs.Frame.Moved.{move_sound}
use Rattle.agreement.proofs.Frame.Taking.{may_take}
use Rattle.agreement.proofs.Frame.Telling.{told_placed, told_in_log}
use Rattle.agreement.proofs.Changing.InstallHeard.{same_front, Sends, InstallHeard, installed_sends, installed_says}

-- an Install that is taken
pub install_taken : {S C O : Type 0} (rules : Rules S C O) (w : GroupWorld S C O) (h : History C) (n : ℕ) (r : ReplicaState S C)
    (from b : ℕ) (log : List C) → IsSoundWorld rules w h → slice_get w.nodes n ≡ Some r → InstallHeard w h n from b log →
    r.joined ≤ b → r.held_in < b → r.committed ≤ length log →
    KeepsSoundness rules w h n (record {
      state = record r { joined = b; held_in = b; log = log; role = Backup };
      effects = message_to O r.id (Installed b (length log)) from ∷ [];
    })
install_taken {S = S} {C = C} {O = O} rules w h n r from b log s stands q low below long given thinned =
    record {
      history = with_lines h h.line;
      extends = move_extends w h h.line n r new given moves;
      active = λ c j. j;
      ballots = refl;
      added = λ b k e. as_it_was e;
      tells = λ m b k t. tells_here w h h.line n r new given moves m b k t;
      sound = move_sound rules w h h.line n r new given s moves node
          (λ to m i. installed_says w (moved w n new given) h (with_lines h h.line) n from b r.id log q t.id
          (move_extends w h h.line n r new given moves) to m (thinned_messages thinned (to, m) i))
          (left_same rules w h h.line n r new given moves sends.silent s.left);
    }
  where
    new : ReplicaState S C
    new = record r { joined = b; held_in = b; log = log; role = Backup }

    t : IsSoundNode w h n r
    t = s.nodes n r stands

    sends : Sends w h n r (record r { joined = b; held_in = b; log = log; role = Backup }) given
    sends = installed_sends rules w h n from b log r (record r { joined = b; held_in = b; log = log; role = Backup }) given s stands q low
        refl (omega arith) low (omega arith) thinned

    moves : MovesAt w h h.line n r (record r { joined = b; held_in = b; log = log; role = Backup }) given
    moves = sends.moves

    front : IsPrefixOf (take r.committed r.log) log
    front = subst (λ (us : List C). IsPrefixOf (take r.committed r.log) us) q.base
        (may_take w h s.ballots s.lines n r (s.nodes n r stands).placed (s.nodes n r stands).applied b q.ballot q.is_of.given q.is_of.later
        q.member below low q.line.base (s.lines.sealed b q.ballot q.line q.is_of.given q.is_of.later q.lined))

    node : IsSoundNode (moved w n new given) (with_lines h h.line) n new
    node =
        record {
          id = t.id;
          placed = record {
            order = omega arith;
            between = λ up. (
              q.ballot,
              q.is_of.given,
              (
                q.line,
                q.lined,
                subst (λ (us : List C). IsPrefixOf q.line.base us) q.base (prefix_same q.line.base),
                subst (λ (us : List C). IsPrefixOf us q.line.list) q.base (s.lines.prefix b q.line q.lined),
              ),
            );
            told = told_placed w h h.line n r new given moves t.placed (omega (arith, below));
            acknowledged_here = told_in_log w h h.line n r new given moves t.placed (inl below);
          };
          empty = λ e. absurd (omega (arith, e, below));
          member = λ g e. subst (λ (x : Given). In (n + 1) x.members) (let f = q.is_of.given in let z : q.ballot ≡ g = cc in z) q.member;
          primary_log = λ g l e is lined. absurd (q.backup (let f = q.is_of.given in let z : g ≡ q.ballot = cc in
              sym is ∙ ap (λ (x : Given). x.primary) z));
          joined_by = inr (q.ballot, q.is_of.given, inl q.member);
          within = long;
          applied = by_applied (applied_kept w (moved w n new given) h (with_lines h h.line) r
              (move_extends w h h.line n r new given moves) (λ c j. j) (within_of rules w h s) t.applied);
          fetching = λ e. cc;
          installing = λ e. cc;
          active = λ e. cc;
        }
      where
        by_applied : Applied (moved w n new given) (with_lines h h.line) r → Applied (moved w n new given) (with_lines h h.line) new
        by_applied (nothing e) = nothing e
        by_applied (in_ballot c k l i up e chosen begins) =
            in_ballot c k l i (omega (arith, up, low)) e chosen
            (subst (λ (us : List C). IsPrefixOf us (take k l.list)) (sym (same_front r.committed r.log log (s.nodes n r stands).within front)) begins)
