-- StateTaken.antt: a State that is taken begins the list of its ballot.
use Rattle.std.proofs.Common.{◌≡◌, ℕ, ◌+◌, ◌≤◌, ◌⊎◌, inl, inr, List, length, take, Some, Option, refl, ap, sym, ◌∙◌, subst, arith}
use Rattle.std.specs.Prelude.{slice_get}
use Rattle.machine.specs.Machine.{Rules}
use Rattle.ballot_base.specs.declared.status.Role.TheVariants.{Installing}
use Rattle.agreement.specs.whole_logs.Replica.{ReplicaState}
use Rattle.ballot_base.specs.Replica.{others}
use Rattle.agreement.specs.whole_logs.Transfer.{install_effects}
use Rattle.agreement.specs.World.{GroupWorld, moved}
use Rattle.lists.specs.Lists.{In, IsPrefixOf}
use Rattle.agreement.specs.Inside.Ballots.{Given, Line, History, Acknowledged}
use Rattle.agreement.specs.Inside.BallotsStand.{Applied}
use Rattle.agreement.specs.Inside.Extension.{Extends}
use Rattle.agreement.specs.Inside.BallotsStand.Applied.{nothing, in_ballot}
use Rattle.agreement.specs.Inside.Ballots.Acknowledged.{told_as_primary}
use Rattle.agreement.specs.Inside.Keeps.{KeepsSoundness, LineAdds}
use Rattle.agreement.specs.Inside.Keeps.LineAdds.{as_it_was, begins_after}
use Rattle.agreement.specs.Inside.MovesAt.{MovesAt, with_lines, lined_at}
use Rattle.agreement.specs.Inside.MovesAt.LineGoesOn.{begins}
use Rattle.agreement.specs.Inside.Sound.{IsSoundWorld}
use Rattle.agreement.specs.Inside.SoundNodes.{IsInstalling, IsSoundNode}
use Rattle.lists.proofs.Prefixes.{prefix_same}
use Rattle.agreement.proofs.Effects.{thinned_messages, thinned_outputs}
use Rattle.agreement.proofs.Frame.MoveLines.{tells_here}
use Rattle.agreement.proofs.Frame.Framing.{within_of, move_extends}
use Rattle.agreement.proofs.Changing.OtherMembers.{in_others, others_in, not_others}
use Rattle.agreement.proofs.Changing.InstallHeard.{same_front}
use Rattle.agreement.proofs.Frame.Later.{applied_kept}
use Rattle.agreement.proofs.Frame.SaysLater.{of_kept}
use Rattle.agreement.proofs.Frame.Leaving.{left_same}
use Rattle.agreement.proofs.Frame.Lining.{lined_here, lined_cases, list_moves}
use Rattle.agreement.proofs.Frame.Moved.{move_sound}
use Rattle.agreement.proofs.Frame.Bases.{one_line}
use Rattle.agreement.proofs.Changing.StateHears.{StateHeard}
use Rattle.agreement.proofs.Frame.Taking.{may_take}
use Rattle.agreement.proofs.Frame.Telling.{told_placed, told_in_log}
use Rattle.agreement.proofs.Serving.Ticking.{says_installs, silent_installs, dumb_installs, from_installs}

-- a State that is taken
pub state_taken : {S C O : Type 0} (rules : Rules S C O) (w : GroupWorld S C O) (h : History C) (n : ℕ) (r : ReplicaState S C) (xs : List C) →
    IsSoundWorld rules w h → slice_get w.nodes n ≡ Some r → StateHeard w h n r xs → r.committed ≤ length xs →
    KeepsSoundness rules w h n (record {
      state = record r { held_in = r.joined; log = xs; role = Installing; lacking = others r.id r.members };
      effects = install_effects O (record r { held_in = r.joined; log = xs; role = Installing; lacking = others r.id r.members }) (others r.id r.members);
    })
state_taken {S = S} {C = C} {O = O} rules w h n r xs s stands q long given thinned =
    record {
      history = with_lines h line;
      extends = x;
      active = λ c j. j;
      ballots = refl;
      added = λ b k e. by_line b k (lined_cases r.joined begun h.line b k e);
      tells = λ m b k t. tells_here w h line n r new given moves m b k t;
      sound = move_sound rules w h line n r new given s moves node
          (λ to m i. says_installs v (with_lines h line) n new t.id installing (others r.id r.members) refl to m
          (thinned_messages thinned (to, m) i))
          (left_same rules w h line n r new given moves (thinned_outputs thinned ∙ dumb_installs O new (others r.id r.members)) s.left);
    }
  where
    new : ReplicaState S C
    new = record r { held_in = r.joined; log = xs; role = Installing; lacking = others r.id r.members }

    v : GroupWorld S C O
    v = moved w n new given

    begun : Line C
    begun = record { base = xs; list = xs }

    line : ℕ → Option (Line C)
    line = lined_at r.joined begun h.line

    by_line : (b : ℕ) (k : Line C) → ((b ≡ r.joined) × (begun ≡ k)) ⊎ ((b ≡ r.joined → ⊥) × (h.line b ≡ Some k)) → LineAdds (λ x c. ⊥) h b k
    by_line b k (inr (other, e)) = as_it_was e
    by_line b k (inl (e, f)) =
        subst (λ x. LineAdds (λ x c. ⊥) h x k) (sym e) (subst (λ (y : Line C). LineAdds (λ x c. ⊥) h r.joined y) f
        (begins_after q.ballot q.before q.is_of.given q.unlined q.lined_before q.front))

    t : IsSoundNode w h n r
    t = s.nodes n r stands

    moves : MovesAt w h line n r new given
    moves = list_moves w h n r new given r.joined begun q.ballot stands (omega arith) (omega arith) q.is_of.given q.primary
        (begins q.ballot q.unlined refl q.is_of.given q.sealed (q.before, q.lined_before, q.front))
        (λ l e. let z = q.unlined in cc) (omega arith) refl refl
        (λ to m i. (
          from_installs O new (others r.id r.members) to m (thinned_messages thinned (to, m) i) ∙ t.id,
          silent_installs O new (others r.id r.members) to m (thinned_messages thinned (to, m) i),
        ))

    x : Extends w h (moved w n new given) (with_lines h line)
    x = move_extends w h line n r new given moves

    lined : line r.joined ≡ Some begun
    lined = lined_here r.joined begun h.line

    member : In (n + 1) q.ballot.members
    member = subst (λ k. In k q.ballot.members) q.primary (s.ballots.led r.joined q.ballot q.is_of.given)

    front : IsPrefixOf (take r.committed r.log) xs
    front = may_take w h s.ballots s.lines n r t.placed t.applied r.joined q.ballot q.is_of.given q.is_of.later
        member q.below (omega arith) xs q.sealed

    installing : IsInstalling (moved w n new given) (with_lines h line) n new
    installing =
        record {
          leads = (q.ballot, q.is_of.given, q.primary, q.members);
          later = (q.ballot, of_kept w (moved w n new given) h (with_lines h line) r.joined q.ballot x q.is_of);
          own = refl;
          line = begun;
          lined = lined;
          base = refl;
          noted = λ m i. by_member m (others_in r.id r.members m i);
          lacks = λ m i. (in_others r.id r.members m i, λ e. not_others r.id r.members m i (e ∙ sym t.id));
        }
      where
        by_member : (m : ℕ) → (m ≡ r.id) ⊎ In m (others r.id r.members) →
            In m (others r.id r.members) ⊎ Acknowledged (moved w n new given) (with_lines h line) m r.joined (length xs)
        by_member m (inr i) = inl i
        by_member m (inl e) =
            inr (told_as_primary q.ballot begun q.is_of.given (q.primary ∙ sym t.id ∙ sym e) lined (omega arith))

    node : IsSoundNode (moved w n new given) (with_lines h line) n new
    node =
        record {
          id = t.id;
          placed = record {
            order = omega arith;
            between = λ up. (q.ballot, q.is_of.given, (begun, lined, prefix_same xs, prefix_same xs));
            told = told_placed w h line n r new given moves t.placed (let z = q.below in omega (arith, z));
            acknowledged_here = told_in_log w h line n r new given moves t.placed (inl q.below);
          };
          empty = λ e. absurd (let z = q.below in omega (arith, e, z));
          member = λ g e. subst (λ (y : Given). In (n + 1) y.members) (let f = q.is_of.given in let z : q.ballot ≡ g = cc in z) member;
          primary_log = λ g l e is f. ap (λ (y : Line C). y.list) (one_line (line r.joined) begun l lined f);
          joined_by = t.joined_by;
          within = long;
          applied = by_applied (applied_kept w (moved w n new given) h (with_lines h line) r x (λ c j. j) (within_of rules w h s) t.applied);
          fetching = λ e. cc;
          installing = λ e. installing;
          active = λ e. cc;
        }
      where
        by_applied : Applied (moved w n new given) (with_lines h line) r → Applied (moved w n new given) (with_lines h line) new
        by_applied (nothing e) = nothing e
        by_applied (in_ballot c k l i up e chosen begins_so) =
            in_ballot c k l i up e chosen
            (subst (λ (us : List C). IsPrefixOf us (take k l.list)) (sym (same_front r.committed r.log xs t.within front)) begins_so)
