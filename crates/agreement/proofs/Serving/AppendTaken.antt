-- AppendTaken.antt: an Append that is taken.
use Rattle.std.proofs.Common.{◌≡◌, ℕ, ◌+◌, ◌≤◌, inr, List, [], ◌∷◌, length, take, Some, refl, ap, sym, ◌∙◌, subst, arith}
use Rattle.std.specs.Prelude.{slice_get}
use Rattle.machine.specs.Machine.{Rules}
use Rattle.agreement.specs.whole_logs.Messages.{Message}
use Rattle.agreement.specs.whole_logs.Messages.Body.{Append, Held}
use Rattle.agreement.specs.whole_logs.Replica.{ReplicaState}
use Rattle.agreement.specs.whole_logs.StepOutcome.{message_to}
use Rattle.agreement.specs.whole_logs.Service.{extended}
use Rattle.agreement.specs.World.{GroupWorld, messages, moved}
use Rattle.lists.specs.Lists.{In, IsPrefixOf}
use Rattle.lists.specs.Lists.In.{here, there}
use Rattle.agreement.specs.Inside.Ballots.{Given, Line, History}
use Rattle.agreement.specs.Inside.BallotsStand.{Applied}
use Rattle.agreement.specs.Inside.Extension.{Extends}
use Rattle.agreement.specs.Inside.BallotsStand.Applied.{nothing, in_ballot}
use Rattle.agreement.specs.Inside.Keeps.LineAdds.{as_it_was}
use Rattle.agreement.specs.Inside.Keeps.{KeepsSoundness}
use Rattle.agreement.specs.Inside.MovesAt.{MovesAt, with_lines}
use Rattle.agreement.specs.Inside.Sound.{IsSoundWorld}
use Rattle.agreement.specs.Inside.SoundNodes.{IsSoundNode}
use Rattle.agreement.specs.Inside.MessageMeaning.{SpeaksTruth}
use Rattle.lists.proofs.Prefixes.{prefix_then, prefix_length, take_prefix}
use Rattle.agreement.proofs.Effects.{thinned_messages, thinned_outputs}
use Rattle.agreement.proofs.Serving.Committing.{Follows}
use Rattle.agreement.proofs.Frame.MoveLines.{tells_here}
use Rattle.agreement.proofs.Frame.Framing.{within_of, move_extends}
use Rattle.agreement.proofs.Frame.Later.{applied_kept}
use Rattle.agreement.proofs.Frame.Leaving.{left_same}
use Rattle.agreement.proofs.Frame.Moved.{move_sound}
use Rattle.agreement.proofs.Frame.Roles.{role_backup}
use Rattle.agreement.proofs.Frame.Telling.{TellsWithin, same_moves, told_placed, told_in_log}
use Rattle.agreement.proofs.Serving.Extending.{extended_front, extended_grows}

-- an Append that is taken
pub append_taken : {S C O : Type 0} (rules : Rules S C O) (w : GroupWorld S C O) (h : History C) (n : ℕ) (r : ReplicaState S C)
    (from b place : ℕ) (c : C) → IsSoundWorld rules w h → slice_get w.nodes n ≡ Some r → SpeaksTruth w h (n + 1) from (Append b place c) →
    Follows r b → place ≤ length r.log →
    (g : Given) (l : Line C) → h.given b ≡ Some g → h.line b ≡ Some l → IsPrefixOf l.base r.log → IsPrefixOf r.log l.list →
    KeepsSoundness rules w h n (record {
      state = record r { log = extended place c r.log };
      effects = message_to O r.id (Held b (length (extended place c r.log))) from ∷ [];
    })
append_taken {S = S} {C = C} {O = O} rules w h n r from b place c s stands (q, is_given, sender, other, active, (k, lined_k, low, at)) f within g l given_g lined base list given thinned =
    record {
      history = with_lines h h.line;
      extends = x;
      active = λ c j. j;
      ballots = refl;
      added = λ b k e. as_it_was e;
      tells = λ m b k t. tells_here w h h.line n r new given moves m b k t;
      sound = move_sound rules w h h.line n r new given s moves node
          (λ to m i. says to m (thinned_messages thinned (to, m) i))
          (left_same rules w h h.line n r new given moves (thinned_outputs thinned) s.left);
    }
  where
    new : ReplicaState S C
    new = record r { log = extended place c r.log }

    t : IsSoundNode w h n r
    t = s.nodes n r stands

    same_line : k ≡ l
    same_line = cc

    longer : IsPrefixOf (extended place c r.log) l.list
    longer = extended_front r.log l.list place c list (subst (λ (y : Line C). slice_get y.list place ≡ Some c) same_line at)

    grown : IsPrefixOf r.log (extended place c r.log)
    grown = extended_grows r.log place c

    now : (to : ℕ) (m : Message C) → In (to, m) (messages (message_to O r.id (Held b (length (extended place c r.log))) from ∷ [])) →
        (m.from ≡ n + 1) × TellsWithin h.line r new m.body
    now to m (there i) = elim i [ ]
    now to m here = (
      t.id,
      record {
        low = (let e = f.joined in omega (arith, e));
        held = sym f.held;
        short = omega arith;
        told = l;
        lined = lined;
        within = prefix_length longer;
      },
    )

    moves : MovesAt w h h.line n r new given
    moves = same_moves w h n r new given stands (omega arith) (omega arith) (λ to m i. now to m (thinned_messages thinned (to, m) i))

    x : Extends w h (moved w n new given) (with_lines h h.line)
    x = move_extends w h h.line n r new given moves

    says : (to : ℕ) (m : Message C) → In (to, m) (messages (message_to O r.id (Held b (length (extended place c r.log))) from ∷ [])) →
        SpeaksTruth (moved w n new given) (with_lines h h.line) to m.from m.body
    says to m (there i) = elim i [ ]
    says to m here = (
      q,
      is_given,
      sender,
      (subst (λ y. In y q.members) (sym t.id) other.0, λ e. other.1 (sym t.id ∙ e)),
      (l, lined, (let a = prefix_length base in let d = prefix_length grown in omega (arith, a, d)), prefix_length longer),
    )

    node : IsSoundNode (moved w n new given) (with_lines h h.line) n new
    node =
        record {
          id = t.id;
          placed = record {
            order = t.placed.order;
            between = λ up. (g, ap h.given f.held ∙ given_g, (l, ap h.line f.held ∙ lined, prefix_then base grown, longer));
            told = told_placed w h h.line n r new given moves t.placed (omega arith);
            acknowledged_here = told_in_log w h h.line n r new given moves t.placed (inr (refl, prefix_length grown));
          };
          empty = λ e. absurd (let z = (s.ballots.were_given b active).2 in let y = f.held in omega (arith, z, y, e));
          member = t.member;
          primary_log = λ o y e is z. absurd (other.1 (
              let a : h.given b ≡ Some o = ap h.given (sym f.held) ∙ e in let d : o ≡ q = cc in
              sym is ∙ ap (λ (u : Given). u.primary) d));
          joined_by = t.joined_by;
          within = (let a = t.within in let d = prefix_length grown in omega (arith, a, d));
          applied = by_applied (applied_kept w (moved w n new given) h (with_lines h h.line) r x (λ c j. j) (within_of rules w h s) t.applied);
          fetching = λ e. let z = role_backup r.role f.backup in cc;
          installing = λ e. let z = role_backup r.role f.backup in cc;
          active = λ e. let z = role_backup r.role f.backup in cc;
        }
      where
        by_applied : Applied (moved w n new given) (with_lines h h.line) r → Applied (moved w n new given) (with_lines h h.line) new
        by_applied (nothing e) = nothing e
        by_applied (in_ballot d k y i up e chosen front) =
            in_ballot d k y i up e chosen
            (subst (λ (us : List C). IsPrefixOf us (take k y.list)) (sym (take_prefix r.committed grown (s.nodes n r stands).within)) front)
