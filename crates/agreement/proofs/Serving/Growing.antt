-- Growing.antt: a primary whose log grew by a command is ready to commit.
use Rattle.std.proofs.Common.{◌≡◌, ℕ, ◌+◌, ◌≤◌, ◌⊎◌, inl, inr, List, [], ◌∷◌, ◌++◌, length, take, Some, Option, refl, ap, sym, ◌∙◌, subst, arith}
use Rattle.std.specs.Prelude.{slice_get}
use Rattle.std.proofs.lemmas.List.{length-append}
use Rattle.machine.specs.Machine.{Rules}
use Rattle.agreement.specs.whole_logs.Messages.{Effect}
use Rattle.agreement.specs.whole_logs.Replica.{ReplicaState}
use Rattle.agreement.specs.World.{GroupWorld, moved}
use Rattle.lists.specs.Lists.{In, IsPrefixOf}
use Rattle.agreement.specs.Inside.Ballots.{Line, History}
use Rattle.agreement.specs.Inside.BallotsStand.{Applied}
use Rattle.agreement.specs.Inside.BallotsStand.Applied.{nothing, in_ballot}
use Rattle.agreement.specs.Inside.Keeps.{LineAdds}
use Rattle.agreement.specs.Inside.Keeps.LineAdds.{as_it_was, adds_one}
use Rattle.agreement.specs.Inside.MovesAt.{MovesAt, with_lines, lined_at}
use Rattle.agreement.specs.Inside.MovesAt.LineGoesOn.{grows}
use Rattle.agreement.specs.Inside.Sound.{IsSoundWorld}
use Rattle.agreement.specs.Inside.SoundNodes.{IsSoundNode}
use Rattle.lists.proofs.Prefixes.{prefix_then, prefix_push, prefix_length, take_prefix}
use Rattle.agreement.proofs.Frame.EqualLists.{prefix_of_same}
use Rattle.agreement.proofs.Frame.Framing.{within_of, move_extends}
use Rattle.agreement.proofs.Frame.Later.{told_kept, applied_kept}
use Rattle.agreement.proofs.Frame.Lining.{lined_here, lined_cases, list_moves}
use Rattle.agreement.proofs.Serving.Ready.{Ready}
use Rattle.agreement.proofs.Frame.Bases.{one_line}
use Rattle.agreement.proofs.Frame.Telling.{told_placed, told_in_log}
use Rattle.agreement.proofs.Serving.Leading.{Leading, longer}

-- the primary is ready to commit
pub grown_ready : {S C O : Type 0} (rules : Rules S C O) (w : GroupWorld S C O) (h : History C) (n : ℕ) (old r : ReplicaState S C) (c : C) →
    IsSoundWorld rules w h → slice_get w.nodes n ≡ Some old → (q : Leading w h n r) → r.id ≡ old.id → r.joined ≡ old.joined →
    r.held_in ≡ old.held_in → r.log ≡ old.log → old.committed ≤ r.committed →
    Ready rules w h (lined_at r.joined (longer q.line c) h.line) n old (record r { log = r.log ++ c ∷ [] })
    (λ b x. (b ≡ r.joined) × (x ≡ c))
grown_ready {S = S} {C = C} {O = O} rules w h n old r c s stands q same_id same_joined same_held same_log up =
    record {
      role = q.role;
      after = up;
      added = λ b k e. by_line b k (lined_cases r.joined (longer q.line c) h.line b k e);
      moves = λ k u above given quiet. list_moves w h n old (record r { log = r.log ++ c ∷ []; committed = k; machine = u }) given r.joined (longer q.line c) q.ballot stands
          (omega (arith, same_joined)) (omega (arith, up, above)) q.is_given q.primary
          (grows q.line q.lined refl (prefix_push q.line.list c) q.activated)
          (λ l e. let f = one_line (h.line r.joined) q.line l q.lined e in
          (ap (λ (y : Line C). y.base) f, subst (λ (y : Line C). IsPrefixOf y.list (q.line.list ++ c ∷ [])) f (prefix_push q.line.list c)))
          (omega (arith, same_joined)) (sym q.own) (ap (λ us. us ++ c ∷ []) q.log) quiet;
      node = λ k u given moves. node k u given moves;
    }
  where
    by_line : (b : ℕ) (k : Line C) → ((b ≡ r.joined) × (longer q.line c ≡ k)) ⊎ ((b ≡ r.joined → ⊥) × (h.line b ≡ Some k)) →
        LineAdds (λ b x. (b ≡ r.joined) × (x ≡ c)) h b k
    by_line b k (inr (other, e)) = as_it_was e
    by_line b k (inl (e, f)) =
        adds_one q.line c (ap h.line e ∙ q.lined) (sym (ap (λ (y : Line C). y.list) f)) (e, refl)

    line : ℕ → Option (Line C)
    line = lined_at r.joined (longer q.line c) h.line

    t : IsSoundNode w h n old
    t = s.nodes n old stands

    lined : lined_at r.joined (longer q.line c) h.line r.joined ≡ Some (longer q.line c)
    lined = lined_here r.joined (longer q.line c) h.line

    base : IsPrefixOf q.line.base r.log
    base = subst (λ (us : List C). IsPrefixOf q.line.base us) (sym q.log) (s.lines.prefix r.joined q.line q.lined)

    room : length (r.log ++ c ∷ []) ≡ length r.log + 1
    room = length-append r.log (c ∷ [])

    node : (k : ℕ) (u : S) (given : List (Effect C O)) → MovesAt w h line n old (record r { log = r.log ++ c ∷ []; committed = k; machine = u }) given →
        IsSoundNode (moved w n (record r { log = r.log ++ c ∷ []; committed = k; machine = u }) given) (with_lines h line) n (record r { log = r.log ++ c ∷ [] })
    node k u given moves =
        record {
          id = same_id ∙ t.id;
          placed = record {
            order = (let e = q.own in omega (arith, e));
            between = λ z. (
              q.ballot,
              ap h.given q.own ∙ q.is_given,
              (
                longer q.line c,
                ap line q.own ∙ lined,
                prefix_then base (prefix_push r.log c),
                prefix_of_same (r.log ++ c ∷ []) (q.line.list ++ c ∷ []) (ap (λ us. us ++ c ∷ []) q.log),
              ),
            );
            told = told_placed w h line n old new given moves t.placed (omega (arith, same_held));
            acknowledged_here = told_in_log w h line n old new given moves t.placed
                (inr (sym same_held, (let e = ap length same_log in omega (arith, e, room))));
          };
          empty = λ e. absurd (let z = (s.ballots.were_given r.joined q.activated).2 in let y = q.own in omega (arith, z, y, e));
          member = λ g e. t.member g (ap h.given (sym same_held) ∙ e);
          primary_log = λ g l e is f. ap (λ us. us ++ c ∷ []) q.log
              ∙ ap (λ (y : Line C). y.list) (one_line (line r.joined) (longer q.line c) l lined (ap line (sym q.own) ∙ f));
          joined_by = inr (q.ballot, q.is_given, inl (subst (λ y. In y q.ballot.members) q.primary (s.ballots.led r.joined q.ballot q.is_given)));
          within = (let z = q.within in omega (arith, z, room));
          applied = by_applied (applied_kept w (moved w n new given) h (with_lines h line) r
              (move_extends w h line n old new given moves) (λ b j. j) (within_of rules w h s) q.applied);
          fetching = λ e. let z = q.role in cc;
          installing = λ e. let z = q.role in cc;
          active = λ e. record {
            leads = (q.ballot, q.is_given, q.primary, q.members);
            own = q.own;
            activated = q.activated;
            line = longer q.line c;
            lined = lined;
            begun = inr (let z = prefix_length base in omega (arith, z, room));
            above = q.above;
            covered = q.covered;
            followed = λ reached j. let z = q.followed reached j in (
              z.0,
              z.1,
              z.2,
              told_kept w (moved w n new given) h (with_lines h line) reached.member r.joined reached.held
                  (move_extends w h line n old new given moves) z.3,
            );
            others = q.others;
          };
        }
      where
        new : ReplicaState S C
        new = record r { log = r.log ++ c ∷ []; committed = k; machine = u }

        by_applied : Applied (moved w n new given) (with_lines h line) r →
            Applied (moved w n new given) (with_lines h line) (record r { log = r.log ++ c ∷ [] })
        by_applied (nothing e) = nothing e
        by_applied (in_ballot d j l i low e chosen front) =
            in_ballot d j l i low e chosen
            (subst (λ (us : List C). IsPrefixOf us (take j l.list)) (sym (take_prefix r.committed (prefix_push r.log c) q.within)) front)
