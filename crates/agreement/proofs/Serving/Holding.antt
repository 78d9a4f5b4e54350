-- Holding.antt: a Held that comes to the primary.
use Rattle.std.proofs.Common.{◌≡◌, ℕ, ◌+◌, ◌≤◌, ◌⊎◌, inl, inr, true, false, List, [], length, take, Some, refl, ap, sym, ◌∙◌, subst, arith}
use Rattle.std.specs.Prelude.{slice_get, ◌==◌}
use Rattle.std.proofs.lemmas.Bool.{cases_Bool, and_parts, eqb-true}
use Rattle.machine.specs.Machine.{Rules, replay}
use Rattle.agreement.specs.whole_logs.Messages.Body.{Held}
use Rattle.agreement.specs.whole_logs.Messages.{Effect}
use Rattle.ballot_base.specs.declared.status.Progress.{Progress}
use Rattle.ballot_base.specs.declared.status.Role.TheVariants.{Active}
use Rattle.agreement.specs.whole_logs.Replica.{ReplicaState}
use Rattle.ballot_base.specs.Replica.{is_active}
use Rattle.agreement.specs.whole_logs.StepOutcome.{Outcome}
use Rattle.ballot_base.specs.Service.{raised, raised_progress}
use Rattle.agreement.specs.whole_logs.Service.{leads, on_held}
use Rattle.ballot_base.proofs.MessageRows.{raised_progress-member}
use Rattle.agreement.proofs.of_whole_logs.MessageRows.{on_held-elsewhere, on_held-raises}
use Rattle.agreement.specs.World.{GroupWorld, moved}
use Rattle.lists.specs.Lists.{In}
use Rattle.agreement.specs.Inside.Ballots.{History, Acknowledged}
use Rattle.agreement.specs.Inside.BallotsStand.{Applied}
use Rattle.agreement.specs.Inside.Ballots.Acknowledged.{told_by_held}
use Rattle.agreement.specs.Inside.BallotsStand.Applied.{nothing, in_ballot}
use Rattle.agreement.specs.Inside.Keeps.LineAdds.{as_it_was}
use Rattle.agreement.specs.Inside.Keeps.{KeepsSoundness}
use Rattle.agreement.specs.Inside.MovesAt.{MovesAt, with_lines}
use Rattle.agreement.specs.Inside.Sound.{IsSoundWorld}
use Rattle.agreement.specs.Inside.SoundNodes.{IsActive, IsSoundNode}
use Rattle.agreement.proofs.Frame.Framing.{within_of, move_extends}
use Rattle.agreement.proofs.Frame.Later.{told_kept, applied_kept}
use Rattle.agreement.proofs.Frame.Lining.{silent_within}
use Rattle.agreement.proofs.Frame.Quiet.{keeps_nothing}
use Rattle.agreement.proofs.Serving.Ready.{Ready}
use Rattle.agreement.proofs.Serving.Commits.{ready_keeps}
use Rattle.agreement.proofs.Frame.Roles.{role_active}
use Rattle.agreement.proofs.Frame.Telling.{same_moves, told_placed, told_in_log}
use Rattle.agreement.proofs.Serving.Raising.{in_raised, raised_in, raised_told}

-- the primary is ready to commit
raised_ready : {S C O : Type 0} (rules : Rules S C O) (w : GroupWorld S C O) (h : History C) (n : ℕ) (r : ReplicaState S C) (from held : ℕ) →
    IsSoundWorld rules w h → slice_get w.nodes n ≡ Some r → r.role ≡ Active → Acknowledged w h from r.joined held →
    Ready rules w h h.line n r (record r { progress = raised from held r.progress }) (λ b c. ⊥)
raised_ready {S = S} {C = C} {O = O} rules w h n r from held s stands role heard =
    record {
      role = role;
      after = omega arith;
      added = λ b k e. as_it_was e;
      moves = λ k u above given quiet. same_moves w h n r (record r { progress = raised from held r.progress; committed = k; machine = u }) given stands
          (omega arith) above
          (λ to m i. let z = quiet to m i in
          (z.0, silent_within h.line r (record r { progress = raised from held r.progress; committed = k; machine = u }) m.body z.1));
      node = λ k u given moves. node k u given moves;
    }
  where
    t : IsSoundNode w h n r
    t = s.nodes n r stands

    a : IsActive w h n r
    a = (s.nodes n r stands).active role

    node : (k : ℕ) (u : S) (given : List (Effect C O)) → MovesAt w h h.line n r (record r { progress = raised from held r.progress; committed = k; machine = u }) given →
        IsSoundNode (moved w n (record r { progress = raised from held r.progress; committed = k; machine = u }) given) (with_lines h h.line) n
        (record r { progress = raised from held r.progress })
    node k u given moves =
        record {
          id = t.id;
          placed = record {
            order = t.placed.order;
            between = t.placed.between;
            told = told_placed w h h.line n r new given moves t.placed (omega arith);
            acknowledged_here = told_in_log w h h.line n r new given moves t.placed (inr (refl, omega arith));
          };
          empty = t.empty;
          member = t.member;
          primary_log = t.primary_log;
          joined_by = t.joined_by;
          within = t.within;
          applied = by_applied (applied_kept w (moved w n new given) h (with_lines h h.line) r
              (move_extends w h h.line n r new given moves) (λ b j. j) (within_of rules w h s) t.applied);
          fetching = λ e. cc;
          installing = λ e. cc;
          active = λ e. record {
            leads = a.leads;
            own = a.own;
            activated = a.activated;
            line = a.line;
            lined = a.lined;
            begun = a.begun;
            above = a.above;
            covered = λ m i. cover (a.covered m i);
            followed = λ reached i. by_reached reached (in_raised from held r.progress reached i);
            others = λ reached i e. by_other reached (in_raised from held r.progress reached i) e;
          };
        }
      where
        new : ReplicaState S C
        new = record r { progress = raised from held r.progress; committed = k; machine = u }

        by_applied : Applied (moved w n new given) (with_lines h h.line) r →
            Applied (moved w n new given) (with_lines h h.line) (record r { progress = raised from held r.progress })
        by_applied (nothing e) = nothing e
        by_applied (in_ballot d j l i low e chosen front) = in_ballot d j l i low e chosen front

        cover : {m : ℕ} → (m ≡ n + 1) ⊎ ((reached : Progress) × In reached r.progress × (reached.member ≡ m)) →
            (m ≡ n + 1) ⊎ ((reached : Progress) × In reached (raised from held r.progress) × (reached.member ≡ m))
        cover (inl e) = inl e
        cover (inr (reached, j, e)) =
            inr (raised_progress from held reached, raised_in from held r.progress reached j, raised_progress-member from held reached ∙ e)

        by_reached : (reached : Progress) → (before : Progress) × In before r.progress × (reached ≡ raised_progress from held before) →
            (In reached.member r.members) × (length a.line.base ≤ reached.held) × (r.committed ≤ reached.held)
            × Acknowledged (moved w n new given) (with_lines h h.line) reached.member r.joined reached.held
        by_reached reached (before, j, e) =
            let z = a.followed before j in
            let u = raised_told w h from r.joined held before heard z.3 in
            let same : reached.member ≡ before.member = ap (λ (y : Progress). y.member) e ∙ raised_progress-member from held before in
            let long = ap (λ (y : Progress). y.held) e in
            let low = z.1 in let some = z.2 in let up = u.0 in (
              subst (λ m. In m r.members) (sym same) z.0,
              omega (arith, low, up, long),
              omega (arith, some, up, long),
              told_kept w (moved w n new given) h (with_lines h h.line) reached.member r.joined reached.held
                  (move_extends w h h.line n r new given moves)
                  (subst (λ m. Acknowledged w h m r.joined reached.held) (sym same) (subst (λ x. Acknowledged w h before.member r.joined x) (sym long) u.1)),
            )

        by_other : (reached : Progress) → (before : Progress) × In before r.progress × (reached ≡ raised_progress from held before) → reached.member ≡ n + 1 → ⊥
        by_other reached (before, j, e) f =
            a.others before j (sym (ap (λ (y : Progress). y.member) e ∙ raised_progress-member from held before) ∙ f)

-- a Held that comes
pub keeps_held : {S C O : Type 0} (rules : Rules S C O) (w : GroupWorld S C O) (h : History C) (n : ℕ) (r : ReplicaState S C)
    (from b held : ℕ) → IsSoundWorld rules w h → slice_get w.nodes n ≡ Some r → r.machine ≡ replay rules (take r.committed r.log) →
    In (n + 1, record { from = from; body = Held b held }) w.sent → KeepsSoundness rules w h n (on_held rules r from b held)
keeps_held {S = S} {C = C} {O = O} rules w h n r from b held s stands ran sent = by_role (cases_Bool (leads r b))
  where
    by_role : (leads r b ≡ true) ⊎ (leads r b ≡ false) → KeepsSoundness rules w h n (on_held rules r from b held)
    by_role (inl e) =
        let p = and_parts (r.joined == b) (is_active r.role) e in
        let heard : Acknowledged w h from r.joined held =
        told_by_held (n + 1) held (subst (λ c. In (n + 1, record { from = from; body = Held c held }) w.sent)
        (sym (eqb-true r.joined b p.0)) sent) (omega arith) in
        subst (λ (o : Outcome S C O). KeepsSoundness rules w h n o) (sym (on_held-raises rules r from b held e))
        (ready_keeps rules w h h.line n r (record r { progress = raised from held r.progress }) (λ b c. ⊥) [] s
        (raised_ready rules w h n r from held s stands (role_active r.role p.1) heard) refl (s.nodes n r stands).id ran
        (λ to m i. elim i [ ]) (λ k u given moves to m i. elim i [ ]))
    by_role (inr e) = keeps_nothing rules w h n r _ s stands (on_held-elsewhere rules r from b held e)
