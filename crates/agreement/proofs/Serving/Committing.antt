-- Committing.antt: a Commit that comes to a backup.
use Rattle.std.proofs.Common.{◌≡◌, ℕ, ◌+◌, ◌<◌, ◌≤◌, ◌⊎◌, inl, inr, true, false, max, List, [], length, take, Some, refl, ap, sym, ◌∙◌, subst, arith}
use Rattle.std.specs.Prelude.{slice_get, ◌&&◌, ◌==◌}
use Rattle.std.proofs.lemmas.Bool.{cases_Bool, cases_lt, and_parts, eqb-true}
use Rattle.machine.specs.Machine.{Rules}
use Rattle.agreement.specs.whole_logs.Application.{applied_to}
use Rattle.agreement.specs.whole_logs.Messages.Body.{Commit}
use Rattle.agreement.specs.whole_logs.Messages.{Effect}
use Rattle.agreement.specs.whole_logs.Replica.{ReplicaState}
use Rattle.ballot_base.specs.Replica.{is_backup}
use Rattle.agreement.specs.whole_logs.StepOutcome.{Outcome}
use Rattle.agreement.specs.whole_logs.Service.{follows, on_commit}
use Rattle.agreement.proofs.of_whole_logs.MessageRows.{on_commit-elsewhere, on_commit-past, on_commit-takes}
use Rattle.agreement.specs.World.{GroupWorld, moved}
use Rattle.lists.specs.Lists.{In, IsPrefixOf}
use Rattle.agreement.specs.Inside.Ballots.{Given, Line, History}
use Rattle.agreement.specs.Inside.BallotsStand.{Applied}
use Rattle.agreement.specs.Inside.BallotsStand.Applied.{nothing, in_ballot}
use Rattle.agreement.specs.Inside.Keeps.{KeepsSoundness}
use Rattle.agreement.specs.Inside.Sound.{IsSoundWorld}
use Rattle.agreement.specs.Inside.SoundNodes.{IsSoundNode}
use Rattle.agreement.specs.Inside.MessageMeaning.{SpeaksTruth}
use Rattle.agreement.proofs.Frame.Later.{chosen_kept, takes}
use Rattle.agreement.proofs.Frame.Joining.{MovesQuietly, quiet_extends}
use Rattle.agreement.proofs.Frame.Quiet.{before_quiet, quiet_keeps, keeps_nothing}
use Rattle.agreement.proofs.Frame.Roles.{role_backup}

-- a backup that follows a ballot
pub record Follows {S C : Type 0} (r : ReplicaState S C) (b : ℕ) : Type 0 where
  pub joined : r.joined ≡ b
  pub held : r.held_in ≡ b
  pub backup : is_backup r.role ≡ true

pub follows_is : {S C : Type 0} (r : ReplicaState S C) (b : ℕ) → follows r b ≡ true → Follows r b
follows_is r b e =
    let p = and_parts (r.joined == b && r.held_in == b) (is_backup r.role) e in
    let q = and_parts (r.joined == b) (r.held_in == b) p.0 in
    record { joined = eqb-true r.joined b q.0; held = eqb-true r.held_in b q.1; backup = p.1 }

-- a Commit that is taken
commit_taken : {S C O : Type 0} (rules : Rules S C O) (w : GroupWorld S C O) (h : History C) (n : ℕ) (r : ReplicaState S C)
    (from b held : ℕ) → IsSoundWorld rules w h → slice_get w.nodes n ≡ Some r → SpeaksTruth w h (n + 1) from (Commit b held) →
    Follows r b → held ≤ length r.log →
    KeepsSoundness rules w h n (record { state = applied_to rules r (max r.committed held); effects = [] })
commit_taken {S = S} {C = C} {O = O} rules w h n r from b held s stands said f within =
    quiet_keeps rules w h n r (record { state = new; effects = [] }) s stands (omega arith) (omega arith) (λ to m i. elim i [ ]) refl
    (λ given q. node given q) (λ given q to m i. elim i [ ])
  where
    new : ReplicaState S C
    new = applied_to rules r (max r.committed held)

    node : (given : List (Effect C O)) → MovesQuietly w n r new given → IsSoundNode (moved w n new given) h n new
    node given q = let t = before_quiet rules w h n r new given s q in record {
      id = t.id;
      placed = record { order = t.placed.order; between = t.placed.between; told = t.placed.told; acknowledged_here = t.placed.acknowledged_here };
      empty = t.empty;
      member = t.member;
      primary_log = t.primary_log;
      joined_by = t.joined_by;
      within = (let a = t.within in omega (arith, a, within));
      applied = by_order t (cases_lt r.committed held);
      fetching = λ e. let z = role_backup r.role f.backup in cc;
      installing = λ e. let z = role_backup r.role f.backup in cc;
      active = λ e. let z = role_backup r.role f.backup in cc;
    }
      where
        as_before : max r.committed held ≡ r.committed → Applied (moved w n new given) h r → Applied (moved w n new given) h new
        as_before same (nothing e) = nothing (same ∙ e)
        as_before same (in_ballot c k l i up e chosen front) =
            in_ballot c k l i up e chosen (subst (λ j. IsPrefixOf (take j r.log) (take k l.list)) (sym same) front)

        by_line : (max r.committed held ≡ held) → (g : Given) × (h.given r.held_in ≡ Some g) × ((l : Line C) × (h.line r.held_in ≡ Some l)
            × IsPrefixOf l.base r.log × IsPrefixOf r.log l.list) → Applied (moved w n new given) h new
        by_line same (g, is_given, (l, lined, base, list)) =
            in_ballot b held l said.4 (let z = f.joined in omega (arith, z)) (ap h.line (sym f.held) ∙ lined)
            (chosen_kept w (moved w n new given) h h b held (quiet_extends w h n r new given q) said.5)
            (subst (λ j. IsPrefixOf (take j r.log) (take held l.list)) (sym same) (takes held list))

        by_order : IsSoundNode (moved w n new given) h n r → (r.committed < held) ⊎ (held ≤ r.committed) →
            Applied (moved w n new given) h new
        by_order t (inl more) =
            let up = s.ballots.were_given b said.4 in let z = up.2 in let e = f.held in
            by_line (omega (arith, more)) (t.placed.between (omega (arith, z, e)))
        by_order t (inr less) = as_before (omega (arith, less)) t.applied

-- a Commit that comes
pub keeps_commit : {S C O : Type 0} (rules : Rules S C O) (w : GroupWorld S C O) (h : History C) (n : ℕ) (r : ReplicaState S C)
    (from b held : ℕ) → IsSoundWorld rules w h → slice_get w.nodes n ≡ Some r →
    In (n + 1, record { from = from; body = Commit b held }) w.sent → KeepsSoundness rules w h n (on_commit rules r b held)
keeps_commit {S = S} {C = C} {O = O} rules w h n r from b held s stands sent = by_role (cases_Bool (follows r b))
  where
    by_length : follows r b ≡ true → (length r.log < held) ⊎ (held ≤ length r.log) → KeepsSoundness rules w h n (on_commit rules r b held)
    by_length e (inl past) = keeps_nothing rules w h n r _ s stands (on_commit-past rules r b held e past)
    by_length e (inr within) =
        subst (λ (o : Outcome S C O). KeepsSoundness rules w h n o) (sym (on_commit-takes rules r b held e within))
        (commit_taken rules w h n r from b held s stands (s.said (n + 1) _ sent) (follows_is r b e) within)

    by_role : (follows r b ≡ true) ⊎ (follows r b ≡ false) → KeepsSoundness rules w h n (on_commit rules r b held)
    by_role (inl e) = by_length e (cases_lt (length r.log) held)
    by_role (inr e) = keeps_nothing rules w h n r _ s stands (on_commit-elsewhere rules r b held e)
