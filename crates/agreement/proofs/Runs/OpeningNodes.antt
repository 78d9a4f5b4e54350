-- OpeningNodes.antt: each node opens as it should be.
use Rattle.std.proofs.Common.{◌≡◌, ℕ, ◌+◌, ◌<◌, ◌≤◌, ◌⊎◌, inl, inr, Bool, true, false, cond, [], Some, refl, ap, sym, subst, arith}
use Rattle.std.specs.Prelude.{◌==◌}
use Rattle.std.specs.List.{list_any}
use Rattle.std.proofs.lemmas.Bool.{cases_eq, eq-eqb, ne_eqb}
use Rattle.machine.specs.Machine.{Rules}
use Rattle.agreement.proofs.LawfulConfigs.{any_in}
use Rattle.ballot_base.specs.declared.config.Config.{Config}
use Rattle.ballot_base.specs.declared.status.Progress.{Progress}
use Rattle.ballot_base.specs.declared.status.Role.TheVariants.{Backup, Active}
use Rattle.agreement.specs.whole_logs.Replica.{ReplicaState, opening}
use Rattle.ballot_base.specs.Replica.{others, progress_at}
use Rattle.agreement.specs.World.{opening_world}
use Rattle.lists.specs.Lists.{In, IsPrefixOf}
use Rattle.lists.specs.Lists.In.{here}
use Rattle.agreement.specs.Inside.Ballots.{Given, Line}
use Rattle.agreement.specs.Inside.Ballots.Acknowledged.{told_at_opening}
use Rattle.agreement.specs.Inside.BallotsStand.Applied.{nothing}
use Rattle.agreement.specs.Inside.OpeningHistory.{first_ballot, first_line, opening_history}
use Rattle.agreement.specs.Inside.SoundNodes.{IsSoundNode}
use Rattle.lists.proofs.Prefixes.{prefix_same}
use Rattle.agreement.proofs.Changing.Activating.{reached_of, followed_in}
use Rattle.agreement.proofs.Changing.OtherMembers.{in_others, others_in, not_others}
use Rattle.agreement.proofs.Runs.OpeningTold.{in_any, first_given, first_lined, told_opens}

-- a node that has joined a ballot or none, with an empty log
abbrev pub opens_in : {S C O : Type 0} → Rules S C O → ℕ → ℕ → ReplicaState S C
opens_in rules id ballot =
    record {
      id = id;
      joined = ballot;
      held_in = ballot;
      log = [];
      committed = 0;
      machine = rules.opening;
      role = Backup;
      members = [];
      previous = 0;
      previous_members = [];
      lacking = [];
      progress = [];
      stopped = false;
    }

-- a backup opens as it should be
backup_opens : {S C O : Type 0} (rules : Rules S C O) (nodes : ℕ) (config : Config) (n j : ℕ) → In config.primary config.members →
    ((j ≡ 1) × In (n + 1) config.members) ⊎ ((j ≡ 0) × (In (n + 1) config.members → ⊥)) →
    IsSoundNode (opening_world rules nodes config) (opening_history C config) n (opens_in rules (n + 1) j)
backup_opens {C = C} rules nodes config n j led way =
    record {
      id = refl;
      placed = record {
        order = omega arith;
        between = λ up. between up way;
        told = λ b k t. told b k way (told_opens rules nodes config led (n + 1) b k t);
        acknowledged_here = λ k t. let z = (told_opens rules nodes config led (n + 1) j k t).1 in omega (arith, z);
      };
      empty = λ e. refl;
      member = λ g e. member g (first_given C config j g e) way;
      primary_log = λ g l e is f. ap (λ (u : Line C). u.list) (first_lined C config j l f).1;
      joined_by = joined_by way;
      within = omega arith;
      applied = nothing refl;
      fetching = λ e. cc;
      installing = λ e. cc;
      active = λ e. cc;
    }
  where
    between : 0 < j → ((j ≡ 1) × In (n + 1) config.members) ⊎ ((j ≡ 0) × (In (n + 1) config.members → ⊥)) →
        (g : Given) × ((opening_history C config).given j ≡ Some g) × ((l : Line C) × ((opening_history C config).line j ≡ Some l)
        × IsPrefixOf l.base [] × IsPrefixOf [] l.list)
    between up (inl (one, i)) = (
      first_ballot config,
      ap (opening_history C config).given one,
      (first_line C, ap (opening_history C config).line one, prefix_same [], prefix_same []),
    )
    between up (inr (none, i)) = absurd (omega (arith, up, none))

    told : (b k : ℕ) → ((j ≡ 1) × In (n + 1) config.members) ⊎ ((j ≡ 0) × (In (n + 1) config.members → ⊥)) →
        (b ≡ 1) × (k ≡ 0) × In (n + 1) config.members → b ≤ j
    told b k (inl (one, i)) (first, none, member) = omega (arith, one, first)
    told b k (inr (zero_j, outside)) (first, none, member) = absurd (outside member)

    member : (g : Given) → (j ≡ 1) × (first_ballot config ≡ g) →
        ((j ≡ 1) × In (n + 1) config.members) ⊎ ((j ≡ 0) × (In (n + 1) config.members → ⊥)) → In (n + 1) g.members
    member g (one, same) (inl (also, i)) = subst (λ (x : Given). In (n + 1) x.members) same i
    member g (one, same) (inr (none, i)) = absurd (omega (arith, one, none))

    joined_by : ((j ≡ 1) × In (n + 1) config.members) ⊎ ((j ≡ 0) × (In (n + 1) config.members → ⊥)) →
        (j ≡ 0) ⊎ ((g : Given) × ((opening_history C config).given j ≡ Some g)
        × (In (n + 1) g.members ⊎ ((old : Given) × ((opening_history C config).given g.previous ≡ Some old) × In (n + 1) old.members)))
    joined_by (inl (one, i)) = inr (first_ballot config, ap (opening_history C config).given one, inl i)
    joined_by (inr (none, i)) = inl none

-- the primary opens as it should be
leader_opens : {S C O : Type 0} (rules : Rules S C O) (nodes : ℕ) (config : Config) (n : ℕ) → In config.primary config.members → config.primary ≡ n + 1 →
    IsSoundNode (opening_world rules nodes config) (opening_history C config) n
    (record (opens_in rules (n + 1) 1) { role = Active; members = config.members; progress = progress_at 0 (others (n + 1) config.members) })
leader_opens {C = C} rules nodes config n led primary =
    let t = backup_opens rules nodes config n 1 led (inl (refl, subst (λ x. In x config.members) primary led)) in
    record {
      id = refl;
      placed = record { order = t.placed.order; between = t.placed.between; told = t.placed.told; acknowledged_here = t.placed.acknowledged_here };
      empty = t.empty;
      member = t.member;
      primary_log = t.primary_log;
      joined_by = t.joined_by;
      within = t.within;
      applied = nothing refl;
      fetching = λ e. cc;
      installing = λ e. cc;
      active = λ e. record {
        leads = (first_ballot config, refl, primary, refl);
        own = refl;
        activated = here;
        line = first_line C;
        lined = refl;
        begun = inl refl;
        above = omega arith;
        covered = λ m i. by_member m (others_in (n + 1) config.members m i);
        followed = λ reached i. let z = reached_of 0 (others (n + 1) config.members) reached i in
            let j = in_others (n + 1) config.members reached.member z.0 in
            (j, omega arith, omega arith, told_at_opening (first_ballot config) refl z.1 refl j);
        others = λ reached i e. not_others (n + 1) config.members reached.member (reached_of 0 (others (n + 1) config.members) reached i).0 e;
      };
    }
  where
    by_member : (m : ℕ) → (m ≡ n + 1) ⊎ In m (others (n + 1) config.members) →
        (m ≡ n + 1) ⊎ ((reached : Progress) × In reached (progress_at 0 (others (n + 1) config.members)) × (reached.member ≡ m))
    by_member m (inl e) = inl e
    by_member m (inr i) = inr (followed_in 0 (others (n + 1) config.members) m i)

-- each node opens as it should be
pub node_opens : {S C O : Type 0} (rules : Rules S C O) (nodes : ℕ) (config : Config) (n : ℕ) → In config.primary config.members →
    IsSoundNode (opening_world rules nodes config) (opening_history C config) n (opening rules (n + 1) config)
node_opens {C = C} rules nodes config n led = by_role (cases_eq (n + 1) config.primary)
  where
    backup : (t : Bool) → list_any (λ member. member == n + 1) config.members ≡ t →
        IsSoundNode (opening_world rules nodes config) (opening_history C config) n (opens_in rules (n + 1) (cond t 1 0))
    backup true e = backup_opens rules nodes config n 1 led (inl (refl, any_in (n + 1) config.members e))
    backup false e = backup_opens rules nodes config n 0 led (inr (refl, λ i. let f = in_any (n + 1) config.members i in cc))

    by_role : (n + 1 ≡ config.primary) ⊎ (n + 1 ≡ config.primary → ⊥) →
        IsSoundNode (opening_world rules nodes config) (opening_history C config) n (opening rules (n + 1) config)
    by_role (inl same) =
        let e = in_any (n + 1) config.members (subst (λ x. In x config.members) (sym same) led) in
        rw (eq-eqb (n + 1) config.primary same, e) (leader_opens rules nodes config n led (sym same))
    by_role (inr other) =
        rw (ne_eqb (n + 1) config.primary other) (backup (list_any (λ member. member == n + 1) config.members) refl)
