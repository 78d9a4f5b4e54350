-- A primary that leads a ballot whose log it holds leads on after each message that leaves it in the ballot.
use Rattle.std.proofs.Common.{◌≡◌, ◌<◌, ◌≤◌, ◌⊎◌, inl, inr, ℕ, Bool, true, false, if◌then◌else◌, List, [], ◌∷◌, length, Option, Some, None, refl, sym, ap, subst, arith}
use Rattle.std.specs.Prelude.{nat_le, nat_lt, ◌&&◌, ◌||◌, ◌==◌}
use Rattle.std.specs.List.{list_any}
use Rattle.std.proofs.lemmas.Bool.{and_parts, both_ways, cases_lt, ltb-true, or_cases}
use Rattle.ballot_base.specs.declared.message.Body.{Body}
use Rattle.ballot_base.specs.declared.message.Body.TheVariants.{NewBallot, Join, State, Install, Installed, Activate, Activated, Superseded, Append, Held, Commit}
use Rattle.ballot_base.specs.Transfer.{answers_installed, lacks, waits_for, on_install, on_join, on_new_ballot, on_state}
use Rattle.ballot_base.specs.Activation.{on_activated, on_installed, on_superseded}
use Rattle.ballot_base.specs.Logs.{Log, places, pushed}
use Rattle.machine.specs.Machine.{Rules}
use Rattle.ballot_base.specs.Protocol.{received}
use Rattle.ballot_base.specs.Replica.{ReplicaState, is_active, is_backup, is_fetching, is_installing}
use Rattle.ballot_base.specs.declared.status.Role.TheVariants.{Active, Backup}
use Rattle.ballot_base.specs.StepOutcome.{Outcome, message_to, nothing_done}
use Rattle.ballot_base.specs.TakenLog.{taken}
use Rattle.ballot_base.specs.Service.{added, commit, commit_at, follows, leads, least, max_places, on_append, on_commit, on_held, proposed, raised}
use Rattle.ballot_base.proofs.StepRows.{commit_at-goes, commit_at-stays}

-- it is the active primary of this ballot, in which its log was installed, and it runs
pub record LeadsAt {S C : Type 0} (ballot : ℕ) (r : ReplicaState S C) : Type 0 where
  pub joined : r.joined ≡ ballot
  pub held : r.held_in ≡ ballot
  pub role : r.role ≡ Active
  pub runs : r.stopped ≡ false

by_test : {S C O : Type 0} (ballot : ℕ) (t : Bool) (o u : Outcome S C O) → (t ≡ true → LeadsAt ballot o.state) → (t ≡ false → LeadsAt ballot u.state) →
    LeadsAt ballot (if t then o else u).state
by_test ballot true o u f g = f refl
by_test ballot false o u f g = g refl

joined_if : {S C O : Type 0} (t : Bool) (o u : Outcome S C O) (n : ℕ) → (if t then o else u).state.joined ≡ n → t ≡ true → o.state.joined ≡ n
joined_if true o u n j e = j
joined_if false o u n j e = absurd (both_ways false refl e)

-- a test whose first part fails is not passed
fails_first : (x y : Bool) → x ≡ false → (x && y) ≡ true → ⊥
fails_first x y e f = both_ways x e (and_parts x y f).0

fails_last : (x y : Bool) → y ≡ false → (x && y) ≡ true → ⊥
fails_last x y e f = both_ways y e (and_parts x y f).1

module _ {S C O : Type 0} (rules : Rules S C O) (ballot : ℕ) (r : ReplicaState S C) (l : LeadsAt ballot r) where
  not_below : (b : ℕ) → nat_lt r.joined b ≡ true → b ≡ ballot → ⊥
  not_below b e same = let x = ltb-true r.joined b e in let y = l.joined in omega (arith, x, y, same)

  installing : is_installing r.role ≡ false
  installing = ap is_installing l.role

  backup : is_backup r.role ≡ false
  backup = ap is_backup l.role

  committed : (p : ReplicaState S C) (k : ℕ) → LeadsAt ballot p → LeadsAt ballot (commit_at {O = O} rules p k).state
  committed p k z = by (cases_lt p.committed k)
    where
      by : (p.committed < k) ⊎ (k ≤ p.committed) → LeadsAt ballot (commit_at {O = O} rules p k).state
      by (inl over) = subst (λ (o : Outcome S C O). LeadsAt ballot o.state) (sym (commit_at-goes rules p k over)) (record { joined = z.joined; held = z.held; role = z.role; runs = z.runs })
      by (inr low) = subst (λ (o : Outcome S C O). LeadsAt ballot o.state) (sym (commit_at-stays rules p k low)) z

  new_ballot : (b : ℕ) (members : List ℕ) (a : ℕ) (old : List ℕ) → (on_new_ballot O r b members a old).state.joined ≡ ballot → LeadsAt ballot (on_new_ballot O r b members a old).state
  unfolding on_new_ballot
  new_ballot b members a old after = by_test ballot (nat_lt r.joined b) _ (nothing_done O r) (λ e. absurd (not_below b e (joined_if (nat_lt r.joined b) _ (nothing_done O r) ballot after e))) (λ e. l)

  join : (from b a : ℕ) → (on_join O r from b a).state.joined ≡ ballot → LeadsAt ballot (on_join O r from b a).state
  unfolding on_join
  join from b a after =
      by_test ballot (nat_le r.joined b && nat_le a r.held_in) _ (nothing_done O r) (λ e. by (nat_lt r.joined b) refl (joined_if (nat_le r.joined b && nat_le a r.held_in) _ (nothing_done O r) ballot after e)) (λ e. l)
    where
      by : (t : Bool) → nat_lt r.joined b ≡ t → (if t then record r { joined = b; role = Backup } else r).joined ≡ ballot →
          LeadsAt ballot (if t then record r { joined = b; role = Backup } else r)
      by true e j = absurd (not_below b e j)
      by false e j = l

  state : (b : ℕ) (log : Log C) → LeadsAt ballot (on_state {O = O} rules r b log).state
  unfolding on_state
  state b log =
      by_test ballot (waits_for r b (places log)) _ (nothing_done O r)
      (λ e. absurd (fails_first (is_fetching r.role) (nat_le r.committed (places log)) (ap is_fetching l.role) (and_parts (r.joined == b) (is_fetching r.role && nat_le r.committed (places log)) e).1))
      (λ e. l)

  abbrev installs_by : ℕ → ℕ → Log C → Option (ReplicaState S C) → Outcome S C O
  installs_by from b log t = if lacks r b (places log) then answers_installed O r from b (places log) t
      else if r.joined == b && r.held_in == b then record { state = r; effects = message_to O r.id (Installed b (places log)) from ∷ [] } else nothing_done O r

  install : (from b : ℕ) (log : Log C) → (on_install {O = O} rules r from b log).state.joined ≡ ballot → LeadsAt ballot (on_install {O = O} rules r from b log).state
  unfolding on_install
  install from b log after = by (taken rules r log) after
    where
      again : LeadsAt ballot (if r.joined == b && r.held_in == b then record { state = r; effects = message_to O r.id (Installed b (places log)) from ∷ [] } else nothing_done O r).state
      again = by_test ballot (r.joined == b && r.held_in == b) _ (nothing_done O r) (λ e. l) (λ e. l)

      lacking : b ≡ ballot → lacks r b (places log) ≡ true → ⊥
      lacking same e = by_first (or_cases (nat_lt r.joined b) (r.joined == b && nat_lt r.held_in b) (and_parts (nat_lt r.joined b || (r.joined == b && nat_lt r.held_in b)) (nat_le r.committed (places log)) e).0)
        where
          by_first : (nat_lt r.joined b ≡ true) ⊎ ((r.joined == b && nat_lt r.held_in b) ≡ true) → ⊥
          by_first (inl f) = not_below b f same
          by_first (inr f) = let x = ltb-true r.held_in b (and_parts (r.joined == b) (nat_lt r.held_in b) f).1 in let y = l.held in omega (arith, x, y, same)

      by : (t : Option (ReplicaState S C)) → (installs_by from b log t).state.joined ≡ ballot → LeadsAt ballot (installs_by from b log t).state
      by None j = by_test ballot (lacks r b (places log)) _ _ (λ e. l) (λ e. again)
      by (Some took) j = by_test ballot (lacks r b (places log)) _ _ (λ e. absurd (lacking (joined_if (lacks r b (places log)) _ _ ballot j e) e)) (λ e. again)

  installed : (from b : ℕ) → LeadsAt ballot (on_installed O r from b).state
  unfolding on_installed
  installed from b =
      by_test ballot ((r.joined == b && is_installing r.role) && list_any (λ member. member == from) r.lacking) _ (nothing_done O r)
      (λ e. absurd (fails_last (r.joined == b) (is_installing r.role) installing (and_parts (r.joined == b && is_installing r.role) (list_any (λ member. member == from) r.lacking) e).0)) (λ e. l)

  activated : (b : ℕ) → LeadsAt ballot (on_activated {O = O} rules r b).state
  unfolding on_activated
  activated b =
      by_test ballot ((r.joined == b && is_installing r.role) && (nat_le (length r.lacking) 0 && nat_lt (places r.log) max_places)) _ (nothing_done O r)
      (λ e. absurd (fails_last (r.joined == b) (is_installing r.role) installing
      (and_parts (r.joined == b && is_installing r.role) (nat_le (length r.lacking) 0 && nat_lt (places r.log) max_places) e).0)) (λ e. l)

  superseded : (b : ℕ) → LeadsAt ballot (on_superseded O r b).state
  unfolding on_superseded
  superseded b = by_test ballot (r.joined == b && is_installing r.role) _ (nothing_done O r) (λ e. absurd (fails_last (r.joined == b) (is_installing r.role) installing e)) (λ e. l)

  append : (from b place : ℕ) (c : C) → LeadsAt ballot (on_append O r from b place c).state
  unfolding on_append
  append from b place c =
      by_test ballot (follows r b && nat_le place (places r.log)) _ (nothing_done O r)
      (λ e. absurd (fails_last (r.joined == b && r.held_in == b) (is_backup r.role) backup (and_parts (follows r b) (nat_le place (places r.log)) e).0)) (λ e. l)

  holds : (from b k : ℕ) → LeadsAt ballot (on_held {O = O} rules r from b k).state
  unfolding on_held commit
  holds from b k =
      by_test ballot (leads r b) _ (nothing_done O r)
      (λ e. committed (record r { progress = raised from k r.progress }) (least (places r.log) (raised from k r.progress))
      (record { joined = l.joined; held = l.held; role = l.role; runs = l.runs })) (λ e. l)

  commits : (b k : ℕ) → LeadsAt ballot (on_commit {O = O} rules r b k).state
  unfolding on_commit
  commits b k =
      by_test ballot (follows r b && nat_le k (places r.log)) _ (nothing_done O r)
      (λ e. absurd (fails_last (r.joined == b && r.held_in == b) (is_backup r.role) backup (and_parts (follows r b) (nat_le k (places r.log)) e).0)) (λ e. l)

  -- and if it proposes
  added_leads : (c : C) → LeadsAt ballot (added {O = O} rules r c).state
  unfolding added commit
  added_leads c =
      committed (record r { log = pushed r.log c }) (least (places (pushed r.log c)) r.progress) (record { joined = l.joined; held = l.held; role = l.role; runs = l.runs })

  pub leads_proposing : (c : C) → LeadsAt ballot (proposed {O = O} rules r c).state
  unfolding proposed
  leads_proposing c = by_test ballot (is_active r.role && nat_lt (places r.log) max_places) _ (nothing_done O r) (λ e. added_leads c) (λ e. l)

  pub leads_on : (from : ℕ) (body : Body C) → (received {O = O} rules r from body).state.joined ≡ ballot → LeadsAt ballot (received {O = O} rules r from body).state
  leads_on from (NewBallot b members a old) after = new_ballot b members a old after
  leads_on from (Join b a) after = join from b a after
  leads_on from (State b log) after = state b log
  leads_on from (Install b log) after = install from b log after
  leads_on from (Installed b k) after = installed from b
  leads_on from (Activate b) after = l
  leads_on from (Activated b) after = activated b
  leads_on from (Superseded b) after = superseded b
  leads_on from (Append b place c) after = append from b place c
  leads_on from (Held b k) after = holds from b k
  leads_on from (Commit b k) after = commits b k
