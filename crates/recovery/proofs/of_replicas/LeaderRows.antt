-- LeaderRows.antt: what each message of the way does to the new primary.
use Rattle.std.proofs.Common.{◌≡◌, ℕ, suc, ◌+◌, ◌<◌, ◌≤◌, cond, min, max, true, false, Bool, List, [], ◌∷◌, ◌++◌, length, map, take, drop, refl, ap, sym, ◌∙◌, subst, arith, length-append, append_assoc}
use Rattle.std.specs.Prelude.{◌==◌, ◌&&◌, nat_lt, nat_le}
use Rattle.std.specs.List.{list_any}
use Rattle.std.proofs.lemmas.Bool.{eq-eqb, ne_eqb, le-leb, lt-ltb}
use Rattle.machine.specs.Machine.{Rules}
use Rattle.agreement.specs.whole_logs.Application.{applied_to, outputs_from, outputs_to}
use Rattle.agreement.specs.whole_logs.Messages.Body.{State, Installed, Activate, Activated, Append, Held, Commit}
use Rattle.agreement.specs.whole_logs.Transfer.{install_effects}
use Rattle.agreement.specs.whole_logs.Activation.{activates}
use Rattle.agreement.specs.whole_logs.Messages.{Effect}
use Rattle.agreement.specs.whole_logs.Messages.Effect.{Out}
use Rattle.ballot_base.specs.declared.status.Progress.{Progress}
use Rattle.agreement.specs.whole_logs.Protocol.{received}
use Rattle.agreement.specs.whole_logs.Replica.{ReplicaState}
use Rattle.ballot_base.specs.Replica.{others, progress_at, is_active, is_fetching}
use Rattle.ballot_base.specs.declared.status.Role.TheVariants.{Fetching, Active}
use Rattle.agreement.specs.whole_logs.StepOutcome.{Outcome, message_to, message_to_followed, sent_first}
use Rattle.ballot_base.specs.StepOutcome.{master}
use Rattle.agreement.specs.whole_logs.Service.{added, commit_at}
use Rattle.ballot_base.specs.Service.{least, max_places, raised, raised_progress}
use Rattle.agreement.proofs.of_whole_logs.ChangeRows.{on_state-takes, on_installed-counts, on_activated-adds}
use Rattle.agreement.proofs.of_whole_logs.MessageRows.{on_held-raises}
use Rattle.agreement.proofs.of_whole_logs.StepRows.{added-is, commit_at-goes, commit_at-stays}
use Rattle.lists.specs.Lists.{In}
use Rattle.lists.specs.Lists.In.{here, there}
use Rattle.recovery.specs.replicas.LedStates.{LeadsIn}
use Rattle.recovery.specs.replicas.Inside.{installing, known}
use Rattle.recovery.proofs.of_replicas.Gathers.{nothing_after}
use Rattle.recovery.proofs.of_replicas.Rows.{any_first, both, others_first}

-- ---- State and Installed

abbrev pub installing_with : {S C : Type 0} → ℕ → List C → ReplicaState S C → List ℕ → List ℕ → ReplicaState S C
installing_with b log r came left = installing b log r left

pub state_taken : {S C O : Type 0} (rules : Rules S C O) (b from : ℕ) (log : List C) (r : ReplicaState S C) → r.joined ≡ b → r.role ≡ Fetching →
    r.committed ≤ length log → received rules r from (State b log) ≡ record {
      state = installing b log r (others r.id r.members);
      effects = install_effects O (installing b log r (others r.id r.members)) (others r.id r.members);
    }
state_taken {O = O} rules b from log r joined role short =
    on_state-takes O r b log
    (both (r.joined == b) (is_fetching r.role && nat_le r.committed (length log)) (eq-eqb r.joined b joined)
    (both (is_fetching r.role) (nat_le r.committed (length log)) (ap is_fetching role) (le-leb r.committed (length log) short)))

installed_row : {S C O : Type 0} (rules : Rules S C O) (b n : ℕ) (log : List C) (r : ReplicaState S C) (m : ℕ) (left : List ℕ) → r.joined ≡ b →
    (In m left → ⊥) → received rules (installing b log r (m ∷ left)) m (Installed b n) ≡ record {
      state = installing b log r left;
      effects = activates O (installing b log r left) left;
    }
installed_row {S = S} {C = C} {O = O} rules b n log r m left joined out =
    on_installed-counts O (installing b log r (m ∷ left)) m b
    (both (r.joined == b && true) (list_any (λ member. member == m) (m ∷ left)) (both (r.joined == b) true (eq-eqb r.joined b joined) refl) (any_first m left))
    ∙ ap (λ (l : List ℕ). let o : Outcome S C O = record {
      state = installing b log r l;
      effects = activates O (installing b log r l) l;
    } in o) (others_first m left out)

pub installed_goes_on : {S C O : Type 0} (rules : Rules S C O) (b n : ℕ) (log : List C) (r : ReplicaState S C) → r.joined ≡ b →
    (came : List ℕ) (m : ℕ) (left : List ℕ) → (left ≡ [] → ⊥) → (In m left → ⊥) →
    received rules (installing_with b log r came (m ∷ left)) m (Installed b n)
    ≡ record { state = installing_with b log r (came ++ m ∷ []) left; effects = [] }
installed_goes_on rules b n log r joined came m [] some out = absurd (some refl)
installed_goes_on rules b n log r joined came m (x ∷ left) some out = installed_row rules b n log r m (x ∷ left) joined out

pub installed_last : {S C O : Type 0} (rules : Rules S C O) (b n : ℕ) (log : List C) (r : ReplicaState S C) → r.joined ≡ b → (m : ℕ) →
    received rules (installing b log r (m ∷ [])) m (Installed b n) ≡ record {
      state = installing b log r [];
      effects = message_to O r.id (Activate r.joined) master ∷ [];
    }
installed_last rules b n log r joined m = installed_row rules b n log r m [] joined (λ i. elim i [ ])

-- ---- Activated

abbrev pub activated_one : {S C O : Type 0} → Rules S C O → ℕ → List C → ReplicaState S C → ReplicaState S C
activated_one rules b log r =
    record (applied_to rules (installing b log r []) (length log)) { role = Active; progress = progress_at (length log) (others r.id r.members) }

pub activated_row : {S C O : Type 0} (rules : Rules S C O) (b : ℕ) (log : List C) (r : ReplicaState S C) → r.joined ≡ b → length log < max_places →
    received rules (installing b log r []) 0 (Activated b) ≡ added rules (activated_one rules b log r) (rules.start_of b)
activated_row rules b log r joined room =
    on_activated-adds rules (installing b log r []) b
    (both (r.joined == b && true) (true && nat_lt (length log) max_places) (both (r.joined == b) true (eq-eqb r.joined b joined) refl)
    (both true (nat_lt (length log) max_places) refl (lt-ltb (length log) max_places room)))

-- ---- what is added

least_at : (n held : ℕ) (ms : List ℕ) → n ≤ held → least n (progress_at held ms) ≡ n
least_at n held [] low = refl
least_at n held (m ∷ ms) low = ap (λ k. least k (progress_at held ms)) (let e : min n held ≡ n = omega (arith, low) in e) ∙ least_at n held ms low

least_one : (n held : ℕ) (ms : List ℕ) → held ≤ n → (ms ≡ [] → ⊥) → least n (progress_at held ms) ≡ held
least_one n held [] low some = absurd (some refl)
least_one n held (m ∷ ms) low some =
    ap (λ k. least k (progress_at held ms)) (let e : min n held ≡ held = omega (arith, low) in e) ∙ least_at held held ms (omega arith)

-- if others are to hold it first, it is sent to them, and nothing is committed
pub added_waits : {S C O : Type 0} (rules : Rules S C O) (r : ReplicaState S C) (c : C) (ms : List ℕ) → (ms ≡ [] → ⊥) →
    r.progress ≡ progress_at (length r.log) ms → r.committed ≡ length r.log → added rules r c ≡ record {
      state = record r { log = r.log ++ c ∷ [] };
      effects = message_to_followed O r.id (Append r.joined (length r.log) c) r.progress ++ [];
    }
added_waits {S = S} {C = C} {O = O} rules r c ms some progress committed =
    added-is rules r c
    ∙ ap (sent_first (message_to_followed O r.id (Append r.joined (length r.log) c) r.progress))
    (commit_at-stays rules (record r { log = r.log ++ c ∷ [] }) _ low)
  where
    low : least (length (r.log ++ c ∷ [])) r.progress ≤ r.committed
    low = let long = length-append r.log (c ∷ []) in
        let e : least (length (r.log ++ c ∷ [])) r.progress ≡ length r.log =
        ap (least (length (r.log ++ c ∷ []))) progress ∙ least_one (length (r.log ++ c ∷ [])) (length r.log) ms (omega (arith, long)) some in
        omega (arith, e, committed)

-- if there are no others, it is committed at once
pub added_alone : {S C O : Type 0} (rules : Rules S C O) (r : ReplicaState S C) (c : C) → r.progress ≡ [] → r.committed ≡ length r.log →
    added rules r c ≡ record {
      state = applied_to rules (record r { log = r.log ++ c ∷ [] }) (length r.log + 1);
      effects = outputs_to rules (record r { log = r.log ++ c ∷ [] }) (length r.log + 1);
    }
added_alone {S = S} {C = C} {O = O} rules r c progress committed =
    added-is rules r c
    ∙ ap (λ (l : List Progress). sent_first (message_to_followed O r.id (Append r.joined (length r.log) c) l)
    (commit_at rules (record r { log = r.log ++ c ∷ [] }) (least (length (r.log ++ c ∷ [])) l))) progress
    ∙ ap (λ n. commit_at rules (record r { log = r.log ++ c ∷ [] }) n) (length-append r.log (c ∷ []))
    ∙ commit_at-goes rules (record r { log = r.log ++ c ∷ [] }) (length r.log + 1) (omega (arith, committed))
    ∙ ap (λ (l : List Progress). let o : Outcome S C O = record {
      state = applied_to rules (record r { log = r.log ++ c ∷ [] }) (length r.log + 1);
      effects = outputs_to rules (record r { log = r.log ++ c ∷ [] }) (length r.log + 1) ++ message_to_followed O r.id (Commit r.joined (length r.log + 1)) l;
    } in o) progress
    ∙ ap (λ (l : List (Effect C O)). let o : Outcome S C O = record {
      state = applied_to rules (record r { log = r.log ++ c ∷ [] }) (length r.log + 1);
      effects = l;
    } in o) (nothing_after (outputs_to rules (record r { log = r.log ++ c ∷ [] }) (length r.log + 1)))

-- what is given for the place after all that are applied
pub outputs_next : {S C O : Type 0} (rules : Rules S C O) (r : ReplicaState S C) (log : List C) (c : C) → r.log ≡ log ++ c ∷ [] → r.committed ≡ length log →
    outputs_to rules r (length log + 1) ≡ map (Out (length log)) (rules.gives r.machine c)
outputs_next {S = S} {C = C} {O = O} rules r log c is committed =
    ap (λ k. outputs_from rules r.machine k (drop k (take (length log + 1) r.log))) committed
    ∙ ap (λ (l : List C). outputs_from rules r.machine (length log) (drop (length log) (take (length log + 1) l))) is
    ∙ ap (outputs_from rules r.machine (length log)) (last_alone log)
    ∙ nothing_after (map (Out (length log)) (rules.gives r.machine c))
  where
    last_of : (xs : List C) → drop (length xs) (take (suc (length xs)) (xs ++ c ∷ [])) ≡ c ∷ []
    last_of [] = refl
    last_of (x ∷ xs) = last_of xs

    last_alone : (xs : List C) → drop (length xs) (take (length xs + 1) (xs ++ c ∷ [])) ≡ c ∷ []
    last_alone xs = ap (λ k. drop (length xs) (take k (xs ++ c ∷ []))) (let e : length xs + 1 ≡ suc (length xs) = omega arith in e) ∙ last_of xs

-- ---- Held

-- a progress that is raised from some place to the next
pub raised_all : (m held : ℕ) (ms : List ℕ) → raised m (held + 1) (progress_at (held + 1) ms) ≡ progress_at (held + 1) ms
raised_all m held [] = refl
raised_all m held (x ∷ ms) =
    ap (λ (r : Progress). r ∷ raised m (held + 1) (progress_at (held + 1) ms)) (by_member (x == m))
    ∙ ap (λ (l : List Progress). record { member = x; held = held + 1 } ∷ l) (raised_all m held ms)
  where
    by_member : (b : Bool) → ◌≡◌ {A = Progress} (cond b (record { member = x; held = max (held + 1) (held + 1) }) (record { member = x; held = held + 1 })) (record { member = x; held = held + 1 })
    by_member true = ap (λ n. let r : Progress = record { member = x; held = n } in r) (let e : max (held + 1) (held + 1) ≡ held + 1 = omega arith in e)
    by_member false = refl

pub raised_none : (m held low : ℕ) (ms : List ℕ) → (In m ms → ⊥) → raised m held (progress_at low ms) ≡ progress_at low ms
raised_none m held low [] out = refl
raised_none m held low (x ∷ ms) out =
    rw (ne_eqb x m (λ e. out (subst (λ y. In m (y ∷ ms)) (sym e) here)))
    (ap (λ (l : List Progress). record { member = x; held = low } ∷ l) (raised_none m held low ms (λ i. out (there i))))

pub raised_first : (m held : ℕ) (ms : List ℕ) → (In m ms → ⊥) →
    raised m (held + 1) (progress_at held (m ∷ ms)) ≡ progress_at (held + 1) (m ∷ []) ++ progress_at held ms
raised_first m held ms out =
    rw (eq-eqb m m refl)
    (ap (λ (l : List Progress). record { member = m; held = max held (held + 1) } ∷ l) (raised_none m (held + 1) held ms out)
    ∙ ap (λ n. let r : Progress = record { member = m; held = n } in r ∷ progress_at held ms) (let e : max held (held + 1) ≡ held + 1 = omega arith in e))

raised_both : (m held : ℕ) (xs ys : List Progress) → raised m held (xs ++ ys) ≡ raised m held xs ++ raised m held ys
raised_both m held [] ys = refl
raised_both m held (x ∷ xs) ys = ap (λ (l : List Progress). raised_progress m held x ∷ l) (raised_both m held xs ys)

progress_both : (held : ℕ) (xs ys : List ℕ) → progress_at held (xs ++ ys) ≡ progress_at held xs ++ progress_at held ys
progress_both held [] ys = refl
progress_both held (x ∷ xs) ys = ap (λ (l : List Progress). record { member = x; held = held } ∷ l) (progress_both held xs ys)

-- a member of those that are left is known to hold one more
pub raised_known : (m held : ℕ) (came left : List ℕ) → (In m left → ⊥) →
    raised m (held + 1) (progress_at (held + 1) came ++ progress_at held (m ∷ left)) ≡ progress_at (held + 1) (came ++ m ∷ []) ++ progress_at held left
raised_known m held came left out =
    raised_both m (held + 1) (progress_at (held + 1) came) (progress_at held (m ∷ left))
    ∙ ap (λ (l : List Progress). l ++ raised m (held + 1) (progress_at held (m ∷ left))) (raised_all m held came)
    ∙ ap (λ (l : List Progress). progress_at (held + 1) came ++ l) (raised_first m held left out)
    ∙ sym (append_assoc (progress_at (held + 1) came) (progress_at (held + 1) (m ∷ [])) (progress_at held left))
    ∙ ap (λ (l : List Progress). l ++ progress_at held left) (sym (progress_both (held + 1) came (m ∷ [])))

-- the least of what some are known to hold
least_both : (n : ℕ) (xs ys : List Progress) → least n (xs ++ ys) ≡ least (least n xs) ys
least_both n [] ys = refl
least_both n (x ∷ xs) ys = least_both (min n x.held) xs ys

pub least_known : (n held : ℕ) (came left : List ℕ) → n ≡ held + 1 → (left ≡ [] → ⊥) →
    least n (progress_at (held + 1) came ++ progress_at held left) ≡ held
least_known n held came left is some =
    least_both n (progress_at (held + 1) came) (progress_at held left)
    ∙ ap (λ k. least k (progress_at held left)) (least_at n (held + 1) came (omega (arith, is)))
    ∙ least_one n held left (omega (arith, is)) some

-- the new primary receives an answer that is not the last, and the last
module _ {S C O : Type 0} (rules : Rules S C O) (b : ℕ) (r : ReplicaState S C) (log : List C) (c : C) (lead : LeadsIn b r) (long : r.log ≡ log ++ c ∷ [])
    (committed : r.committed ≡ length log) where
  count : length r.log ≡ length log + 1
  count = ap length long ∙ length-append log (c ∷ [])

  held_row : (came : List ℕ) (m : ℕ) (left : List ℕ) → (In m left → ⊥) → received rules (known (length log) r came (m ∷ left)) m (Held b (length log + 1))
      ≡ commit_at rules (known (length log) r (came ++ m ∷ []) left) (least (length r.log) (progress_at (length log + 1) (came ++ m ∷ []) ++ progress_at (length log) left))
  held_row came m left out =
      on_held-raises rules (known (length log) r came (m ∷ left)) m b (length log + 1) (both (r.joined == b) (is_active r.role) (eq-eqb r.joined b lead.joined) (ap is_active lead.role))
      ∙ ap (λ (l : List Progress). commit_at rules (record r { progress = l }) (least (length r.log) l)) (raised_known m (length log) came left out)

  pub held_goes_on : (came : List ℕ) (m : ℕ) (left : List ℕ) → (left ≡ [] → ⊥) → (In m left → ⊥) →
      received rules (known (length log) r came (m ∷ left)) m (Held b (length log + 1))
      ≡ record { state = known (length log) r (came ++ m ∷ []) left; effects = [] }
  held_goes_on came m left some out =
      held_row came m left out
      ∙ commit_at-stays rules (known (length log) r (came ++ m ∷ []) left) _
      (let e = least_known (length r.log) (length log) (came ++ m ∷ []) left count some in omega (arith, e, committed))

  pub held_last : (came : List ℕ) (m : ℕ) → received rules (known (length log) r came (m ∷ [])) m (Held b (length log + 1)) ≡ record {
    state = applied_to rules (known (length log) r (came ++ m ∷ []) []) (length log + 1);
    effects = map (Out (length log)) (rules.gives r.machine c)
        ++ message_to_followed O r.id (Commit r.joined (length log + 1)) (progress_at (length log + 1) (came ++ m ∷ []) ++ []);
  }
  held_last came m =
      held_row came m [] (λ i. elim i [ ])
      ∙ ap (λ n. commit_at rules (known (length log) r (came ++ m ∷ []) []) n) all_hold
      ∙ commit_at-goes rules (known (length log) r (came ++ m ∷ []) []) (length log + 1) (omega (arith, committed))
      ∙ ap (λ (l : List (Effect C O)). let o : Outcome S C O = record {
        state = applied_to rules (known (length log) r (came ++ m ∷ []) []) (length log + 1);
        effects = l ++ message_to_followed O r.id (Commit r.joined (length log + 1)) (progress_at (length log + 1) (came ++ m ∷ []) ++ []);
      } in o) (outputs_next rules (known (length log) r (came ++ m ∷ []) []) log c long committed)
    where
      all_hold : least (length r.log) (progress_at (length log + 1) (came ++ m ∷ []) ++ []) ≡ length log + 1
      all_hold =
          ap (least (length r.log)) (nothing_after (progress_at (length log + 1) (came ++ m ∷ [])))
          ∙ least_at (length r.log) (length log + 1) (came ++ m ∷ []) (omega (arith, count)) ∙ count
