-- Heeding.antt: what a replica ignores does nothing by the protocol, and only that.
use Rattle.std.proofs.Common.{◌≡◌, ℕ, suc, ◌<◌, ◌≤◌, ◌⊎◌, inl, inr, Bool, true, false, cond, List, [], ◌∷◌, ◌++◌, length, max, Some, None, Option, refl, ap, ap₂, sym, ◌∙◌, arith}
use Rattle.std.specs.Prelude.{nat_lt, nat_le, ◌&&◌, ◌||◌, ◌==◌}
use Rattle.std.specs.List.{list_any}
use Rattle.std.proofs.lemmas.Bool.{cases_Bool, cases_lt, or_cases, or_parts, and_parts, ltb-true, ltb-false, leb-true, leb-false, lt-ltb, le-leb}
use Rattle.std.proofs.lemmas.List.{length-append}
use Rattle.machine.specs.Machine.{Rules}
use Rattle.ballot_base.specs.declared.message.Body.{Body}
use Rattle.ballot_base.specs.declared.message.Body.TheVariants.{NewBallot, Join, State, Install, Installed, Activate, Activated, Superseded, Append, Held, Commit}
use Rattle.ballot_base.specs.declared.message.Effect.{Effect}
use Rattle.ballot_base.specs.declared.status.Progress.{Progress}
use Rattle.ballot_base.specs.declared.status.Role.{Role}
use Rattle.ballot_base.specs.declared.status.Role.TheVariants.{Backup, Fetching, Installing, Active}
use Rattle.ballot_base.specs.Replica.{ReplicaState, is_fetching, is_installing, others, progress_at}
use Rattle.ballot_base.specs.Application.{applied_to}
use Rattle.ballot_base.specs.StepOutcome.{Outcome, nothing_done, message_to_each, message_to_followed}
use Rattle.ballot_base.specs.Service.{least, raised, raised_progress, follows, leads, commit_at, on_append, on_held, on_commit, appends_after, on_tick_active}
use Rattle.ballot_base.specs.Logs.{Log, places}
use Rattle.ballot_base.specs.TakenLog.{taken, with_places, with_snapshot}
use Rattle.ballot_base.specs.Unread.{is_unread, reads_none}
use Rattle.ballot_base.proofs.LogsTaken.{reads_none-is, reads_none-low, reads_none-not, taken-none, taken-places, taken-reads}
use Rattle.ballot_base.proofs.LongerLogs.{places_pushed}
use Rattle.ballot_base.specs.Transfer.{waits_for, lacks, on_state, on_install, install_effects, on_tick_fetching}
use Rattle.ballot_base.specs.Activation.{on_installed, on_activated, on_superseded}
use Rattle.ballot_base.specs.Protocol.{received, ticked}
use Rattle.ballot_base.proofs.StepRows.{added-log, commit_at-goes, commit_at-stays}
use Rattle.ballot_base.proofs.ChangeRows.{on_new_ballot-joins, on_new_ballot-stays, on_join-stays, on_join-answers, on_state-stays, on_state-takes, on_install-takes, on_install-answers, on_install-stays, on_installed-stays, on_installed-counts, on_superseded-stays, on_superseded-leaves, on_activated-stays, on_activated-adds}
use Rattle.ballot_base.proofs.MessageRows.{on_append-elsewhere, on_append-gap, on_append-takes, on_held-elsewhere, on_held-raises, on_commit-elsewhere, on_commit-past, on_commit-takes, on_tick_active-is}
use Rattle.ballot.specs.Relevance.{rises, is_heeded, repeats}
use Rattle.ballot.proofs.MessagesTaken.{commit_known}

-- whatever sends does something, and so does whatever takes another role or ballot, or counts otherwise
sends_something : {S C O : Type 0} {P : Type 0} (o : Outcome S C O) (r s : ReplicaState S C) (e : Effect C O) (es : List (Effect C O)) →
    o ≡ record { state = s; effects = e ∷ es } → o ≡ nothing_done O r → P
sends_something {S = S} {C = C} {O = O} o r s e es a b = let c = ap (λ (z : Outcome S C O). z.effects) (sym a ∙ b) in cc

same_state : {S C O : Type 0} {o : Outcome S C O} {r s : ReplicaState S C} {es : List (Effect C O)} →
    o ≡ record { state = s; effects = es } → o ≡ nothing_done O r → s ≡ r
same_state {S = S} {C = C} {O = O} a b = ap (λ (z : Outcome S C O). z.state) (sym a ∙ b)

-- a progress that rises is another, and one that does not stays
still : (member held : ℕ) (progress : List Progress) → rises member held progress ≡ false → raised member held progress ≡ progress
still member held [] none = refl
still member held (x ∷ progress) none =
    let p = or_parts (x.member == member && nat_lt x.held held) (rises member held progress) none in
    ap (λ (y : Progress). y ∷ raised member held progress) (one (cases_Bool (x.member == member)) p.0)
    ∙ ap (λ ys. x ∷ ys) (still member held progress p.1)
  where
    one : ((x.member == member) ≡ true) ⊎ ((x.member == member) ≡ false) → (x.member == member && nat_lt x.held held) ≡ false →
        raised_progress member held x ≡ x
    one (inr other) e = ap (λ b. cond b (record x { held = max x.held held }) x) other
    one (inl same) e =
        let low = ltb-false x.held held (sym (ap (λ b. b && nat_lt x.held held) same) ∙ e) in
        let f : max x.held held ≡ x.held = omega (arith, low) in
        ap (λ b. cond b (record x { held = max x.held held }) x) same
        ∙ ap (λ n. let z : Progress = record x { held = n } in z) f

moves : {P : Type 0} (member held : ℕ) (progress : List Progress) → rises member held progress ≡ true → raised member held progress ≡ progress → P
moves member held [] some same = cc
moves {P = P} member held (x ∷ progress) some same =
    let head : raised_progress member held x ≡ x = cc in let rest : raised member held progress ≡ progress = cc in
    by_one head (λ e. moves member held progress e rest) (or_cases (x.member == member && nat_lt x.held held) (rises member held progress) some)
  where
    by_one : raised_progress member held x ≡ x → (rises member held progress ≡ true → P) →
        ((x.member == member && nat_lt x.held held) ≡ true) ⊎ (rises member held progress ≡ true) → P
    by_one head after (inr e) = after e
    by_one head after (inl e) =
        let p = and_parts (x.member == member) (nat_lt x.held held) e in
        let low = ltb-true x.held held p.1 in
        let h : max x.held held ≡ x.held =
        ap (λ (z : Progress). z.held) (sym (ap (λ b. cond b (record x { held = max x.held held }) x) p.0) ∙ head) in
        absurd (omega (arith, h, low))

-- a member that is taken out of a list was in it
shorter : (from : ℕ) (members : List ℕ) → length (others from members) ≤ length members
shorter from [] = omega arith
shorter from (m ∷ members) = by_one (shorter from members) (cases_Bool (m == from))
  where
    by_one : length (others from members) ≤ length members → ((m == from) ≡ true) ⊎ ((m == from) ≡ false) → length (others from (m ∷ members)) ≤ length (m ∷ members)
    by_one g (inl same) =
        let e : others from (m ∷ members) ≡ others from members = rw same refl in
        let f = ap length e in omega (arith, f, g)
    by_one g (inr other) =
        let e : others from (m ∷ members) ≡ m ∷ others from members = rw other refl in
        let f = ap length e in omega (arith, f, g)

taken_out : {P : Type 0} (from : ℕ) (members : List ℕ) → list_any (λ m. m == from) members ≡ true → others from members ≡ members → P
taken_out from [] some same = cc
taken_out {P = P} from (m ∷ members) some same = by_one (λ a b. taken_out from members a b) (cases_Bool (m == from))
  where
    by_one : (list_any (λ m. m == from) members ≡ true → others from members ≡ members → P) → ((m == from) ≡ true) ⊎ ((m == from) ≡ false) → P
    by_one after (inl e) =
        let f : others from (m ∷ members) ≡ others from members = rw e refl in
        let g = ap length (sym f ∙ same) in let h = shorter from members in absurd (omega (arith, g, h))
    by_one after (inr e) =
        let f : others from (m ∷ members) ≡ m ∷ others from members = rw e refl in
        let g : m ∷ others from members ≡ m ∷ members = sym f ∙ same in
        let rest : others from members ≡ members = cc in
        after (sym (ap (λ b. b || list_any (λ m. m == from) members) e) ∙ some) rest

-- Installed, and Activated
counts_on : {S C P : Type 0} (O : Type 0) (r : ReplicaState S C) (from b : ℕ) →
    ((r.joined == b && is_installing r.role) && list_any (λ member. member == from) r.lacking) ≡ true →
    on_installed O r from b ≡ nothing_done O r → P
counts_on {S = S} {C = C} O r from b e f =
    let s = same_state (on_installed-counts O r from b e) f in
    taken_out from r.lacking (and_parts (r.joined == b && is_installing r.role) (list_any (λ member. member == from) r.lacking) e).1
    (ap (λ (z : ReplicaState S C). z.lacking) s)

begins : {S C O P : Type 0} (rules : Rules S C O) (r : ReplicaState S C) (b : ℕ) → is_heeded {C = C} r 0 (Activated b) ≡ true →
    on_activated rules r b ≡ nothing_done O r → P
begins {S = S} {C = C} {O = O} rules r b e f =
    let g = ap (λ (z : Outcome S C O). places z.state.log) (sym (on_activated-adds rules r b e) ∙ f) in
    let h = ap places (added-log rules (record (applied_to rules r (places r.log)) { role = Active; progress = progress_at (places r.log) (others r.id r.members) }) (rules.start_of b)) in
    let long = places_pushed r.log (rules.start_of b) in absurd (omega (arith, g, h, long))

-- Held
learned : {S C O P : Type 0} (rules : Rules S C O) (r : ReplicaState S C) (from b held : ℕ) → is_heeded {C = C} r from (Held b held) ≡ true →
    on_held rules r from b held ≡ nothing_done O r → P
learned {S = S} {C = C} {O = O} {P = P} rules r from b held e f =
    by_commit (cases_lt r.committed n) (or_cases (rises from held r.progress) (nat_lt r.committed n) p.1)
  where
    n : ℕ
    n = least (places r.log) (raised from held r.progress)

    p : (leads r b ≡ true) × ((rises from held r.progress || nat_lt r.committed (least (places r.log) (raised from held r.progress))) ≡ true)
    p = and_parts (leads r b) _ e

    goes : commit_at rules (record r { progress = raised from held r.progress }) (least (places r.log) (raised from held r.progress)) ≡ nothing_done O r
    goes = sym (on_held-raises rules r from b held p.0) ∙ f

    by_commit : (r.committed < n) ⊎ (n ≤ r.committed) → (rises from held r.progress ≡ true) ⊎ (nat_lt r.committed n ≡ true) → P
    by_commit (inl above) some =
        let s = same_state (commit_at-goes rules (record r { progress = raised from held r.progress }) n above) goes in
        let c : n ≡ r.committed = ap (λ (z : ReplicaState S C). z.committed) s in absurd (omega (arith, c, above))
    by_commit (inr below) (inr more) = let z = ltb-true r.committed n more in absurd (omega (arith, z, below))
    by_commit (inr below) (inl some) =
        let s = same_state (commit_at-stays rules (record r { progress = raised from held r.progress }) n below) goes in
        moves from held r.progress some (ap (λ (z : ReplicaState S C). z.progress) s)

knew : {S C O : Type 0} (rules : Rules S C O) (r : ReplicaState S C) (from b held : ℕ) → is_heeded {C = C} r from (Held b held) ≡ false →
    on_held rules r from b held ≡ nothing_done O r
knew {S = S} {C = C} {O = O} rules r from b held e = by_leader (cases_Bool (leads r b))
  where
    n : ℕ
    n = least (places r.log) (raised from held r.progress)

    by_leader : (leads r b ≡ true) ⊎ (leads r b ≡ false) → on_held rules r from b held ≡ nothing_done O r
    by_leader (inr off) = on_held-elsewhere rules r from b held off
    by_leader (inl leader) =
        let p = or_parts (rises from held r.progress) (nat_lt r.committed n)
        (sym (ap (λ t. t && (rises from held r.progress || nat_lt r.committed n)) leader) ∙ e) in
        on_held-raises rules r from b held leader
        ∙ commit_at-stays rules (record r { progress = raised from held r.progress }) n (ltb-false r.committed n p.1)
        ∙ ap (λ ps. nothing_done O (record r { progress = ps })) (still from held r.progress p.0)

-- Append and Commit
passed : {S C : Type 0} (O : Type 0) (r : ReplicaState S C) (from b place : ℕ) (command : C) → is_heeded r from (Append b place command) ≡ false →
    on_append O r from b place command ≡ nothing_done O r
passed O r from b place command e = by_follower (cases_Bool (follows r b))
  where
    by_follower : (follows r b ≡ true) ⊎ (follows r b ≡ false) → on_append O r from b place command ≡ nothing_done O r
    by_follower (inr off) = on_append-elsewhere O r from b place command off
    by_follower (inl follower) =
        on_append-gap O r from b place command follower
        (leb-false place (places r.log) (sym (ap (λ t. t && nat_le place (places r.log)) follower) ∙ e))

taken_in : {S C P : Type 0} (O : Type 0) (r : ReplicaState S C) (from b place : ℕ) (command : C) → is_heeded r from (Append b place command) ≡ true →
    on_append O r from b place command ≡ nothing_done O r → P
taken_in O r from b place command e f =
    let p = and_parts (follows r b) (nat_le place (places r.log)) e in
    sends_something _ r _ _ _ (on_append-takes O r from b place command p.0 (leb-true place (places r.log) p.1)) f

known : {S C O : Type 0} (rules : Rules S C O) (r : ReplicaState S C) (b held : ℕ) →
    (follows r b && (nat_le held (places r.log) && nat_lt r.committed held)) ≡ false → on_commit rules r b held ≡ nothing_done O r
known {O = O} rules r b held e = by_follower (cases_Bool (follows r b)) (cases_lt (places r.log) held)
  where
    by_follower : (follows r b ≡ true) ⊎ (follows r b ≡ false) → (places r.log < held) ⊎ (held ≤ places r.log) →
        on_commit rules r b held ≡ nothing_done O r
    by_follower (inr off) _ = on_commit-elsewhere rules r b held off
    by_follower (inl follower) (inl past) = on_commit-past rules r b held follower past
    by_follower (inl follower) (inr within) =
        commit_known rules r b held follower within
        (ltb-false r.committed held
        (sym (ap (λ t. t && nat_lt r.committed held) (le-leb held (places r.log) within))
        ∙ sym (ap (λ t. t && (nat_le held (places r.log) && nat_lt r.committed held)) follower) ∙ e))

applied : {S C O P : Type 0} (rules : Rules S C O) (r : ReplicaState S C) (b held : ℕ) →
    (follows r b && (nat_le held (places r.log) && nat_lt r.committed held)) ≡ true → on_commit rules r b held ≡ nothing_done O r → P
applied {S = S} {C = C} rules r b held e f =
    let p = and_parts (follows r b) (nat_le held (places r.log) && nat_lt r.committed held) e in
    let q = and_parts (nat_le held (places r.log)) (nat_lt r.committed held) p.1 in
    let s = same_state (on_commit-takes rules r b held p.0 (leb-true held (places r.log) q.0)) f in
    let c : max r.committed held ≡ r.committed = ap (λ (z : ReplicaState S C). z.committed) s in
    let low = ltb-true r.committed held q.1 in absurd (omega (arith, c, low))

-- a snapshot that has to be read either thaws or is none that was read
pub read_or_none : {S C O : Type 0} (rules : Rules S C O) (r : ReplicaState S C) (log : Log C) →
    ((took : ReplicaState S C) × (taken rules r log ≡ Some took) × (reads_none rules r log ≡ false))
    ⊎ ((taken rules r log ≡ None) × (reads_none rules r log ≡ true))
read_or_none {S = S} {C = C} rules r log = by_base (cases_lt r.log.base log.base)
  where
    by_snapshot : r.log.base < log.base → (o : Option S) → rules.thawed log.snapshot ≡ o →
        ((took : ReplicaState S C) × (taken rules r log ≡ Some took) × (reads_none rules r log ≡ false))
        ⊎ ((taken rules r log ≡ None) × (reads_none rules r log ≡ true))
    by_snapshot over None e = inr (taken-none rules r log over e, reads_none-is rules r log over e)
    by_snapshot over (Some machine) e =
        inl (with_snapshot r log machine, taken-reads rules r log machine over e, reads_none-not rules r log machine e)

    by_base : (r.log.base < log.base) ⊎ (log.base ≤ r.log.base) →
        ((took : ReplicaState S C) × (taken rules r log ≡ Some took) × (reads_none rules r log ≡ false))
        ⊎ ((taken rules r log ≡ None) × (reads_none rules r log ≡ true))
    by_base (inr low) = inl (with_places r log, taken-places rules r log low, reads_none-low rules r log low)
    by_base (inl over) = by_snapshot over (rules.thawed log.snapshot) refl

-- State, Install and Superseded
took_log : {S C O P : Type 0} (rules : Rules S C O) (r : ReplicaState S C) (b : ℕ) (log : Log C) → waits_for r b (places log) ≡ true →
    on_state rules r b log ≡ nothing_done O r → (waits_for r b (places log) && reads_none rules r log) ≡ false → P
took_log {S = S} {C = C} {P = P} rules r b log e f unread = by_log (read_or_none rules r log)
  where
    by_log : ((took : ReplicaState S C) × (taken rules r log ≡ Some took) × (reads_none rules r log ≡ false))
        ⊎ ((taken rules r log ≡ None) × (reads_none rules r log ≡ true)) → P
    by_log (inr (none, is)) = let g = sym (ap₂ (λ x y. x && y) e is) ∙ unread in cc
    by_log (inl (took, is, other)) =
        let p = and_parts (r.joined == b) (is_fetching r.role && nat_le r.committed (places log)) e in
        let q = (and_parts (is_fetching r.role) (nat_le r.committed (places log)) p.1).0 in
        let s = same_state (on_state-takes rules r took b log e is) f in
        let t : Installing ≡ r.role = ap (λ (z : ReplicaState S C). z.role) s in
        let u : is_fetching Installing ≡ true = ap is_fetching t ∙ q in cc

installed : {S C O P : Type 0} (rules : Rules S C O) (r : ReplicaState S C) (from b : ℕ) (log : Log C) → is_heeded r from (Install b log) ≡ true →
    on_install rules r from b log ≡ nothing_done O r → (lacks r b (places log) && reads_none rules r log) ≡ false → P
installed {S = S} {C = C} {P = P} rules r from b log e f unread = by_case (cases_Bool (lacks r b (places log)))
  where
    by_log : lacks r b (places log) ≡ true → ((took : ReplicaState S C) × (taken rules r log ≡ Some took) × (reads_none rules r log ≡ false))
        ⊎ ((taken rules r log ≡ None) × (reads_none rules r log ≡ true)) → P
    by_log on (inr (none, is)) = let g = sym (ap₂ (λ x y. x && y) on is) ∙ unread in cc
    by_log on (inl (took, is, other)) = sends_something _ r _ _ _ (on_install-takes rules r took from b log on is) f

    by_case : (lacks r b (places log) ≡ true) ⊎ (lacks r b (places log) ≡ false) → P
    by_case (inl on) = by_log on (read_or_none rules r log)
    by_case (inr off) =
        sends_something _ r _ _ _ (on_install-answers rules r from b log off (sym (ap (λ t. t || (r.joined == b && r.held_in == b)) off) ∙ e)) f

superseded : {S C P : Type 0} (O : Type 0) (r : ReplicaState S C) (b : ℕ) → (r.joined == b && is_installing r.role) ≡ true →
    on_superseded O r b ≡ nothing_done O r → P
superseded {S = S} {C = C} O r b e f =
    let q = (and_parts (r.joined == b) (is_installing r.role) e).1 in
    let s = same_state (on_superseded-leaves O r b e) f in
    let t : Backup ≡ r.role = ap (λ (z : ReplicaState S C). z.role) s in
    let u : is_installing Backup ≡ true = ap is_installing t ∙ q in cc

-- so a message that is ignored does nothing
pub unheeded : {S C O : Type 0} (rules : Rules S C O) (r : ReplicaState S C) (from : ℕ) (body : Body C) → is_heeded r from body ≡ false →
    received rules r from body ≡ nothing_done O r
unheeded {O = O} rules r from (NewBallot b members a old) e = on_new_ballot-stays O r b members a old (ltb-false r.joined b e)
unheeded {O = O} rules r from (Join b a) e = on_join-stays O r from b a e
unheeded rules r from (State b log) e = on_state-stays rules r b log e
unheeded rules r from (Install b log) e =
    let p = or_parts (lacks r b (places log)) (r.joined == b && r.held_in == b) e in on_install-stays rules r from b log p.0 p.1
unheeded {O = O} rules r from (Installed b held) e = on_installed-stays O r from b e
unheeded {O = O} rules r from (Activate b) e = refl
unheeded {O = O} rules r from (Activated b) e = on_activated-stays rules r b e
unheeded {O = O} rules r from (Superseded b) e = on_superseded-stays O r b e
unheeded {O = O} rules r from (Append b place command) e = passed O r from b place command e
unheeded {O = O} rules r from (Held b held) e = knew rules r from b held e
unheeded {O = O} rules r from (Commit b held) e = known rules r b held e

-- and brings no snapshot that has to be read
reads_nothing : {S C O : Type 0} (rules : Rules S C O) (r : ReplicaState S C) (from : ℕ) (body : Body C) → is_heeded r from body ≡ false →
    is_unread rules r body ≡ false
reads_nothing rules r from (NewBallot b members a old) e = refl
reads_nothing rules r from (Join b a) e = refl
reads_nothing rules r from (State b log) e = ap (λ t. t && reads_none rules r log) e
reads_nothing rules r from (Install b log) e =
    ap (λ t. t && reads_none rules r log) (or_parts (lacks r b (places log)) (r.joined == b && r.held_in == b) e).0
reads_nothing rules r from (Installed b held) e = refl
reads_nothing rules r from (Activate b) e = refl
reads_nothing rules r from (Activated b) e = refl
reads_nothing rules r from (Superseded b) e = refl
reads_nothing rules r from (Append b place command) e = refl
reads_nothing rules r from (Held b held) e = refl
reads_nothing rules r from (Commit b held) e = refl

-- and one that is heeded does something, unless its snapshot does not thaw
heeded : {S C O P : Type 0} (rules : Rules S C O) (r : ReplicaState S C) (from : ℕ) (body : Body C) → is_heeded r from body ≡ true →
    received rules r from body ≡ nothing_done O r → is_unread rules r body ≡ false → P
heeded {S = S} {C = C} {O = O} rules r from (NewBallot b members a old) e f read =
    let low = ltb-true r.joined b e in
    let s = same_state (on_new_ballot-joins O r b members a old low) f in
    let c : b ≡ r.joined = ap (λ (z : ReplicaState S C). z.joined) s in absurd (omega (arith, c, low))
heeded {O = O} rules r from (Join b a) e f read = sends_something _ r _ _ _ (on_join-answers O r from b a e) f
heeded rules r from (State b log) e f read = took_log rules r b log e f read
heeded rules r from (Install b log) e f read = installed rules r from b log e f read
heeded {O = O} rules r from (Installed b held) e f read = counts_on O r from b e f
heeded rules r from (Activate b) e f read = cc
heeded rules r from (Activated b) e f read = begins rules r b e f
heeded {O = O} rules r from (Superseded b) e f read = superseded O r b e f
heeded {O = O} rules r from (Append b place command) e f read = taken_in O r from b place command e f
heeded rules r from (Held b held) e f read = learned rules r from b held e f
heeded rules r from (Commit b held) e f read = applied rules r b held e f

pub heeds_exactly : {S C O : Type 0} (rules : Rules S C O) (r : ReplicaState S C) (from : ℕ) (body : Body C) (heeds : Bool) → heeds ≡ is_heeded r from body →
    (heeds ≡ false → (received rules r from body ≡ nothing_done O r) × (is_unread rules r body ≡ false))
    × ((received rules r from body ≡ nothing_done O r) × (is_unread rules r body ≡ false) → heeds ≡ false)
heeds_exactly {O = O} rules r from body heeds is = (
  λ e. (unheeded rules r from body (sym is ∙ e), reads_nothing rules r from body (sym is ∙ e)),
  λ f. by_test f.0 f.1 (cases_Bool (is_heeded r from body)),
)
  where
    by_test : received rules r from body ≡ nothing_done O r → is_unread rules r body ≡ false →
        (is_heeded r from body ≡ true) ⊎ (is_heeded r from body ≡ false) → heeds ≡ false
    by_test f read (inl e) = heeded rules r from body e f read
    by_test f read (inr e) = is ∙ e

-- an active primary that follows a member tells it what is committed
told_some : {S C : Type 0} {P : Type 0} (O : Type 0) (r : ReplicaState S C) (p : Progress) (progress : List Progress) → r.progress ≡ p ∷ progress →
    on_tick_active O r ≡ nothing_done O r → P
told_some {S = S} {C = C} O r p progress e f =
    let after : List (Effect C O) = appends_after O r.id r.joined r.log r.progress in
    let tell : List Progress → List (Effect C O) = message_to_followed O r.id (Commit r.joined r.committed) in
    let g : length (after ++ tell r.progress) ≡ 0 = ap (λ (z : Outcome S C O). length z.effects) (sym (on_tick_active-is O r) ∙ f) in
    let h : length (tell r.progress) ≡ suc (length (tell progress)) = ap (λ ps. length (tell ps)) e in
    let long = length-append after (tell r.progress) in absurd (omega (arith, g, h, long))

told_none : {S C : Type 0} (O : Type 0) (r : ReplicaState S C) → r.progress ≡ [] → on_tick_active O r ≡ nothing_done O r
told_none {S = S} {C = C} O r e =
    on_tick_active-is O r
    ∙ ap (λ ps. let o : Outcome S C O = record {
      state = r;
      effects = appends_after O r.id r.joined r.log ps ++ message_to_followed O r.id (Commit r.joined r.committed) ps;
    } in o) e

asked_some : {S C : Type 0} {P : Type 0} (O : Type 0) (r : ReplicaState S C) (m : ℕ) (members : List ℕ) → r.previous_members ≡ m ∷ members →
    on_tick_fetching O r ≡ nothing_done O r → P
asked_some {S = S} {C = C} O r m members e f =
    let g = sym (ap (message_to_each {C = C} O r.id (Join r.joined r.previous)) e) ∙ ap (λ (z : Outcome S C O). z.effects) f in cc

hands_some : {S C : Type 0} {P : Type 0} (O : Type 0) (r : ReplicaState S C) (members : List ℕ) → install_effects O r members ≡ [] → P
hands_some O r [] e = cc
hands_some O r (m ∷ members) e = cc

-- a tick that sends nothing does nothing
pub speaks_exactly : {S C : Type 0} (O : Type 0) (r : ReplicaState S C) (role : Role) (speaks : Bool) → speaks ≡ repeats r role →
    (speaks ≡ false → ticked O r role ≡ nothing_done O r) × (ticked O r role ≡ nothing_done O r → speaks ≡ false)
speaks_exactly O r Backup speaks is = (λ e. refl, λ f. is)
speaks_exactly {S = S} {C = C} O r Fetching speaks is = by_members r.previous_members refl
  where
    by_members : (members : List ℕ) → r.previous_members ≡ members →
        (speaks ≡ false → ticked O r Fetching ≡ nothing_done O r) × (ticked O r Fetching ≡ nothing_done O r → speaks ≡ false)
    by_members [] e = (
      λ f. ap (λ ms. let o : Outcome S C O = record { state = r; effects = message_to_each O r.id (Join r.joined r.previous) ms } in o) e,
      λ f. is ∙ ap (λ ms. nat_lt 0 (length ms)) e,
    )
    by_members (m ∷ members) e =
        let up : speaks ≡ true = is ∙ ap (λ ms. nat_lt 0 (length ms)) e ∙ lt-ltb 0 (length (m ∷ members)) (omega arith) in
        (λ f. cc, λ f. asked_some O r m members e f)
speaks_exactly {S = S} {C = C} O r Installing speaks is =
    (λ f. cc, λ f. hands_some O r r.lacking (ap (λ (z : Outcome S C O). z.effects) f))
speaks_exactly {S = S} {C = C} O r Active speaks is = by_progress r.progress refl
  where
    by_progress : (progress : List Progress) → r.progress ≡ progress →
        (speaks ≡ false → ticked O r Active ≡ nothing_done O r) × (ticked O r Active ≡ nothing_done O r → speaks ≡ false)
    by_progress [] e = (λ f. told_none O r e, λ f. is ∙ ap (λ ps. nat_lt 0 (length ps)) e)
    by_progress (p ∷ progress) e =
        let up : speaks ≡ true = is ∙ ap (λ ps. nat_lt 0 (length ps)) e ∙ lt-ltb 0 (length (p ∷ progress)) (omega arith) in
        (λ f. cc, λ f. told_some O r p progress e f)
