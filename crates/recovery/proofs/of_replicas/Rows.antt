-- Rows.antt: what each message of the way does to its receiver.
use Rattle.std.proofs.Common.{◌≡◌, ℕ, ◌+◌, ◌<◌, ◌≤◌, ◌⊎◌, inl, inr, cond, true, false, Bool, List, [], ◌∷◌, ◌++◌, length, refl, ap, sym, ◌∙◌, subst, arith, length-append}
use Rattle.std.specs.Prelude.{◌==◌, ◌&&◌, ◌||◌, nat_lt, nat_le}
use Rattle.std.specs.List.{list_any}
use Rattle.std.proofs.lemmas.Bool.{cases_lt, eq-eqb, ne_eqb, le-leb, lt-ltb}
use Rattle.machine.specs.Machine.{Rules}
use Rattle.agreement.specs.whole_logs.Messages.{Body, Message}
use Rattle.agreement.specs.whole_logs.Messages.Body.{Install, Installed, Append, Held}
use Rattle.agreement.specs.whole_logs.Protocol.{received}
use Rattle.agreement.specs.whole_logs.Replica.{ReplicaState}
use Rattle.ballot_base.specs.Replica.{others, progress_at, is_backup}
use Rattle.ballot_base.specs.declared.status.Role.TheVariants.{Backup}
use Rattle.agreement.specs.whole_logs.StepOutcome.{Outcome, message_to, message_to_each, message_to_followed}
use Rattle.agreement.specs.whole_logs.Service.{extended, follows}
use Rattle.agreement.proofs.of_whole_logs.ChangeRows.{on_install-takes}
use Rattle.agreement.proofs.of_whole_logs.MessageRows.{on_append-takes}
use Rattle.agreement.specs.World.{messages, outputs}
use Rattle.lists.specs.Lists.{In}
use Rattle.lists.specs.Lists.In.{here, there}
use Rattle.recovery.specs.replicas.LedStates.{Follows}
use Rattle.recovery.specs.replicas.Inside.{CanTake}
use Rattle.recovery.proofs.of_replicas.Broadcasts.{Answers, to_each}

-- ---- tests

pub both : (x y : Bool) → x ≡ true → y ≡ true → (x && y) ≡ true
both x y e f = rw (e, f) refl

right : (x y : Bool) → y ≡ true → (x || y) ≡ true
right true y e = refl
right false y e = e

-- ---- the others of a list

-- a member that is not there is not taken out
pub others_none : (m : ℕ) (ms : List ℕ) → (In m ms → ⊥) → others m ms ≡ ms
others_none m [] out = refl
others_none m (x ∷ ms) out =
    rw (ne_eqb x m (λ e. out (subst (λ y. In m (y ∷ ms)) (sym e) here))) (ap (λ (l : List ℕ). x ∷ l) (others_none m ms (λ i. out (there i))))

pub others_first : (m : ℕ) (ms : List ℕ) → (In m ms → ⊥) → others m (m ∷ ms) ≡ ms
others_first m ms out = rw (eq-eqb m m refl) (others_none m ms out)

pub any_first : (m : ℕ) (ms : List ℕ) → list_any (λ member. member == m) (m ∷ ms) ≡ true
any_first m ms = rw (eq-eqb m m refl) refl

-- ---- messages to several

pub messages_to_each : {C : Type 0} (O : Type 0) (id : ℕ) (body : Body C) (ms : List ℕ) → messages (message_to_each O id body ms) ≡ to_each id body ms
messages_to_each O id body [] = refl
messages_to_each {C = C} O id body (m ∷ ms) = ap (λ (l : List (ℕ × Message C)). (m, record { from = id; body = body }) ∷ l) (messages_to_each O id body ms)

pub outputs_to_each : {C : Type 0} (O : Type 0) (id : ℕ) (body : Body C) (ms : List ℕ) → outputs (message_to_each O id body ms) ≡ []
outputs_to_each O id body [] = refl
outputs_to_each O id body (m ∷ ms) = outputs_to_each O id body ms

pub messages_to_followed : {C : Type 0} (O : Type 0) (id held : ℕ) (body : Body C) (ms : List ℕ) →
    messages (message_to_followed O id body (progress_at held ms)) ≡ to_each id body ms
messages_to_followed O id held body [] = refl
messages_to_followed {C = C} O id held body (m ∷ ms) =
    ap (λ (l : List (ℕ × Message C)). (m, record { from = id; body = body }) ∷ l) (messages_to_followed O id held body ms)

-- ---- Install

pub install_answers : {S C O : Type 0} (rules : Rules S C O) (p b : ℕ) (log : List C) (m : ℕ) (r : ReplicaState S C) → CanTake b (length log) m r →
    Answers rules b p (Install b log) (Installed b (length log)) (Follows b log) m r
install_answers {S = S} {C = C} {O = O} rules p b log m r t =
    record {
      runs = t.runs;
      joined = ap (λ (o : Outcome S C O). o.state.joined) row;
      sends = ap (λ (o : Outcome S C O). o.effects) row ∙ ap (λ n. message_to O n (Installed b (length log)) p ∷ []) t.id;
      after = subst (λ (o : Outcome S C O). Follows b log m o.state) (sym row)
          (record { runs = t.runs; id = t.id; joined = refl; held = refl; role = refl; log_is = refl });
    }
  where
    may : (r.joined < b) ⊎ (b ≤ r.joined) → (nat_lt r.joined b || (r.joined == b && nat_lt r.held_in b)) ≡ true
    may (inl low) = rw (lt-ltb r.joined b low) refl
    may (inr high) = right (nat_lt r.joined b) _
        (both (r.joined == b) (nat_lt r.held_in b) (eq-eqb r.joined b (let z = t.joined in omega (arith, z, high))) (lt-ltb r.held_in b t.held))

    row : received rules r p (Install b log) ≡ record {
      state = record r { joined = b; held_in = b; log = log; role = Backup };
      effects = message_to O r.id (Installed b (length log)) p ∷ [];
    }
    row = on_install-takes O r p b log (both _ (nat_le r.committed (length log)) (may (cases_lt r.joined b)) (le-leb r.committed (length log) t.applied))

-- ---- Append

pub append_answers : {S C O : Type 0} (rules : Rules S C O) (p b : ℕ) (log : List C) (c : C) (m : ℕ) (r : ReplicaState S C) → Follows b log m r →
    Answers rules b p (Append b (length log) c) (Held b (length log + 1)) (Follows b (log ++ c ∷ [])) m r
append_answers {S = S} {C = C} {O = O} rules p b log c m r f =
    record {
      runs = f.runs;
      joined = ap (λ (o : Outcome S C O). o.state.joined) row ∙ f.joined;
      sends = ap (λ (o : Outcome S C O). o.effects) row ∙ ap (λ n. message_to O n (Held b (length log + 1)) p ∷ []) f.id;
      after = subst (λ (o : Outcome S C O). Follows b (log ++ c ∷ []) m o.state) (sym row)
          (record { runs = f.runs; id = f.id; joined = f.joined; held = f.held; role = f.role; log_is = refl });
    }
  where
    follower : follows r b ≡ true
    follower = both (r.joined == b && r.held_in == b) (is_backup r.role)
        (both (r.joined == b) (r.held_in == b) (eq-eqb r.joined b f.joined) (eq-eqb r.held_in b f.held)) (ap is_backup f.role)

    longer : extended (length log) c r.log ≡ log ++ c ∷ []
    longer = ap (extended (length log) c) f.log_is ∙ ap (λ z. cond z (log ++ c ∷ []) log) (eq-eqb (length log) (length log) refl)

    long : length (extended (length log) c r.log) ≡ length log + 1
    long = ap length longer ∙ length-append log (c ∷ [])

    row : received rules r p (Append b (length log) c) ≡ record {
      state = record r { log = log ++ c ∷ [] };
      effects = message_to O r.id (Held b (length log + 1)) p ∷ [];
    }
    row = on_append-takes O r p b (length log) c follower (let e = ap length f.log_is in omega (arith, e))
        ∙ ap (λ (l : List C). let o : Outcome S C O = record {
          state = record r { log = l };
          effects = message_to O r.id (Held b (length (extended (length log) c r.log))) p ∷ [];
        } in o) longer
        ∙ ap (λ (n : ℕ). let o : Outcome S C O = record {
          state = record r { log = log ++ c ∷ [] };
          effects = message_to O r.id (Held b n) p ∷ [];
        } in o) long
