-- Ways.antt: from every moment there is a way out: the messages of `recovery_messages` come, and the next ballot is led to its start.
use Rattle.std.proofs.Common.{◌≡◌, ℕ, zero, suc, ◌+◌, ◌*◌, ◌<◌, List, [], ◌∷◌, ◌++◌, length, Some, refl, ap, sym, ◌∙◌, subst, arith, length-append}
use Rattle.std.specs.Prelude.{slice_get}
use Rattle.machine.specs.Machine.{Rules}
use Rattle.lists.specs.Lists.{In}
use Rattle.agreement.specs.whole_logs.Messages.Body.{Held}
use Rattle.ballot_base.specs.declared.config.Config.{Config}
use Rattle.agreement.specs.whole_logs.Replica.{ReplicaState}
use Rattle.ballot_base.specs.Replica.{others}
use Rattle.ballot_base.specs.Service.{max_places}
use Rattle.agreement.specs.MasterState.{MasterState, assigning}
use Rattle.agreement.specs.Moments.{Moment}
use Rattle.recovery.specs.replicas.Deliveries.{NumbersAreApart, Delivered, NodeIs, activate_number, assigned_moment, numbers_from, recovery_messages}
use Rattle.recovery.specs.replicas.LedStates.{Follows, LeadsWhole}
use Rattle.recovery.specs.replicas.Inside.{CanTake, fetching}
use Rattle.recovery.proofs.of_replicas.Activating.{IsActivated, activated_alone, activated_all, with_active}
use Rattle.recovery.proofs.of_replicas.AllCome.{then_come}
use Rattle.recovery.proofs.of_replicas.Fetching.{CanGive, IsFetched, fetched}
use Rattle.recovery.proofs.of_replicas.Installing.{IsInstalled, alone, with_others}

-- ---- the numbers of a way out

numbers_count : (k count : ℕ) → length (numbers_from k count) ≡ count
numbers_count k zero = refl
numbers_count k (suc count) = ap suc (numbers_count (k + 1) count)

-- how many there are
pub recovery_messages_count : (sent members index count : ℕ) → length (recovery_messages sent members index count) ≡ 4 * count + 5
recovery_messages_count sent members index count =
    let one = length-append (numbers_from (sent + members + 2) count ++ numbers_from (sent + members + 2 + count) count)
    (activate_number sent members count ∷ (activate_number sent members count + 1)
    ∷ (numbers_from (activate_number sent members count + 2) count ++ numbers_from (activate_number sent members count + 2 + count) count)) in
    let two = length-append (numbers_from (sent + members + 2) count) (numbers_from (sent + members + 2 + count) count) in
    let three = length-append (numbers_from (activate_number sent members count + 2) count) (numbers_from (activate_number sent members count + 2 + count) count) in
    let a = numbers_count (sent + members + 2) count in let b = numbers_count (sent + members + 2 + count) count in
    let c = numbers_count (activate_number sent members count + 2) count in let d = numbers_count (activate_number sent members count + 2 + count) count in
    omega (arith, one, two, three, a, b, c, d)

-- ---- the three parts, one after another

-- the end
pub record IsOut {S C O : Type 0} (rules : Rules S C O) (b : ℕ) (log : List C) (index : ℕ) (os : List ℕ) (master : MasterState) (a : Moment S C O)
    (ks : List ℕ) (long : ℕ) : Type 0 where
  pub after : Moment S C O
  pub delivered : Delivered rules b a ks after
  pub master_is : after.master ≡ master
  pub last : length after.world.sent ≡ long
  pub primary : NodeIs (LeadsWhole b log os) after.world.nodes (index + 1)
  pub each : (m : ℕ) → In m os → NodeIs (Follows b log) after.world.nodes m
  pub told : (m : ℕ) → In m os → In (index + 1, record { from = m; body = Held b (length log) }) after.world.sent

module _ {S C O : Type 0} (rules : Rules S C O) (silent : (s : S) (b : ℕ) → rules.gives s (rules.start_of b) ≡ []) (a : Moment S C O) (index source i : ℕ)
    (rp rs : ReplicaState S C) (os : List ℕ) (log : List C) (config : Config)
    (first : config.primary ≡ index + 1) (out : In (index + 1) os → ⊥) (apart : NumbersAreApart os) (are : others (index + 1) config.members ≡ os)
    (stands : slice_get a.world.nodes index ≡ Some rp) (fresh : rp.joined < a.master.given + 1) (can : CanTake (a.master.given + 1) (length log) (index + 1) rp)
    (gives_stands : slice_get a.world.nodes source ≡ Some rs) (gives : CanGive (a.master.given + 1) a.master.active log (source + 1) rs)
    (member : slice_get a.master.members i ≡ Some (source + 1))
    (each : (m : ℕ) → In m os → NodeIs (CanTake (a.master.given + 1) (length log)) a.world.nodes m) (room : length log < max_places) where
  -- the new primary, from NewBallot on
  abbrev r1 : ReplicaState S C
  r1 = fetching (a.master.given + 1) config.members a.master.active a.master.members rp

  abbrev Fetched : Type 0
  Fetched = IsFetched rules (a.master.given + 1) log index source r1 os (assigned_moment config a)
      (length a.world.sent ∷ (length a.world.sent + 1 + i) ∷ []) (assigning a.master config) (length a.world.sent + 1 + length a.master.members)

  abbrev Out : Type 0
  Out = IsOut rules (a.master.given + 1) (log ++ rules.start_of (a.master.given + 1) ∷ []) index os
      (with_active (a.master.given + 1) config (assigning a.master config)) (assigned_moment config a)
      (recovery_messages (length a.world.sent) (length a.master.members) i (length os)) (length a.world.sent + length a.master.members + 4 + 5 * length os)

  f_is : Fetched
  f_is = fetched rules a index source i rp rs os log config first out stands fresh can gives_stands gives member each

  are_here : others r1.id r1.members ≡ os
  are_here = ap (λ n. others n config.members) can.id ∙ are

  -- as the sole member
  out_alone : os ≡ [] → Fetched → Out
  out_alone none f =
      record {
        after = h.after;
        delivered = subst (λ ks. Delivered rules (a.master.given + 1) (assigned_moment config a) ks h.after) numbers (then_come rules f.delivered (then_come rules g.delivered h.delivered));
        master_is = h.master ∙ ap (with_active (a.master.given + 1) config) (g.master ∙ f.master_is);
        last = h.last ∙ (let z = f.last in let y = ap length none in
            let e : length f.after.world.sent + 2 ≡ length a.world.sent + length a.master.members + 4 + 5 * length os = omega (arith, z, y) in e);
        primary = subst (λ l. NodeIs (LeadsWhole (a.master.given + 1) (log ++ rules.start_of (a.master.given + 1) ∷ []) l) h.after.world.nodes (index + 1)) (sym none) h.primary;
        each = λ m j. absurd (no_member m (subst (λ l. In m l) none j));
        told = λ m j. absurd (no_member m (subst (λ l. In m l) none j));
      }
    where
      no_member : (m : ℕ) → In m [] → ⊥
      no_member m j = elim j [ ]

      g : IsInstalled rules (a.master.given + 1) log index r1 [] f.after ((length a.world.sent + 1 + length a.master.members) ∷ []) (length f.after.world.sent)
      g = alone rules (a.master.given + 1) log index r1 can.runs can.id refl refl can.applied f.after (length a.world.sent + 1 + length a.master.members) (source + 1)
          (are_here ∙ none) f.sent f.primary

      h : IsActivated rules (a.master.given + 1) (log ++ rules.start_of (a.master.given + 1) ∷ []) index [] config g.after
          (length f.after.world.sent ∷ (length f.after.world.sent + 1) ∷ []) (length f.after.world.sent + 2)
      h = activated_alone rules (a.master.given + 1) log index r1 config can.runs can.id refl room (λ s. silent s (a.master.given + 1)) g.after
          (length f.after.world.sent) g.asks g.last (ap (λ (m : MasterState). m.waiting) (g.master ∙ f.master_is)) g.primary (are_here ∙ none)

      numbers : length a.world.sent ∷ (length a.world.sent + 1 + i) ∷ (length a.world.sent + 1 + length a.master.members)
          ∷ length f.after.world.sent ∷ (length f.after.world.sent + 1) ∷ []
          ≡ recovery_messages (length a.world.sent) (length a.master.members) i (length os)
      numbers =
          ap (λ z. length a.world.sent ∷ (length a.world.sent + 1 + i) ∷ (length a.world.sent + 1 + length a.master.members) ∷ z ∷ (z + 1) ∷ [])
          (let z = f.last in let e : length f.after.world.sent ≡ activate_number (length a.world.sent) (length a.master.members) 0 = omega (arith, z) in e)
          ∙ ap (λ (l : List ℕ). recovery_messages (length a.world.sent) (length a.master.members) i (length l)) (sym none)

  -- with others
  out_with : (x : ℕ) (xs : List ℕ) → os ≡ x ∷ xs → Fetched → Out
  out_with x xs some f =
      record {
        after = h.after;
        delivered = subst (λ ks. Delivered rules (a.master.given + 1) (assigned_moment config a) ks h.after) numbers (then_come rules f.delivered (then_come rules g.delivered h.delivered));
        master_is = h.master ∙ ap (with_active (a.master.given + 1) config) (g.master ∙ f.master_is);
        last = h.last ∙ (let z = f.last in let y = ap length some in
            let e : length f.after.world.sent + (length (x ∷ xs) + length (x ∷ xs)) + 2 + length (x ∷ xs) + (length (x ∷ xs) + length (x ∷ xs))
            ≡ length a.world.sent + length a.master.members + 4 + 5 * length os = omega (arith, z, y) in e);
        primary = subst (λ l. NodeIs (LeadsWhole (a.master.given + 1) (log ++ rules.start_of (a.master.given + 1) ∷ []) l) h.after.world.nodes (index + 1)) (sym some) h.primary;
        each = λ m j. h.each m (subst (λ l. In m l) some j);
        told = λ m j. h.told m (subst (λ l. In m l) some j);
      }
    where
      g : IsInstalled rules (a.master.given + 1) log index r1 (x ∷ xs) f.after
          ((length a.world.sent + 1 + length a.master.members)
          ∷ (numbers_from (length f.after.world.sent) (length (x ∷ xs)) ++ numbers_from (length f.after.world.sent + length (x ∷ xs)) (length (x ∷ xs))))
          (length f.after.world.sent + (length (x ∷ xs) + length (x ∷ xs)))
      g = with_others rules (a.master.given + 1) log index r1 can.runs can.id refl refl can.applied f.after (length a.world.sent + 1 + length a.master.members) (source + 1)
          x xs (are_here ∙ some) (subst NumbersAreApart some apart) (λ j. out (subst (λ l. In (index + 1) l) (sym some) j)) f.sent f.primary
          (λ m j. f.each m (subst (λ l. In m l) (sym some) j))

      h : IsActivated rules (a.master.given + 1) (log ++ rules.start_of (a.master.given + 1) ∷ []) index (x ∷ xs) config g.after
          ((length f.after.world.sent + (length (x ∷ xs) + length (x ∷ xs))) ∷ (length f.after.world.sent + (length (x ∷ xs) + length (x ∷ xs)) + 1)
          ∷ (numbers_from (length f.after.world.sent + (length (x ∷ xs) + length (x ∷ xs)) + 2) (length (x ∷ xs))
          ++ numbers_from (length f.after.world.sent + (length (x ∷ xs) + length (x ∷ xs)) + 2 + length (x ∷ xs)) (length (x ∷ xs))))
          (length f.after.world.sent + (length (x ∷ xs) + length (x ∷ xs)) + 2 + length (x ∷ xs) + (length (x ∷ xs) + length (x ∷ xs)))
      h = activated_all rules (a.master.given + 1) log index r1 config can.runs can.id refl room (λ s. silent s (a.master.given + 1)) g.after
          (length f.after.world.sent + (length (x ∷ xs) + length (x ∷ xs))) g.asks g.last (ap (λ (m : MasterState). m.waiting) (g.master ∙ f.master_is)) g.primary
          x xs (are_here ∙ some) (subst NumbersAreApart some apart) (λ j. out (subst (λ l. In (index + 1) l) (sym some) j)) g.each

      numbers : ◌≡◌ {A = List ℕ}
          (length a.world.sent ∷ (length a.world.sent + 1 + i) ∷ (length a.world.sent + 1 + length a.master.members)
          ∷ ((numbers_from (length f.after.world.sent) (length (x ∷ xs)) ++ numbers_from (length f.after.world.sent + length (x ∷ xs)) (length (x ∷ xs)))
          ++ (length f.after.world.sent + (length (x ∷ xs) + length (x ∷ xs))) ∷ (length f.after.world.sent + (length (x ∷ xs) + length (x ∷ xs)) + 1)
          ∷ (numbers_from (length f.after.world.sent + (length (x ∷ xs) + length (x ∷ xs)) + 2) (length (x ∷ xs))
          ++ numbers_from (length f.after.world.sent + (length (x ∷ xs) + length (x ∷ xs)) + 2 + length (x ∷ xs)) (length (x ∷ xs)))))
          (recovery_messages (length a.world.sent) (length a.master.members) i (length os))
      numbers =
          ap (λ z. length a.world.sent ∷ (length a.world.sent + 1 + i) ∷ (length a.world.sent + 1 + length a.master.members)
          ∷ ((numbers_from z (length (x ∷ xs)) ++ numbers_from (z + length (x ∷ xs)) (length (x ∷ xs)))
          ++ (z + (length (x ∷ xs) + length (x ∷ xs))) ∷ (z + (length (x ∷ xs) + length (x ∷ xs)) + 1)
          ∷ (numbers_from (z + (length (x ∷ xs) + length (x ∷ xs)) + 2) (length (x ∷ xs))
          ++ numbers_from (z + (length (x ∷ xs) + length (x ∷ xs)) + 2 + length (x ∷ xs)) (length (x ∷ xs)))))
          (let z = f.last in let e : length f.after.world.sent ≡ length a.world.sent + length a.master.members + 2 = omega (arith, z) in e)
          ∙ ap (λ (l : List ℕ). recovery_messages (length a.world.sent) (length a.master.members) i (length l)) (sym some)

  pub is_out : Out
  is_out = by os refl
    where
      by : (l : List ℕ) → os ≡ l → Out
      by [] e = out_alone e f_is
      by (x ∷ xs) e = out_with x xs e f_is
