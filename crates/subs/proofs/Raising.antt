-- The greatest of several QoS, and what is at a client that was raised.
use Rattle.std.proofs.Common.{◌≡◌, ℕ, ◌≤◌, List, ◌∷◌, true, false, cond, Option, Some, None, Result, Ok, Err, OnOk, refl, sym, ◌∙◌, ap, subst, arith, ◌⊎◌, inl, inr, nat_lt, [], ◌++◌, length, take, codes}
use Rattle.std.specs.BTreeMap.{BTreeMap, get, is_at, Updates}
use Rattle.std.specs.Map.{lookup, keys_of}
use Rattle.std.specs.List.Sorted.{IsStrictlySortedBy}
use Rattle.std.specs.Cmp.{eq_by_cmp_equiv}
use Rattle.std.specs.Cmp.Lexicographic.{slice_cmp, nat_list_cmp_total, bytes_decides}
use Rattle.std.specs.Ordering.{nat_cmp, is_eq}
use Rattle.std.proofs.lemmas.Bool.Decides.{nat_tests}
use Rattle.std.proofs.lemmas.Map.{lookup-none}
use Rattle.std.proofs.lemmas.Map.Entries.{none_past_head}
use Rattle.std.proofs.lemmas.Map.Keys.{IsDistinct-from_sorted}
use Rattle.std.proofs.lemmas.Map.Text.{is_eq-slice_cmp}
use Rattle.std.proofs.lemmas.List.{length-append, length-take}
use Rattle.topics.specs.Text.{Levels}
use Rattle.packet_base.specs.declared.qos.QoS.{QoS}
use Rattle.packet_base.specs.QoS.{qos_number}
use Rattle.subs_base.proofs.RowsAreGranted.{first}
use Rattle.subs.specs.declared.rows.Rows.TheVariants as kept
use Rattle.subs.specs.Rows.{qos_of_client}
use Rattle.subs.specs.Shape.{Shape}
use Rattle.subs.specs.Walk.{greatest, Raises, GivesSome, found_at, found_below}

below_twice : (p q r : QoS) → nat_lt (qos_number p) (qos_number q) ≡ true → nat_lt (qos_number q) (qos_number r) ≡ true → nat_lt (qos_number p) (qos_number r) ≡ true
below_twice p q r e f = grind (arith, nat_tests)

above_twice : (p q r : QoS) → nat_lt (qos_number p) (qos_number q) ≡ false → nat_lt (qos_number q) (qos_number r) ≡ false → nat_lt (qos_number p) (qos_number r) ≡ false
above_twice p q r e f = grind (arith, nat_tests)

of_three : (p q r : QoS) → greatest (greatest (Some p) (Some q)) (Some r) ≡ greatest (Some p) (greatest (Some q) (Some r))
of_three p q r =
    elim (nat_lt (qos_number p) (qos_number q)) as (λ v. nat_lt (qos_number p) (qos_number q) ≡ v → greatest (cond v (Some q) (Some p)) (Some r) ≡ greatest (Some p) (greatest (Some q) (Some r))) [
      | true ↦ λ e.
          elim (nat_lt (qos_number q) (qos_number r)) as (λ v. nat_lt (qos_number q) (qos_number r) ≡ v → cond v (Some r) (Some q) ≡ greatest (Some p) (cond v (Some r) (Some q))) [
            | true ↦ λ f. ap (λ b. cond b (Some r) (Some p)) (sym (below_twice p q r e f))
            | false ↦ λ f. ap (λ b. cond b (Some q) (Some p)) (sym e)
          ] refl
      | false ↦ λ e.
          elim (nat_lt (qos_number q) (qos_number r)) as (λ v. nat_lt (qos_number q) (qos_number r) ≡ v → cond (nat_lt (qos_number p) (qos_number r)) (Some r) (Some p) ≡ greatest (Some p) (cond v (Some r) (Some q))) [
            | true ↦ λ f. refl
            | false ↦ λ f. ap (λ b. cond b (Some r) (Some p)) (above_twice p q r e f) ∙ ap (λ b. cond b (Some q) (Some p)) (sym e)
          ] refl
    ] refl

pub greatest_none : (a : Option QoS) → greatest a None ≡ a
greatest_none None = refl
greatest_none (Some p) = refl

some_or_none : (p q : QoS) → greatest (greatest (Some p) (Some q)) None ≡ greatest (Some p) (Some q)
some_or_none p q = greatest_none (greatest (Some p) (Some q))

pub greatest_assoc : (a b c : Option QoS) → greatest (greatest a b) c ≡ greatest a (greatest b c)
greatest_assoc None b c = refl
greatest_assoc (Some p) None c = refl
greatest_assoc (Some p) (Some q) None = some_or_none p q
greatest_assoc (Some p) (Some q) (Some r) = of_three p q r

-- one raising after another
pub both_raise :
    (a b d : BTreeMap (List ℕ) QoS) (f g : List ℕ → Option QoS)
    → Raises a b f → Raises b d g → Raises a d (λ c. greatest (f c) (g c))
both_raise a b d f g first second c =
    second c ∙ ap (λ o. greatest o (g c)) (first c) ∙ greatest_assoc (get (slice_cmp nat_cmp) a c) (f c) (g c)

same : (x y : List ℕ) → is_eq (slice_cmp nat_cmp x y) ≡ true → x ≡ y
same x y e = (bytes_decides x y).0 (sym (is_eq-slice_cmp x y) ∙ e)

turned : (x y : List ℕ) → is_eq (slice_cmp nat_cmp x y) ≡ false → is_eq (slice_cmp nat_cmp y x) ≡ false
turned x y e =
    elim (is_eq (slice_cmp nat_cmp y x)) as (λ v. is_eq (slice_cmp nat_cmp y x) ≡ v → v ≡ false) [
      | true ↦ λ h. sym h ∙ ap (λ z. is_eq (slice_cmp nat_cmp z x)) (same y x h) ∙ sym (ap (λ z. is_eq (slice_cmp nat_cmp x z)) (same y x h)) ∙ e
      | false ↦ λ h. refl
    ] refl

-- one client is raised, of a list in which it is at the head
pub raised_first :
    (m n : BTreeMap (List ℕ) QoS) (client : List ℕ) (qos : QoS) (es : List (List ℕ × QoS))
    → IsStrictlySortedBy (slice_cmp nat_cmp) (keys_of ((client, qos) ∷ es))
    → Updates (slice_cmp nat_cmp) m n client (greatest (get (slice_cmp nat_cmp) m client) (Some qos))
    → (c : List ℕ)
    → greatest (get (slice_cmp nat_cmp) n c) (lookup (is_at (slice_cmp nat_cmp c)) es)
    ≡ greatest (get (slice_cmp nat_cmp) m c) (lookup (is_at (slice_cmp nat_cmp c)) ((client, qos) ∷ es))
raised_first m n client qos es sorted updates c =
    elim (is_eq (slice_cmp nat_cmp c client)) as (λ v. is_eq (slice_cmp nat_cmp c client) ≡ v → greatest (get (slice_cmp nat_cmp) n c) (lookup (is_at (slice_cmp nat_cmp c)) es) ≡ greatest (get (slice_cmp nat_cmp) m c) (cond v (Some qos) (lookup (is_at (slice_cmp nat_cmp c)) es))) [
      | true ↦ λ e.
          let gone : lookup (is_at (slice_cmp nat_cmp c)) es ≡ None =
          lookup-none (is_at (slice_cmp nat_cmp c)) es
          (none_past_head (eq_by_cmp_equiv nat_list_cmp_total) c (client, qos) es (IsDistinct-from_sorted (slice_cmp nat_cmp) (keys_of ((client, qos) ∷ es)) sorted) e) in
          ap (greatest (get (slice_cmp nat_cmp) n c)) gone
          ∙ greatest_none (get (slice_cmp nat_cmp) n c)
          ∙ ap (get (slice_cmp nat_cmp) n) (same c client e)
          ∙ updates.1
          ∙ ap (λ k. greatest (get (slice_cmp nat_cmp) m k) (Some qos)) (sym (same c client e))
      | false ↦ λ e.
          ap (λ o. greatest o (lookup (is_at (slice_cmp nat_cmp c)) es))
          (updates.0 c ∙ ap (λ b. cond b (greatest (get (slice_cmp nat_cmp) m client) (Some qos)) (get (slice_cmp nat_cmp) m c)) (turned c client e))
    ] refl

-- a client that has the only row is raised, or none is
pub raised_one :
    (m n : BTreeMap (List ℕ) QoS) (client : List ℕ) (qos : QoS)
    → Updates (slice_cmp nat_cmp) m n client (greatest (get (slice_cmp nat_cmp) m client) (Some qos))
    → Raises m n (qos_of_client (kept.One client qos))
raised_one m n client qos updates c =
    elim (is_eq (slice_cmp nat_cmp c client)) as (λ v. is_eq (slice_cmp nat_cmp c client) ≡ v → get (slice_cmp nat_cmp) n c ≡ greatest (get (slice_cmp nat_cmp) m c) (cond v (Some qos) None)) [
      | true ↦ λ e.
          ap (get (slice_cmp nat_cmp) n) (same c client e)
          ∙ updates.1
          ∙ ap (λ k. greatest (get (slice_cmp nat_cmp) m k) (Some qos)) (sym (same c client e))
      | false ↦ λ e.
          updates.0 c
          ∙ ap (λ b. cond b (greatest (get (slice_cmp nat_cmp) m client) (Some qos)) (get (slice_cmp nat_cmp) m c)) (turned c client e)
          ∙ sym (greatest_none (get (slice_cmp nat_cmp) m c))
    ] refl

pub raised_none : (m : BTreeMap (List ℕ) QoS) → Raises m m (qos_of_client kept.Empty)
raised_none m c = sym (greatest_none (get (slice_cmp nat_cmp) m c))

-- what a call of two answers gives, the first of which went well
pub then_ok : {X E A B : Type 0} (r : Result X E) → (A → B) → OnOk r A → OnOk r B
then_ok (Ok x) step h = step h
then_ok (Err e) step h = h

-- ---- bounds

pub greatest_left : (a b : Option QoS) (p : QoS) → a ≡ Some p → (r : QoS) × (greatest a b ≡ Some r) × (qos_number p ≤ qos_number r)
greatest_left a b p is = subst (λ (o : Option QoS). (r : QoS) × (greatest o b ≡ Some r) × (qos_number p ≤ qos_number r)) (sym is) (go b)
  where
    go : (b : Option QoS) → (r : QoS) × (greatest (Some p) b ≡ Some r) × (qos_number p ≤ qos_number r)
    go None = (p, refl, omega arith)
    go (Some q) =
        elim (nat_lt (qos_number p) (qos_number q)) as (λ v. nat_lt (qos_number p) (qos_number q) ≡ v → (r : QoS) × (cond v (Some q) (Some p) ≡ Some r) × (qos_number p ≤ qos_number r)) [
          | true ↦ λ e. (q, refl, grind (arith, nat_tests))
          | false ↦ λ e. (p, refl, omega arith)
        ] refl

pub greatest_right : (a b : Option QoS) (q : QoS) → b ≡ Some q → (r : QoS) × (greatest a b ≡ Some r) × (qos_number q ≤ qos_number r)
greatest_right a b q is = subst (λ (o : Option QoS). (r : QoS) × (greatest a o ≡ Some r) × (qos_number q ≤ qos_number r)) (sym is) (go a)
  where
    go : (a : Option QoS) → (r : QoS) × (greatest a (Some q) ≡ Some r) × (qos_number q ≤ qos_number r)
    go None = (q, refl, omega arith)
    go (Some p) =
        elim (nat_lt (qos_number p) (qos_number q)) as (λ v. nat_lt (qos_number p) (qos_number q) ≡ v → (r : QoS) × (cond v (Some q) (Some p) ≡ Some r) × (qos_number q ≤ qos_number r)) [
          | true ↦ λ e. (q, refl, omega arith)
          | false ↦ λ e. (p, refl, grind (arith, nat_tests))
        ] refl

pub greatest_either : (a b : Option QoS) (q : QoS) → greatest a b ≡ Some q → (a ≡ Some q) ⊎ (b ≡ Some q)
greatest_either None b q is = inr is
greatest_either (Some p) None q is = inl is
greatest_either (Some p) (Some r) q is =
    elim (nat_lt (qos_number p) (qos_number r)) as (λ v. cond v (Some r) (Some p) ≡ Some q → (Some p ≡ Some q) ⊎ (Some r ≡ Some q)) [ true ↦ λ e. inr e | false ↦ λ e. inl e ] is

-- ---- whom a walk gives something

module _ (s : Shape) where
  pub rest_gives : (node : ℕ) (topic : Levels) → GivesSome (s.asked node true) → GivesSome (found_at s node topic)
  rest_gives node [] h =
      let r = greatest_left (s.asked node true h.0) (s.asked node false h.0) h.1 h.2 in
      (h.0, r.0, r.1)
  rest_gives node (level ∷ rest) h =
      let r = greatest_left (s.asked node true h.0)
      (greatest (found_below s node level rest h.0) (found_below s node (codes "+") rest h.0)) h.1 h.2 in
      (h.0, r.0, r.1)

  pub here_gives : (node : ℕ) → GivesSome (s.asked node false) → GivesSome (found_at s node [])
  here_gives node h =
      let r = greatest_right (s.asked node true h.0) (s.asked node false h.0) h.1 h.2 in
      (h.0, r.0, r.1)

  pub below_gives : (node : ℕ) (level : List ℕ) (rest : Levels) → GivesSome (found_below s node level rest) → GivesSome (found_at s node (level ∷ rest))
  below_gives node level rest h =
      let one = greatest_left (found_below s node level rest h.0) (found_below s node (codes "+") rest h.0) h.1 h.2 in
      let r = greatest_right (s.asked node true h.0)
      (greatest (found_below s node level rest h.0) (found_below s node (codes "+") rest h.0)) one.0 one.1 in
      (h.0, r.0, r.1)

  pub plus_gives : (node : ℕ) (level : List ℕ) (rest : Levels) → GivesSome (found_below s node (codes "+") rest) → GivesSome (found_at s node (level ∷ rest))
  plus_gives node level rest h =
      let one = greatest_right (found_below s node level rest h.0) (found_below s node (codes "+") rest h.0) h.1 h.2 in
      let r = greatest_right (s.asked node true h.0)
      (greatest (found_below s node level rest h.0) (found_below s node (codes "+") rest h.0)) one.0 one.1 in
      (h.0, r.0, r.1)

-- if some are left, some are found
pub left_gives : (found : List (List ℕ × QoS)) (rows old rest : List (List ℕ × QoS)) (e : List ℕ × QoS) → rows ++ (e ∷ rest) ≡ old ++ found → old ≡ take (length old) rows →
    GivesSome (λ client. lookup (is_at (slice_cmp nat_cmp client)) found)
left_gives [] rows old rest e whole front =
    let all = ap length whole in let more = length-append rows (e ∷ rest) in let none = length-append old [] in
    let long = ap length front in let cut = length-take (length old) rows in
    absurd (omega (arith, all, more, none, long, cut))
left_gives (f ∷ found) rows old rest e whole front = (f.0, f.1, first f found)
