-- The QoS that a session's subscriptions are granted is the greatest of the filters that match.
use Rattle.std.proofs.Common.{◌≡◌, ℕ, ◌≤◌, true, false, cond, List, [], ◌∷◌, Option, Some, None, refl, sym, ◌∙◌, ap, arith, ◌⊎◌, inl, inr, nat_lt}
use Rattle.std.specs.Prelude.{bytes_eq}
use Rattle.std.specs.Cmp.Lexicographic.{bytes_decides}
use Rattle.std.proofs.lemmas.Bool.Decides.{nat_tests}
use Rattle.std.proofs.lemmas.Bool.{or_parts}
use Rattle.topics.specs.Matching.{is_match}
use Rattle.packet_base.specs.declared.qos.QoS.{QoS}
use Rattle.packet_base.specs.QoS.{qos_number, greater_qos}
use Rattle.session_base.specs.Subscriptions.{GrantedSubscription, is_subscribed, granted_qos}
use Rattle.broker_spec.specs.Subscriptions.{qos_asked}
use Rattle.session_base.specs.KeepingTheorems.{AreFiltersApart}

-- ---- the greater of two

-- it is no less than the first
greater_left : (q : QoS) (best : Option QoS) → qos_number q ≤ qos_number (greater_qos q best)
greater_left q None = omega arith
greater_left q (Some b) =
    elim (nat_lt (qos_number q) (qos_number b)) as (λ v. nat_lt (qos_number q) (qos_number b) ≡ v → qos_number q ≤ qos_number (cond v b q)) [
      | true ↦ λ e. grind (arith, nat_tests)
      | false ↦ λ e. omega arith
    ] refl

-- nor than the second
greater_right : (q b : QoS) → qos_number b ≤ qos_number (greater_qos q (Some b))
greater_right q b =
    elim (nat_lt (qos_number q) (qos_number b)) as (λ v. nat_lt (qos_number q) (qos_number b) ≡ v → qos_number b ≤ qos_number (cond v b q)) [
      | true ↦ λ e. omega arith
      | false ↦ λ e. grind (arith, nat_tests)
    ] refl

-- and it is one of them
greater_cases : (q : QoS) (best : Option QoS) → (greater_qos q best ≡ q) ⊎ (best ≡ Some (greater_qos q best))
greater_cases q None = inl refl
greater_cases q (Some b) =
    elim (nat_lt (qos_number q) (qos_number b)) as (λ v. (cond v b q ≡ q) ⊎ (Some b ≡ Some (cond v b q))) [ true ↦ inr refl | false ↦ inl refl ]

-- ---- of a session's subscriptions

-- a matching filter's QoS is at most the one that is granted
pub reaches : (topic : List ℕ) (held : List GrantedSubscription) (f : List ℕ) (q : QoS) → qos_asked f held ≡ Some q → is_match f topic ≡ true →
    (p : QoS) × (granted_qos topic held ≡ Some p) × (qos_number q ≤ qos_number p)
reaches topic [] f q found is = absurd (cc)
reaches topic (s ∷ others) f q found is =
    elim (bytes_eq f s.0) as (λ v. bytes_eq f s.0 ≡ v → cond v (Some s.1) (qos_asked f others) ≡ Some q →
    (p : QoS) × (granted_qos topic (s ∷ others) ≡ Some p) × (qos_number q ≤ qos_number p)) [
      | true ↦ λ t e.
          let here : is_match s.0 topic ≡ true = ap (λ x. is_match x topic) (sym ((bytes_decides f s.0).0 t)) ∙ is in
          let n : s.1 ≡ q = cc in
          let m : qos_number s.1 ≡ qos_number q = ap qos_number n in
          let l : qos_number s.1 ≤ qos_number (greater_qos s.1 (granted_qos topic others)) = greater_left s.1 (granted_qos topic others) in (
            greater_qos s.1 (granted_qos topic others),
            ap (λ v. cond v (Some (greater_qos s.1 (granted_qos topic others))) (granted_qos topic others)) here,
            omega arith,
          )
      | false ↦ λ t e.
          let h = reaches topic others f q e is in
          let k = h.2 in
          let l : qos_number h.0 ≤ qos_number (greater_qos s.1 (Some h.0)) = greater_right s.1 h.0 in
          elim (is_match s.0 topic) as (λ v. (p : QoS) × (cond v (Some (greater_qos s.1 (granted_qos topic others))) (granted_qos topic others) ≡ Some p) × (qos_number q ≤ qos_number p)) [
            | true ↦ (greater_qos s.1 (Some h.0), ap (λ o. Some (greater_qos s.1 o)) h.1, omega arith)
            | false ↦ h
          ]
    ] refl found

-- the subscription of a filter after the first, if filters are apart
at_after : (s : GrantedSubscription) (others : List GrantedSubscription) (f : List ℕ) (p : QoS) → qos_asked s.0 others ≡ None → qos_asked f others ≡ Some p → qos_asked f (s ∷ others) ≡ Some p
at_after s others f p apart found =
    elim (bytes_eq f s.0) as (λ v. bytes_eq f s.0 ≡ v → cond v (Some s.1) (qos_asked f others) ≡ Some p) [
      | true ↦ λ t.
          let none : qos_asked f others ≡ None = ap (λ x. qos_asked x others) ((bytes_decides f s.0).0 t) ∙ apart in
          absurd (cc)
      | false ↦ λ t. found
    ] refl

-- a filter that is not held has no QoS
pub none_held : (f : List ℕ) (held : List GrantedSubscription) → is_subscribed f held ≡ false → qos_asked f held ≡ None
none_held f [] e = refl
none_held f (old ∷ others) e =
    let parts = or_parts (bytes_eq f old.0) (is_subscribed f others) e in rw (parts.0) (none_held f others parts.1)

-- what is granted is the QoS of a matching filter
pub comes : (topic : List ℕ) (held : List GrantedSubscription) (p : QoS) → AreFiltersApart held → granted_qos topic held ≡ Some p →
    (f : List ℕ) × (qos_asked f held ≡ Some p) × (is_match f topic ≡ true)
comes topic [] p apart is = absurd (cc)
comes topic (s ∷ others) p apart is =
    let Goal : Type 0 = (f : List ℕ) × (qos_asked f (s ∷ others) ≡ Some p) × (is_match f topic ≡ true) in
    let further : granted_qos topic others ≡ Some p → Goal =
    λ e. let h = comes topic others p apart.1 e in (h.0, at_after s others h.0 p (none_held s.0 others apart.0) h.1, h.2) in
    elim (is_match s.0 topic) as (λ v. is_match s.0 topic ≡ v → cond v (Some (greater_qos s.1 (granted_qos topic others))) (granted_qos topic others) ≡ Some p → Goal) [
      | true ↦ λ t e.
          elim (greater_cases s.1 (granted_qos topic others)) as (λ _. Goal) [
            | inl here ↦ (
              s.0,
              ap (λ b. cond b (Some s.1) (qos_asked s.0 others)) ((bytes_decides s.0 s.0).1 refl) ∙ ap (λ q. Some q) (sym here) ∙ e,
              t,
            )
            | inr there ↦ further (there ∙ e)
          ]
      | false ↦ λ t e. further e
    ] refl is
