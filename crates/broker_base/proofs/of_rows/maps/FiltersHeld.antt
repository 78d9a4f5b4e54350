-- What a session holds for each filter, if one is granted or removed.
use Rattle.std.proofs.Common.{◌≡◌, ℕ, Bool, true, false, not, if◌then◌else◌, List, [], ◌∷◌, Option, Some, None, refl, ap, ◌∙◌, sym}
use Rattle.std.specs.Prelude.{bytes_eq}
use Rattle.std.specs.Cmp.Lexicographic.{bytes_decides}
use Rattle.packet_base.specs.declared.qos.QoS.{QoS}
use Rattle.session_base.specs.Subscriptions.{GrantedSubscription, with_subscription, without_filter}
use Rattle.broker_spec.specs.Subscriptions.{qos_asked}

-- bytes that are tested equal, either way round
pub bytes_back : (f g : List ℕ) → bytes_eq f g ≡ bytes_eq g f
bytes_back f g = by (bytes_eq f g) refl (bytes_eq g f) refl
  where
    by : (a : Bool) → bytes_eq f g ≡ a → (b : Bool) → bytes_eq g f ≡ b → a ≡ b
    by true e true h = refl
    by false e false h = refl
    by true e false h = let k : bytes_eq g f ≡ true = (bytes_decides g f).1 (sym ((bytes_decides f g).0 e)) in absurd (cc)
    by false e true h = let k : bytes_eq f g ≡ true = (bytes_decides f g).1 (sym ((bytes_decides g f).0 h)) in absurd (cc)

-- one more, or another QoS in place of an identical filter
pub qos_granted : (new : GrantedSubscription) (held : List GrantedSubscription) (f : List ℕ) →
    qos_asked f (with_subscription new held) ≡ (if bytes_eq new.0 f then Some new.1 else qos_asked f held)
qos_granted new [] f = ap (λ b. if b then Some new.1 else None) (bytes_back f new.0)
qos_granted new (old ∷ others) f = by (bytes_eq new.0 old.0) refl (qos_granted new others f)
  where
    -- if the first is replaced
    same : (b : Bool) → (if b then Some new.1 else qos_asked f others) ≡ (if b then Some new.1 else if b then Some old.1 else qos_asked f others)
    same true = refl
    same false = refl

    -- if it stays
    other : (b : Bool) → bytes_eq f old.0 ≡ b → bytes_eq new.0 old.0 ≡ false → (mine : Bool) → bytes_eq new.0 f ≡ mine →
        (if b then Some old.1 else if mine then Some new.1 else qos_asked f others) ≡ (if mine then Some new.1 else if b then Some old.1 else qos_asked f others)
    other true e apart true h =
        let k : bytes_eq new.0 old.0 ≡ true = ap (bytes_eq new.0) (sym ((bytes_decides f old.0).0 e)) ∙ h in
        absurd (cc)
    other true e apart false h = refl
    other false e apart mine h = refl

    by : (b : Bool) → bytes_eq new.0 old.0 ≡ b → qos_asked f (with_subscription new others) ≡ (if bytes_eq new.0 f then Some new.1 else qos_asked f others) →
        qos_asked f (if b then (old.0, new.1) ∷ others else old ∷ with_subscription new others) ≡ (if bytes_eq new.0 f then Some new.1 else qos_asked f (old ∷ others))
    by true e more =
        same (bytes_eq f old.0)
        ∙ ap (λ b. if b then Some new.1 else qos_asked f (old ∷ others)) (ap (bytes_eq f) (sym ((bytes_decides new.0 old.0).0 e)) ∙ bytes_back f new.0)
    by false e more =
        ap (λ o. if bytes_eq f old.0 then Some old.1 else o) more ∙ other (bytes_eq f old.0) refl e (bytes_eq new.0 f) refl

-- one less
pub qos_given_up : (g : List ℕ) (held : List GrantedSubscription) (f : List ℕ) → qos_asked f (without_filter g held) ≡ (if bytes_eq g f then None else qos_asked f held)
qos_given_up g [] f = by (bytes_eq g f) None
  where
    by : (b : Bool) (o : Option QoS) → o ≡ (if b then o else o)
    by true o = refl
    by false o = refl
qos_given_up g (old ∷ others) f = by (bytes_eq g old.0) refl (qos_given_up g others f)
  where
    here : (b : Bool) → bytes_eq g f ≡ b → g ≡ old.0 → (if b then None else qos_asked f others) ≡ (if b then None else if bytes_eq f old.0 then Some old.1 else qos_asked f others)
    here true e own = refl
    here false e own = ap (λ b. if b then Some old.1 else qos_asked f others) (sym e ∙ bytes_back g f ∙ ap (bytes_eq f) own)

    other : (b : Bool) → bytes_eq f old.0 ≡ b → bytes_eq g old.0 ≡ false → (mine : Bool) → bytes_eq g f ≡ mine →
        (if b then Some old.1 else if mine then None else qos_asked f others) ≡ (if mine then None else if b then Some old.1 else qos_asked f others)
    other true e apart true h =
        let k : bytes_eq g old.0 ≡ true = ap (bytes_eq g) (sym ((bytes_decides f old.0).0 e)) ∙ h in
        absurd (cc)
    other true e apart false h = refl
    other false e apart mine h = refl

    by : (b : Bool) → bytes_eq g old.0 ≡ b → qos_asked f (without_filter g others) ≡ (if bytes_eq g f then None else qos_asked f others) →
        qos_asked f (if not b then old ∷ without_filter g others else without_filter g others) ≡ (if bytes_eq g f then None else qos_asked f (old ∷ others))
    by true e more = more ∙ here (bytes_eq g f) refl ((bytes_decides g old.0).0 e)
    by false e more = ap (λ o. if bytes_eq f old.0 then Some old.1 else o) more ∙ other (bytes_eq f old.0) refl e (bytes_eq g f) refl
