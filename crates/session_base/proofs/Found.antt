-- What is known about a list that was read with its count.
use Rattle.std.proofs.Common.{◌≡◌, ℕ, zero, suc, ◌≤◌, Bool, nat_le, List, [], ◌∷◌, ◌++◌, length, Result, Ok, Err, refl, sym, ap, ◌∙◌, subst, append_assoc, append-nil, arith}
use Rattle.std.specs.Prelude.{IfOk}
use Rattle.std.specs.List.{AllByRecursion}
use Rattle.std.proofs.lemmas.Bool.{leb-true}
use Rattle.packet_base.specs.Readers.{AreBytes}
use Rattle.packet_base.specs.declared.stop.Stop.{Stop}
use Rattle.packet_base.specs.Lists.{ItemAt}
use Rattle.packet_base.proofs.Steps.{then_if, check_if}
use Rattle.session_base.specs.Counted.{counted_items_at, items_after}
use Rattle.session_base.proofs.Counted.{AllFollow}

-- an item that is read meets it
abbrev pub IsFound : {A : Type 0} → ItemAt A → (A → Type 0) → Type 0
IsFound {A} item P = (bytes : List ℕ) → AreBytes bytes → IfOk (item bytes) (λ x. P x.0 × AreBytes x.1)

pub weaker : {A : Type 0} (r : Result A Stop) (P Q : A → Type 0) → IfOk r P → ((x : A) → P x → Q x) → IfOk r Q
weaker (Ok x) P Q h to = to x h
weaker (Err stop) P Q h to = tt

-- a list after those in front: its items meet it, each may be where it is, and this many there are
pub record Listed {A : Type 0} (follows : List A → A → Bool) (P : A → Type 0) (many : ℕ) (front all : List A) : Type 0 where
  pub items : List A
  pub joined : all ≡ front ++ items
  pub many_are : length items ≡ many
  pub follow : AllFollow follows front items
  pub each : AllByRecursion P items

items_listed : {A : Type 0} (follows : List A → A → Bool) (item : ItemAt A) (P : A → Type 0) → IsFound item P →
    (many : ℕ) (front : List A) (bytes : List ℕ) → AreBytes bytes →
    IfOk (items_after follows item many front bytes) (λ x. Listed follows P many front x.0 × AreBytes x.1)
unfolding items_after
items_listed follows item P found zero front bytes fits =
    (record { items = []; joined = sym (append-nil front); many_are = refl; follow = tt; each = tt }, fits)
items_listed {A} follows item P found (suc more) front bytes fits =
    let Q : List A × List ℕ → Type 0 = λ x. Listed follows P (suc more) front x.0 × AreBytes x.1 in
    then_if (item bytes) _ (λ x. P x.0 × AreBytes x.1) Q (found bytes fits) (λ one h.
    check_if (follows front one.0) _ _ Q (λ test.
    weaker (items_after follows item more (front ++ one.0 ∷ []) one.1) (λ x. Listed follows P more (front ++ one.0 ∷ []) x.0 × AreBytes x.1) Q
    (items_listed follows item P found more (front ++ one.0 ∷ []) one.1 h.1)
    (λ x k. (
      record {
        items = one.0 ∷ k.0.items;
        joined = k.0.joined ∙ append_assoc front (one.0 ∷ []) k.0.items;
        many_are = ap suc k.0.many_are;
        follow = (test, k.0.follow);
        each = (h.0, k.0.each);
      },
      k.1,
    ))))

-- a list with its count in front
pub record AreRead {A : Type 0} (follows : List A → A → Bool) (P : A → Type 0) (most : ℕ) (items : List A) : Type 0 where
  pub few : length items ≤ most
  pub follow : AllFollow follows [] items
  pub each : AllByRecursion P items

pub counted_found : {A : Type 0} (count : ItemAt ℕ) (follows : List A → A → Bool) (item : ItemAt A) (P : A → Type 0) (most : ℕ) →
    IsFound count (λ n. Unit {0}) → IsFound item P → IsFound (counted_items_at count follows item most) (AreRead follows P most)
unfolding counted_items_at
counted_found {A} count follows item P most counts found bytes fits =
    let Q : List A × List ℕ → Type 0 = λ x. AreRead follows P most x.0 × AreBytes x.1 in
    then_if (count bytes) _ (λ x. Unit {0} × AreBytes x.1) Q (counts bytes fits) (λ many h.
    check_if (nat_le many.0 most) _ _ Q (λ test.
    weaker (items_after follows item many.0 [] many.1) (λ x. Listed follows P many.0 [] x.0 × AreBytes x.1) Q
    (items_listed follows item P found many.0 [] many.1 h.1)
    (λ x k. (
      subst (λ zs. AreRead follows P most zs) (sym k.0.joined)
          (record { few = (let n = k.0.many_are in let bound : many.0 ≤ most = leb-true _ _ test in omega (arith, n, bound)); follow = k.0.follow; each = k.0.each }),
      k.1,
    ))))
