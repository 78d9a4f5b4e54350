-- What an index holds after a client's filters, or one of them, were changed.
use Rattle.std.proofs.Common.{◌≡◌, ℕ, List, [], Bool, true, false, ◌&&◌, cond, Option, Some, None, refl, sym, ◌∙◌, ap, bytes_eq, is_some, IsSome, IsTrue, ◌↔◌, Result, Ok, Err, OnOk, OnErr}
use Rattle.std.specs.Prelude.{option_and_then, option_map}
use Rattle.std.specs.BTreeMap.{BTreeMap, get, is_at}
use Rattle.std.specs.Map.{lookup}
use Rattle.std.specs.Cmp.Lexicographic.{slice_cmp, texts_ties, bytes_decides}
use Rattle.std.specs.Ordering.{nat_cmp, is_eq}
use Rattle.std.proofs.lemmas.Map.Made.{lookup-map_values}
use Rattle.packet_base.specs.declared.qos.QoS.{QoS}
use Rattle.subs_base.specs.Content.{Content, without_client, without_row, with_client_filters}
use Rattle.subs_base.specs.ListIndex.{content_of, at}
use Rattle.subs_base.specs.Inside.{listed}

abbrev Kept : Type 0
Kept = BTreeMap (List ℕ) QoS

abbrev Map : Type 0
Map = BTreeMap (List ℕ) Kept

-- the QoS in a client's map
abbrev pub held : Map → Content
held m c f = option_and_then (λ filters. get (slice_cmp nat_cmp) filters f) (get (slice_cmp nat_cmp) m c)

tie : (x y : List ℕ) → is_eq (slice_cmp nat_cmp x y) ≡ bytes_eq x y
tie x y = sym (texts_ties x y)

opened : (f : List ℕ) (o : Option Kept) → option_and_then (at f) (option_map (λ x. x.entries) o) ≡ option_and_then (λ filters. get (slice_cmp nat_cmp) filters f) o
opened f None = refl
opened f (Some filters) = refl

pub content_held : (m : Map) (c f : List ℕ) → content_of (listed m.entries) c f ≡ held m c f
content_held m c f =
    ap (option_and_then (at f)) (lookup-map_values (λ x. x.entries) (is_at (slice_cmp nat_cmp c)) m.entries)
    ∙ opened f (get (slice_cmp nat_cmp) m c)

-- w is then kept at the client and the filter
pub content_changed :
    (m n : Map) (client filter : List ℕ) (w : Option QoS) (old new : Kept)
    → ((f : List ℕ) → held m client f ≡ get (slice_cmp nat_cmp) old f)
    → ((f : List ℕ) → get (slice_cmp nat_cmp) new f ≡ cond (is_at (slice_cmp nat_cmp filter) f) w (get (slice_cmp nat_cmp) old f))
    → ((c : List ℕ) → get (slice_cmp nat_cmp) n c ≡ cond (is_at (slice_cmp nat_cmp client) c) (Some new) (get (slice_cmp nat_cmp) m c))
    → content_of (listed n.entries) ≡ (λ c f. cond (bytes_eq client c && bytes_eq filter f) w (content_of (listed m.entries) c f))
content_changed m n client filter w old new was inner outer =
    let point : (c f : List ℕ) → held n c f ≡ cond (bytes_eq client c && bytes_eq filter f) w (held m c f) = λ c f.
    elim (bytes_eq client c) as (λ v. bytes_eq client c ≡ v → held n c f ≡ cond (v && bytes_eq filter f) w (held m c f)) [
      | true ↦ λ e.
          ap (option_and_then (λ filters. get (slice_cmp nat_cmp) filters f))
          (outer c ∙ ap (λ b. cond b (Some new) (get (slice_cmp nat_cmp) m c)) (tie client c ∙ e))
          ∙ inner f
          ∙ ap (λ b. cond b w (get (slice_cmp nat_cmp) old f)) (tie filter f)
          ∙ ap (cond (bytes_eq filter f) w) (sym (was f) ∙ ap (λ x. held m x f) ((bytes_decides client c).0 e))
      | false ↦ λ e.
          ap (option_and_then (λ filters. get (slice_cmp nat_cmp) filters f))
          (outer c ∙ ap (λ b. cond b (Some new) (get (slice_cmp nat_cmp) m c)) (tie client c ∙ e))
    ] refl in
    λ i c f. (content_held n c f ∙ point c f ∙ ap (cond (bytes_eq client c && bytes_eq filter f) w) (sym (content_held m c f))) i

-- the client's filters were written back as they were
pub content_kept :
    (m n : Map) (client : List ℕ) (old new : Kept)
    → get (slice_cmp nat_cmp) m client ≡ Some old
    → new.entries ≡ old.entries
    → ((c : List ℕ) → get (slice_cmp nat_cmp) n c ≡ cond (is_at (slice_cmp nat_cmp client) c) (Some new) (get (slice_cmp nat_cmp) m c))
    → content_of (listed n.entries) ≡ content_of (listed m.entries)
content_kept m n client old new was same outer =
    let point : (c f : List ℕ) → held n c f ≡ held m c f = λ c f.
    elim (bytes_eq client c) as (λ v. bytes_eq client c ≡ v → held n c f ≡ held m c f) [
      | true ↦ λ e.
          ap (option_and_then (λ filters. get (slice_cmp nat_cmp) filters f))
          (outer c ∙ ap (λ b. cond b (Some new) (get (slice_cmp nat_cmp) m c)) (tie client c ∙ e))
          ∙ ap (lookup (is_at (slice_cmp nat_cmp f))) same
          ∙ sym (ap (option_and_then (λ filters. get (slice_cmp nat_cmp) filters f)) was)
          ∙ ap (λ x. held m x f) ((bytes_decides client c).0 e)
      | false ↦ λ e.
          ap (option_and_then (λ filters. get (slice_cmp nat_cmp) filters f))
          (outer c ∙ ap (λ b. cond b (Some new) (get (slice_cmp nat_cmp) m c)) (tie client c ∙ e))
    ] refl in
    λ i c f. (content_held n c f ∙ point c f ∙ sym (content_held m c f)) i

emptied : (b : Bool) (f : List ℕ) (o : Option Kept) → option_and_then (λ filters. get (slice_cmp nat_cmp) filters f) (cond b None o) ≡ cond b None (option_and_then (λ filters. get (slice_cmp nat_cmp) filters f) o)
emptied true f o = refl
emptied false f o = refl

-- the client went
pub content_dropped :
    (m n : Map) (client : List ℕ)
    → ((c : List ℕ) → get (slice_cmp nat_cmp) n c ≡ cond (is_at (slice_cmp nat_cmp client) c) None (get (slice_cmp nat_cmp) m c))
    → content_of (listed n.entries) ≡ without_client (content_of (listed m.entries)) client
content_dropped m n client outer =
    let point : (c f : List ℕ) → held n c f ≡ cond (bytes_eq client c) None (held m c f) = λ c f.
    ap (option_and_then (λ filters. get (slice_cmp nat_cmp) filters f)) (outer c)
    ∙ emptied (is_at (slice_cmp nat_cmp client) c) f (get (slice_cmp nat_cmp) m c)
    ∙ ap (λ b. cond b None (held m c f)) (tie client c) in
    λ i c f. (content_held n c f ∙ point c f ∙ ap (cond (bytes_eq client c) None) (sym (content_held m c f))) i

-- a client that is not there has no filters
pub held_none : (m : Map) (client f : List ℕ) (old : Kept) → None ≡ get (slice_cmp nat_cmp) m client → old.entries ≡ [] → held m client f ≡ get (slice_cmp nat_cmp) old f
held_none m client f old none empty =
    sym (ap (option_and_then (λ filters. get (slice_cmp nat_cmp) filters f)) none)
    ∙ sym (ap (lookup (is_at (slice_cmp nat_cmp f))) empty)

-- one that is there has those of its map
pub held_some : (m : Map) (client f : List ℕ) (old : Kept) → Some old ≡ get (slice_cmp nat_cmp) m client → held m client f ≡ get (slice_cmp nat_cmp) old f
held_some m client f old some = sym (ap (option_and_then (λ filters. get (slice_cmp nat_cmp) filters f)) some)

same_both : (b : Bool) → cond b None None ≡ (let none : Option QoS = None in none)
same_both true = refl
same_both false = refl

-- nothing is cleared of a client that is not there
pub content_without_client :
    (m : Map) (client filter : List ℕ) → None ≡ get (slice_cmp nat_cmp) m client
    → content_of (listed m.entries) ≡ without_row (content_of (listed m.entries)) client filter
content_without_client m client filter none =
    let point : (c f : List ℕ) → held m c f ≡ cond (bytes_eq client c && bytes_eq filter f) None (held m c f) = λ c f.
    elim (bytes_eq client c) as (λ v. bytes_eq client c ≡ v → held m c f ≡ cond (v && bytes_eq filter f) None (held m c f)) [
      | true ↦ λ e.
          let gone : held m c f ≡ None = ap (λ x. held m x f) (sym ((bytes_decides client c).0 e)) ∙ sym (ap (option_and_then (λ filters. get (slice_cmp nat_cmp) filters f)) none) in
          gone ∙ sym (ap (cond (bytes_eq filter f) None) gone ∙ same_both (bytes_eq filter f))
      | false ↦ λ e. refl
    ] refl in
    λ i c f. (content_held m c f ∙ point c f ∙ ap (cond (bytes_eq client c && bytes_eq filter f) None) (sym (content_held m c f))) i

-- what a removal answers
pub found_is : (answer : Bool) (taken there : Option QoS) → answer ≡ is_some taken → taken ≡ there → IsTrue answer ↔ IsSome there
found_is answer taken there e f = let g : answer ≡ is_some there = e ∙ ap is_some f in (λ h. sym g ∙ h, λ h. g ∙ h)

-- from what holds at `Ok` to what follows there
pub on_ok : {X E A B : Type 0} (r : Result X E) → (A → B) → OnOk r A → OnOk r B
on_ok (Ok x) step h = step h
on_ok (Err e) step h = h

pub on_err : {X E A B : Type 0} (r : Result X E) → (A → B) → OnErr r A → OnErr r B
on_err (Ok x) step h = h
on_err (Err e) step h = step h

pub on_ok_both : {X E A B C : Type 0} (r : Result X E) → (A → B → C) → OnOk r A → OnOk r B → OnOk r C
on_ok_both (Ok x) step h k = step h k
on_ok_both (Err e) step h k = h

pub anyhow_err : {X E A : Type 0} (r : Result X E) → A → OnErr r A
anyhow_err (Ok x) a = tt
anyhow_err (Err e) a = a

-- a client that is not there has no subscription
pub content_nowhere : (m : Map) (client filter : List ℕ) → None ≡ get (slice_cmp nat_cmp) m client → content_of (listed m.entries) client filter ≡ None
content_nowhere m client filter none =
    content_held m client filter
    ∙ sym (ap (option_and_then (λ filters. get (slice_cmp nat_cmp) filters filter)) none)

put_in : (b : Bool) (f : List ℕ) (new : Kept) (o : Option Kept) →
    option_and_then (λ filters. get (slice_cmp nat_cmp) filters f) (cond b (Some new) o)
    ≡ cond b (get (slice_cmp nat_cmp) new f) (option_and_then (λ filters. get (slice_cmp nat_cmp) filters f) o)
put_in true f new o = refl
put_in false f new o = refl

-- the client's filters were replaced
pub content_put :
    (m n : Map) (client : List ℕ) (new : Kept)
    → ((c : List ℕ) → get (slice_cmp nat_cmp) n c ≡ cond (is_at (slice_cmp nat_cmp client) c) (Some new) (get (slice_cmp nat_cmp) m c))
    → content_of (listed n.entries) ≡ with_client_filters (content_of (listed m.entries)) client (get (slice_cmp nat_cmp) new)
content_put m n client new outer =
    let point : (c f : List ℕ) → held n c f ≡ cond (bytes_eq client c) (get (slice_cmp nat_cmp) new f) (held m c f) = λ c f.
    ap (option_and_then (λ filters. get (slice_cmp nat_cmp) filters f)) (outer c)
    ∙ put_in (is_at (slice_cmp nat_cmp client) c) f new (get (slice_cmp nat_cmp) m c)
    ∙ ap (λ b. cond b (get (slice_cmp nat_cmp) new f) (held m c f)) (tie client c) in
    λ i c f. (content_held n c f ∙ point c f ∙ ap (cond (bytes_eq client c) (get (slice_cmp nat_cmp) new f)) (sym (content_held m c f))) i

-- with no filters it is removed
pub none_put : (before : Content) (client : List ℕ) (new : Kept) → new.entries ≡ [] → without_client before client ≡ with_client_filters before client (get (slice_cmp nat_cmp) new)
none_put before client new empty =
    λ i c f. cond (bytes_eq client c) (sym (ap (lookup (is_at (slice_cmp nat_cmp f))) empty) i) (before c f)
