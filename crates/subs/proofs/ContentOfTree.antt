-- The content of a tree after a change, in the terms of an index.
use Rattle.std.proofs.Common.{◌≡◌, ℕ, List, [], ◌∷◌, Bool, true, false, ◌&&◌, cond, Option, Some, None, Result, Ok, Err, OnOk, OnErr, is_err, refl, sym, ◌∙◌, ap, bytes_eq, is_some}
use Rattle.std.specs.Prelude.{option_and_then}
use Rattle.std.specs.List.{join_with_byte}
use Rattle.std.specs.Cmp.Lexicographic.{bytes_decides, slice_cmp, texts_ties}
use Rattle.std.specs.Ordering.{nat_cmp, is_eq}
use Rattle.std.proofs.lemmas.Bool.{true≢false, and_parts}
use Rattle.std.proofs.lemmas.List.Splits.{join_with_byte-slice_split}
use Rattle.packet_base.specs.declared.qos.QoS.{QoS}
use Rattle.subs_base.specs.Content.{Content, with_row, without_row, without_client}
use Rattle.subs_base.specs.ListIndex.{Filters, Clients, content_of, at}
use Rattle.topics.specs.Text.{levels}
use Rattle.subs.specs.Inside.{Asked, same_levels, asked_with, cleared}
use Rattle.subs.proofs.Ways.{same_levels_is, same_levels_self}

text_of_levels : (text other : List ℕ) → levels text ≡ levels other → text ≡ other
text_of_levels text other is =
    sym (join_with_byte-slice_split 47 text) ∙ ap (join_with_byte 47) is ∙ join_with_byte-slice_split 47 other

-- two filters are equal if their levels are
pub same_text : (f g : List ℕ) → same_levels (levels f) (levels g) ≡ bytes_eq f g
same_text f g =
    elim (bytes_eq f g) as (λ v. bytes_eq f g ≡ v → same_levels (levels f) (levels g) ≡ v) [
      | true ↦ λ e. ap (λ h. same_levels (levels f) (levels h)) (sym ((bytes_decides f g).0 e)) ∙ same_levels_self (levels f)
      | false ↦ λ e.
          elim (same_levels (levels f) (levels g)) as (λ v. same_levels (levels f) (levels g) ≡ v → v ≡ false) [
            | true ↦ λ h. sym ((bytes_decides f g).1 (text_of_levels f g (same_levels_is (levels f) (levels g) h))) ∙ e
            | false ↦ λ h. refl
          ] refl
    ] refl

swapped : (a b : Bool) → (a && b) ≡ (b && a)
swapped true true = refl
swapped true false = refl
swapped false true = refl
swapped false false = refl

-- one row of the tree was set or taken out what is at the text of each filter
abbrev pub at_texts : Asked → Content
at_texts asked client filter = asked (levels filter) client

pub row_put :
    (old new : Asked) (text filter client : List ℕ) (kept : Option QoS)
    → text ≡ filter
    → new ≡ asked_with old (levels text) client kept
    → at_texts new ≡ (λ c f. cond (bytes_eq client c && bytes_eq filter f) kept (old (levels f) c))
row_put old new text filter client kept is after = λ i c f. go c f i
  where
    go : (c f : List ℕ) → new (levels f) c ≡ cond (bytes_eq client c && bytes_eq filter f) kept (old (levels f) c)
    go c f =
        ap (λ a. a (levels f) c) after
        ∙ ap (λ b. cond b kept (old (levels f) c))
        (swapped (same_levels (levels text) (levels f)) (bytes_eq client c) ∙ ap (λ b. bytes_eq client c && b) (same_text text f ∙ ap (λ t. bytes_eq t f) is))

-- a row that was new is removed again
pub put_back : (before : Content) (client filter : List ℕ) (qos : QoS) → before client filter ≡ None → without_row (with_row before client filter qos) client filter ≡ before
put_back before client filter qos none = λ i c f. go c f i
  where
    go : (c f : List ℕ) → without_row (with_row before client filter qos) client filter c f ≡ before c f
    go c f =
        elim (bytes_eq client c && bytes_eq filter f) as (λ v. (bytes_eq client c && bytes_eq filter f) ≡ v → cond v None (cond v (Some qos) (before c f)) ≡ before c f) [
          | true ↦ λ e.
              let both = and_parts (bytes_eq client c) (bytes_eq filter f) e in
              sym none ∙ ap (λ x. before x filter) ((bytes_decides client c).0 both.0) ∙ ap (before c) ((bytes_decides filter f).0 both.1)
          | false ↦ λ e. refl
        ] refl

-- a client that is not there has nothing to drop
pub dropped_none : (clients : Clients) (client : List ℕ) → None ≡ at client clients → without_client (content_of clients) client ≡ content_of clients
dropped_none clients client none = λ i c f. go c f i
  where
    go : (c f : List ℕ) → cond (bytes_eq client c) None (content_of clients c f) ≡ content_of clients c f
    go c f =
        elim (bytes_eq client c) as (λ v. bytes_eq client c ≡ v → cond v None (content_of clients c f) ≡ content_of clients c f) [
          | true ↦ λ e. ap (option_and_then (at f)) none ∙ ap (λ x. content_of clients x f) ((bytes_decides client c).0 e)
          | false ↦ λ e. refl
        ] refl

-- all its filters are all that it has
pub dropped_all : (clients : Clients) (client : List ℕ) (filters : Filters) → Some filters ≡ at client clients → without_client (content_of clients) client ≡ cleared client filters (content_of clients)
dropped_all clients client filters some = λ i c f. go c f i
  where
    none_left : (o : Option QoS) → None ≡ cond (is_some o) None o
    none_left None = refl
    none_left (Some q) = refl

    go : (c f : List ℕ) → cond (bytes_eq client c) None (content_of clients c f) ≡ cond (bytes_eq client c && is_some (at f filters)) None (content_of clients c f)
    go c f =
        elim (bytes_eq client c) as (λ v. bytes_eq client c ≡ v → cond v None (content_of clients c f) ≡ cond (v && is_some (at f filters)) None (content_of clients c f)) [
          | true ↦ λ e.
              let has : at f filters ≡ content_of clients c f = ap (option_and_then (at f)) some ∙ ap (λ x. content_of clients x f) ((bytes_decides client c).0 e) in
              none_left (at f filters) ∙ ap (cond (is_some (at f filters)) None) has
          | false ↦ λ e. refl
        ] refl

-- the filter at the head was cleared
pub cleared_first : (client filter : List ℕ) (qos : QoS) (rest : Filters) (before : Content) → cleared client rest (without_row before client filter) ≡ cleared client ((filter, qos) ∷ rest) before
cleared_first client filter qos rest before = λ i c f. go c f i
  where
    tie : (x y : List ℕ) → is_eq (slice_cmp nat_cmp x y) ≡ bytes_eq y x
    tie x y = sym (texts_ties x y) ∙ back x y
      where
        back : (x y : List ℕ) → bytes_eq x y ≡ bytes_eq y x
        back x y =
            elim (bytes_eq x y) as (λ v. bytes_eq x y ≡ v → v ≡ bytes_eq y x) [
              | true ↦ λ e. sym ((bytes_decides y x).1 (sym ((bytes_decides x y).0 e)))
              | false ↦ λ e.
                  elim (bytes_eq y x) as (λ v. bytes_eq y x ≡ v → false ≡ v) [
                    | true ↦ λ h. sym e ∙ (bytes_decides x y).1 (sym ((bytes_decides y x).0 h))
                    | false ↦ λ h. refl
                  ] refl
            ] refl

    sorts : (b h s : Bool) (o : Option QoS) (q : QoS) (r : Option QoS) → is_some r ≡ s → cond (b && s) None (cond (b && h) None o) ≡ cond (b && is_some (cond h (Some q) r)) None o
    sorts true true true o q r e = refl
    sorts true true false o q r e = refl
    sorts true false s o q r e = ap (λ v. cond v None o) (sym e)
    sorts false h s o q r e = refl

    go : (c f : List ℕ) → cleared client rest (without_row before client filter) c f ≡ cleared client ((filter, qos) ∷ rest) before c f
    go c f =
        sorts (bytes_eq client c) (bytes_eq filter f) (is_some (at f rest)) (before c f) qos (at f rest) refl
        ∙ ap (λ h. cond (bytes_eq client c && is_some (cond h (Some qos) (at f rest))) None (before c f)) (sym (tie f filter))

-- ---- results

pub at_ok : {X E A : Type 0} (r : Result X E) → is_err r ≡ false → OnOk r A → A
at_ok (Ok x) e h = h
at_ok (Err x) e h = absurd (true≢false e)

pub at_err : {X E A : Type 0} (r : Result X E) → is_err r ≡ true → OnErr r A → A
at_err (Ok x) e h = absurd (true≢false (sym e))
at_err (Err x) e h = h

pub never_ok : {X E : Type 0} (A : Type 0) (r : Result X E) → is_err r ≡ true → OnOk r A
never_ok A (Ok x) e = absurd (true≢false (sym e))
never_ok A (Err x) e = tt

-- nothing was to be cleared
pub cleared_none : (client : List ℕ) (before : Content) → cleared client [] before ≡ before
cleared_none client before = λ i c f. go (bytes_eq client c) (before c f) i
  where
    go : (b : Bool) (o : Option QoS) → cond (b && false) None o ≡ o
    go true o = refl
    go false o = refl

-- what holds anyhow holds at `Err`
pub anyhow : {X E A : Type 0} (r : Result X E) → A → OnErr r A
anyhow (Ok x) a = tt
anyhow (Err e) a = a
