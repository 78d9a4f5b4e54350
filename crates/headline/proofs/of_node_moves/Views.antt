-- The open connection of a name in a list, and what a change of one connection of the list does to
-- it.
use Rattle.std.proofs.Common.{◌≡◌, ◌⊎◌, inl, inr, Bool, true, false, ◌&&◌, if◌then◌else◌, List, [], ◌∷◌, ◌++◌, Option, Some, None, refl, sym, ap, ◌∙◌, subst, filter, map}
use Rattle.std.specs.List.{find}
use Rattle.std.proofs.lemmas.Bool.{cases_Bool, both_ways}
use Rattle.lists.specs.Lists.{Each}
use Rattle.lists.proofs.OfEach.{each_append}
use Rattle.world_base.specs.declared.node_connections.connection.Connection.{Connection}
use Rattle.world_base.specs.node_connections.ConnectionChanges.{changed_where}
use Rattle.headline.specs.node_moves.Ends.{AtMostOne}

-- the live one of a name
abbrev pub view : (Connection → Bool) → (Connection → Bool) → List Connection → Option Connection
view live named cs = find (λ c. live c && named c) cs

-- what is left of one that is changed
abbrev pub if_live : (Connection → Bool) → Connection → Option Connection
if_live live c = if live c then Some c else None

pub and_no : (a b : Bool) → b ≡ false → (a && b) ≡ false
and_no true b e = e
and_no false b e = refl

pub same_some : (c d : Connection) → (let o : Option Connection = Some c in o) ≡ Some d → c ≡ d
same_some c d e = cc

pub some_none : (c : Connection) → (let o : Option Connection = Some c in o) ≡ None → ⊥
some_none c e = cc

-- what is found passes
pub found_passes : (test : Connection → Bool) (cs : List Connection) (c : Connection) → find test cs ≡ Some c → test c ≡ true
found_passes test [] c e = cc
found_passes test (d ∷ cs) c e = by (test d) refl (found_passes test cs c) e
  where
    by : (b : Bool) → test d ≡ b → (find test cs ≡ Some c → test c ≡ true) → (if b then Some d else find test cs) ≡ Some c → test c ≡ true
    by true is ih f = subst (λ (z : Connection). test z ≡ true) (same_some d c f) is
    by false is ih f = ih f

-- what holds for each holds for what is found
pub found_each : (P : Connection → Type 0) (test : Connection → Bool) (cs : List Connection) (c : Connection) → Each P cs → find test cs ≡ Some c → P c
found_each P test [] c all e = cc
found_each P test (d ∷ cs) c all e = by (test d) (found_each P test cs c all.1) e
  where
    by : (b : Bool) → (find test cs ≡ Some c → P c) → (if b then Some d else find test cs) ≡ Some c → P c
    by true ih f = subst P (same_some d c f) all.0
    by false ih f = ih f

-- if none passes none is found
pub none_in_view : (live named : Connection → Bool) (cs : List Connection) → Each (λ c. named c ≡ false) cs → view live named cs ≡ None
none_in_view live named [] all = refl
none_in_view live named (c ∷ cs) all = rw (and_no (live c) (named c) all.0) (none_in_view live named cs all.1)

-- nothing is changed if none passes
pub none_changes : (test : Connection → Bool) (f : Connection → Connection) (cs : List Connection) → find test cs ≡ None → changed_where test f cs ≡ cs
none_changes test f [] e = refl
none_changes test f (c ∷ cs) e = by (test c) (none_changes test f cs) e
  where
    by : (b : Bool) → (find test cs ≡ None → changed_where test f cs ≡ cs) → (if b then Some c else find test cs) ≡ None
        → (if b then f c ∷ cs else c ∷ changed_where test f cs) ≡ c ∷ cs
    by true ih g = absurd (some_none c g)
    by false ih g = ap (λ l. c ∷ l) (ih g)

-- the one that is changed is of another name
pub view_of_others : (live named test : Connection → Bool) (f : Connection → Connection) (cs : List Connection) (c : Connection) → ((d : Connection) → named (f d) ≡ named d)
    → find test cs ≡ Some c → named c ≡ false → view live named (changed_where test f cs) ≡ view live named cs
view_of_others live named test f [] c kept found other = refl
view_of_others live named test f (d ∷ cs) c kept found other = by (test d) (λ g. view_of_others live named test f cs c kept g other) found
  where
    tail : (b : Bool) → view live named (changed_where test f cs) ≡ view live named cs
        → (if b then Some d else view live named (changed_where test f cs)) ≡ (if b then Some d else view live named cs)
    tail true same = refl
    tail false same = same

    by : (b : Bool) → (find test cs ≡ Some c → view live named (changed_where test f cs) ≡ view live named cs) → (if b then Some d else find test cs) ≡ Some c
        → view live named (if b then f d ∷ cs else d ∷ changed_where test f cs) ≡ view live named (d ∷ cs)
    by true ih f' =
        let none : named d ≡ false = ap named (same_some d c f') ∙ other in
        rw (and_no (live d) (named d) none, and_no (live (f d)) (named (f d)) (kept d ∙ none)) refl
    by false ih f' = tail (live d && named d) (ih f')

-- it is of that name
pub view_of_changed : (live named test : Connection → Bool) (f : Connection → Connection) (cs : List Connection) (c : Connection) → AtMostOne named cs → ((d : Connection) → test d ≡ true → live d ≡ true)
    → ((d : Connection) → named (f d) ≡ named d) → find test cs ≡ Some c → named c ≡ true
    → (view live named cs ≡ Some c) × (view live named (changed_where test f cs) ≡ if_live live (f c))
view_of_changed live named test f [] c one lives kept found is = absurd cc
view_of_changed live named test f (d ∷ cs) c one lives kept found is = by (test d) refl (λ g. view_of_changed live named test f cs c one.1 lives kept g is) found
  where
    changed_head : (z : Connection) → named z ≡ true → view live named cs ≡ None → (b : Bool) → live z ≡ b → view live named (z ∷ cs) ≡ (if b then Some z else None)
    changed_head z named_z none true e = rw (e, named_z) refl
    changed_head z named_z none false e = rw e none

    by : (b : Bool) → test d ≡ b → (find test cs ≡ Some c → (view live named cs ≡ Some c) × (view live named (changed_where test f cs) ≡ if_live live (f c)))
        → (if b then Some d else find test cs) ≡ Some c
        → (view live named (d ∷ cs) ≡ Some c) × (view live named (if b then f d ∷ cs else d ∷ changed_where test f cs) ≡ if_live live (f c))
    by true t ih g =
        let same = same_some d c g in
        let named_d : named d ≡ true = ap named same ∙ is in
        let none = none_in_view live named cs (one.0 named_d) in (
          changed_head d named_d none true (lives d t) ∙ ap Some same,
          subst (λ (z : Connection). view live named (f d ∷ cs) ≡ if_live live (f z)) same (changed_head (f d) (kept d ∙ named_d) none (live (f d)) refl),
        )
    by false t ih g =
        let other : named d ≡ false = not_named (cases_Bool (named d)) in
        let no = and_no (live d) (named d) other in
        rw no (ih g)
      where
        not_named : (named d ≡ true) ⊎ (named d ≡ false) → named d ≡ false
        not_named (inl e) = absurd (both_ways (named c) (found_each (λ z. named z ≡ false) test cs c (one.0 e) g) is)
        not_named (inr e) = e

-- ---- at most one stays so

each_changed : (named test : Connection → Bool) (f : Connection → Connection) (cs : List Connection) → ((d : Connection) → named (f d) ≡ named d) → Each (λ c. named c ≡ false) cs
    → Each (λ c. named c ≡ false) (changed_where test f cs)
each_changed named test f [] kept all = tt
each_changed named test f (c ∷ cs) kept all = by (test c) (each_changed named test f cs kept all.1)
  where
    by : (b : Bool) → Each (λ d. named d ≡ false) (changed_where test f cs) → Each (λ d. named d ≡ false) (if b then f c ∷ cs else c ∷ changed_where test f cs)
    by true ih = (kept c ∙ all.0, all.1)
    by false ih = (all.0, ih)

pub one_changed : (named test : Connection → Bool) (f : Connection → Connection) (cs : List Connection) → ((d : Connection) → named (f d) ≡ named d) → AtMostOne named cs → AtMostOne named (changed_where test f cs)
one_changed named test f [] kept one = tt
one_changed named test f (c ∷ cs) kept one = by (test c) (one_changed named test f cs kept one.1)
  where
    by : (b : Bool) → AtMostOne named (changed_where test f cs) → AtMostOne named (if b then f c ∷ cs else c ∷ changed_where test f cs)
    by true ih = (λ e. one.0 (sym (kept c) ∙ e), one.1)
    by false ih = (λ e. each_changed named test f cs kept (one.0 e), ih)

-- ---- those that stay

pub each_kept : (P : Connection → Type 0) (test : Connection → Bool) (f : Connection → Connection) (cs : List Connection) → ((d : Connection) → P d → P (f d)) → Each P cs
    → Each P (changed_where test f cs)
each_kept P test f [] kept all = tt
each_kept P test f (c ∷ cs) kept all = by (test c) (each_kept P test f cs kept all.1)
  where
    by : (b : Bool) → Each P (changed_where test f cs) → Each P (if b then f c ∷ cs else c ∷ changed_where test f cs)
    by true ih = (kept c all.0, all.1)
    by false ih = (all.0, ih)

pub each_filtered : (P : Connection → Type 0) (test : Connection → Bool) (cs : List Connection) → Each P cs → Each P (filter test cs)
each_filtered P test [] all = tt
each_filtered P test (c ∷ cs) all = by (test c) (each_filtered P test cs all.1)
  where
    by : (b : Bool) → Each P (filter test cs) → Each P (if b then c ∷ filter test cs else filter test cs)
    by true ih = (all.0, ih)
    by false ih = ih

pub one_filtered : (named test : Connection → Bool) (cs : List Connection) → AtMostOne named cs → AtMostOne named (filter test cs)
one_filtered named test [] one = tt
one_filtered named test (c ∷ cs) one = by (test c) (one_filtered named test cs one.1)
  where
    by : (b : Bool) → AtMostOne named (filter test cs) → AtMostOne named (if b then c ∷ filter test cs else filter test cs)
    by true ih = (λ e. each_filtered (λ d. named d ≡ false) test cs (one.0 e), ih)
    by false ih = ih

pub view_filtered : (live named test : Connection → Bool) (cs : List Connection) → ((d : Connection) → test d ≡ false → live d ≡ false)
    → view live named (filter test cs) ≡ view live named cs
view_filtered live named test [] dead = refl
view_filtered live named test (c ∷ cs) dead = by (test c) refl (view_filtered live named test cs dead)
  where
    tail : (b : Bool) → view live named (filter test cs) ≡ view live named cs
        → (if b then Some c else view live named (filter test cs)) ≡ (if b then Some c else view live named cs)
    tail true same = refl
    tail false same = same

    no : (a b : Bool) → a ≡ false → (a && b) ≡ false
    no true b e = cc
    no false b e = refl

    by : (b : Bool) → test c ≡ b → view live named (filter test cs) ≡ view live named cs
        → view live named (if b then c ∷ filter test cs else filter test cs) ≡ view live named (c ∷ cs)
    by true t ih = tail (live c && named c) ih
    by false t ih = rw (no (live c) (named c) (dead c t)) ih

-- ---- each of them changed

pub each_mapped : (P : Connection → Type 0) (f : Connection → Connection) (cs : List Connection) → ((d : Connection) → P d → P (f d)) → Each P cs → Each P (map f cs)
each_mapped P f [] kept all = tt
each_mapped P f (c ∷ cs) kept all = (kept c all.0, each_mapped P f cs kept all.1)

pub one_mapped : (named : Connection → Bool) (f : Connection → Connection) (cs : List Connection) → ((d : Connection) → named (f d) ≡ named d) → AtMostOne named cs
    → AtMostOne named (map f cs)
one_mapped named f [] kept one = tt
one_mapped named f (c ∷ cs) kept one =
    (λ e. each_mapped (λ d. named d ≡ false) f cs (λ d g. kept d ∙ g) (one.0 (sym (kept c) ∙ e)), one_mapped named f cs kept one.1)

-- ---- one more

pub one_more : (named : Connection → Bool) (cs : List Connection) (z : Connection) → (named z ≡ true → Each (λ d. named d ≡ false) cs) → AtMostOne named cs
    → AtMostOne named (cs ++ z ∷ [])
one_more named [] z alone one = ((λ e. tt), tt)
one_more named (c ∷ cs) z alone one =
    (λ e. each_append (λ d. named d ≡ false) cs (z ∷ []) (one.0 e) (not_named e, tt), one_more named cs z (λ e. (alone e).1) one.1)
  where
    by : (b : Bool) → named z ≡ b → named c ≡ true → named z ≡ false
    by true is e = absurd (both_ways (named c) (alone is).0 e)
    by false is e = is

    not_named : named c ≡ true → named z ≡ false
    not_named e = by (named z) refl e

pub view_other : (live named : Connection → Bool) (cs : List Connection) (z : Connection) → named z ≡ false → view live named (cs ++ z ∷ []) ≡ view live named cs
view_other live named [] z other = rw (and_no (live z) (named z) other) refl
view_other live named (c ∷ cs) z other = tail (live c && named c) (view_other live named cs z other)
  where
    tail : (b : Bool) → view live named (cs ++ z ∷ []) ≡ view live named cs
        → (if b then Some c else view live named (cs ++ z ∷ [])) ≡ (if b then Some c else view live named cs)
    tail true same = refl
    tail false same = same

pub view_new : (live named : Connection → Bool) (cs : List Connection) (z : Connection) → Each (λ d. named d ≡ false) cs → live z ≡ true → named z ≡ true
    → view live named (cs ++ z ∷ []) ≡ Some z
view_new live named [] z none is_live is_named = rw (is_live, is_named) refl
view_new live named (c ∷ cs) z none is_live is_named = rw (and_no (live c) (named c) none.0) (view_new live named cs z none.1 is_live is_named)
