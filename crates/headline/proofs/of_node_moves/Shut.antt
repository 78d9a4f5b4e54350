-- What happens to a connection that may be closed: what a change of one connection of a list does
-- to it.
use Rattle.std.proofs.Common.{◌≡◌, ℕ, ◌+◌, nat_le, length, not, Bool, true, false, ◌&&◌, if◌then◌else◌, List, [], ◌∷◌, ◌++◌, Option, Some, None, refl, sym, ap, ◌∙◌, subst, filter, map, append_assoc}
use Rattle.std.specs.List.{find}
use Rattle.std.proofs.lemmas.List.{append-nil}
use Rattle.std.proofs.lemmas.Bool.{both_ways}
use Rattle.broker_spec.specs.Connection.{ConnectionName}
use Rattle.lists.specs.Lists.{IsPrefixOf}
use Rattle.lists.proofs.Prefixes.{prefix_then}
use Rattle.world_base.specs.declared.node_connections.connection.Connection.{Connection}
use Rattle.world_base.specs.node_connections.ConnectionChanges.{closed_connection, changed_where, failing, max_pending, with_queued, putting}
use Rattle.headline.specs.node_moves.Ends.{AtMostOne}
use Rattle.headline.proofs.of_node_moves.Views.{view, found_each, found_passes, same_some, some_none, none_changes, view_of_others, view_of_changed}
use Rattle.headline.proofs.of_node_moves.Kept.{failing_over, live, named, named_kept}

-- the connection of a name, open or not
abbrev pub all : Connection → Bool
all c = true

-- these bytes are queued after while it is open, and a prefix of them if it is closed
pub data Shuts (bytes : List ℕ) : Option Connection → Option Connection → Type 0 where
  nobody : {o : Option Connection} → Shuts bytes o None
  stays_open : {c d : Connection} → live c ≡ true → live d ≡ true → d.pending ≡ c.pending ++ bytes → Shuts bytes (Some c) (Some d)
  is_shut : {c d : Connection} (front : List ℕ) → live c ≡ true → live d ≡ false → d.pending ≡ c.pending ++ front → IsPrefixOf front bytes →
      Shuts bytes (Some c) (Some d)
  was_shut : {c d : Connection} → live c ≡ false → live d ≡ false → d.pending ≡ c.pending → Shuts bytes (Some c) (Some d)

pub shuts_same : (o : Option Connection) → Shuts [] o o
shuts_same None = nobody
shuts_same (Some c) = by (live c) refl
  where
    by : (b : Bool) → live c ≡ b → Shuts [] (Some c) (Some c)
    by true e = stays_open e e (sym (append-nil c.pending))
    by false e = was_shut e e refl

longer_front : (a b front : List ℕ) → IsPrefixOf front b → IsPrefixOf (a ++ front) (a ++ b)
longer_front a b front p = record { rest = p.rest; is = ap (λ (l : List ℕ). a ++ l) p.is ∙ sym (append_assoc a front p.rest) }

pub shuts_joined : {a b : List ℕ} {o p q : Option Connection} → Shuts a o p → Shuts b p q → Shuts (a ++ b) o q
shuts_joined first nobody = nobody
shuts_joined {a = a} {b = b} (stays_open {c = c} e f g) (stays_open h i j) =
    stays_open e i (j ∙ ap (λ (l : List ℕ). l ++ b) g ∙ append_assoc c.pending a b)
shuts_joined {a = a} {b = b} (stays_open {c = c} e f g) (is_shut front h i j k) =
    is_shut (a ++ front) e i (j ∙ ap (λ (l : List ℕ). l ++ front) g ∙ append_assoc c.pending a front) (longer_front a b front k)
shuts_joined (stays_open {d = d} e f g) (was_shut h i j) = absurd (both_ways (live d) h f)
shuts_joined (is_shut {d = d} front e f g h) (stays_open i j k) = absurd (both_ways (live d) f i)
shuts_joined (is_shut {d = d} front e f g h) (is_shut more i j k l) = absurd (both_ways (live d) f i)
shuts_joined {a = a} {b = b} (is_shut front e f g h) (was_shut i j k) = is_shut front e j (k ∙ g) (prefix_then h (record { rest = b; is = refl }))
shuts_joined (was_shut {d = d} e f g) (stays_open h i j) = absurd (both_ways (live d) f h)
shuts_joined (was_shut {d = d} e f g) (is_shut front h i j k) = absurd (both_ways (live d) f h)
shuts_joined (was_shut e f g) (was_shut h i j) = was_shut e i (j ∙ g)

-- what is closed gets nothing
pub shuts_closed : (c : Connection) → Shuts [] (Some c) (Some (closed_connection c))
shuts_closed c = by (live c) refl
  where
    by : (b : Bool) → live c ≡ b → Shuts [] (Some c) (Some (closed_connection c))
    by true e = is_shut [] e refl (sym (append-nil c.pending)) (record { rest = []; is = refl })
    by false e = was_shut e refl refl

-- bytes are queued if there is room for them, and otherwise it is closed
pub put_out_shuts : (bytes : List ℕ) (c : Connection) → live c ≡ true → Shuts bytes (Some c) (Some (with_queued bytes c))
put_out_shuts bytes c lives = by (nat_le (length c.pending + length bytes) max_pending)
  where
    by : (b : Bool) → Shuts bytes (Some c) (Some (if b then putting bytes c else failing c))
    by true = stays_open lives lives refl
    by false = is_shut [] lives (ap not (failing_over c)) (sym (append-nil c.pending)) (record { rest = bytes; is = refl })

-- ---- a change of one of the list

-- of that name, and of another
pub shuts_on : (x : ConnectionName) (test : Connection → Bool) (f : Connection → Connection) (cs : List Connection) (c : Connection) (bytes : List ℕ) → AtMostOne (named x) cs
    → ((d : Connection) → (f d).name ≡ d.name) → find test cs ≡ Some c → named x c ≡ true → Shuts bytes (Some c) (Some (f c))
    → Shuts bytes (view all (named x) cs) (view all (named x) (changed_where test f cs))
shuts_on x test f cs c bytes one name found is h =
    let two = view_of_changed all (named x) test f cs c one (λ d e. refl) (named_kept x f name) found is in
    subst (λ (o : Option Connection). Shuts bytes o (view all (named x) (changed_where test f cs))) (sym two.0) (subst (Shuts bytes (Some c)) (sym two.1) h)

pub shuts_others : (x : ConnectionName) (test : Connection → Bool) (f : Connection → Connection) (cs : List Connection) (c : Connection) → ((d : Connection) → (f d).name ≡ d.name)
    → find test cs ≡ Some c → named x c ≡ false → Shuts [] (view all (named x) cs) (view all (named x) (changed_where test f cs))
shuts_others x test f cs c name found other =
    subst (Shuts [] (view all (named x) cs)) (sym (view_of_others all (named x) test f cs c (named_kept x f name) found other)) (shuts_same (view all (named x) cs))

pub shuts_unchanged : (x : ConnectionName) (test : Connection → Bool) (f : Connection → Connection) (cs : List Connection) → find test cs ≡ None
    → Shuts [] (view all (named x) cs) (view all (named x) (changed_where test f cs))
shuts_unchanged x test f cs none =
    subst (λ (l : List Connection). Shuts [] (view all (named x) cs) (view all (named x) l)) (sym (none_changes test f cs none)) (shuts_same (view all (named x) cs))

-- a change that queues nothing
pub shuts_tested : (x : ConnectionName) (test : Connection → Bool) (f : Connection → Connection) (cs : List Connection) → AtMostOne (named x) cs
    → ((d : Connection) → (f d).name ≡ d.name) → ((d : Connection) → test d ≡ true → Shuts [] (Some d) (Some (f d)))
    → Shuts [] (view all (named x) cs) (view all (named x) (changed_where test f cs))
shuts_tested x test f cs one name each = by (find test cs) refl
  where
    on : (c : Connection) → find test cs ≡ Some c → (b : Bool) → named x c ≡ b → Shuts [] (view all (named x) cs) (view all (named x) (changed_where test f cs))
    on c e true is = shuts_on x test f cs c [] one name e is (each c (found_passes test cs c e))
    on c e false other = shuts_others x test f cs c name e other

    by : (o : Option Connection) → find test cs ≡ o → Shuts [] (view all (named x) cs) (view all (named x) (changed_where test f cs))
    by None e = shuts_unchanged x test f cs e
    by (Some c) e = on c e (named x c) refl

-- a change of an open connection that queues nothing
pub shuts_nothing : (x : ConnectionName) (test : Connection → Bool) (f : Connection → Connection) (cs : List Connection) → AtMostOne (named x) cs
    → ((d : Connection) → test d ≡ true → live d ≡ true) → ((d : Connection) → (f d).name ≡ d.name)
    → ((d : Connection) → live d ≡ true → Shuts [] (Some d) (Some (f d))) → Shuts [] (view all (named x) cs) (view all (named x) (changed_where test f cs))
shuts_nothing x test f cs one lives name each = shuts_tested x test f cs one name (λ d e. each d (lives d e))

-- ---- open, or closed

-- the connection of a name that is open is found among the open ones
pub listed_open : (x : ConnectionName) (cs : List Connection) (c : Connection) → view all (named x) cs ≡ Some c → live c ≡ true → view live (named x) cs ≡ Some c
listed_open x [] c e lives = cc
listed_open x (d ∷ cs) c e lives = by (named x d) refl (λ f. listed_open x cs c f lives) e
  where
    and_false : (a b : Bool) → b ≡ false → (a && b) ≡ false
    and_false true b e = e
    and_false false b e = refl

    by : (b : Bool) → named x d ≡ b → (view all (named x) cs ≡ Some c → view live (named x) cs ≡ Some c)
        → (if b then Some d else view all (named x) cs) ≡ Some c → view live (named x) (d ∷ cs) ≡ Some c
    by true is ih f =
        let same = same_some d c f in
        rw (ap live same ∙ lives, is) (ap Some same)
    by false is ih f = let apart = and_false (live d) (named x d) is in rw apart (ih f)

-- if none is open the one of that name is closed
pub listed_closed : (x : ConnectionName) (cs : List Connection) (c : Connection) → view live (named x) cs ≡ None → view all (named x) cs ≡ Some c → live c ≡ false
listed_closed x cs c none there = by (live c) refl
  where
    by : (b : Bool) → live c ≡ b → b ≡ false
    by true e = absurd (some_none c (sym (listed_open x cs c there e) ∙ none))
    by false e = refl

pub shuts_dead : (bytes : List ℕ) (o : Option Connection) → ((c : Connection) → o ≡ Some c → live c ≡ false) → Shuts bytes o o
shuts_dead bytes None dead = nobody
shuts_dead bytes (Some c) dead = was_shut (dead c refl) (dead c refl) refl

-- ---- those that stay in a list

pub found_filtered : (x : ConnectionName) (test : Connection → Bool) (cs : List Connection) (d : Connection) → AtMostOne (named x) cs
    → view all (named x) (filter test cs) ≡ Some d → (view all (named x) cs ≡ Some d) × (test d ≡ true)
found_filtered x test [] d one e = cc
found_filtered x test (c ∷ cs) d one e =
    by (test c) refl (named x c) refl (λ f. found_filtered x test cs d one.1 f) e
  where
    Rest : Type 0
    Rest = view all (named x) (filter test cs) ≡ Some d → (view all (named x) cs ≡ Some d) × (test d ≡ true)

    head : (n : Bool) → named x c ≡ n → view all (named x) (c ∷ filter test cs) ≡ Some d → (if n then Some c else view all (named x) (filter test cs)) ≡ Some d
    head n e g = sym (ap (λ (z : Bool). if z then Some c else view all (named x) (filter test cs)) e) ∙ g

    by : (b : Bool) → test c ≡ b → (n : Bool) → named x c ≡ n → Rest → view all (named x) (if b then c ∷ filter test cs else filter test cs) ≡ Some d
        → (view all (named x) (c ∷ cs) ≡ Some d) × (test d ≡ true)
    by true t true is ih f =
        let same = same_some c d (head true is f) in (rw is (ap Some same), sym (ap test same) ∙ t)
    by true t false other ih f = rw other (ih (head false other f))
    by false t true is ih f =
        absurd (both_ways (named x d) (found_each (λ (z : Connection). named x z ≡ false) (named x) cs d (one.0 is) (ih f).0)
        (found_passes (named x) (filter test cs) d f))
    by false t false other ih f = rw other (ih f)

-- each of them closed
pub found_mapped : (x : ConnectionName) (cs : List Connection) (d : Connection) → view all (named x) (map closed_connection cs) ≡ Some d
    → (c : Connection) × (view all (named x) cs ≡ Some c) × (d ≡ closed_connection c)
found_mapped x [] d e = cc
found_mapped x (c ∷ cs) d e = by (named x c) (found_mapped x cs d) e
  where
    by : (b : Bool) → (view all (named x) (map closed_connection cs) ≡ Some d → (z : Connection) × (view all (named x) cs ≡ Some z) × (d ≡ closed_connection z))
        → (if b then Some (closed_connection c) else view all (named x) (map closed_connection cs)) ≡ Some d
        → (z : Connection) × ((if b then Some c else view all (named x) cs) ≡ Some z) × (d ≡ closed_connection z)
    by true ih f = (c, refl, sym (same_some (closed_connection c) d f))
    by false ih f = ih f
