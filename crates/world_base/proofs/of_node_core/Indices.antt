-- Indices.antt: a connection that was looked up by a test is at an index of the list, and changing it
-- there is the change of the first connection that passes the test.
use Rattle.std.proofs.Common.{◌≡◌, ℕ, ◌<◌, zero, suc, Bool, true, false, cond, ltb, Option, Some, None, List, [], ◌∷◌, length, get_or, set, refl, sym, ap, ◌∙◌, arith}
use Rattle.std.specs.List.{position, position_or_len, find}
use Rattle.std.proofs.lemmas.List.Quantifiers.{position-Some}
use Rattle.std.proofs.lemmas.List.Sums.{fails_before_first}
use Rattle.std.proofs.lemmas.Bool.Decides.{nat_tests}
use Rattle.world_base.specs.declared.node_connections.connection.Connection.{Connection}
use Rattle.world_base.specs.node_connections.ConnectionChanges.{changed_where}

-- if no connection passes, none is found and none is changed
fails_found : (test : Connection → Bool) (cs : List Connection) →
    ((k : ℕ) (d : Connection) → k < length cs → test (get_or cs k d) ≡ false) → find test cs ≡ None
fails_found test [] fails = refl
fails_found test (c ∷ cs) fails =
    let here : test c ≡ false = fails 0 c (omega arith) in
    rw here (fails_found test cs (λ k d below. fails (suc k) d (omega arith)))

fails_changed : (test : Connection → Bool) (change : Connection → Connection) (cs : List Connection) →
    ((k : ℕ) (d : Connection) → k < length cs → test (get_or cs k d) ≡ false) → changed_where test change cs ≡ cs
fails_changed test change [] fails = refl
fails_changed test change (c ∷ cs) fails =
    let here : test c ≡ false = fails 0 c (omega arith) in
    rw here (ap (λ l. c ∷ l) (fails_changed test change cs (λ k d below. fails (suc k) d (omega arith))))

-- the first that passes is found, and changed
passes_found : (test : Connection → Bool) (cs : List Connection) (i : ℕ) (d : Connection) → i < length cs →
    test (get_or cs i d) ≡ true → ((k : ℕ) → k < i → test (get_or cs k d) ≡ false) →
    find test cs ≡ Some (get_or cs i d)
passes_found test [] i d within here before = absurd (omega arith)
passes_found test (c ∷ cs) zero d within here before = rw here refl
passes_found test (c ∷ cs) (suc i) d within here before =
    let first : test c ≡ false = before 0 (omega arith) in
    rw first (passes_found test cs i d (omega arith) here (λ k below. before (suc k) (omega arith)))

passes_changed : (test : Connection → Bool) (change : Connection → Connection) (cs : List Connection)
    (i : ℕ) (d : Connection) → i < length cs →
    test (get_or cs i d) ≡ true → ((k : ℕ) → k < i → test (get_or cs k d) ≡ false) →
    changed_where test change cs ≡ set cs i (change (get_or cs i d))
passes_changed test change [] i d within here before = absurd (omega arith)
passes_changed test change (c ∷ cs) zero d within here before = rw here refl
passes_changed test change (c ∷ cs) (suc i) d within here before =
    let first : test c ≡ false = before 0 (omega arith) in
    rw first (ap (λ l. c ∷ l)
    (passes_changed test change cs i d (omega arith) here (λ k below. before (suc k) (omega arith))))

none_fails : (test : Connection → Bool) (cs : List Connection) → position test cs ≡ None →
    (k : ℕ) (d : Connection) → k < length cs → test (get_or cs k d) ≡ false
none_fails test cs e k d below =
    fails_before_first test cs k d (by_test (ltb (position_or_len test cs) (length cs)) refl e)
  where
    by_test : (b : Bool) → ltb (position_or_len test cs) (length cs) ≡ b →
        cond b (Some (position_or_len test cs)) None ≡ None → k < position_or_len test cs
    by_test true at e = cc
    by_test false at e = grind (arith, nat_tests)

-- nothing is found, and nothing changed
pub none_found : (test : Connection → Bool) (cs : List Connection) → None ≡ position test cs → find test cs ≡ None
none_found test cs e = fails_found test cs (none_fails test cs (sym e))

pub none_changed : (test : Connection → Bool) (change : Connection → Connection) (cs : List Connection) →
    None ≡ position test cs → changed_where test change cs ≡ cs
none_changed test change cs e = fails_changed test change cs (none_fails test cs (sym e))

-- the connection at the index is found, and changed
pub index_found : (test : Connection → Bool) (cs : List Connection) (i : ℕ) (c : Connection) →
    Some i ≡ position test cs → c ≡ get_or cs i c → find test cs ≡ Some c
index_found test cs i c e is =
    let at = position-Some test cs i c (sym e) in
    passes_found test cs i c at.0 at.1 at.2 ∙ ap Some (sym is)

pub index_changed : (test : Connection → Bool) (change : Connection → Connection) (cs : List Connection)
    (i : ℕ) (c : Connection) → Some i ≡ position test cs → c ≡ get_or cs i c →
    changed_where test change cs ≡ set cs i (change c)
index_changed test change cs i c e is =
    let at = position-Some test cs i c (sym e) in
    passes_changed test change cs i c at.0 at.1 at.2 ∙ ap (λ x. set cs i (change x)) (sym is)

pub found_there : (test : Connection → Bool) (cs : List Connection) (index : Option ℕ) (i : ℕ) (c : Connection) →
    index ≡ position test cs → index ≡ Some i → c ≡ get_or cs i c → find test cs ≡ Some c
found_there test cs index i c at is here = index_found test cs i c (sym is ∙ at) here

-- what is found is one connection
pub same_found : (test : Connection → Bool) (cs : List Connection) (c d : Connection) → find test cs ≡ Some c →
    find test cs ≡ Some d → d ≡ c
same_found test cs c d found again = cc

-- who is at an index is found
pub none_indexed : (test : Connection → Bool) (cs : List Connection) (i : ℕ) → Some i ≡ position test cs → find test cs ≡ None → ⊥
none_indexed test [] i e none = absurd cc
none_indexed test (c ∷ cs) i e none =
    let at = position-Some test (c ∷ cs) i c (sym e) in
    let found = passes_found test (c ∷ cs) i c at.0 at.1 at.2 in
    absurd cc
