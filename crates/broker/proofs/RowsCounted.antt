-- RowsCounted.antt: a list that was read has as many items as its count says, so bytes without rows
-- need no memory.
use Rattle.std.proofs.Common.{◌≡◌, ◌==◌, ℕ, zero, suc, Bool, true, false, if◌then◌else◌, List, [], ◌∷◌, Ok, Err, refl, sym, ap, subst, arith, true≢false}
use Rattle.std.specs.Prelude.{Result, nat_le}
use Rattle.std.proofs.lemmas.Bool.Decides.{nat_tests}
use Rattle.packet_base.specs.declared.stop.Stop.{Stop}
use Rattle.packet_base.specs.Lists.{ItemAt}
use Rattle.packet_base.specs.Readers.{◌>>=◌, ◌>>◌, number_at}
use Rattle.session_base.specs.Counted.{check_form, counted_items_at, items_after}
use Rattle.broker_base.specs.State.{Sessions}
use Rattle.broker_base.specs.form.Follows.{row_follows}
use Rattle.broker_base.specs.form.Form.{head_at, row_at}
use Rattle.broker_base.specs.form.Needs.{counts_some, has_head_and_rows, has_rows, needs_to_thaw}

-- what a count says of the items that were read, and of what is left
abbrev pub CountsItems : {A : Type 0} → ℕ → Result (ℕ × List ℕ) Stop → List A → List ℕ → Type 0
CountsItems most (Err stop) items rest = ⊥
CountsItems most (Ok count) items rest =
    (nat_le count.0 most ≡ true) × (count.0 ≡ 0 → (items ≡ []) × (rest ≡ count.1))

none_read : {A : Type 0} (follows : List A → A → Bool) (item : ItemAt A) (n : ℕ) (bytes : List ℕ) (items : List A) (rest : List ℕ)
    → items_after follows item n [] bytes ≡ Ok (items, rest) → n ≡ 0 → (items ≡ []) × (rest ≡ bytes)
unfolding items_after
none_read {A = A} follows item zero bytes items rest read none =
    let pair : (items, rest) ≡ ([], bytes) = cc in
    (ap (λ (z : List A × List ℕ). z.0) pair, ap (λ (z : List A × List ℕ). z.1) pair)
none_read follows item (suc n) bytes items rest read none = absurd (omega (arith, none))

counts_by : {A : Type 0} (follows : List A → A → Bool) (item : ItemAt A) (most : ℕ) (count : ℕ × List ℕ) (items : List A) (rest : List ℕ) (b : Bool)
    → nat_le count.0 most ≡ b → (check_form b >> items_after follows item count.0 [] count.1) ≡ Ok (items, rest)
    → (nat_le count.0 most ≡ true) × (count.0 ≡ 0 → (items ≡ []) × (rest ≡ count.1))
counts_by follows item most count items rest true is read = (is, λ none. none_read follows item count.0 count.1 items rest read none)
counts_by follows item most count items rest false is read = absurd (cc)

counts_read : {A : Type 0} (follows : List A → A → Bool) (item : ItemAt A) (most : ℕ) (items : List A) (rest : List ℕ) (r : Result (ℕ × List ℕ) Stop)
    → (r >>= (λ many. check_form (nat_le many.0 most) >> items_after follows item many.0 [] many.1)) ≡ Ok (items, rest) → CountsItems most r items rest
counts_read follows item most items rest (Err stop) read = absurd (cc)
counts_read follows item most items rest (Ok count) read = counts_by follows item most count items rest (nat_le count.0 most) refl read

-- what was read is as many items as were counted
pub counts_items : {A : Type 0} (follows : List A → A → Bool) (item : ItemAt A) (most : ℕ) (bytes : List ℕ) (items : List A) (rest : List ℕ)
    → counted_items_at number_at follows item most bytes ≡ Ok (items, rest) → CountsItems most (number_at bytes) items rest
unfolding counted_items_at
counts_items follows item most bytes items rest read = counts_read follows item most items rest (number_at bytes) read

needed_by : (count : ℕ × List ℕ) (rows : Sessions) (rest : List ℕ) (b : Bool) → (count.0 == 0) ≡ b
    → (nat_le count.0 4096 ≡ true) × (count.0 ≡ 0 → (rows ≡ []) × (rest ≡ count.1)) → counts_some 16384 (number_at rest) ≡ true
    → (if b then counts_some 16384 (number_at count.1) else nat_le count.0 4096) ≡ true
needed_by count rows rest true is counts some =
    let none : count.0 ≡ 0 = grind (arith, nat_tests, is) in
    subst (λ (left : List ℕ). counts_some 16384 (number_at left) ≡ true) (counts.1 none).1 some
needed_by count rows rest false is counts some = counts.0

needed : (rows : Sessions) (rest : List ℕ) (r : Result (ℕ × List ℕ) Stop) → CountsItems 4096 r rows rest → counts_some 16384 (number_at rest) ≡ true → has_rows r ≡ true
needed rows rest (Err stop) counts some = absurd counts
needed rows rest (Ok count) counts some = needed_by count rows rest (count.0 == 0) refl counts some

-- bytes with a topic need memory, after whatever sessions
pub topics_need : (bytes : List ℕ) (window : ℕ) (sessions rest : List ℕ) (rows : Sessions) → head_at bytes ≡ Ok (window, sessions)
    → counted_items_at number_at row_follows (row_at window) 4096 sessions ≡ Ok (rows, rest) → counts_some 16384 (number_at rest) ≡ true
    → needs_to_thaw bytes ≡ true
topics_need bytes window sessions rest rows head read some =
    subst (λ (h : Result (ℕ × List ℕ) Stop). has_head_and_rows h ≡ true) (sym head)
    (needed rows rest (number_at sessions) (counts_items row_follows (row_at window) 4096 sessions rows rest read) some)

none_by : (count : ℕ × List ℕ) (rows : Sessions) (rest : List ℕ) (b : Bool) → (count.0 == 0) ≡ b
    → (nat_le count.0 4096 ≡ true) × (count.0 ≡ 0 → (rows ≡ []) × (rest ≡ count.1))
    → (if b then counts_some 16384 (number_at count.1) else nat_le count.0 4096) ≡ false → rows ≡ []
none_by count rows rest true is counts needs = (counts.1 (grind (arith, nat_tests, is))).0
none_by count rows rest false is counts needs = let e = counts.0 in absurd (cc)

none : (rows : Sessions) (rest : List ℕ) (r : Result (ℕ × List ℕ) Stop) → CountsItems 4096 r rows rest → has_rows r ≡ false → rows ≡ []
none rows rest (Err stop) counts needs = absurd counts
none rows rest (Ok count) counts needs = none_by count rows rest (count.0 == 0) refl counts needs

-- bytes that need no memory have no session
pub no_sessions : (bytes : List ℕ) (window : ℕ) (sessions rest : List ℕ) (rows : Sessions) → head_at bytes ≡ Ok (window, sessions)
    → counted_items_at number_at row_follows (row_at window) 4096 sessions ≡ Ok (rows, rest) → needs_to_thaw bytes ≡ false → rows ≡ []
no_sessions bytes window sessions rest rows head read needs =
    none rows rest (number_at sessions) (counts_items row_follows (row_at window) 4096 sessions rows rest read)
    (subst (λ (h : Result (ℕ × List ℕ) Stop). has_head_and_rows h ≡ false) head needs)
