-- Items that a loop reads one by one are all the items of the bytes.
use Rattle.std.proofs.Common.{◌≡◌, ℕ, zero, suc, ◌+◌, ◌-◌, ◌<◌, ◌≤◌, true, false, eqb, List, [], ◌∷◌, ◌++◌, length, Result, Ok, Err, refl, sym, ap, subst, ◌∙◌, append_assoc, arith, inl, inr, IsOk}
use Rattle.std.specs.Prelude.{◌⊎◌}
use Rattle.std.proofs.lemmas.List.{append-nil}
use Rattle.topics.specs.declared.malformed.MalformedKind.TheVariants as kinds
use Rattle.packet_base.specs.declared.stop.Stop.{Stop}
use Rattle.packet_base.specs.declared.stop.Stop.TheVariants as stops
use Rattle.packet_base.specs.Readers.{◌>>=◌}
use Rattle.packet_base.specs.Lists.{ItemAt, items_of, items_at}
use Rattle.packet_base.specs.Outcome.{StopsBy}

-- the items with others before them
abbrev pub prefixed : {A : Type 0} → List A → Result (List A) Stop → Result (List A) Stop
prefixed front (Ok items) = Ok (front ++ items)
prefixed front (Err stop) = Err stop

prefixed_nil : {A : Type 0} (r : Result (List A) Stop) → prefixed [] r ≡ r
prefixed_nil (Ok items) = refl
prefixed_nil (Err stop) = refl

moved : {A : Type 0} (front : List A) (x : A) (r : Result (List A) Stop) → prefixed front (r >>= (λ others. Ok (x ∷ others))) ≡ prefixed (front ++ x ∷ []) r
moved {A = A} front x (Ok others) = ap (λ (xs : List A). Ok xs) (sym (append_assoc front (x ∷ []) others))
moved front x (Err stop) = refl

pub stops_at : {Y : Type 0} (stop : Stop) (read : Result Y Stop) → read ≡ Err stop → StopsBy stop read
stops_at stops.More read e = e
stops_at (stops.Malformed kinds.Memory) read e = tt
stops_at (stops.Malformed kind) read e = e
stops_at (stops.Refused code) read e = e

-- running out of memory, or the stop that reading gives
pub stops_cases : {Y : Type 0} (stop : Stop) (read : Result Y Stop) → StopsBy stop read → (stop ≡ stops.Malformed kinds.Memory) ⊎ (read ≡ Err stop)
stops_cases stops.More read h = inr h
stops_cases (stops.Malformed kinds.Memory) read h = inl refl
stops_cases (stops.Malformed kind) read h = inr h
stops_cases (stops.Refused code) read h = inr h

-- items that are left after this many turns of this many
abbrev pub left_after : {A : Type 0} → ItemAt A → ℕ → ℕ → List ℕ → Result (List A) Stop
left_after item most turns bytes = items_of item (most - turns) bytes

-- a turn, if bytes are left
turn : {A : Type 0} (item : ItemAt A) (most turns : ℕ) (bytes : List ℕ) → turns < most → eqb (length bytes) 0 ≡ false
    → left_after item most turns bytes ≡ (item bytes >>= (λ first. left_after item most (turns + 1) first.1 >>= (λ others. Ok (first.0 ∷ others))))
unfolding items_of
turn item most turns bytes less some =
    let e : most - turns ≡ suc (most - (turns + 1)) = omega (arith, less) in
    ap (λ (n : ℕ). items_of item n bytes) e ∙ rw some refl

-- one more item, if the loop continues
pub items_next : {A : Type 0} (item : ItemAt A) (front next : List A) (most turns : ℕ) (bytes : List ℕ) (x : A) (rest : List ℕ) (total : Result (List A) Stop) → turns < most
    → eqb (length bytes) 0 ≡ false → item bytes ≡ Ok (x, rest) → next ≡ front ++ x ∷ [] → prefixed front (left_after item most turns bytes) ≡ total
    → prefixed next (left_after item most (turns + 1) rest) ≡ total
items_next {A = A} item front next most turns bytes x rest total less some e added so_far =
    let one : left_after item most turns bytes ≡ (left_after item most (turns + 1) rest >>= (λ others. Ok (x ∷ others))) =
    turn item most turns bytes less some ∙ rw e refl in
    ap (λ (xs : List A). prefixed xs (left_after item most (turns + 1) rest)) added
    ∙ sym (moved front x (left_after item most (turns + 1) rest)) ∙ sym (ap (prefixed front) one) ∙ so_far

-- a fault among the items
pub items_stop : {A : Type 0} (item : ItemAt A) (front : List A) (most turns : ℕ) (bytes : List ℕ) (total : Result (List A) Stop) (stop : Stop) → turns < most
    → eqb (length bytes) 0 ≡ false → StopsBy stop (item bytes) → prefixed front (left_after item most turns bytes) ≡ total → StopsBy stop total
items_stop {A = A} item front most turns bytes total stop less some stopped so_far =
    elim (stops_cases stop (item bytes) stopped) [
      | inl memory ↦ subst (λ (s : Stop). StopsBy s total) (sym memory) tt
      | inr e ↦
          let whole : left_after item most turns bytes ≡ Err stop = turn item most turns bytes less some ∙ rw e refl in
          stops_at stop total (sym so_far ∙ ap (prefixed front) whole)
    ]

none : {A : Type 0} (item : ItemAt A) (n : ℕ) (bytes : List ℕ) → eqb (length bytes) 0 ≡ true → items_of item n bytes ≡ Ok []
unfolding items_of
none item zero bytes empty = refl
none item (suc n) bytes empty = rw empty refl

ended : {A : Type 0} (front : List A) (read total : Result (List A) Stop) → read ≡ Ok [] → prefixed front read ≡ total → total ≡ Ok front
ended {A = A} front read total e so_far = sym so_far ∙ ap (prefixed front) e ∙ ap (λ (xs : List A). Ok xs) (append-nil front)

-- all items, if no bytes are left
pub items_all : {A : Type 0} (item : ItemAt A) (front : List A) (most turns : ℕ) (bytes : List ℕ) (total : Result (List A) Stop) → eqb (length bytes) 0 ≡ true
    → prefixed front (left_after item most turns bytes) ≡ total → total ≡ Ok front
items_all item front most turns bytes total empty so_far = ended front (left_after item most turns bytes) total (none item (most - turns) bytes empty) so_far

-- all items, if no turns are left
pub items_most : {A : Type 0} (item : ItemAt A) (front : List A) (most turns : ℕ) (bytes : List ℕ) (total : Result (List A) Stop) → most ≤ turns
    → prefixed front (left_after item most turns bytes) ≡ total → total ≡ Ok front
unfolding items_of
items_most item front most turns bytes total past so_far =
    let e : most - turns ≡ 0 = omega (arith, past) in
    ended front (left_after item most turns bytes) total (ap (λ (n : ℕ). items_of item n bytes) e) so_far

-- all are left, if the loop begins
pub items_begin : {A : Type 0} (item : ItemAt A) (front : List A) (most : ℕ) (bytes : List ℕ) → front ≡ [] → most ≡ length bytes
    → prefixed front (left_after item most 0 bytes) ≡ items_at item bytes
items_begin {A = A} item front most bytes empty all =
    let e : most - 0 ≡ length bytes = omega (arith, all) in
    ap (λ (xs : List A). prefixed xs (left_after item most 0 bytes)) empty
    ∙ prefixed_nil (left_after item most 0 bytes) ∙ ap (λ (n : ℕ). items_of item n bytes) e

-- no item was read yet, or the first one has no fault
abbrev pub Began : {A : Type 0} → ItemAt A → List ℕ → List ℕ → Type 0
Began item start bytes = (bytes ≡ start) ⊎ IsOk (item start)

-- an item that is read is the first one, or comes after it
pub began_so : {A : Type 0} (item : ItemAt A) (start bytes : List ℕ) → IsOk (item bytes) → Began item start bytes → IsOk (item start)
began_so item start bytes ok (inl e) = subst (λ (b : List ℕ). IsOk (item b)) e ok
began_so item start bytes ok (inr first) = first

pub read_well : {X : Type 0} {read : Result X Stop} {value : X} → read ≡ Ok value → IsOk read
read_well {X = X} {value = value} e = subst (λ (r : Result X Stop). IsOk r) (sym e) refl
