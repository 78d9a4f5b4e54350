-- PagesTurned.antt: who turns the pages of rising sessions meets each of them.
use Rattle.std.proofs.Common.{◌≡◌, ℕ, zero, suc, ◌+◌, ◌<◌, ◌≤◌, ◌⊎◌, inl, inr, Bool, true, false, cond, List, [], ◌∷◌, ◌++◌, length, get_or, take, drop, refl, sym, ap, ◌∙◌, arith}
use Rattle.std.specs.Prelude.{All, Contains, filter}
use Rattle.std.proofs.lemmas.List.{take_more, take_all, take-append-drop, append-nil}
use Rattle.std.proofs.Math.Seq.{take-append_seam}
use Rattle.std.proofs.lemmas.List.Elements.{All-nil, All-cons, All-take, All-filter, All-contains, filter-append}
use Rattle.admin.specs.Sessions.{comes_after, IsRising, PagesSkipNoSession, Precedes}
use Rattle.admin.specs.declared.view.SessionLine.{SessionLine}

-- ---- a page that is filled session by session

module _ {X : Type 0} (p : X → Bool) where
  pub filtered_more : (xs : List X) (i : ℕ) (x : X) → i < length xs → x ≡ get_or xs i x
      → filter p (take (i + 1) xs) ≡ filter p (take i xs) ++ filter p (x ∷ [])
  filtered_more xs i x there is =
      ap (filter p) (take_more xs i x there ∙ ap (λ (y : X). take i xs ++ y ∷ []) (sym is))
      ∙ filter-append p (take i xs) (x ∷ [])

  pub filtered_yes : (xs : List X) (i : ℕ) (x : X) → i < length xs → x ≡ get_or xs i x → p x ≡ true
      → filter p (take (i + 1) xs) ≡ filter p (take i xs) ++ x ∷ []
  filtered_yes xs i x there is passes =
      filtered_more xs i x there is ∙ ap (λ (b : Bool). filter p (take i xs) ++ cond b (x ∷ []) []) passes

  pub filtered_no : (xs : List X) (i : ℕ) (x : X) → i < length xs → x ≡ get_or xs i x → p x ≡ false
      → filter p (take (i + 1) xs) ≡ filter p (take i xs)
  filtered_no xs i x there is fails =
      filtered_more xs i x there is ∙ ap (λ (b : Bool). filter p (take i xs) ++ cond b (x ∷ []) []) fails
      ∙ append-nil (filter p (take i xs))

  pub filled : (xs : List X) (i limit : ℕ) → length (filter p (take i xs)) ≡ limit
      → take limit (filter p xs) ≡ filter p (take i xs)
  filled xs i limit full =
      ap (λ (n : ℕ). take n (filter p xs)) (sym full)
      ∙ ap (λ (ys : List X). take (length (filter p (take i xs))) (filter p ys)) (sym (take-append-drop i xs))
      ∙ ap (take (length (filter p (take i xs)))) (filter-append p (take i xs) (drop i xs))
      ∙ take-append_seam (filter p (take i xs)) (filter p (drop i xs))

  pub unfilled : (xs : List X) (i limit : ℕ) → length xs ≤ i → length (filter p (take i xs)) ≤ limit
      → take limit (filter p xs) ≡ filter p (take i xs)
  unfilled xs i limit past within =
      let all : take i xs ≡ xs = take_all i xs past in
      take_all limit (filter p xs) (rw all at within) ∙ ap (filter p) (sym all)

  contains_filtered : (xs : List X) (x : X) → Contains xs x → p x ≡ true → Contains (filter p xs) x
  contains_filtered [] x (k, there, is) passes = absurd (omega arith)
  contains_filtered (y ∷ ys) x (zero, there, is) passes =
      let first : p y ≡ true = ap p is ∙ passes in
      rw first (zero, omega arith, is)
  contains_filtered (y ∷ ys) x (suc k, there, is) passes =
      let (j, in_rest, at) = contains_filtered ys x (k, omega (arith, there), is) passes in
      elim (p y) as (λ b. Contains (cond b (y ∷ filter p ys) (filter p ys)) x) [
        | true ↦ (suc j, omega (arith, in_rest), at)
        | false ↦ (j, in_rest, at)
      ]

-- ---- rising sessions

filter_rises : (p : SessionLine → Bool) (sessions : List SessionLine) → IsRising sessions → IsRising (filter p sessions)
filter_rises p [] rising = tt
filter_rises p (session ∷ sessions) rising =
    let rest = filter_rises p sessions rising.1 in
    elim (p session) as (λ b. IsRising (cond b (session ∷ filter p sessions) (filter p sessions))) [
      | true ↦ (All-filter p (Precedes session) sessions rising.0, rest)
      | false ↦ rest
    ]

take_rises : (n : ℕ) (sessions : List SessionLine) → IsRising sessions → IsRising (take n sessions)
take_rises zero sessions rising = tt
take_rises (suc n) [] rising = tt
take_rises (suc n) (session ∷ sessions) rising =
    (All-take (Precedes session) n sessions rising.0, take_rises n sessions rising.1)

-- a session is among the first so many, or they are so many and come before it
abbrev IsMet : ℕ → List SessionLine → SessionLine → Type 0
IsMet n sessions session = Contains (take n sessions) session
    ⊎ ((length (take n sessions) ≡ n) × All (λ listed. Precedes listed session) (take n sessions))

met : (n : ℕ) (sessions : List SessionLine) (session : SessionLine)
    → IsRising sessions → Contains sessions session → IsMet n sessions session
met zero sessions session rising there = inr (refl, All-nil (λ listed. Precedes listed session))
met (suc n) [] session rising (k, there, is) = absurd (omega arith)
met (suc n) (first ∷ sessions) session rising (zero, there, is) = inl (zero, omega arith, is)
met (suc n) (first ∷ sessions) session rising (suc k, there, is) =
    let rest : Contains sessions session = (k, omega (arith, there), is) in
    elim (met n sessions session rising.1 rest) as (λ _. IsMet (suc n) (first ∷ sessions) session) [
      | inl among ↦ inl (suc among.0, omega (arith, among.1), among.2)
      | inr full ↦ inr (
        ap suc full.0,
        All-cons (λ listed. Precedes listed session) first (take n sessions)
            (All-contains (Precedes first) sessions session rising.0 rest) full.1,
      )
    ]

pub pages_skip_no_session : PagesSkipNoSession
pages_skip_no_session after sessions rising =
    let p : SessionLine → Bool = comes_after after in
    let those = filter_rises (comes_after after) sessions rising in (
      take_rises 1000 (filter (comes_after after) sessions) those,
      λ session there later. met 1000 (filter (comes_after after) sessions) session those
          (contains_filtered (comes_after after) sessions session there later),
    )
