-- The places at which a client's sessions began, and which of them began last.
use Rattle.std.proofs.Common.{◌≡◌, ◌<◌, ℕ, suc, Bool, true, false, if◌then◌else◌, List, [], ◌∷◌, ◌++◌, length, Option, Some, None, refl, ap, ◌∙◌, subst, arith}
use Rattle.std.specs.Prelude.{◌==◌, is_some}
use Rattle.std.proofs.lemmas.List.{append-nil}
use Rattle.lists.specs.Lists.{Each}
use Rattle.lists.proofs.OfEach.{each_append, each_then}
use Rattle.broker_spec.specs.Place.{Client, Place, Past, only_if}
use Rattle.broker_spec.specs.Sessions.{accepts, begins, is_beginning, clean_session_of, session_start}
use Rattle.exactly_once.specs.InStep.{starts_of}

-- ---- below a place

starts_below : (past : Past) (c : Client) → Each (λ m. m < length past) (starts_of past c)
starts_below [] c = tt
starts_below (place ∷ past) c =
    each_append (λ m. m < suc (length past)) (starts_of past c) (if begins place past c then length past ∷ [] else [])
    (each_then (λ m. m < length past) (λ m. m < suc (length past)) (starts_of past c) (λ m less. omega (arith, less)) (starts_below past c)) (by (begins place past c))
  where
    by : (b : Bool) → Each (λ m. m < suc (length past)) (if b then length past ∷ [] else [])
    by true = (omega arith, tt)
    by false = tt

-- a place that opens none of the client's connections begins none
pub starts_stay : (place : Place) (past : Past) (c : Client) → accepts place.command place.mark c ≡ None → starts_of (place ∷ past) c ≡ starts_of past c
starts_stay place past c closed =
    ap (λ o. starts_of past c ++ (if is_beginning o (clean_session_of past c) then length past ∷ [] else [])) closed ∙ append-nil (starts_of past c)

-- ---- the last one

pub record IsLastOf (starts : List ℕ) (n : ℕ) : Type 0 where
  pub before : List ℕ
  pub are : starts ≡ before ++ n ∷ []
  pub apart : Each (λ m. (n == m) ≡ false) before

apart_from : (n m : ℕ) → m < n → (n == m) ≡ false
apart_from n m less = grind (arith, less)

-- the session that lasts is the last one
pub started_last : (past : Past) (c : Client) (n : ℕ) → session_start past c ≡ Some n → IsLastOf (starts_of past c) n
unfolding session_start
started_last [] c n e = absurd (cc)
started_last (place ∷ past) c n e = by (begins place past c) (is_some (clean_session_of (place ∷ past) c)) e (started_last past c n)
  where
    by : (b s : Bool) → (if b then Some (length past) else only_if s (session_start past c)) ≡ Some n → (session_start past c ≡ Some n → IsLastOf (starts_of past c) n)
        → IsLastOf (starts_of past c ++ (if b then length past ∷ [] else [])) n
    by true s f ih =
        let same : length past ≡ n = cc in
        subst (λ (m : ℕ). IsLastOf (starts_of past c ++ length past ∷ []) m) same
        (record {
          before = starts_of past c;
          are = refl;
          apart = each_then (λ m. m < length past) (λ m. (length past == m) ≡ false) (starts_of past c) (λ m less. apart_from (length past) m less) (starts_below past c);
        })
    by false true f ih =
        let l = ih f in
        record { before = l.before; are = append-nil (starts_of past c) ∙ l.are; apart = l.apart }
    by false false f ih = absurd (cc)
