-- Where a session began: a later place never brings back one that is over.
use Rattle.std.proofs.Common.{◌≡◌, ◌<◌, ℕ, suc, Bool, true, false, if◌then◌else◌, [], ◌∷◌, length, Option, Some, None, refl, sym, ◌∙◌, ap, arith, inl, inr, ◌⊎◌}
use Rattle.std.specs.Prelude.{is_some, ◌==◌}
use Rattle.broker_spec.specs.Place.{Client, Place, Past, Limits, only_if}
use Rattle.broker_spec.specs.Sessions.{clean_session_of, session_start, begins}
use Rattle.broker_spec.specs.Times.{entries_of}
use Rattle.exactly_once.specs.Carried.{is_this}
use Rattle.exactly_once.specs.InStep.{entries_in}

-- it began here, or below
pub began_here_or_below : (place : Place) (past : Past) (c : Client) (n : ℕ) → session_start (place ∷ past) c ≡ Some n → (n ≡ length past) ⊎ (session_start past c ≡ Some n)
unfolding session_start
began_here_or_below place past c n e = by (begins place past c) (is_some (clean_session_of (place ∷ past) c)) e
  where
    by : (b there : Bool) → (if b then Some (length past) else only_if there (session_start past c)) ≡ Some n → (n ≡ length past) ⊎ (session_start past c ≡ Some n)
    by true there f = inl (let g : length past ≡ n = cc in sym g)
    by false true f = inr f
    by false false f = absurd (let g : None ≡ Some n = f in cc)

-- it began at a place of the past
pub began_below : (past : Past) (c : Client) (n : ℕ) → session_start past c ≡ Some n → n < length past
unfolding session_start
began_below [] c n e = absurd (cc)
began_below (place ∷ past) c n e = by (began_here_or_below place past c n e) (began_below past c n)
  where
    by : (n ≡ length past) ⊎ (session_start past c ≡ Some n) → (session_start past c ≡ Some n → n < length past) → n < suc (length past)
    by (inl f) ih = omega (arith, f)
    by (inr f) ih = let g = ih f in omega (arith, g)

-- a session that is over stays so
pub over_stays : (place : Place) (past : Past) (c : Client) (start : ℕ) → start < length past → is_this start (session_start past c) ≡ false → is_this start (session_start (place ∷ past) c) ≡ false
over_stays place past c start less over = by (session_start (place ∷ past) c) refl
  where
    other : (n : ℕ) → (n ≡ length past) ⊎ (session_start past c ≡ Some n) → (n == start) ≡ false
    other n (inl e) = grind (arith, e, less)
    other n (inr e) = sym (ap (is_this start) e) ∙ over

    by : (o : Option ℕ) → session_start (place ∷ past) c ≡ o → is_this start o ≡ false
    by None e = refl
    by (Some n) e = other n (began_here_or_below place past c n e)

-- so its entries stay as they were at its last place
pub entries_stay : (limits : Limits) (place : Place) (past : Past) (c : Client) (start : ℕ) → start < length past → is_this start (session_start past c) ≡ false
    → entries_in limits (place ∷ past) c start ≡ entries_in limits past c start
entries_stay limits place past c start less over =
    ap (λ b. if b then entries_of limits (place ∷ past) c else entries_in limits past c start) (over_stays place past c start less over)
