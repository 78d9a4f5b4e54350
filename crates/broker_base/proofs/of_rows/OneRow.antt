-- A place that touches one session changes one row, and a place that touches none changes none.
use Rattle.std.proofs.Common.{◌≡◌, ℕ, Bool, true, false, inl, inr, if◌then◌else◌, [], ◌∷◌, Option, Some, None, refl, ap, ap₂, ◌∙◌, sym}
use Rattle.retained.specs.Retained.{RetainedTopics}
use Rattle.broker_spec.specs.Place.{Client, same_client, Place}
use Rattle.broker_base.specs.ClientSession.{ClientSession}
use Rattle.broker_base.specs.State.{Sessions, keyed, session_in}
use Rattle.broker_base.specs.Step.{session_after, sessions_left}
use Rattle.broker_spec.proofs.ClientsInOrder.{same_is}
use Rattle.broker_base.specs.rows.Touched.{Untouched, TouchesOnly, written}

-- if nothing is touched, every row stays
pub left_untouched : (w : ℕ) (place : Place) (content : RetainedTopics) (rows : Sessions) → Untouched place rows → sessions_left w place content rows ≡ rows
left_untouched w place content [] u = refl
left_untouched w place content (row ∷ rows) u = rw u.0 (ap (λ rest. row ∷ rest) (left_untouched w place content rows u.1))

-- what is written to the first row
pub written_here : (d : Client) (o : Option ClientSession) (row : Client × ClientSession) (rows : Sessions) → same_client d row.0 ≡ true → keyed row.0 o rows ≡ written d o (row ∷ rows)
written_here d None row rows same = rw same refl
written_here d (Some kept) row rows same = rw same refl

-- what is written after the first row
pub written_after : (d : Client) (o : Option ClientSession) (row : Client × ClientSession) (rows : Sessions) → same_client d row.0 ≡ false → row ∷ written d o rows ≡ written d o (row ∷ rows)
written_after d None row rows other = rw other refl
written_after d (Some kept) row rows other = rw other refl

-- the one row is written in its place, or goes
pub left_one : (w : ℕ) (place : Place) (content : RetainedTopics) (d : Client) (kept : ClientSession) (rows : Sessions) → TouchesOnly place d rows → session_in d rows ≡ Some kept →
    sessions_left w place content rows ≡ written d (session_after w place content d kept) rows
left_one w place content d kept [] t found = absurd (cc)
left_one w place content d kept (row ∷ rows) (inl (same, untouched)) found =
    ap₂ (λ o rest. keyed row.0 o rest)
    (ap₂ (λ c k. session_after w place content c k) (sym (same_is d row.0 same)) (at_head (same_client d row.0) same found))
    (left_untouched w place content rows untouched)
    ∙ written_here d (session_after w place content d kept) row rows same
  where
    at_head : (b : Bool) → b ≡ true → (if b then Some row.1 else session_in d rows) ≡ Some kept → row.1 ≡ kept
    at_head true e f = cc
    at_head false e f = absurd (cc)
left_one w place content d kept (row ∷ rows) (inr (other, untouched, t)) found =
    rw untouched (ap (λ rest. row ∷ rest) (left_one w place content d kept rows t (after (same_client d row.0) other found)))
    ∙ written_after d (session_after w place content d kept) row rows other
  where
    after : (b : Bool) → b ≡ false → (if b then Some row.1 else session_in d rows) ≡ Some kept → session_in d rows ≡ Some kept
    after false e f = f
    after true e f = absurd (cc)
