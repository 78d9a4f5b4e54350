-- What is sent, with its value: after a PUBREC of another, and after a PUBCOMP.
use Rattle.std.proofs.Common.{◌≡◌, ℕ, Bool, true, false, ◌==◌, if◌then◌else◌, List, [], ◌∷◌, map, refl}
use Rattle.std.proofs.lemmas.Bool.{both_ways}
use Rattle.lists.specs.Lists.{In}
use Rattle.lists.specs.Lists.In.{here, there}
use Rattle.lists.proofs.Tests.{or_left, or_right, eq_same}
use Rattle.exactly_once.specs.Items.{SenderItem, sent, has_sent, item_released, finishing}

-- its identifier is that of one that is sent
pub row_sent : {V : Type 0} (row : ℕ × V) (items : List (SenderItem V)) → In row (sent items) → has_sent row.0 items ≡ true
row_sent row [] i = elim i [ ]
row_sent row (SenderItem.Queued v ∷ items) i = row_sent row items i
row_sent row (SenderItem.Sent v id ∷ items) here = or_left (id == id) (has_sent id items) (eq_same id)
row_sent row (SenderItem.Sent v id ∷ items) (there i) = or_right (row.0 == id) (has_sent row.0 items) (row_sent row items i)
row_sent row (SenderItem.Released v id ∷ items) i = row_sent row items i
row_sent row (SenderItem.Done v ∷ items) i = row_sent row items i

-- another stays
pub row_releasing : {V : Type 0} (i : ℕ) (row : ℕ × V) (items : List (SenderItem V)) → (i == row.0) ≡ false → In row (sent items) → In row (sent (map (item_released i) items))
row_releasing i row [] n h = elim h [ ]
row_releasing i row (SenderItem.Queued v ∷ items) n h = row_releasing i row items n h
row_releasing i row (SenderItem.Sent v id ∷ items) n here = by (i == id) n
  where
    by : (b : Bool) → b ≡ false → In (id, v) (sent ((if b then SenderItem.Released v id else SenderItem.Sent v id) ∷ map (item_released i) items))
    by true e = absurd (both_ways true e refl)
    by false e = here
row_releasing i row (SenderItem.Sent v id ∷ items) n (there h) = by (i == id) (row_releasing i row items n h)
  where
    by : (b : Bool) → In row (sent (map (item_released i) items)) → In row (sent ((if b then SenderItem.Released v id else SenderItem.Sent v id) ∷ map (item_released i) items))
    by true ih = ih
    by false ih = there ih
row_releasing i row (SenderItem.Released v id ∷ items) n h = row_releasing i row items n h
row_releasing i row (SenderItem.Done v ∷ items) n h = row_releasing i row items n h

pub row_finishing : {V : Type 0} (i : ℕ) (row : ℕ × V) (items : List (SenderItem V)) → In row (sent items) → In row (sent (map (finishing i) items))
row_finishing i row [] h = elim h [ ]
row_finishing i row (SenderItem.Queued v ∷ items) h = row_finishing i row items h
row_finishing i row (SenderItem.Sent v id ∷ items) here = here
row_finishing i row (SenderItem.Sent v id ∷ items) (there h) = there (row_finishing i row items h)
row_finishing i row (SenderItem.Released v id ∷ items) h = by (i == id) (row_finishing i row items h)
  where
    by : (b : Bool) → In row (sent (map (finishing i) items)) → In row (sent ((if b then SenderItem.Done v else SenderItem.Released v id) ∷ map (finishing i) items))
    by true ih = ih
    by false ih = ih
row_finishing i row (SenderItem.Done v ∷ items) h = row_finishing i row items h
