-- Lists after their count: whether an item may be read depends on the items before it.
use Rattle.std.specs.Prelude.{◌≡◌, ℕ, true, false, zero, suc, Bool, nat_le, List, [], ◌∷◌, ◌++◌}
use Rattle.std.specs.Prelude.{length, flat_map, Option, None, Result, Ok, Err}
use Rattle.std.specs.List.{last_or}
use Rattle.topics.specs.declared.malformed.MalformedKind.TheVariants as kinds
use Rattle.packet_base.specs.declared.stop.Stop.{Stop}
use Rattle.packet_base.specs.declared.stop.Stop.TheVariants as stops
use Rattle.packet_base.specs.Readers.{◌>>=◌, ◌>>◌, check}
use Rattle.packet_base.specs.Lists.{ItemAt}

-- `Shape` unless the test is true
abbrev pub check_form : Bool → Result (Unit {0}) Stop
check_form test = check test (stops.Malformed kinds.Shape)

-- the last of the items that were read, if there is one
abbrev pub last_of : {A : Type 0} → List A → Option A
last_of = last_or None

-- this many items more, each of which may come after those before it
unfoldable pub items_after : {A : Type 0} → (List A → A → Bool) → ItemAt A → ℕ → List A → List ℕ →
    Result (List A × List ℕ) Stop
items_after follows item zero front bytes = Ok (front, bytes)
items_after follows item (suc more) front bytes =
    item bytes >>= (λ one. check_form (follows front one.0)
    >> items_after follows item more (front ++ one.0 ∷ []) one.1)

-- the count, at most `most`, and the items
unfoldable pub counted_items_at : {A : Type 0} → ItemAt ℕ → (List A → A → Bool) → ItemAt A → ℕ →
    List ℕ →
    Result (List A × List ℕ) Stop
counted_items_at count follows item most bytes = do
  many ← count bytes
  check_form (nat_le many.0 most)
  items_after follows item many.0 [] many.1

-- the bytes of a list: its count, then its items
abbrev pub counted_bytes : {A : Type 0} → (ℕ → List ℕ) → (A → List ℕ) → List A → List ℕ
counted_bytes count bytes items = count (length items) ++ flat_map bytes items

-- adding an item: it is appended if it may follow the others, and the reading stops otherwise;
-- memory may run out
abbrev pub AddsItem : {A : Type 0} → (List A → A → Bool) → List A → A → Result (Unit {0}) Stop →
    List A → Type 0
AddsItem follows front one (Ok done) after =
    (follows front one ≡ true) × (after ≡ front ++ one ∷ [])
AddsItem follows front one (Err (stops.Malformed kinds.Memory)) after = Unit {0}
AddsItem follows front one (Err stop) after =
    (follows front one ≡ false) × (stop ≡ stops.Malformed kinds.Shape)
