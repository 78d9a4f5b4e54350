-- Listed.antt: values that say a list say each item of it.
use Rattle.std.proofs.Common.{◌≡◌, ◌&&◌, ℕ, zero, suc, ◌<◌, Bool, true, false, true≢false, List, [], ◌∷◌, ◌++◌, length, get_or, map, take, ◌+◌, Some, is_some, refl, ap, ap₂, sym, ◌∙◌, arith}
use Rattle.std.proofs.lemmas.Bool.{and_parts}
use Rattle.std.proofs.lemmas.List.{take_more}
use Rattle.std.proofs.lemmas.Option.{same_Some}
use Rattle.toml.proofs.Views.{items_view-push}
use Rattle.std.specs.List.{list_all}
use Rattle.toml.specs.Data.{Data, Items, as_array, array, boolean, datetime, float, integer, item, no_items, push_item, string, table}
use Rattle.toml.specs.View.{items_of, items_view, view}
use Rattle.toml.specs.declared.value.Value.{Value}
use Rattle.command_line.specs.Tables.{list_data}

abbrev has_item : Items → Bool
has_item no_items = false
has_item (item x xs) = true

abbrev first_item : Items → Data → Data
first_item no_items d = d
first_item (item x xs) d = x

abbrev other_items : Items → Items
other_items no_items = no_items
other_items (item x xs) = xs

-- an item that is among those that pass, and is said by the value at its place
pub record IsSaidAt {X : Type 0} (says : X → Data) (passes : X → Bool) (value : Value) : Type 0 where
  pub one : X
  pub passed : passes one ≡ true
  pub said : view value ≡ says one

pub said_at : {X : Type 0} (says : X → Data) (passes : X → Bool) (vs : List Value) (xs : List X) (i : ℕ) (d : Value)
    → i < length vs → list_all passes xs ≡ true → items_view vs ≡ items_of (map says xs)
    → IsSaidAt says passes (get_or vs i d)
said_at says passes [] xs i d within pass same = absurd (omega arith)
said_at says passes (v ∷ vs) [] i d within pass same = absurd (true≢false (ap has_item same))
said_at says passes (v ∷ vs) (x ∷ xs) zero d within pass same =
    record {
      one = x;
      passed = (and_parts (passes x) (list_all passes xs) pass).0;
      said = ap (λ is. first_item is (view v)) same;
    }
said_at says passes (v ∷ vs) (x ∷ xs) (suc i) d within pass same =
    said_at says passes vs xs i d (omega arith) (and_parts (passes x) (list_all passes xs) pass).1 (ap other_items same)

abbrev items_in : Data → Items
items_in (array items) = items
items_in _ = no_items

-- the list of a value that says a list
pub items_said : {X : Type 0} (says : X → Data) (vs : List Value) (value : Value) (xs : List X)
    → view value ≡ array (items_view vs) → view value ≡ list_data says xs → items_view vs ≡ items_of (map says xs)
items_said says vs value xs is said = ap items_in (sym is ∙ said)

-- the value is an array of these items
pub is_array : (d : Data) (is : Items) → Some is ≡ as_array d → d ≡ array is
is_array (array ds) is e = ap array (sym (same_Some is ds e))
is_array (string s) is e = absurd (true≢false (ap is_some e))
is_array (integer z) is e = absurd (true≢false (ap is_some e))
is_array (float x) is e = absurd (true≢false (ap is_some e))
is_array (boolean b) is e = absurd (true≢false (ap is_some e))
is_array (datetime t) is e = absurd (true≢false (ap is_some e))
is_array (table ms) is e = absurd (true≢false (ap is_some e))

items_of-push : {X : Type 0} (says : X → Data) (xs : List X) (x : X)
    → items_of (map says (xs ++ x ∷ [])) ≡ push_item (items_of (map says xs)) (says x)
items_of-push says [] x = refl
items_of-push says (y ∷ xs) x = ap (item (says y)) (items_of-push says xs x)

-- one value more says one item more
pub said_more : {X : Type 0} (says : X → Data) (vs : List Value) (i : ℕ) (v : Value) (xs : List X) (x : X) → i < length vs
    → v ≡ get_or vs i v → items_view (take i vs) ≡ items_of (map says xs) → view v ≡ says x
    → items_view (take (i + 1) vs) ≡ items_of (map says (xs ++ x ∷ []))
said_more says vs i v xs x within at before said =
    ap items_view (take_more vs i v within) ∙ ap (λ w. items_view (take i vs ++ w ∷ [])) (sym at)
    ∙ items_view-push (take i vs) v ∙ ap₂ push_item before said ∙ sym (items_of-push says xs x)
