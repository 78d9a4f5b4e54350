-- The theorem about granted rows that `src/theorems.rt` proves.
use Rattle.std.specs.Prelude.{◌≡◌, ℕ, List}
use Rattle.subs_base.specs.Content.{Content}
use Rattle.subs_base.specs.Granted.{Row, IsGranted}

-- a content grants exactly one list of rows for a topic
abbrev pub GrantsOneList : Type 0
GrantsOneList =
    (content : Content) (topic : List ℕ) (rows others : List Row)
    → IsGranted content topic rows → IsGranted content topic others → rows ≡ others
