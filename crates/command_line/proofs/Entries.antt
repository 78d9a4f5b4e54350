-- Entries.antt: the members of a map begin with its first entry.
use Rattle.std.proofs.Common.{◌≡◌, ℕ, Bool, true, false, List, [], bytes_eq, ap, refl, sym, ◌∙◌}
use Rattle.std.proofs.lemmas.Bool.{both_ways, false≢true, true≢false}
use Rattle.std.proofs.lemmas.Slice.Eq.{bytes_eq-Decides}
use Rattle.toml.specs.Data.{Data, Members, member, no_members}

abbrev first_key : Members → List ℕ
first_key no_members = []
first_key (member k d ms) = k

abbrev is_some_member : Members → Bool
is_some_member no_members = false
is_some_member (member k d ms) = true

-- another key comes first
pub other_key : (k key : List ℕ) (d e : Data) (ms rest : Members) → bytes_eq k key ≡ false
    → member k d ms ≡ member key e rest → ⊥
other_key k key d e ms rest differ same =
    both_ways (bytes_eq k key) differ ((bytes_eq-Decides k key).1 (ap first_key same))

-- nothing comes first
pub no_key : (key : List ℕ) (e : Data) (rest : Members) → no_members ≡ member key e rest → ⊥
no_key key e rest same = false≢true (ap is_some_member same)
