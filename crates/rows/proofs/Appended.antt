-- Appended.antt: what two steps append, one after the other.
use Rattle.std.proofs.Common.{◌≤◌, Bor, List, [], ◌∷◌, ◌++◌, length, drop, get_or, Option, Some, None, ap, refl, sym, append_assoc, arith, ◌∙◌}
use Rattle.rows.specs.Fields.{Appends, Text, both, fields_in, quoted_fields, texts}

pub both_append : {X : Type 0} (old mid new : List X) (first others : Option (List X))
    → Appends old mid first → Appends mid new others → Appends old new (both first others)
both_append old mid new (Some xs) (Some ys) e f = f ∙ ap (λ zs. zs ++ ys) e ∙ append_assoc old xs ys
both_append old mid new (Some xs) None e f = absurd f
both_append old mid new None others e f = absurd e

-- the two parts of what was appended
pub both_split : {X : Type 0} (old new : List X) (first others : Option (List X))
    → Appends old new (both first others) → (mid : List X) × Appends old mid first × Appends mid new others
both_split old new (Some xs) (Some ys) e = (old ++ xs, refl, e ∙ sym (append_assoc old xs ys))
both_split old new (Some xs) None e = absurd e
both_split old new None others e = absurd e

-- a part in quotes, and the parts after it
pub fields_append : (parts : List (Bor Text)) (d e : Bor Text) (old mid new : List Text) → 2 ≤ length parts
    → Appends old mid (quoted_fields (get_or parts 0 d).now (get_or parts 1 e).now)
    → Appends mid new (fields_in (texts (drop 2 parts))) → Appends old new (fields_in (texts parts))
fields_append [] d e old mid new len first others = absurd (omega (arith, len))
fields_append (plain ∷ []) d e old mid new len first others = absurd (omega (arith, len))
fields_append (plain ∷ quoted ∷ parts) d e old mid new len first others =
    both_append old mid new (quoted_fields plain.now quoted.now) (fields_in (texts parts)) first others
