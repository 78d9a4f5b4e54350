-- OneOpening.antt: the first line opens one world, or none.
use Rattle.std.proofs.Common.{◌≡◌, ◌&&◌, List, [], ◌∷◌, Bool, true, false, cond, codes, bytes_eq, Option, Some, None, is_some, Result, Ok, Err, ap, refl, sym, subst, ◌∙◌}
use Rattle.std.specs.Result.{IfOk}
use Rattle.std.specs.Str.{IsUtf8}
use Rattle.std.proofs.lemmas.Bool.{and_parts, false≢true}
use Rattle.std.proofs.lemmas.Option.{same_Some}
use Rattle.std.proofs.lemmas.Slice.Eq.{bytes_eq-Decides}
use Rattle.script.specs.declared.error.FieldFault.{FieldFault}
use Rattle.script.specs.declared.opening.Opening.{Opening}
use Rattle.script.specs.Fields.{Text, parse_clients, fields_of, parse_number, parse_numbers}
use Rattle.script.specs.Scripts as lines
use Rattle.script.specs.Scripts.{HasOpening, IsOpening, IsOpeningLine, are_distinct, is_lawful_opening}
use Rattle.script.specs.Inside.LineReader.{with}
use Rattle.script.specs.Inside.Worlds.{Values, checked, values, values_of, parse_world}
use Rattle.script.proofs.OneForm.{made}

-- the test of the values
abbrev is_good : Values → Bool
is_good v = is_lawful_opening v.nodes v.members v.primary && are_distinct v.clients

record Checked (o : Option Values) (v : Values) : Type 0 where
  are : o ≡ Some v
  good : is_good v ≡ true

guarded : {X : Type 0} (b : Bool) (o : Option X) (v : X) → cond b o None ≡ Some v → (b ≡ true) × (o ≡ Some v)
guarded true o v h = (refl, h)
guarded false o v h = absurd (false≢true (ap is_some h))

is_checked : (o : Option Values) (v : Values) → checked o ≡ Some v → Checked o v
is_checked None v h = absurd (false≢true (ap is_some h))
is_checked (Some w) v h =
    let (good, same) = guarded (is_good w) (Some w) v h in
    record { are = same; good = subst (λ x. is_good x ≡ true) (same_Some _ _ same) good }

-- the world of five fields
five : (w n m p c : Text) (o : Opening)
    → parse_world (w ∷ n ∷ m ∷ p ∷ c ∷ []) ≡ Some (values_of o) → IsOpening (w ∷ n ∷ m ∷ p ∷ c ∷ []) o
five w n m p c o h =
    let (word, given) = guarded (bytes_eq w (codes "world")) _ _ h in
    let all = is_checked _ _ given in
    let fourth = made (with (with (with (Some values) (parse_number n)) (parse_numbers m)) (parse_number p)) (parse_clients c) (values_of o) all.are in
    let third = made (with (with (Some values) (parse_number n)) (parse_numbers m)) (parse_number p) fourth.f fourth.make_is in
    let second = made (with (Some values) (parse_number n)) (parse_numbers m) third.f third.make_is in
    let first = made (Some values) (parse_number n) second.f second.make_is in
    let second_is = first.is ∙ ap (λ g. g first.x) (sym (same_Some _ _ first.make_is)) in
    let third_is = second.is ∙ ap (λ g. g second.x) second_is in
    let fourth_is = third.is ∙ ap (λ g. g third.x) third_is in
    let is : values_of o ≡ values first.x second.x third.x fourth.x = fourth.is ∙ ap (λ g. g fourth.x) fourth_is in
    let (lawful, distinct) = and_parts (is_lawful_opening o.nodes o.config.members o.config.primary) (are_distinct o.clients.items) all.good in
    subst (λ v. IsOpening (v ∷ n ∷ m ∷ p ∷ c ∷ []) o) (sym ((bytes_eq-Decides w (codes "world")).0 word))
    (lines.world (first.value_is ∙ ap (λ (v : Values). Some v.nodes) (sym is)) (second.value_is ∙ ap (λ (v : Values). Some v.members) (sym is))
    (third.value_is ∙ ap (λ (v : Values). Some v.primary) (sym is)) (fourth.value_is ∙ ap (λ (v : Values). Some v.clients) (sym is))
    lawful distinct)

-- what is read is said by the line
pub world_says : (fields : List Text) (o : Opening) → parse_world fields ≡ Some (values_of o) → IsOpening fields o
world_says [] o h = absurd (false≢true (ap is_some h))
world_says (w ∷ []) o h = absurd (false≢true (ap is_some h))
world_says (w ∷ n ∷ []) o h = absurd (false≢true (ap is_some h))
world_says (w ∷ n ∷ m ∷ []) o h = absurd (false≢true (ap is_some h))
world_says (w ∷ n ∷ m ∷ p ∷ []) o h = absurd (false≢true (ap is_some h))
world_says (w ∷ n ∷ m ∷ p ∷ c ∷ []) o h = five w n m p c o h
world_says (w ∷ n ∷ m ∷ p ∷ c ∷ d ∷ more) o h = absurd (false≢true (ap is_some h))

-- a line opens what is read of it
pub world_read : (fields : List Text) (o : Opening) → IsOpening fields o → parse_world fields ≡ Some (values_of o)
world_read fields o (lines.world n m p c lawful distinct) = rw (n, m, p, c, lawful, distinct) refl

-- what was read of a line
pub opening_said : (line text : Text) (fields : List Text) (r : Result Opening FieldFault) → text ≡ line → IsUtf8 line
    → fields ≡ fields_of text → IfOk r (λ o. parse_world fields ≡ Some (values_of o)) → IfOk r (IsOpeningLine line)
opening_said line text fields (Ok o) same formed are read =
    (formed, world_says (fields_of line) o (ap parse_world (sym (are ∙ ap fields_of same)) ∙ read))
opening_said line text fields (Err e) same formed are read = tt

-- a line of which nothing was read
pub opening_missing : (line text : Text) (fields : List Text) → text ≡ line
    → fields ≡ fields_of text → parse_world fields ≡ None → HasOpening line → ⊥
opening_missing line text fields same are none has =
    false≢true (ap is_some (sym none ∙ ap parse_world (are ∙ ap fields_of same) ∙ world_read (fields_of line) has.0 has.1.1))
