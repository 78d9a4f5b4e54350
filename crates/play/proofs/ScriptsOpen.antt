-- ScriptsOpen.antt: the world of a script may open, and its clients are apart.
use Rattle.std.proofs.Common.{◌≡◌, Bool, true, false, not, ◌||◌, List, [], ◌∷◌, Result, Ok, Err, IsErrOf, nat_le, ap, refl, sym, ◌∙◌}
use Rattle.std.specs.Prelude.{bytes_eq}
use Rattle.std.proofs.lemmas.Bool.{and_parts, false≢true}
use Rattle.std.proofs.lemmas.Slice.Eq.{bytes_eq-Decides}
use Rattle.agreement.specs.World.{can_open}
use Rattle.ballot_base.specs.LawfulConfig.{is_lawful, max_node}
use Rattle.script.specs.Fields.{Text, fields_of}
use Rattle.lists.specs.Lists.{Each}
use Rattle.headline.specs.packet_world.World.{ClientsAreApart}
use Rattle.script.specs.Scripts.{IsOpening, IsScript, are_distinct, are_members, has_client, is_lawful_opening}
use Rattle.script.specs.Scripts.IsOpening.{world}
use Rattle.script.specs.declared.opening.Opening.{Opening}
use Rattle.script.specs.declared.script_reader.Script.{Script}

lawful : (fields : List Text) (opening : Opening) → IsOpening fields opening
    → is_lawful_opening opening.nodes opening.config.members opening.config.primary ≡ true
lawful _ opening (world nodes members primary clients is distinct) = is

opens_so : (opening : Opening)
    → is_lawful_opening opening.nodes opening.config.members opening.config.primary ≡ true
    → can_open max_node opening.nodes opening.config ≡ true
opens_so opening is =
    let (few, more) = and_parts (nat_le opening.nodes 15) _ is in
    let (nodes, config) = and_parts (are_members opening.nodes opening.config.members)
    (is_lawful max_node opening.config.members opening.config.primary) more in
    rw (few, config, nodes) refl

pub script_opens : (lines : List Text) (script : Script) → IsScript lines script
    → can_open max_node script.opening.nodes script.opening.config ≡ false → ⊥
script_opens [] script is bad = absurd is
script_opens (first ∷ lines) script (opening, script_lines) bad =
    false≢true (sym bad ∙ opens_so script.opening (lawful (fields_of first) script.opening (opening.1)))

-- ---- its clients are apart

others : (client : Text) (clients : List Text) → has_client clients client ≡ false → Each (λ (other : Text). client ≡ other → ⊥) clients
others client [] none = tt
others client (other ∷ clients) none = by (bytes_eq other client) refl (others client clients) none
  where
    by : (b : Bool) → bytes_eq other client ≡ b → (has_client clients client ≡ false → Each (λ (d : Text). client ≡ d → ⊥) clients) → (b || has_client clients client) ≡ false
        → Each (λ (d : Text). client ≡ d → ⊥) (other ∷ clients)
    by true is rest f = absurd (false≢true (sym f))
    by false is rest f = (λ same. false≢true (sym is ∙ (bytes_eq-Decides other client).1 (sym same)), rest f)

are_apart : (clients : List Text) → are_distinct clients ≡ true → ClientsAreApart clients
are_apart [] e = tt
are_apart (client ∷ clients) e =
    let (alone, more) = and_parts (not (has_client clients client)) (are_distinct clients) e in
    (others client clients (is_not (has_client clients client) alone), are_apart clients more)
  where
    is_not : (b : Bool) → not b ≡ true → b ≡ false
    is_not true f = absurd (false≢true f)
    is_not false f = refl

clients_apart : (fields : List Text) (opening : Opening) → IsOpening fields opening → ClientsAreApart opening.clients.items
clients_apart _ opening (world nodes members primary clients is distinct) = are_apart opening.clients.items distinct

pub script_apart : (lines : List Text) (script : Script) → IsScript lines script → ClientsAreApart script.opening.clients.items
script_apart [] script is = absurd is
script_apart (first ∷ lines) script (opening, script_lines) = clients_apart (fields_of first) script.opening (opening.1)

-- ---- an error is the same, whatever there might have been in its place

abbrev err_in : {A E : Type 0} → E → Result A E → E
err_in other (Ok value) = other
err_in other (Err error) = error

pub other_err : {A B E : Type 0} (x y : E) → IsErrOf {T = A} (Err x) y → IsErrOf {T = B} (Err x) y
other_err x y is = ap Err (ap (err_in x) is)
