-- What is at each client once a row was set or taken out.
use Rattle.std.proofs.Common.{◌≡◌, ℕ, List, Bool, true, false, cond, Option, Some, None, refl, sym, ◌∙◌, ap, subst, bytes_eq, []}
use Rattle.std.specs.BTreeMap.{BTreeMap, is_at, Updates}
use Rattle.std.specs.Map.{lookup}
use Rattle.std.specs.Cmp.Lexicographic.{slice_cmp, bytes_decides}
use Rattle.std.specs.Ordering.{nat_cmp}
use Rattle.std.proofs.lemmas.Map.Text.{is_eq-slice_cmp}
use Rattle.packet_base.specs.declared.qos.QoS.{QoS}
use Rattle.subs.specs.declared.rows.Rows.TheVariants.{Empty, One, Many}
use Rattle.subs.specs.Rows.{qos_of_client, SetsAt}
use Rattle.subs.proofs.LevelsFound.{updates_client}
use Rattle.subs.proofs.NodeSets.{turned}

-- a single row
pub one_at : (held : List ℕ) (kept : QoS) (c : List ℕ) → qos_of_client (One held kept) c ≡ cond (bytes_eq held c) (Some kept) None
one_at held kept c = ap (λ b. cond b (Some kept) None) (is_eq-slice_cmp c held ∙ turned c held)

pub none_at : (held client : List ℕ) (kept : QoS) → bytes_eq held client ≡ false → qos_of_client (One held kept) client ≡ None
none_at held client kept apart = one_at held kept client ∙ ap (λ b. cond b (Some kept) None) apart

pub some_at : (held client : List ℕ) (kept : QoS) → bytes_eq held client ≡ true → qos_of_client (One held kept) client ≡ Some kept
some_at held client kept same = one_at held kept client ∙ ap (λ b. cond b (Some kept) None) same

-- the row of a client that has one is another
pub one_set : (held client : List ℕ) (kept qos : QoS) → bytes_eq held client ≡ true → SetsAt (One held kept) (One held qos) client (Some qos)
one_set held client kept qos same c =
    one_at held qos c
    ∙ by (bytes_eq held c) (qos_of_client (One held kept) c) (one_at held kept c)
    ∙ ap (λ (x : List ℕ). cond (bytes_eq x c) (Some qos) (qos_of_client (One held kept) c)) ((bytes_decides held client).0 same)
  where
    by : (v : Bool) (o : Option QoS) → o ≡ cond v (Some kept) None → cond v (Some qos) None ≡ cond v (Some qos) o
    by true o e = refl
    by false o e = sym e

pub one_cleared : (held client : List ℕ) (kept : QoS) → bytes_eq held client ≡ true → SetsAt (One held kept) Empty client None
one_cleared held client kept same c =
    by (bytes_eq held c) (qos_of_client (One held kept) c) (one_at held kept c)
    ∙ ap (λ (x : List ℕ). cond (bytes_eq x c) None (qos_of_client (One held kept) c)) ((bytes_decides held client).0 same)
  where
    by : (v : Bool) (o : Option QoS) → o ≡ cond v (Some kept) None → None ≡ cond v None o
    by true o e = refl
    by false o e = sym e

pub one_stays : (held client : List ℕ) (kept : QoS) → bytes_eq held client ≡ false → SetsAt (One held kept) (One held kept) client None
one_stays held client kept apart c = by (bytes_eq client c) refl
  where
    by : (v : Bool) → bytes_eq client c ≡ v → qos_of_client (One held kept) c ≡ cond v None (qos_of_client (One held kept) c)
    by true e = subst (λ (x : List ℕ). qos_of_client (One held kept) x ≡ None) ((bytes_decides client c).0 e) (none_at held client kept apart)
    by false e = refl

-- a map of one row and another
pub two_set :
    (empty one two : BTreeMap (List ℕ) QoS) (held client : List ℕ) (kept qos : QoS)
    → empty.entries ≡ []
    → Updates (slice_cmp nat_cmp) empty one held (Some kept)
    → Updates (slice_cmp nat_cmp) one two client (Some qos)
    → SetsAt (One held kept) (Many two) client (Some qos)
two_set empty one two held client kept qos bare first second c =
    updates_client one two client (Some qos) second c
    ∙ ap (cond (bytes_eq client c) (Some qos))
    (updates_client empty one held (Some kept) first c
    ∙ ap (λ es. cond (bytes_eq held c) (Some kept) (lookup (is_at (slice_cmp nat_cmp c)) es)) bare
    ∙ sym (one_at held kept c))
