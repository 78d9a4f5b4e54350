-- A client without filters may go: its index holds the same subscriptions.
use Rattle.std.proofs.Common.{◌≡◌, ℕ, List, [], ◌∷◌, length, true, false, cond, Option, Some, None, is_some, refl, sym, ◌∙◌, ap, bytes_eq, arith, Bor}
use Rattle.std.specs.Prelude.{option_and_then, option_map, option_copied}
use Rattle.std.specs.BTreeMap.{BTreeMap, get, is_at}
use Rattle.std.specs.Map.{lookup}
use Rattle.std.specs.Cmp.Lexicographic.{slice_cmp, texts_ties, bytes_decides}
use Rattle.std.specs.Ordering.{nat_cmp}
use Rattle.std.proofs.lemmas.Bool.{false≢true}
use Rattle.std.proofs.lemmas.Map.Made.{lookup-map_values}
use Rattle.packet_base.specs.declared.qos.QoS.{QoS}
use Rattle.subs_base.specs.ListIndex.{Filters, Clients, content_of, at}
use Rattle.subs_base.specs.Inside.{listed}
use Rattle.subs_base.proofs.ContentAfter.{held, content_held, held_some}

pub content_without_empty :
    (m n : BTreeMap (List ℕ) (BTreeMap (List ℕ) QoS)) (client : List ℕ) (filters : BTreeMap (List ℕ) QoS)
    → Some filters ≡ get (slice_cmp nat_cmp) m client
    → filters.entries ≡ []
    → ((c : List ℕ) → get (slice_cmp nat_cmp) n c ≡ cond (is_at (slice_cmp nat_cmp client) c) None (get (slice_cmp nat_cmp) m c))
    → content_of (listed n.entries) ≡ content_of (listed m.entries)
content_without_empty m n client filters there empty outer =
    let point : (c f : List ℕ) → held n c f ≡ held m c f = λ c f.
    elim (bytes_eq client c) as (λ v. bytes_eq client c ≡ v → held n c f ≡ held m c f) [
      | true ↦ λ e.
          ap (option_and_then (λ kept. get (slice_cmp nat_cmp) kept f))
          (outer c ∙ ap (λ b. cond b None (get (slice_cmp nat_cmp) m c)) (sym (texts_ties client c) ∙ e))
          ∙ sym (ap (lookup (is_at (slice_cmp nat_cmp f))) empty)
          ∙ sym (held_some m client f filters there)
          ∙ ap (λ x. held m x f) ((bytes_decides client c).0 e)
      | false ↦ λ e.
          ap (option_and_then (λ kept. get (slice_cmp nat_cmp) kept f))
          (outer c ∙ ap (λ b. cond b None (get (slice_cmp nat_cmp) m c)) (sym (texts_ties client c) ∙ e))
    ] refl in
    λ i c f. (content_held n c f ∙ point c f ∙ sym (content_held m c f)) i

pub no_entries : {X : Type 0} (entries : List X) → length entries ≡ 0 → entries ≡ []
no_entries [] h = refl
no_entries (x ∷ entries) h = absurd (omega arith)

-- what is at a client of the list is what its map holds
pub at_listed : (m : BTreeMap (List ℕ) (BTreeMap (List ℕ) QoS)) (shown : Clients) (client : List ℕ) → listed m.entries ≡ shown
    → at client shown ≡ option_map (λ kept. kept.entries) (get (slice_cmp nat_cmp) m client)
at_listed m shown client is = sym (ap (at client) is) ∙ lookup-map_values (λ kept. kept.entries) (is_at (slice_cmp nat_cmp client)) m.entries

-- no empty map is left if there is none
pub gone_none : (m : BTreeMap (List ℕ) (BTreeMap (List ℕ) QoS)) (shown : Clients) (client : List ℕ) → listed m.entries ≡ shown
    → None ≡ get (slice_cmp nat_cmp) m client → at client shown ≡ Some [] → ⊥
gone_none m shown client is none e =
    false≢true (ap is_some (ap (option_map (λ kept. kept.entries)) none ∙ sym (at_listed m shown client is) ∙ e))

-- nor if there is another one
pub gone_some : (m : BTreeMap (List ℕ) (BTreeMap (List ℕ) QoS)) (shown : Clients) (client : List ℕ) (filters : BTreeMap (List ℕ) QoS) → listed m.entries ≡ shown
    → Some filters ≡ get (slice_cmp nat_cmp) m client → (length filters.entries ≡ 0 → ⊥) → at client shown ≡ Some [] → ⊥
gone_some m shown client filters is some full e =
    full (ap (λ (o : Option Filters). option_map_or 0 length o) (ap (option_map (λ kept. kept.entries)) some ∙ sym (at_listed m shown client is) ∙ e))
  where
    option_map_or : ℕ → (Filters → ℕ) → Option Filters → ℕ
    option_map_or d f None = d
    option_map_or d f (Some x) = f x

-- the same for a map that was lent
pub lent_at : (m : BTreeMap (List ℕ) (BTreeMap (List ℕ) QoS)) (shown : Clients) (client : List ℕ) (lent : Option (Bor (BTreeMap (List ℕ) QoS))) → listed m.entries ≡ shown
    → option_copied lent ≡ get (slice_cmp nat_cmp) m client → option_map (λ filters. filters.now.entries) lent ≡ at client shown
lent_at m shown client lent is there = opened lent ∙ ap (option_map (λ kept. kept.entries)) there ∙ sym (at_listed m shown client is)
  where
    opened : (lent : Option (Bor (BTreeMap (List ℕ) QoS))) → option_map (λ filters. filters.now.entries) lent ≡ option_map (λ kept. kept.entries) (option_copied lent)
    opened None = refl
    opened (Some x) = refl
