-- The exchange that adds an event keeps the rule.
use Rattle.std.proofs.Common.{◌≡◌, ℕ, ◌+◌, ◌<◌, ◌≤◌, ◌==◌, Bool, true, false, List, [], ◌∷◌, ◌++◌, length, set, replicate, None, refl, ap, sym, ◌∙◌, subst, arith, inl}
use Rattle.std.specs.Prelude.{MatchBool}
use Rattle.std.proofs.lemmas.List.{append-nil, length-set, get_or-set_same, get_or-set_other, get_or-replicate, length-replicate}
use Rattle.std.proofs.lemmas.Bool.Decides.{nat_tests}
use mathlib.Core.List.{IsPrefix}
use prog.Atomic.{either}
use Rattle.logbook.specs.Pages.{Cell, Nib, cell, keeps, no_nib, step, Moves}
use Rattle.ballot_base.specs.LawfulConfig.{max_node}
use Rattle.ballot_base.specs.declared.config.Config.{Config}
use Rattle.agreement.specs.World.{can_open}
use Rattle.run_history.specs.declared.event.RunEvent.{RunEvent}
use Rattle.run_history.specs.Linked.{IsRun, greatest_in}
use Rattle.run_history.specs.Log.{events_by, is_by, opening_log, party_of}
use Rattle.run_history.specs.Rules.{Added, Adds, IsKept, Looks, MayAdd}
use Rattle.run_history.specs.Rules.MayAdd.{node_may, master_may, link_may}
use Rattle.run_history.specs.ToldEvents.{no_event}
use Rattle.run_history.proofs.LongerLogs.{events_append, master_stays, stays}
use Rattle.run_history.proofs.Openings.{begins, opening_run, same_config, same_linked, same_nodes}
use Rattle.run_history.proofs.Prefixes.{prefix_trans}
use Rattle.run_history.proofs.StepsOfEvents.{run_goes_on, run_goes_on_with_link, run_goes_on_with_master}
use Rattle.run_history.proofs.MayLater.{master_may_later, node_may_later}

-- clients see nothing of the log, and trade nothing
abbrev pub shown : List RunEvent → List RunEvent
shown log = []

abbrev pub moved : List RunEvent → List RunEvent → ℕ → Type 0
moved before after answer = Unit {0}

-- the words as a run opens
pub opens : (words nodes : ℕ) (config : Config) (linked : Bool) → words ≡ nodes + 1 → can_open (greatest_in linked) nodes config ≡ true → IsKept (replicate words (0, true)) (opening_log nodes config linked)
opens words nodes config linked count can =
    let n : length (replicate words (0, true)) ≡ words = length-replicate words (0, true) in record {
      nodes = nodes;
      config = config;
      linked = linked;
      words = n ∙ count;
      counts = λ party below. get_or-replicate words party (0, true) (0, false) (subst (λ k. party < k) n below);
      run = opening_run linked nodes config can;
    }

-- ---- counts

-- an event that may be added is one of its party, and of no other
mine : (nodes : ℕ) (config : Config) (linked : Bool) (seen : List RunEvent) (count : ℕ) (event : RunEvent) → MayAdd nodes config linked seen count event → is_by (party_of event) event ≡ true
mine nodes config linked seen count event (node_may e own core pre is below may) = grind (arith, nat_tests)
mine nodes config linked seen count event (master_may e own state unlinked pre is may) = refl
mine nodes config linked seen count event (link_may e own is_linked pre is) = refl

others : (nodes : ℕ) (config : Config) (linked : Bool) (seen : List RunEvent) (count : ℕ) (event : RunEvent) → MayAdd nodes config linked seen count event → (party : ℕ) → (party ≡ party_of event → ⊥) → is_by party event ≡ false
others nodes config linked seen count event (node_may e own core pre is below may) party other = grind (arith, nat_tests)
others nodes config linked seen count event (master_may e own state unlinked pre is may) party other = grind (arith, nat_tests)
others nodes config linked seen count event (link_may e own is_linked pre is) party other = grind (arith, nat_tests)

-- the party has a word
has_word : (nodes : ℕ) (config : Config) (linked : Bool) (seen : List RunEvent) (count : ℕ) (event : RunEvent) → MayAdd nodes config linked seen count event → party_of event < nodes + 1
has_word nodes config linked seen count event (node_may e own core pre is below may) = omega (arith, below)
has_word nodes config linked seen count event (master_may e own state unlinked pre is may) = omega arith
has_word nodes config linked seen count event (link_may e own is_linked pre is) = omega arith

counts_by : (cells : List Cell) (log more : List RunEvent) (party count : ℕ)
    → ((k : ℕ) → k < length cells → cell cells k ≡ (events_by k log, true)) → party < length cells
    → events_by party more ≡ count → ((k : ℕ) → (k ≡ party → ⊥) → events_by k more ≡ events_by k log)
    → (k : ℕ) → k < length (set cells party (count, true)) → (b : Bool) → (k == party) ≡ b → cell (set cells party (count, true)) k ≡ (events_by k more, true)
counts_by cells log more party count each below own rest k less true is =
    let same : k ≡ party = grind (arith, nat_tests) in
    rw same (get_or-set_same cells party (count, true) (0, false) below ∙ ap (λ n. (n, true)) (sym own))
counts_by cells log more party count each below own rest k less false is =
    let other : k ≡ party → ⊥ = λ e. grind (arith, nat_tests) in
    get_or-set_other cells party k (count, true) (0, false) other
    ∙ (each k (subst (λ n. k < n) (length-set cells party (count, true)) less) ∙ ap (λ n. (n, true)) (sym (rest k other)))

-- ---- the rule after a step

kept_added : (cells : List Cell) (log : List RunEvent) (event : RunEvent) (count : ℕ) (kept : IsKept cells log) → party_of event < length cells → events_by (party_of event) log ≡ count
    → is_by (party_of event) event ≡ true → ((party : ℕ) → (party ≡ party_of event → ⊥) → is_by party event ≡ false)
    → IsRun kept.linked kept.nodes kept.config (log ++ event ∷ []) → IsKept (set cells (party_of event) (count + 1, true)) (log ++ event ∷ [])
kept_added cells log event count kept below now own rest run = record {
  nodes = kept.nodes;
  config = kept.config;
  linked = kept.linked;
  words = length-set cells (party_of event) (count + 1, true) ∙ kept.words;
  counts = λ k less. counts_by cells log (log ++ event ∷ []) (party_of event) (count + 1) kept.counts below
      (events_append (party_of event) log (event ∷ []) ∙ rw own (omega (arith, now)))
      (λ j other. events_append j log (event ∷ []) ∙ rw (rest j other) (omega arith)) k less (k == party_of event) refl;
  run = run;
}

kept_same : (cells : List Cell) (log : List RunEvent) (party : ℕ) → IsKept cells log → party < length cells → IsKept (set cells party (events_by party log, true)) (log ++ [])
kept_same cells log party kept below =
    subst (λ (l : List RunEvent). IsKept (set cells party (events_by party log, true)) l) (sym (append-nil log)) (record {
      nodes = kept.nodes;
      config = kept.config;
      linked = kept.linked;
      words = length-set cells party (events_by party log, true) ∙ kept.words;
      counts = λ k less. counts_by cells log log party (events_by party log) kept.counts below refl (λ j other. refl) k less (k == party) refl;
      run = kept.run;
    })

-- an event that was allowed by what was seen goes on from each longer log in which its party did
-- no more
goes_on : (nodes : ℕ) (config : Config) (linked : Bool) (seen log : List RunEvent) (count : ℕ) (event : RunEvent) → MayAdd nodes config linked seen count event → IsPrefix seen log → events_by (party_of event) log ≡ count
    → IsRun linked nodes config log → IsRun linked nodes config (log ++ event ∷ [])
goes_on nodes config linked seen log count event (node_may e own core pre is below may) p now run =
    let here = stays nodes config own log e.node core count (prefix_trans own seen log pre p) is now in
    run_goes_on linked nodes config log core e run here.has (node_may_later e.node core e.after.core e.given e.act seen log p may)
goes_on nodes config linked seen log count event (master_may e own state unlinked pre is may) p now run =
    let here = master_stays config own log state count (prefix_trans own seen log pre p) is now in
    run_goes_on_with_master linked nodes config log state e unlinked run here.has (master_may_later state e e.act seen log p may)
goes_on nodes config linked seen log count event (link_may e own is_linked pre is) p now run = run_goes_on_with_link linked nodes config log e is_linked run

-- what was seen of a run goes on as a run
pub run_of : (linked : Bool) (nodes : ℕ) (config : Config) (seen log : List RunEvent) (cells : List Cell) → IsRun linked nodes config seen → IsPrefix seen log → IsKept cells log → IsRun linked nodes config log
run_of linked nodes config seen log cells run p kept =
    let first = prefix_trans (opening_log nodes config linked) seen log (begins linked nodes config seen run) p in
    let own = begins kept.linked kept.nodes kept.config log kept.run in
    subst (λ l. IsRun l nodes config log) (same_linked kept.nodes nodes kept.config config kept.linked linked log own first)
    (subst (λ n. IsRun kept.linked n config log) (same_nodes kept.nodes nodes kept.config config kept.linked linked log own first)
    (subst (λ k. IsRun kept.linked kept.nodes k log) (same_config kept.nodes nodes kept.config config kept.linked linked log own first) kept.run))

-- parts of what steps ensure
pub after_six : {A B C D E F T : Type 0} → A × B × C × D × E × F × T → T
after_six x = x.6

pub after_seven : {A B C D E F G T : Type 0} → A × B × C × D × E × F × G × T → T
after_seven x = x.7

pub after_nib : {P : Nib → Type 0} (x : (n : Nib) × P n) → P x.0
after_nib x = x.1

pub first_kept : {X : Type 0} (log : List RunEvent) → ((cells : List Cell) × IsKept cells log) × X → (cells : List Cell) × IsKept cells log
first_kept log x = x.0

-- ---- the exchange

-- what is left of the step, if the word was at n
abbrev Left : List RunEvent → RunEvent → ℕ → List Cell → List RunEvent → ℕ → Bool → Type 0
Left seen event count cells log n b =
    (more : List RunEvent) × IsKept (set cells (party_of event) (either b (count + 1) n, true)) (log ++ more)
    × ((after : List Cell) × IsKept after (log ++ more)) × MatchBool b (Added seen count event (log ++ more)) (Unit {0})

add_left : (nodes : ℕ) (config : Config) (linked : Bool) (seen : List RunEvent) (event : RunEvent) (count : ℕ) (cells : List Cell) (log : List RunEvent) (kept : IsKept cells log) → kept.nodes ≡ nodes → kept.config ≡ config → kept.linked ≡ linked
    → MayAdd nodes config linked seen count event → IsPrefix seen log
    → (b : Bool) → (events_by (party_of event) log == count) ≡ b → Left seen event count cells log (events_by (party_of event) log) b
add_left nodes config linked seen event count cells log kept nodes_are config_is linked_is may pre true is =
    let now : events_by (party_of event) log ≡ count = grind (arith, nat_tests) in
    let may' : MayAdd kept.nodes kept.config kept.linked seen count event =
    subst (λ n. MayAdd n kept.config kept.linked seen count event) (sym nodes_are) (subst (λ k. MayAdd nodes k kept.linked seen count event) (sym config_is) (subst (λ l. MayAdd nodes config l seen count event) (sym linked_is) may)) in
    let below : party_of event < length cells = subst (λ n. party_of event < n) (sym kept.words) (has_word kept.nodes kept.config kept.linked seen count event may') in
    let after = kept_added cells log event count kept below now (mine nodes config linked seen count event may) (others nodes config linked seen count event may) (goes_on kept.nodes kept.config kept.linked seen log count event may' pre now kept.run) in
    (event ∷ [], after, (set cells (party_of event) (count + 1, true), after), record { before = log; begins = pre; counted = now; now = refl })
add_left nodes config linked seen event count cells log kept nodes_are config_is linked_is may pre false is =
    let has : party_of event < nodes + 1 = has_word nodes config linked seen count event may in
    let below : party_of event < length cells = omega (arith, kept.words, nodes_are, has) in
    let after = kept_same cells log (party_of event) kept below in
    ([], after, (set cells (party_of event) (events_by (party_of event) log, true), after), tt)

-- whatever the words and the log are, the exchange adds the event, or finds other events of its
-- party
pub add_moves : (nodes : ℕ) (config : Config) (linked : Bool) (seen : List RunEvent) (count : ℕ) (event : RunEvent) → IsRun linked nodes config seen → MayAdd nodes config linked seen count event
    → Moves IsKept shown moved (party_of event) (seen, (no_nib, None)) (λ n. either (n == count) (count + 1) n) (Adds (step (party_of event) count (count + 1) event) (seen, (no_nib, None)))
add_moves nodes config linked seen count event run may cells log kept pre away =
    let first = prefix_trans (opening_log nodes config linked) seen log (begins linked nodes config seen run) pre in
    let own = begins kept.linked kept.nodes kept.config log kept.run in
    let nodes_are : kept.nodes ≡ nodes = same_nodes kept.nodes nodes kept.config config kept.linked linked log own first in
    let config_is : kept.config ≡ config = same_config kept.nodes nodes kept.config config kept.linked linked log own first in
    let linked_is : kept.linked ≡ linked = same_linked kept.nodes nodes kept.config config kept.linked linked log own first in
    let has : party_of event < nodes + 1 = has_word nodes config linked seen count event may in
    let below : party_of event < length cells = omega (arith, kept.words, nodes_are, has) in
    let at : cell cells (party_of event) ≡ (events_by (party_of event) log, true) = kept.counts (party_of event) below in
    let n : events_by (party_of event) log ≡ (cell cells (party_of event)).0 = sym (ap (λ (c : Cell). c.0) at) in
    let left = add_left nodes config linked seen event count cells log kept nodes_are config_is linked_is may pre (events_by (party_of event) log == count) refl in
    let left' : Left seen event count cells log (cell cells (party_of event)).0 ((cell cells (party_of event)).0 == count) = subst (λ k. Left seen event count cells log k (k == count)) n left in
    (below, ap (λ (c : Cell). c.1) at, (keeps, left'.0, None, tt, left'.1, inl (refl, refl), (left'.2, left'.3)))

-- whatever the words and the log are, a look sees the whole log, and how many events of the word's
-- party it has
pub look_moves : (nodes : ℕ) (config : Config) (linked : Bool) (seen : List RunEvent) (party : ℕ) → IsRun linked nodes config seen → party ≤ nodes
    → Moves IsKept shown moved party (seen, (no_nib, None)) (λ n. n) (Looks (step party 0 0 no_event) (seen, (no_nib, None)))
look_moves nodes config linked seen party run least cells log kept pre away =
    let first = prefix_trans (opening_log nodes config linked) seen log (begins linked nodes config seen run) pre in
    let own = begins kept.linked kept.nodes kept.config log kept.run in
    let nodes_are : kept.nodes ≡ nodes = same_nodes kept.nodes nodes kept.config config kept.linked linked log own first in
    let below : party < length cells = omega (arith, kept.words, nodes_are, least) in
    let at : cell cells party ≡ (events_by party log, true) = kept.counts party below in
    let n : events_by party log ≡ (cell cells party).0 = sym (ap (λ (c : Cell). c.0) at) in
    let after : IsKept (set cells party ((cell cells party).0, true)) (log ++ []) = subst (λ k. IsKept (set cells party (k, true)) (log ++ [])) n (kept_same cells log party kept below) in
    let count : events_by party (log ++ []) ≡ (cell cells party).0 = ap (events_by party) (append-nil log) ∙ n in
    (below, ap (λ (c : Cell). c.1) at, (keeps, [], None, tt, after, inl (refl, refl), ((set cells party ((cell cells party).0, true), after), count)))
