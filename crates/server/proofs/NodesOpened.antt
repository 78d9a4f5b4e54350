-- NodesOpened.antt: the nodes of a run open one after another, those with a listener to serve.
use Rattle.std.proofs.Common.{◌≡◌, ◌==◌, ◌||◌, ℕ, ◌+◌, ◌<◌, zero, suc, Bool, true, false, List, [], ◌∷◌, ◌++◌, length, map, refl, ◌∙◌, ap, sym, subst, arith}
use Rattle.std.specs.List.{All, Contains}
use Rattle.std.specs.List.Sorted.{IsPermutation}
use Rattle.std.proofs.lemmas.Bool.{false≢true}
use Rattle.std.proofs.lemmas.List.{length-map, map_push}
use Rattle.std.proofs.lemmas.List.Elements.{All-push}
use Rattle.std.proofs.lemmas.List.Sorted.{IsPermutation-sym}
use Rattle.lists.specs.Lists.{Each, IsDistinct, has_id}
use Rattle.lists.proofs.Identifiers.{distinct_push}
use Rattle.lists.proofs.OfEach.{each_append}
use Rattle.lists.proofs.Tests.{eq_is, none_or}
use Rattle.ballot_base.specs.declared.config.Config.{Config}
use Rattle.run_history.specs.Parties.{NodeView}
use Rattle.run_history.specs.Log.{events_by, opening_log}
use Rattle.server.specs.declared.opening.OpenedNodes.{OpenedNodes}
use Rattle.server.specs.node_threads.Named.{AreFresh, AreNamed, IsFresh, OpenedView}
use Rattle.server.specs.Inside.{IsIdle}
use Rattle.server.specs.Opening.{AddsNode, AddsOther, AddsServed, first_in, inbox_among}
use Rattle.server.proofs.Namesakes.{below_more, below_same, named_more, named_same}
use Rattle.server.proofs.SameNumbers.{same_numbers}

-- the nodes below this index opened: those that have one of these numbers to serve
pub record OpenedBelow {H : Type 0} (config : Config) (numbers : List ℕ) (index : ℕ) (opened : OpenedNodes H) : Type 0 where
  pub named : AreNamed (inbox_among opened.served.items) (first_in config) opened.served.items
  pub fresh : AreFresh opened.served.items
  pub below : Each (λ (one : OpenedView). one.number < index + 1) opened.served.items
  pub distinct : IsDistinct (map (λ (one : OpenedView). one.number) opened.served.items)
  pub listed : Each (Contains numbers) (map (λ (one : OpenedView). one.number) opened.served.items)
  pub idle : All IsIdle opened.others.items

-- ---- numbers

contains_at : (number first : ℕ) (numbers : List ℕ) (b : Bool) → (number == first) ≡ b → (b || has_id number numbers) ≡ true
    → (has_id number numbers ≡ true → Contains numbers number) → Contains (first ∷ numbers) number
contains_at number first numbers true same any rest = (zero, omega arith, sym (eq_is number first same))
contains_at number first numbers false same any rest =
    let at = rest any in (suc at.0, omega (arith, at.1), at.2)

pub has_contains : (number : ℕ) (numbers : List ℕ) → has_id number numbers ≡ true → Contains numbers number
has_contains number [] any = absurd (false≢true any)
has_contains number (first ∷ numbers) any =
    contains_at number first numbers (number == first) refl any (has_contains number numbers)

other_number : (number other : ℕ) → other < number → (number == other) ≡ false
other_number number other less = grind (arith, less)

-- no node that opened before has this number
none_below : (number : ℕ) (opened : List OpenedView) → Each (λ (one : OpenedView). one.number < number) opened
    → has_id number (map (λ (one : OpenedView). one.number) opened) ≡ false
none_below number [] below = refl
none_below number (one ∷ opened) below =
    none_or _ _ (other_number number one.number below.0) (none_below number opened below.1)

-- ---- nodes

fresh_so : (nodes index : ℕ) (config : Config) (linked : Bool) (one : OpenedView) → one.number ≡ index + 1 → one.node.index ≡ index
    → one.node.log ≡ opening_log nodes config linked → IsFresh one
fresh_so nodes index config linked one number at log = (
  ap (λ (n : ℕ). n + 1) at ∙ sym number,
  ap (events_by one.number) log,
)

idle_so : (nodes : ℕ) (config : Config) (linked : Bool) (node : NodeView) → node.log ≡ opening_log nodes config linked → IsIdle node
idle_so nodes config linked node log = ap (events_by (node.index + 1)) log

adds_served : {H : Type 0} (nodes index : ℕ) (config : Config) (linked : Bool) (numbers : List ℕ) (node : NodeView) (old new : OpenedNodes H)
    → AddsServed (index + 1) node old new → has_id (index + 1) numbers ≡ true
    → node.index ≡ index → node.log ≡ opening_log nodes config linked → node.node ≡ first_in config (index + 1)
    → OpenedBelow config numbers index old → OpenedBelow config numbers (index + 1) new
adds_served nodes index config linked numbers node old new adds listed at log core so =
    let one : OpenedView = record { number = index + 1; inbox = adds.inbox; node = node } in
    let numbers_now : map (λ (opened : OpenedView). opened.number) new.served.items
    ≡ map (λ (opened : OpenedView). opened.number) old.served.items ++ (index + 1) ∷ [] =
    ap (map (λ (opened : OpenedView). opened.number)) adds.served ∙ map_push (λ (opened : OpenedView). opened.number) old.served.items one in record {
      named = named_more config (index + 1) old.served.items new.served.items one adds.served refl core so.below so.named;
      fresh =
          subst AreFresh (sym adds.served)
          (each_append IsFresh old.served.items (one ∷ []) so.fresh (fresh_so nodes index config linked one refl at log, tt));
      below = below_more (index + 1) old.served.items new.served.items one adds.served refl so.below;
      distinct =
          subst IsDistinct (sym numbers_now)
          (distinct_push _ (index + 1) so.distinct (none_below (index + 1) old.served.items so.below));
      listed =
          subst (Each (Contains numbers)) (sym numbers_now)
          (each_append (Contains numbers) _ ((index + 1) ∷ []) so.listed (has_contains (index + 1) numbers listed, tt));
      idle = subst (All IsIdle) (sym adds.others) so.idle;
    }

adds_other : {H : Type 0} (nodes index : ℕ) (config : Config) (linked : Bool) (numbers : List ℕ) (node : NodeView) (old new : OpenedNodes H)
    → AddsOther node old new → node.log ≡ opening_log nodes config linked
    → OpenedBelow config numbers index old → OpenedBelow config numbers (index + 1) new
adds_other nodes index config linked numbers node old new adds log so = record {
  named = named_same config old.served.items new.served.items adds.served so.named;
  fresh = subst AreFresh (sym adds.served) so.fresh;
  below = below_same (index + 1) old.served.items new.served.items adds.served so.below;
  distinct = subst (λ (l : List OpenedView). IsDistinct (map (λ (one : OpenedView). one.number) l)) (sym adds.served) so.distinct;
  listed = subst (λ (l : List OpenedView). Each (Contains numbers) (map (λ (one : OpenedView). one.number) l)) (sym adds.served) so.listed;
  idle =
      subst (All IsIdle) (sym adds.others)
      (All-push IsIdle old.others.items node so.idle (idle_so nodes config linked node log));
}

-- one more node opened
pub adds_one : {H : Type 0} (nodes index : ℕ) (config : Config) (linked : Bool) (numbers : List ℕ) (node : NodeView) (is_served : Bool) (old new : OpenedNodes H)
    → AddsNode (index + 1) node is_served old new → is_served ≡ has_id (index + 1) numbers
    → node.index ≡ index → node.log ≡ opening_log nodes config linked → node.node ≡ first_in config (index + 1)
    → OpenedBelow config numbers index old → OpenedBelow config numbers (index + 1) new
adds_one nodes index config linked numbers node true old new adds is at log core so =
    adds_served nodes index config linked numbers node old new adds (sym is) at log core so
adds_one nodes index config linked numbers node false old new adds is at log core so =
    adds_other nodes index config linked numbers node old new adds log so

-- if as many opened to serve as there are numbers, they have just these numbers
pub all_opened : {H : Type 0} (config : Config) (numbers : List ℕ) (index : ℕ) (opened : OpenedNodes H)
    → OpenedBelow config numbers index opened → length opened.served.items ≡ length numbers
    → IsPermutation numbers (map (λ (one : OpenedView). one.number) opened.served.items)
all_opened config numbers index opened so long =
    IsPermutation-sym _ _
    (same_numbers (map (λ (one : OpenedView). one.number) opened.served.items) numbers so.distinct so.listed
    (length-map opened.served.items (λ (one : OpenedView). one.number) ∙ long))

pub none_opened : {H : Type 0} (config : Config) (numbers : List ℕ) (opened : OpenedNodes H)
    → opened.served.items ≡ [] → opened.others.items ≡ [] → OpenedBelow config numbers 0 opened
none_opened config numbers opened served others = record {
  named = subst (λ (l : List OpenedView). AreNamed (inbox_among l) (first_in config) l) (sym served) tt;
  fresh = subst AreFresh (sym served) tt;
  below = subst (Each (λ (one : OpenedView). one.number < 1)) (sym served) tt;
  distinct = subst (λ (l : List OpenedView). IsDistinct (map (λ (one : OpenedView). one.number) l)) (sym served) tt;
  listed = subst (λ (l : List OpenedView). Each (Contains numbers) (map (λ (one : OpenedView). one.number) l)) (sym served) tt;
  idle = subst (All IsIdle) (sym others) (λ k d less. absurd (omega (arith, less)));
}
