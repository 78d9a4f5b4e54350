-- HandedByTap.antt: what the node of a run gave for a tap's port is handed over by the tap, and follows
-- all that it had handed over there.
use Rattle.std.proofs.Common.{◌≡◌, ℕ, ◌+◌, ◌-◌, ◌<◌, ◌≤◌, ◌==◌, ◌&&◌, Bool, true, false, if◌then◌else◌, nat_lt, List, [], ◌∷◌, ◌++◌, Option, Some, None, length, refl, ◌∙◌, ap, sym, subst, inl, inr, arith, length-append}
use Rattle.std.specs.Prelude.{◌^◌, ◌⊎◌, IfSome, min, Result, Ok, Err, OnOk, OnErr}
use Rattle.std.proofs.lemmas.Bool.Decides.{nat_tests}
use mathlib.Core.List.{IsPrefix}
use Rattle.ballot_base.specs.declared.config.Config.{Config}
use Rattle.world_base.specs.declared.node_connections.handed.Handed.{Handed}
use Rattle.world_base.specs.declared.node_connections.port.Port.{Port}
use Rattle.world_base.specs.node_connections.PendingOutput.{handed_after, pending_bytes}
use Rattle.world_base.specs.node_core.PortOutput.{listed_at}
use Rattle.run_history.specs.declared.event.RunEvent.{RunEvent}
use Rattle.run_history.specs.Parties.{HandedOver}
use Rattle.node.specs.Growth.{saturated}
use Rattle.node.specs.HandedBytes.{handed_at}
use Rattle.node.specs.HandedCounts.{count_says, place_says}
use Rattle.node.specs.State.{IsOnRecord, NodeStateView, on_record}
use Rattle.node.specs.declared.handed_counts.HandedCount.{HandedCount}
use Rattle.node.proofs.HandedInRun.{hand_overs_add_up, handed_longer}
use Rattle.node_base.specs.connection.Written.{HandsOver}
use Rattle.streams.specs.Taps.{HandsOut, IsNextTap, TapView, handed_by}
use Rattle.streams.specs.Taps.HandsOut.{hands}

-- ---- what counts say

-- a count that says something says less than 2^62
says_few : (count : HandedCount) (port : Port) (bytes : ℕ) → count_says count port ≡ Some bytes → bytes < 2 ^ 62
says_few count port bytes says = by (nat_lt count.port.0 port.0) ((count.port.0 == port.0) && nat_lt count.bytes (2 ^ 62)) refl says
  where
    by : (b c : Bool) → ((count.port.0 == port.0) && nat_lt count.bytes (2 ^ 62)) ≡ c
        → (if b then Some 0 else (if c then Some count.bytes else None)) ≡ Some bytes → bytes < 2 ^ 62
    by true c is says = let zero : 0 ≡ bytes = cc in omega (arith, zero)
    by false false is says = absurd cc
    by false true is says =
        let same : count.bytes ≡ bytes = cc in
        let few : count.bytes < 2 ^ 62 = grind (arith, nat_tests, is) in
        omega (arith, same, few)

place_few : (count : Option HandedCount) (port : Port) (bytes : ℕ) → place_says count port ≡ Some bytes → bytes < 2 ^ 62
place_few None port bytes says = absurd cc
place_few (Some count) port bytes says = says_few count port bytes says

-- ---- logs

-- of two beginnings of a list of one length both are the same
same_front : (xs ys more rest : List ℕ) → xs ++ more ≡ ys ++ rest → length xs ≡ length ys → xs ≡ ys
same_front [] [] more rest joined long = refl
same_front [] (y ∷ ys) more rest joined long = absurd (omega (arith, long))
same_front (x ∷ xs) [] more rest joined long = absurd (omega (arith, long))
same_front (x ∷ xs) (y ∷ ys) more rest joined long =
    let head : x ≡ y = cc in
    let tail : xs ++ more ≡ ys ++ rest = cc in
    let front = same_front xs ys more rest tail (omega (arith, long)) in
    λ i. head i ∷ front i

-- by two prefixes of one log as many bytes were handed over for a port: then just the same
same_handed : (nodes : ℕ) (config : Config) (index : ℕ) (port : Port) (xs ys log : List RunEvent) → IsPrefix xs log → IsPrefix ys log
    → length (handed_at nodes config index port xs) ≡ length (handed_at nodes config index port ys)
    → handed_at nodes config index port xs ≡ handed_at nodes config index port ys
same_handed nodes config index port xs ys log one other long =
    let first = handed_longer nodes config index port xs log one in
    let second = handed_longer nodes config index port ys log other in
    same_front (handed_at nodes config index port xs) (handed_at nodes config index port ys) first.0 second.0 (first.1 ∙ sym second.1) long

-- ---- the tap

-- the tap has all that its node handed over for its port
pub has_all : (linked : Bool) (nodes : ℕ) (config : Config) (tap : TapView) (node : NodeStateView) (known : List RunEvent)
    → tap.handed ≡ saturated (length (handed_by nodes config tap)) → IsNextTap tap node → IsOnRecord linked nodes config node
    → IsPrefix tap.log known → IsPrefix node.log known
    → handed_by nodes config tap ≡ handed_at nodes config (node.receiver.inbox - 1) tap.port node.log
has_all linked nodes config tap node known counted next on one other =
    let few = place_few _ tap.port tap.handed next.1 in
    let by_node : tap.handed ≡ length (handed_at nodes config (node.receiver.inbox - 1) tap.port node.log) =
    subst (λ (said : Option ℕ). IfSome said (λ (bytes : ℕ). bytes ≡ length (handed_at nodes config (node.receiver.inbox - 1) tap.port node.log))) next.1 (on.handed tap.port) in
    let index : node.receiver.inbox - 1 ≡ tap.number - 1 = ap (λ (n : ℕ). n - 1) next.0 in
    let by_node' : tap.handed ≡ length (handed_at nodes config (tap.number - 1) tap.port node.log) =
    subst (λ (n : ℕ). tap.handed ≡ length (handed_at nodes config n tap.port node.log)) index by_node in
    same_handed nodes config (tap.number - 1) tap.port tap.log node.log known one other (omega (arith, counted, few, by_node'))
    ∙ ap (λ (n : ℕ). handed_at nodes config n tap.port node.log) (sym index)

-- what the node hands over next follows all that the tap has
pub follows_all : (linked : Bool) (nodes : ℕ) (config : Config) (tap : TapView) (node next : NodeStateView) (known : List RunEvent)
    → tap.handed ≡ saturated (length (handed_by nodes config tap)) → IsNextTap tap node → IsOnRecord linked nodes config node
    → IsPrefix tap.log known → IsPrefix node.log known → HandedOver (on_record node) tap.port (on_record next)
    → handed_at nodes config (tap.number - 1) tap.port next.log
    ≡ handed_by nodes config tap ++ pending_bytes (listed_at tap.port node.node.core)
follows_all linked nodes config tap node next known counted is on one other handed =
    let index : node.receiver.inbox - 1 ≡ tap.number - 1 = ap (λ (n : ℕ). n - 1) is.0 in
    let pending = pending_bytes (listed_at tap.port node.node.core) in
    let me : (tap.port.0 == tap.port.0) ≡ true = grind (arith, nat_tests) in
    let adds = hand_overs_add_up nodes config (on_record node) (on_record next) tap.port tap.port on.core handed in
    ap (λ (n : ℕ). handed_at nodes config n tap.port next.log) (sym index)
    ∙ (adds
    ∙ (ap (λ (b : Bool). handed_at nodes config (node.receiver.inbox - 1) tap.port node.log ++ (if b then pending else [])) me
    ∙ ap (λ (l : List ℕ). l ++ pending) (sym (has_all linked nodes config tap node known counted is on one other))))

-- how many bytes the tap counts after that
pub counts_more : (was is count handed : ℕ) (old new more : List ℕ) → new ≡ old ++ more → was ≡ length old → is ≡ length new
    → count ≡ min (handed + (is - was)) (2 ^ 64 - 1) → count ≡ saturated (handed + length more)
counts_more was is count handed old new more bytes first last sum =
    let size : length new ≡ length old + length more = ap length bytes ∙ length-append old more in
    omega (arith, size, first, last, sum)

-- the count is that of all that was handed over
pub still_counted : (all before more : List ℕ) (handed count : ℕ) → all ≡ before ++ more → handed ≡ saturated (length before)
    → count ≡ saturated (handed + length more) → count ≡ saturated (length all)
still_counted all before more handed count is counted now =
    let size : length all ≡ length before + length more = ap length is ∙ length-append before more in
    omega (arith, size, counted, now)

pub handed_by_tap : (linked : Bool) (nodes : ℕ) (config : Config) (before : TapView) (seen : NodeStateView) (answer : Handed) (after : TapView) (old new : List ℕ)
    → IsOnRecord linked nodes config seen → IsNextTap before seen
    → new ≡ old ++ pending_bytes (listed_at before.port seen.node.core)
    → answer ≡ handed_after (listed_at before.port seen.node.core)
    → handed_by nodes config after ≡ handed_by nodes config before ++ pending_bytes (listed_at before.port seen.node.core)
    → after ≡ record before { handed = saturated (before.handed + length (pending_bytes (listed_at before.port seen.node.core))); log = after.log }
    → HandsOver (HandsOut linked nodes config) before answer after old new
handed_by_tap linked nodes config before seen answer after old new on is bytes answers follows counts = record {
  bytes = pending_bytes (listed_at before.port seen.node.core);
  handed = hands (record {
    seen = seen;
    on_record = on;
    named = is.0;
    bytes_are = refl;
    answer_is = answers;
    follows = follows;
    counts = counts;
  });
  is = bytes;
}

-- what was appended to does not get shorter
pub not_shorter : {X : Type 0} (old new more : List X) (was is : ℕ)
    → new ≡ old ++ more → was ≡ length old → is ≡ length new → was ≤ is
not_shorter old new more was is bytes first last =
    let size : length new ≡ length old + length more = ap length bytes ∙ length-append old more in
    omega (arith, size, first, last)

-- a state that is taken on if a call succeeded is kept or taken on
pub stays_or_goes : {S E : Type 0} (old next new : S) (result : Result Handed E)
    → OnOk result (new ≡ next) → OnErr result (new ≡ old) → (new ≡ old) ⊎ (new ≡ next)
stays_or_goes old next new (Ok answer) goes stays = inr goes
stays_or_goes old next new (Err e) goes stays = inl stays
