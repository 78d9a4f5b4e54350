-- NamesSpent.antt: the names of a ballot, and an Open past the last of them.
use Rattle.std.proofs.Common.{◌≡◌, inl, inr, ◌<◌, ◌≤◌, ◌^◌, ◌-◌, ◌+◌, ◌==◌, ◌&&◌, nat_lt, nat_le, not, if◌then◌else◌, ℕ, Bool, true, false, List, Some, refl, ap, ◌∙◌, subst, arith}
use Rattle.std.specs.Prelude.{Ok}
use Rattle.std.proofs.lemmas.Bool.{eq-eqb, lt-ltb, le-leb, ne_eqb}
use Rattle.broker_spec.specs.Connection.{ConnectionName, is_connection_name}
use Rattle.world_base.specs.node_core.Core.{CountedCore}
use Rattle.world_base.specs.node_core.Step.{accepted}
use Rattle.world_nodes.specs.RunningNodes.{numbered_node}
use Rattle.world_pipes.specs.declared.events.event.Event.TheVariants as events
use Rattle.world.specs.Opening.{OpensUnless, has_no_name_left}
use Rattle.world.specs.Events.{EventHappens}
use Rattle.world.specs.World.{WorldState}

both_but : (b : Bool) → (b && false) ≡ false
both_but true = refl
both_but false = refl

spent : (core : CountedCore) → core.core.last_name ≡ record { ballot = core.core.replica.state.joined; count = 2 ^ 40 } → has_no_name_left (Some core) ≡ true
spent core last =
    let joined = core.core.replica.state.joined in
    let count : accepted core.core ≡ 2 ^ 40 =
    ap (λ (n : ConnectionName). if n.ballot == joined then n.count else 0) last ∙ ap (λ (b : Bool). if b then 2 ^ 40 else 0) (eq-eqb joined joined refl) in
    ap (λ (k : ℕ). not (is_connection_name (record { ballot = joined; count = k + 1 }))) count
    ∙ ap not (both_but (nat_lt 0 joined && nat_le joined (2 ^ 32)))

pub opens_past : (name : List ℕ) (node : ℕ) (core : CountedCore) (old new : WorldState) → numbered_node old.nodes.nodes node ≡ Some core
    → core.core.last_name ≡ record { ballot = core.core.replica.state.joined; count = 2 ^ 40 } → old.nodes.losses < 2 ^ 64 - 1
    → EventHappens (events.Open name node) old (Ok tt) new → new ≡ old
opens_past name node core old new there last low (inl exactly) =
    subst (λ (full : Bool). OpensUnless full true name node old new) (ap has_no_name_left there ∙ spent core last) exactly.does
opens_past name node core old new there last low (inr loses) = absurd (loses.takes_memory (ap has_no_name_left there ∙ spent core last) low)

-- all four hold
all_hold : (a b c d : Bool) → a ≡ true → b ≡ true → c ≡ true → d ≡ true → not ((a && b) && (c && d)) ≡ false
all_hold a b c d ea eb ec ed = rw (ea, eb, ec, ed) refl

name_left : (ballot k : ℕ) → 0 < ballot → ballot ≤ 2 ^ 32 → k < 2 ^ 40 → not (is_connection_name (record { ballot = ballot; count = k + 1 })) ≡ false
name_left ballot k positive high below =
    all_hold (nat_lt 0 ballot) (nat_le ballot (2 ^ 32)) (nat_lt 0 (k + 1)) (nat_le (k + 1) (2 ^ 40))
    (lt-ltb 0 ballot positive) (le-leb ballot (2 ^ 32) high)
    (lt-ltb 0 (k + 1) (let e : 0 < k + 1 = omega arith in e)) (le-leb (k + 1) (2 ^ 40) (let e : k + 1 ≤ 2 ^ 40 = omega (arith, below) in e))

pub room_before : (core : CountedCore) → 0 < core.core.replica.state.joined → core.core.replica.state.joined ≤ 2 ^ 32 → core.core.last_name.count < 2 ^ 40 → has_no_name_left (Some core) ≡ false
room_before core positive high few = by (core.core.last_name.ballot == core.core.replica.state.joined)
  where
    by : (b : Bool) → not (is_connection_name (record { ballot = core.core.replica.state.joined; count = (if b then core.core.last_name.count else 0) + 1 })) ≡ false
    by true = name_left core.core.replica.state.joined core.core.last_name.count positive high few
    by false = name_left core.core.replica.state.joined 0 positive high (let e : 0 < 2 ^ 40 = omega arith in e)

-- a node that gave no name in its ballot has one left
pub first_is_left : (core : CountedCore) → core.core.replica.state.joined ≤ 2 ^ 32 → core.core.last_name.ballot < core.core.replica.state.joined → has_no_name_left (Some core) ≡ false
first_is_left core high low =
    ap (λ (b : Bool). not (is_connection_name (record { ballot = core.core.replica.state.joined; count = (if b then core.core.last_name.count else 0) + 1 })))
    (ne_eqb core.core.last_name.ballot core.core.replica.state.joined (λ e. omega (arith, e, low)))
    ∙ name_left core.core.replica.state.joined 0 (let e : 0 < core.core.replica.state.joined = omega (arith, low) in e) high (let e : 0 < 2 ^ 40 = omega arith in e)
