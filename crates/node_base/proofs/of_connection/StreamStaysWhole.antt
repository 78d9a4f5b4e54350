-- StreamStaysWhole.antt: a stream is whole when it begins, and after each write.
use Rattle.std.proofs.Common.{◌≡◌, ℕ, Option, List, [], ◌++◌, sym, subst}
use Rattle.std.specs.Io.KnownBytes.{IsAtEnd}
use Rattle.node_base.specs.devices.Counted.{CountedView}
use Rattle.world_base.specs.declared.node_connections.handed.Handed.{Handed}
use Rattle.node_base.specs.declared.connection.flow.Flow.{Flow}
use Rattle.node_base.specs.connection.Life.{Lives}
use Rattle.node_base.specs.connection.Life.Lives.{begins, goes_on}
use Rattle.node_base.specs.connection.Whole.{IsWhole}
use Rattle.node_base.specs.connection.Written.{Flows}

-- nothing was handed over, and nothing was written
pub begins_whole :
    {T W : Type 0} (opens : T → Type 0) (hands : T → List ℕ → Handed → T → Type 0) (contents : W → Option (List ℕ))
    (tap : T) (device : W) (counted : CountedView W) (left : List ℕ)
    → opens tap → IsAtEnd (contents device) → counted ≡ record { device = device; faults = 0 } → left ≡ []
    → IsWhole opens hands tap (contents counted.device) left
begins_whole {W = W} opens hands contents tap device counted left opened empty is none =
    subst (λ (c : CountedView W). IsWhole opens hands tap (contents c.device) left) (sym is)
    (subst (λ (l : List ℕ). IsWhole opens hands tap (contents device) l) (sym none) (record {
      first = tap;
      opened = opened;
      start = contents device;
      empty = empty;
      handed = [];
      lives = begins;
    }))

-- one more write
pub stays_whole :
    {T : Type 0} (opens : T → Type 0) (hands : T → List ℕ → Handed → T → Type 0) (flow : Flow)
    (before after : T) (old new : Option (List ℕ)) (left rest : List ℕ)
    → IsWhole opens hands before old left → Flows hands flow before after old new left rest
    → IsWhole opens hands after new rest
stays_whole opens hands flow before after old new left rest whole flows =
    let lives : Lives hands whole.first whole.start before whole.handed old left = whole.lives in
    record {
      first = whole.first;
      opened = whole.opened;
      start = whole.start;
      empty = whole.empty;
      handed = whole.handed ++ flows.bytes;
      lives = goes_on flow after new rest lives flows;
    }
