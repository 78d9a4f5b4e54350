-- KeepsItsPort.antt: a tap keeps its port, whatever is handed over by it.
use Rattle.std.proofs.Common.{◌≡◌, ℕ, Bool, List, ap, inl, inr, refl}
use Rattle.ballot_base.specs.declared.config.Config.{Config}
use Rattle.node_base.specs.declared.connection.flow.Flow.{Flow}
use Rattle.node_base.specs.declared.connection.flow.Flow.TheVariants as flows
use Rattle.node_base.specs.connection.Written.{HandsAny, HandsSo}
use Rattle.world_base.specs.declared.node_connections.handed.Handed.{Handed}
use Rattle.streams.specs.Taps.{HandsOut, TapView}
use Rattle.streams.specs.Taps.HandsOut.{hands, refuses}

module _ (linked : Bool) (nodes : ℕ) (config : Config) where
  one_call : (before after : TapView) (bytes : List ℕ) (answer : Handed) → HandsOut linked nodes config before bytes answer after → after.port.0 ≡ before.port.0
  one_call before after bytes answer (hands out) = ap (λ (tap : TapView). tap.port.0) out.counts
  one_call before _ _ _ refuses = refl

  any_call : (before after : TapView) (bytes : List ℕ) → HandsAny (HandsOut linked nodes config) before bytes after → after.port.0 ≡ before.port.0
  any_call before after bytes (inl (answer, out)) = one_call before after bytes answer out
  any_call before after bytes (inr (none, same)) = ap (λ (tap : TapView). tap.port.0) same

  pub keeps_its_port : (flow : Flow) (before after : TapView) (bytes : List ℕ)
      → HandsSo (HandsOut linked nodes config) flow before bytes after → after.port.0 ≡ before.port.0
  keeps_its_port flows.Open before after bytes out = one_call before after bytes _ out
  keeps_its_port flows.Closed before after bytes out = one_call before after bytes _ out
  keeps_its_port flows.Blocked before after bytes out = any_call before after bytes out
  keeps_its_port flows.Stopped before after bytes out = any_call before after bytes out
  keeps_its_port flows.Fault before after bytes out = any_call before after bytes out
