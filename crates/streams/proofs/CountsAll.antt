-- CountsAll.antt: a tap counts all that was handed over by it, and that is all that its node handed
-- over for its port.
use Rattle.std.proofs.Common.{◌≡◌, ℕ, Bool, List, [], ◌++◌, refl, sym, ◌∙◌, ap, subst, inl, inr, arith, length-append}
use Rattle.std.proofs.lemmas.List.{append-nil}
use Rattle.ballot_base.specs.declared.config.Config.{Config}
use Rattle.world_base.specs.declared.node_connections.handed.Handed.{Handed}
use Rattle.node_base.specs.declared.connection.flow.Flow.{Flow}
use Rattle.node_base.specs.declared.connection.flow.Flow.TheVariants as flows
use Rattle.node_base.specs.connection.Life.Lives.{begins, goes_on}
use Rattle.node_base.specs.connection.Written.{HandsAny, HandsSo}
use Rattle.streams.specs.Theorems.{HasAll, TapsCountAll}
use Rattle.streams.specs.Taps.{HandsOut, TapView}
use Rattle.streams.specs.Taps.HandsOut.{hands, refuses}

module _ (linked : Bool) (nodes : ℕ) (config : Config) (first : TapView) where
  -- nothing more
  same_all : (before : TapView) (handed bytes : List ℕ) → HasAll nodes config first before handed → bytes ≡ [] → HasAll nodes config first before (handed ++ bytes)
  same_all before handed bytes has none =
      subst (HasAll nodes config first before) (sym (ap (λ (l : List ℕ). handed ++ l) none ∙ append-nil handed)) has

  -- one more call
  call_all : (before after : TapView) (handed bytes : List ℕ) (answer : Handed) → HasAll nodes config first before handed
      → HandsOut linked nodes config before bytes answer after → HasAll nodes config first after (handed ++ bytes)
  call_all before after handed bytes answer has (hands out) =
      let more = ap (λ (tap : TapView). tap.handed) out.counts in
      let count = has.counted in
      record {
        all = ap (λ (l : List ℕ). l ++ bytes) has.all ∙ sym out.follows;
        counted = omega (arith, count, more, length-append handed bytes);
        port = ap (λ (tap : TapView). tap.port) out.counts ∙ has.port;
        number = ap (λ (tap : TapView). tap.number) out.counts ∙ has.number;
      }
  call_all before _ handed _ _ has refuses = same_all before handed [] has refl

  -- a call, or none
  any_all : (before after : TapView) (handed bytes : List ℕ) → HasAll nodes config first before handed
      → HandsAny (HandsOut linked nodes config) before bytes after → HasAll nodes config first after (handed ++ bytes)
  any_all before after handed bytes has (inl (answer, out)) = call_all before after handed bytes answer has out
  any_all before after handed bytes has (inr (none, same)) =
      subst (λ (tap : TapView). HasAll nodes config first tap (handed ++ bytes)) (sym same) (same_all before handed bytes has none)

  -- one more write
  flow_all : (before after : TapView) (handed bytes : List ℕ) (flow : Flow) → HasAll nodes config first before handed
      → HandsSo (HandsOut linked nodes config) flow before bytes after → HasAll nodes config first after (handed ++ bytes)
  flow_all before after handed bytes flows.Open has out = call_all before after handed bytes _ has out
  flow_all before after handed bytes flows.Closed has out = call_all before after handed bytes _ has out
  flow_all before after handed bytes flows.Blocked has out = any_all before after handed bytes has out
  flow_all before after handed bytes flows.Stopped has out = any_all before after handed bytes has out
  flow_all before after handed bytes flows.Fault has out = any_all before after handed bytes has out

pub counts_all : TapsCountAll
counts_all linked nodes config first start _ _ _ _ none begins = record { all = sym none.1; counted = none.0; port = refl; number = refl }
counts_all linked nodes config first start _ _ _ _ none (goes_on flow after new rest lives write) =
    flow_all linked nodes config first _ after _ write.bytes flow (counts_all linked nodes config first start _ _ _ _ none lives) write.handed
