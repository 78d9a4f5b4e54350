-- A client that is new is set at its copy, which equals it.
use Rattle.std.proofs.Common.{ℕ, List, Some, Option, subst, ap}
use Rattle.std.specs.BTreeMap.{BTreeMap, Updates}
use Rattle.std.specs.Cmp.Lexicographic.{slice_cmp}
use Rattle.std.specs.Ordering.{nat_cmp}
use Rattle.packet_base.specs.declared.qos.QoS.{QoS}
use Rattle.subs.specs.Walk.{greatest}
use Rattle.subs.proofs.search.raise.Goals as goal

pub returns : goal.returns
returns c =
    subst
    (λ (w : Option QoS). Updates (slice_cmp nat_cmp) c.args.found.now c.insert.new.self c.args.client.now w)
    (ap (λ o. greatest o (Some c.args.qos)) c.in_default.ensures.value)
    (subst
    (λ (m : BTreeMap (List ℕ) QoS). Updates (slice_cmp nat_cmp) m c.insert.new.self c.args.client.now (Some c.args.qos))
    c.get_mut.follows.holds-at-none
    (subst
    (λ (k : List ℕ). Updates (slice_cmp nat_cmp) c.get_mut.follows.lender-at-none c.insert.new.self k (Some c.args.qos))
    c.in_ok-clone.ensures.cases
    c.in_ok-insert.ensures.updates))
