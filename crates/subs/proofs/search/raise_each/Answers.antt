-- The client at the head was raised.
use Rattle.std.proofs.Common.{rules, ◌≡◌, ◌∷◌, ◌∙◌, sym, ap, subst, ℕ, List}
use Rattle.std.specs.BTreeMap.{get, is_at}
use Rattle.std.specs.Map.{lookup, keys_of}
use Rattle.std.specs.List.Sorted.{IsStrictlySortedBy}
use Rattle.std.specs.Cmp.Lexicographic.{slice_cmp}
use Rattle.std.specs.Ordering.{nat_cmp}
use Rattle.std.proofs.lemmas.Map.Keys.{sorted_tail}
use Rattle.packet_base.specs.declared.qos.QoS.{QoS}
use Rattle.subs_base.proofs.RowsAreGranted.{later, first}
use Rattle.subs.specs.Walk.{greatest}
use Rattle.subs.proofs.ContentOfTree.{anyhow}
use Rattle.subs.proofs.Raising.{raised_first}
use Rattle.subs.proofs.search.raise_each.Goals as goal

pub loop-client-preserved : goal.loop-client-preserved
loop-client-preserved c =
    let cut : c.loop-client.client-iterator ≡ (c.in-Some.client.now, c.in-Some.qos.now) ∷ c.next.new.self = search rules in
    let sorted = subst (λ (es : List (List ℕ × QoS)). IsStrictlySortedBy (slice_cmp nat_cmp) (keys_of es)) cut c.loop-client.invariant.sorted in
    record {
      whole = λ k.
          raised_first c.loop-client.found c.raise.new.found c.in-Some.client.now c.in-Some.qos.now c.next.new.self sorted c.in_ok-raise.ensures k
          ∙ ap (λ es. greatest (get (slice_cmp nat_cmp) c.loop-client.found k) (lookup (is_at (slice_cmp nat_cmp k)) es)) (sym cut)
          ∙ c.loop-client.invariant.whole k;
      there = λ k qos found.
          c.loop-client.invariant.there k qos
          (ap (lookup (is_at (slice_cmp nat_cmp k))) cut ∙ later k (c.in-Some.client.now, c.in-Some.qos.now) c.next.new.self qos sorted found);
      sorted = sorted_tail (slice_cmp nat_cmp) c.in-Some.client.now (keys_of c.next.new.self) sorted;
    }

-- the client at the head is given something
pub returns-in_err-raise-clause-some : goal.returns-in_err-raise-clause-some
returns-in_err-raise-clause-some c =
    let cut : c.loop-client.client-iterator ≡ (c.in-Some.client.now, c.in-Some.qos.now) ∷ c.next.new.self = search rules in
    anyhow c.from_residual.result (
      c.in-Some.client.now,
      c.in-Some.qos.now,
      c.loop-client.invariant.there c.in-Some.client.now c.in-Some.qos.now
          (ap (lookup (is_at (slice_cmp nat_cmp c.in-Some.client.now))) cut ∙ first (c.in-Some.client.now, c.in-Some.qos.now) c.next.new.self),
    )
