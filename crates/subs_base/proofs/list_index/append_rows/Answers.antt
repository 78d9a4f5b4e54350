-- The client at the head has its row, or is the one for which there is no memory.
use Rattle.std.proofs.Common.{rules, ◌≡◌, [], ◌∷◌, ◌++◌, ◌∙◌, ap, sym, subst, List, ℕ}
use Rattle.std.specs.BTreeMap.{BTreeMap}
use Rattle.std.specs.Map.{keys_of}
use Rattle.std.specs.List.Sorted.{IsStrictlySortedBy}
use Rattle.std.specs.Cmp.Lexicographic.{slice_cmp}
use Rattle.std.specs.Ordering.{nat_cmp}
use Rattle.std.proofs.Math.Seq.{take-length}
use Rattle.std.proofs.lemmas.Map.Keys.{sorted_tail}
use Rattle.packet_base.specs.declared.qos.QoS.{QoS}
use Rattle.subs_base.specs.ListIndex.{at}
use Rattle.subs_base.specs.Inside.{listed, rows_of, AreOrdered}
use Rattle.subs_base.proofs.ContentAfter.{anyhow_err}
use Rattle.subs_base.proofs.RowsAreGranted.{rest_is_there, head_is_wanted, row_appended, still_front}
use Rattle.subs_base.proofs.list_index.append_rows.Goals as goal

abbrev Entries : Type 0
Entries = List (List ℕ × BTreeMap (List ℕ) QoS)

pub loop-client-init : goal.loop-client-init
loop-client-init c =
    let is : c.into_iter-client-iterator.result ≡ c.args.clients.now.entries = c.into_iter-client-iterator.ensures.into_iter_gives.0 in
    record {
      whole = ap (λ (es : Entries). c.args.rows.now.items ++ rows_of c.args.topic.now (listed es)) is;
      ordered = λ h. subst (λ (es : Entries). AreOrdered (listed es)) is h;
      there = λ client filters found. ap (λ (es : Entries). at client (listed es)) (sym is) ∙ found;
      sorted = search rules;
      front = sym (take-length c.args.rows.now.items);
    }

pub loop-client-preserved-in_ok-push : goal.loop-client-preserved-in_ok-push
loop-client-preserved-in_ok-push c =
    let cut : c.loop-client.client-iterator ≡ (c.in-Some.client.now, c.in-Some.filters.now) ∷ c.next.new.self = search rules in
    record {
      whole =
          row_appended c.args.topic.now c.loop-client.client-iterator c.next.new.self c.in-Some.client.now c.in_ok-clone.field-0 c.in-Some.filters.now
          c.in-Some-greatest.qos c.loop-client.rows.items c.push.new.self.items cut (sym c.greatest.ensures.value ∙ c.in-Some-greatest.is)
          c.in_ok-push.ensures.items c.in_ok-clone.ensures.cases
          ∙ c.loop-client.invariant.whole;
      ordered = search rules;
      there = rest_is_there c.loop-client.client-iterator c.next.new.self c.in-Some.client.now c.in-Some.filters.now
          (listed c.args.clients.now.entries) cut c.loop-client.invariant.sorted c.loop-client.invariant.there;
      sorted = sorted_tail (slice_cmp nat_cmp) c.in-Some.client.now (keys_of c.next.new.self)
          (subst (λ (es : Entries). IsStrictlySortedBy (slice_cmp nat_cmp) (keys_of es)) cut c.loop-client.invariant.sorted);
      front = still_front c.args.rows.now.items c.loop-client.rows.items ((c.in_ok-clone.field-0, c.in-Some-greatest.qos) ∷ []) c.push.new.self.items c.in_ok-push.ensures.items c.loop-client.invariant.front;
    }

pub loop-client-preserved : goal.loop-client-preserved
loop-client-preserved c =
    let cut : c.loop-client.client-iterator ≡ (c.in-Some.client.now, c.in-Some.filters.now) ∷ c.next.new.self = search rules in
    record {
      whole = search rules;
      ordered = search rules;
      there = rest_is_there c.loop-client.client-iterator c.next.new.self c.in-Some.client.now c.in-Some.filters.now
          (listed c.args.clients.now.entries) cut c.loop-client.invariant.sorted c.loop-client.invariant.there;
      sorted = sorted_tail (slice_cmp nat_cmp) c.in-Some.client.now (keys_of c.next.new.self)
          (subst (λ (es : Entries). IsStrictlySortedBy (slice_cmp nat_cmp) (keys_of es)) cut c.loop-client.invariant.sorted);
      front = search rules;
    }

pub returns-in_err-clone-clause-wanted : goal.returns-in_err-clone-clause-wanted
returns-in_err-clone-clause-wanted c =
    let cut : c.loop-client.client-iterator ≡ (c.in-Some.client.now, c.in-Some.filters.now) ∷ c.next.new.self = search rules in
    anyhow_err c.from_residual.result
    (head_is_wanted c.args.topic.now c.loop-client.client-iterator c.next.new.self c.in-Some.client.now c.in-Some.filters.now
    (listed c.args.clients.now.entries) c.in-Some-greatest.qos cut c.loop-client.invariant.there
    c.greatest.ensures.ordered (sym c.greatest.ensures.value ∙ c.in-Some-greatest.is))

pub returns-in_err-push-clause-wanted : goal.returns-in_err-push-clause-wanted
returns-in_err-push-clause-wanted c =
    let cut : c.loop-client.client-iterator ≡ (c.in-Some.client.now, c.in-Some.filters.now) ∷ c.next.new.self = search rules in
    anyhow_err c.from_residual-in_err-push.result
    (head_is_wanted c.args.topic.now c.loop-client.client-iterator c.next.new.self c.in-Some.client.now c.in-Some.filters.now
    (listed c.args.clients.now.entries) c.in-Some-greatest.qos cut c.loop-client.invariant.there
    c.greatest.ensures.ordered (sym c.greatest.ensures.value ∙ c.in-Some-greatest.is))
