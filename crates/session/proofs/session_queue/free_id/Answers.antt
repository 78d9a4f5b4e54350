use Rattle.std.proofs.Common.{rules, sym, ◌∙◌, ◌≡◌, ℕ, true, false, List}
use Rattle.std.proofs.lemmas.Map.Made.{is_some-lookup}
use Rattle.lists.specs.Lists.{has_id}
use Rattle.session_base.specs.Queue.{ids_of}
use Rattle.session.proofs.FreeIdentifier.{stop, next}
use Rattle.session.proofs.session_queue.free_id.Goals as goal

pub returns-then-not-contains_key : goal.returns-then-not-contains_key
returns-then-not-contains_key c =
    let busy : List ℕ = ids_of c.args.in_flight.now.entries in
    let absent : has_id c.loop.number busy ≡ false = rw (sym c.new-id.ensures) (sym (is_some-lookup _ c.args.in_flight.now.entries) ∙ sym c.contains_key.ensures ∙ c.if-not-contains_key.true) in
    c.new-id.ensures ∙ sym (stop c.loop.invariant.1.0 c.loop.number busy absent) ∙ c.loop.invariant.1.2

pub loop-preserved : goal.loop-preserved
loop-preserved c =
    let busy : List ℕ = ids_of c.args.in_flight.now.entries in
    let used : has_id c.loop.number busy ≡ true = rw (sym c.new-id.ensures) (sym (is_some-lookup _ c.args.in_flight.now.entries) ∙ sym c.contains_key.ensures ∙ c.if-not-contains_key.false) in
    (search rules, next c.loop.invariant.1.0 c.loop.counter c.loop.number _ busy _ used c.loop.invariant.1.1 (search rules) c.loop.invariant.1.2)
