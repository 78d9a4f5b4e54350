use Rattle.std.proofs.Common.{◌≡◌, ◌∙◌, ap, ap₂, sym, subst, arith, Some, None, ◌==◌, List, length}
use Rattle.std.specs.Prelude.{position}
use Rattle.std.specs.List.{IsDistinct as IsDistinctBy}
use Rattle.std.specs.Map.{keys_of}
use Rattle.indexmap.specs.IndexMap.{move_index}
use Rattle.session_base.specs.Queue.{Flight, Queue, ids_of}
use Rattle.session.specs.Inside.{with_released}
use Rattle.session.proofs.ReleasedInPlace.{few_released, never_missing, released_in_place, apart}
use Rattle.session.proofs.session_queue.SessionQueue.release.Goals as goal

pub move_index-requires-clause-to_in_bounds : goal.move_index-requires-clause-to_in_bounds
move_index-requires-clause-to_in_bounds c =
    let few = few_released c.args.id c.args.self.now.in_flight c.requires.awaited in
    let same : length c.self.inside.in_flight.entries ≡ length c.args.self.now.in_flight = ap (λ (q : Queue). length q.in_flight) c.self.view_is in
    let many : length c.mark_released.new.in_flight.entries ≡ length c.self.inside.in_flight.entries = c.mark_released.ensures.len in
    omega (arith, few, same, many, c.released_count-after.ensures)

pub returns-in-Some : goal.returns-in-Some
returns-in-Some c =
    let same : c.self.inside.in_flight.entries ≡ c.args.self.now.in_flight = ap (λ (q : Queue). q.in_flight) c.self.view_is in
    let distinct = apart (ids_of c.args.self.now.in_flight) (subst (λ (fs : List Flight). IsDistinctBy (λ i j. i == j) (ids_of fs)) same c.get_index_of.ensures.unique) in
    let at : position (λ k. c.args.id == k) (keys_of c.args.self.now.in_flight) ≡ Some c.in-Some.index
    = ap (λ (fs : List Flight). position (λ k. c.args.id == k) (keys_of fs)) (sym same) ∙ sym c.get_index_of.ensures.index ∙ c.in-Some.is in
    ap₂ (λ fs ms. record { in_flight = fs; waiting = ms })
    (c.move_index.ensures.entries
    ∙ ap₂ (λ fs n. move_index fs c.in-Some.index n) (c.mark_released.ensures.entries ∙ ap (with_released c.args.id) same) c.released_count-after.ensures
    ∙ released_in_place c.args.id c.args.self.now.in_flight c.in-Some.index distinct c.requires.first c.requires.awaited at)
    (ap (λ (q : Queue). q.waiting) c.self.view_is)

pub returns-in_default : goal.returns-in_default
returns-in_default c =
    let same : c.self.inside.in_flight.entries ≡ c.args.self.now.in_flight = ap (λ (q : Queue). q.in_flight) c.self.view_is in
    let none : position (λ k. c.args.id == k) (keys_of c.args.self.now.in_flight) ≡ None
    = ap (λ (fs : List Flight). position (λ k. c.args.id == k) (keys_of fs)) (sym same) ∙ sym c.get_index_of.ensures.index ∙ c.in_default.is in
    absurd (never_missing c.args.id c.args.self.now.in_flight c.requires.awaited none)
