use Rattle.std.proofs.Common.{◌≡◌, ◌∙◌, ap, sym, subst, ◌==◌, Some, None, List}
use Rattle.std.specs.List.{IsDistinct as IsDistinctBy}
use Rattle.std.specs.Map.{lookup}
use Rattle.session_base.specs.Queue.{Flight, Queue, is_pubrec, ids_of}
use Rattle.session.proofs.ReleasedInPlace.{apart}
use Rattle.session.proofs.AnswersToPubrec.{only_one, nothing, pubrec_only}
use Rattle.session.proofs.session_queue.SessionQueue.is_awaited.Goals as goal

pub returns-in-Some-clause-test : goal.returns-in-Some-clause-test
returns-in-Some-clause-test c =
    let same = ap (λ (q : Queue). q.in_flight) c.self.view_is in
    let found : lookup (λ other. c.args.id == other) c.args.self.now.in_flight ≡ Some c.in-Some.awaits.now
    = ap (lookup (λ other. c.args.id == other)) (sym same) ∙ sym c.in-Some.ensures.value in
    let distinct = apart (ids_of c.args.self.now.in_flight) (subst (λ (fs : List Flight). IsDistinctBy (λ i j. i == j) (ids_of fs)) same c.len-length.ensures.unique) in
    c.waits_for_pubrec.ensures ∙ sym (only_one is_pubrec c.args.id c.args.self.now.in_flight c.in-Some.awaits.now distinct found)

pub returns-in-Some-clause-found : goal.returns-in-Some-clause-found
returns-in-Some-clause-found c so =
    let same = ap (λ (q : Queue). q.in_flight) c.self.view_is in
    let found : lookup (λ other. c.args.id == other) c.args.self.now.in_flight ≡ Some c.in-Some.awaits.now
    = ap (lookup (λ other. c.args.id == other)) (sym same) ∙ sym c.in-Some.ensures.value in
    let only = pubrec_only c.in-Some.awaits.now (sym c.waits_for_pubrec.ensures ∙ so) in
    (only.0, found ∙ ap (λ a. Some a) only.1)

pub returns-in-None-clause-test : goal.returns-in-None-clause-test
returns-in-None-clause-test c =
    let same = ap (λ (q : Queue). q.in_flight) c.self.view_is in
    let absent : lookup (λ other. c.args.id == other) c.args.self.now.in_flight ≡ None
    = ap (lookup (λ other. c.args.id == other)) (sym same) ∙ sym c.in-None.ensures.value in
    sym (nothing is_pubrec c.args.id c.args.self.now.in_flight absent)
