use Rattle.std.proofs.Common.{◌≡◌, ◌∙◌, ap, sym, subst, ◌==◌, Some, None, List}
use Rattle.std.specs.List.{IsDistinct as IsDistinctBy}
use Rattle.std.specs.Map.{lookup}
use Rattle.session_base.specs.Queue.{Flight, Queue, is_pubcomp, ids_of}
use Rattle.session.proofs.ReleasedInPlace.{apart}
use Rattle.session.proofs.AnswersToPubrec.{only_one, nothing}
use Rattle.session.proofs.session_queue.SessionQueue.is_released.Goals as goal

pub returns-in-Some : goal.returns-in-Some
returns-in-Some c =
    let same = ap (λ (q : Queue). q.in_flight) c.self.view_is in
    let found : lookup (λ other. c.args.id == other) c.args.self.now.in_flight ≡ Some c.in-Some.awaits.now
    = ap (lookup (λ other. c.args.id == other)) (sym same) ∙ sym c.in-Some.ensures.value in
    let distinct = apart (ids_of c.args.self.now.in_flight) (subst (λ (fs : List Flight). IsDistinctBy (λ i j. i == j) (ids_of fs)) same c.len-length.ensures.unique) in
    c.waits_for_pubcomp.ensures ∙ sym (only_one is_pubcomp c.args.id c.args.self.now.in_flight c.in-Some.awaits.now distinct found)

pub returns-in-None : goal.returns-in-None
returns-in-None c =
    let same = ap (λ (q : Queue). q.in_flight) c.self.view_is in
    let absent : lookup (λ other. c.args.id == other) c.args.self.now.in_flight ≡ None
    = ap (lookup (λ other. c.args.id == other)) (sym same) ∙ sym c.in-None.ensures.value in
    sym (nothing is_pubcomp c.args.id c.args.self.now.in_flight absent)
