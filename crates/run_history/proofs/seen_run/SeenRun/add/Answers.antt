use Rattle.std.proofs.Common.{ap, sym, ◌∙◌}
use Rattle.run_history.specs.Rules.{MayAdd}
use Rattle.run_history.specs.ToldEvents.{event_of}
use Rattle.run_history.proofs.Adding.{add_moves, after_seven, first_kept, run_of}
use Rattle.run_history.proofs.seen_run.SeenRun.add.Goals as goal

pub compare_exchange-found-requires : goal.compare_exchange-found-requires
compare_exchange-found-requires g c =
    let w = c.requires.word in
    let offer = c.plain-offer.ensures in
    let pen = c.no_pen-pen.ensures in
    let may : MayAdd g.H.RunNaming.nodes g.H.RunNaming.config g.H.RunNaming.linked c.self.inside.seen.log c.args.count (event_of c.args.told.now) = rw c.self.view_is c.requires.may in (
      ap (λ w. w.tracked) w,
      c.self.invariant.0 ∙ sym (ap (λ w. w.book) w),
      pen.0 ∙ (c.self.invariant.0 ∙ sym (ap (λ w. w.book) w)),
      offer.0,
      rw (ap (λ w. w.key) w, pen.1, offer.1, offer.3) (add_moves g.H.RunNaming.nodes g.H.RunNaming.config g.H.RunNaming.linked c.self.inside.seen.log c.args.count (event_of c.args.told.now) c.self.invariant.1 may),
    )

pub invariant_of-self : goal.invariant_of-self
invariant_of-self g c =
    let added = c.compare_exchange-found.ensures in
    let log = c.compare_exchange-found.new.seen.log in
    let kept = first_kept log (after_seven added) in
    (added.0 ∙ c.self.invariant.0, run_of g.H.RunNaming.linked g.H.RunNaming.nodes g.H.RunNaming.config c.self.inside.seen.log log kept.0 c.self.invariant.1 added.6 kept.1)
