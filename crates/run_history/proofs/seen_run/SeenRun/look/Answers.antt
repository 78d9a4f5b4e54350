use Rattle.std.proofs.Common.{ap, sym, ◌∙◌}
use Rattle.run_history.proofs.Adding.{after_nib, after_six, first_kept, look_moves, run_of}
use Rattle.run_history.proofs.seen_run.SeenRun.look.Goals as goal

pub load-requires : goal.load-requires
load-requires g c =
    let w = c.requires.word in
    let offer = c.plain-offer.ensures in (
      ap (λ w. w.tracked) w,
      c.self.invariant.0 ∙ sym (ap (λ w. w.book) w),
      offer.0,
      rw offer.3 (look_moves g.H.RunNaming.nodes g.H.RunNaming.config g.H.RunNaming.linked c.self.inside.seen.log c.args.word.now.key c.self.invariant.1 c.requires.party),
    )

pub invariant_of-self : goal.invariant_of-self
invariant_of-self g c =
    let looked = c.load.ensures in
    let log = c.load.new.seen.log in
    let kept = first_kept log (after_nib (after_six looked)) in
    (looked.0 ∙ c.self.invariant.0, run_of g.H.RunNaming.linked g.H.RunNaming.nodes g.H.RunNaming.config c.self.inside.seen.log log kept.0 c.self.invariant.1 looked.5 kept.1)
