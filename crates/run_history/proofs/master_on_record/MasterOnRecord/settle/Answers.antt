use Rattle.std.proofs.Common.{◌≡◌, List, ap, sym, ◌∙◌, subst}
use mathlib.Core.List.{IsPrefix}
use Rattle.logbook.specs.Pages.{Named}
use Rattle.ballot_base.specs.StepOutcome.{master}
use Rattle.run_history.specs.declared.event.RunEvent.{RunEvent}
use Rattle.run_history.specs.Log.{events_by}
use Rattle.run_history.specs.Masters.{MasterView}
use Rattle.run_history.proofs.Settling.{master_settled}
use Rattle.run_history.proofs.master_on_record.MasterOnRecord.settle.Goals as goal

pub returns : goal.returns
returns g c =
    let me = c.self.inside in
    let mark = c.args.mark.now in
    let later = c.look-count.new.self in
    let begins : IsPrefix me.seen mark = subst (λ (s : MasterView). IsPrefix s.log mark) (sym c.self.view_is) c.requires in
    let after : IsPrefix mark later = subst (λ (l : List RunEvent). IsPrefix l later) c.again-later.ensures c.look-count.ensures.seen in
    let count : events_by master later ≡ me.count = subst (λ k. events_by k later ≡ me.count) (ap (λ (w : Named). w.key) c.self.invariant.0) (c.look-count.ensures.count ∙ c.wait_unless_equal.ensures) in
    rw (← c.self.view_is) (master_settled g.H.RunNaming.config me.seen mark later me.state me.count c.self.invariant.1 begins after count)
