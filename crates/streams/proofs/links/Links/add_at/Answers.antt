use Rattle.std.proofs.Common.{ap, sym, ◌∙◌}
use Rattle.std.specs.Arc.{arc_value}
use Rattle.streams.specs.ListedConnections.{is_lane_idle}
use Rattle.streams.specs.declared.link.Link.{Link}
use Rattle.streams.proofs.BusyAdded.{idle_at, none_at, not_pushed}
use Rattle.streams.proofs.links.Links.add_at.Goals as goal

pub returns-in_default-clause-added : goal.returns-in_default-clause-added
returns-in_default-clause-added g c = λ _. none_at arc_value c.args.idle _ _ (sym c.in_default.ensures)

pub returns-then-has-clause-added : goal.returns-then-has-clause-added
returns-then-has-clause-added g c = λ _.
    idle_at arc_value c.args.idle _ _ c.in-Some.link.now (sym c.in-Some.ensures)
    (ap (λ (link : Link g.row.H.Denot). is_lane_idle c.args.idle link.port) (sym c.deref.ensures) ∙ (sym c.has.ensures ∙ c.if-has.true))

pub returns-in-Ok-clause-left : goal.returns-in-Ok-clause-left
returns-in-Ok-clause-left g c = λ no. not_pushed _ _ _ _ c.push.ensures.items (sym c.is_ok.ensures.value ∙ no)
