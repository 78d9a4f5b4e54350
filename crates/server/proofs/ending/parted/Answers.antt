use Rattle.std.proofs.Common.{ap, subst, sym}
use Rattle.std.proofs.lemmas.List.Elements.{All-push}
use Rattle.server.specs.Ended.{EndedView, IsTold}
use Rattle.server.proofs.KeptEnds.{image_more}
use Rattle.server.proofs.ending.parted.Goals as goal

pub loop-one-preserved : goal.loop-one-preserved
loop-one-preserved g c = record {
  nodes =
      image_more (λ (one : EndedView). one.node) c.args.ended.others.items c.loop-one.nodes.items c.push.new.self.items c.loop-one.yielded c.in-Some.one _
      c.in_ok-push.ensures.items (sym (ap (λ (one : EndedView). one.node) c.one.view_is)) c.loop-one.invariant.nodes;
  reports =
      image_more (λ (one : EndedView). one.report) c.args.ended.reports.items c.loop-one.reports.items c.push-in-loop-one.new.self.items c.loop-one.yielded c.in-Some.one _
      c.in_ok-push-2.ensures.items (sym (ap (λ (one : EndedView). one.report) c.one.view_is)) c.loop-one.invariant.reports;
  told = All-push IsTold c.loop-one.yielded c.in-Some.one c.loop-one.invariant.told (subst IsTold c.one.view_is c.one.invariant);
}
