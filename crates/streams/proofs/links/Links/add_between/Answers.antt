use Rattle.std.proofs.Common.{◌-◌, ◌+◌, ◌++◌, map, refl, sym, ◌∙◌, ap, arith, append-nil}
use Rattle.std.specs.Arc.{arc_value}
use Rattle.std.proofs.lemmas.Bool.{false≢true}
use Rattle.streams.proofs.BusyAdded.{adds_at, adds_join, adds_none, adds_wider, between_more, between_none}
use Rattle.streams.proofs.links.Links.add_between.Goals as goal
use Rattle.streams.proofs.links.Links.add_between.Goals.{then-add_at, else-add_at}

pub loop-index-init : goal.loop-index-init
loop-index-init g c = record {
  all = λ _.
      sym (ap (λ links. map arc_value c.args.busy.now.items ++ links)
      (between_none arc_value c.args.idle c.args.self.now.slots c.args.first)
      ∙ append-nil (map arc_value c.args.busy.now.items));
  adds = adds_none _ _ _ _ refl;
}

pub loop-index-preserved : goal.loop-index-preserved
loop-index-preserved g c = record {
  all = elim c.if-add_at.branch [
    | then-add_at w ↦ λ had.
        between_more arc_value c.args.idle c.args.self.now.slots c.args.first c.loop-index.index _ _ _ (omega arith)
        (c.loop-index.invariant.all (sym w.all-is ∙ had)) (c.add_at.ensures.added w.if-add_at.true)
    | else-add_at w ↦ λ had. absurd (false≢true (sym (w.all-is ∙ w.if-add_at.false) ∙ had))
  ];
  adds =
      adds_join c.args.idle (c.loop-index.index - c.args.first) 1 (c.loop-index.index + 1 - c.args.first) _ _ _
      c.loop-index.invariant.adds
      (adds_at arc_value c.args.idle _ _ c.add_at.result _ c.add_at.ensures.added
      (λ no. ap (map arc_value) (c.add_at.ensures.left no)))
      (omega arith);
}

pub returns-clause-adds : goal.returns-clause-adds
returns-clause-adds g c =
    adds_wider c.args.idle (c.loop-index.index - c.args.first) (c.args.end - c.args.first) _ _ c.loop-index.invariant.adds
    (omega arith)
