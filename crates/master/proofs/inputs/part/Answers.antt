use Rattle.std.proofs.Common.{◌+◌, ◌<◌, length, ap, sym, ◌∙◌, arith}
use Rattle.master.proofs.Parting.{Parting, parting_begins, parting_below, parting_out, parting_sent, parting_lost, parting_ends}
use Rattle.master.proofs.inputs.part.Goals as goal
use Rattle.master.proofs.inputs.part.Goals.{then-is_message+then-keep, then-is_message+else-keep, else-is_message}

pub loop-index-init : goal.loop-index-init
loop-index-init g c = parting_begins c.args.effects.now.items c.args.from c.args.sent.now.items c.requires

pub index-requires : goal.index-requires
index-requires g c =
    let below : c.loop-index._index < length c.args.effects.now.items = omega (arith, c.args.effects.now.ok.0, c.len-index-end.ensures, c.loop-index-test.true) in
    let a = parting_below c.loop-index.invariant below in omega (arith, a, c.loop-index.effects.ok.0)

pub loop-index-preserved : goal.loop-index-preserved
loop-index-preserved g c =
    let below : c.loop-index._index < length c.args.effects.now.items = omega (arith, c.args.effects.now.ok.0, c.len-index-end.ensures, c.loop-index-test.true) in
    let goes : Parting c.args.effects.now.items c.args.from (c.loop-index._index + 1) c.if-is_message.effects.items c.if-is_message.at c.args.sent.now.items c.if-is_message.sent.items c.if-is_message.whole =
    elim c.if-is_message.branch [
      | then-is_message+then-keep w ↦
          parting_sent w.remove-effect.result c.index.result.now c.loop-index.invariant c.loop-index.auto._index below w.remove-effect.ensures.value c.index.ensures
          (sym c.is_message.ensures ∙ w.if-is_message.true) (ap (λ v. v.items) w.effects-is ∙ w.remove-effect.ensures.items) w.at-is
          (ap (λ v. v.items) w.sent-is ∙ w.if-keep.ensures.kept) w.whole-is
      | then-is_message+else-keep w ↦
          parting_lost w.remove-effect.result c.index.result.now c.loop-index.invariant c.loop-index.auto._index below w.remove-effect.ensures.value c.index.ensures
          (sym c.is_message.ensures ∙ w.if-is_message.true) (ap (λ v. v.items) w.effects-is ∙ w.remove-effect.ensures.items) w.at-is
          (ap (λ v. v.items) w.sent-is ∙ w.if-keep.ensures.lost) (w.whole-is ∙ w.if-keep.false)
      | else-is_message w ↦
          parting_out c.index.result.now c.loop-index.invariant c.loop-index.auto._index below c.index.ensures
          (sym c.is_message.ensures ∙ w.if-is_message.false) (ap (λ v. v.items) w.effects-is) w.at-is (ap (λ v. v.items) w.sent-is) w.whole-is
    ] in
    goes

pub returns : goal.returns
returns g c =
    parting_ends c.loop-index.invariant (let a = c.loop-index.auto._index-end in let b = c.requires in
    omega (arith, a, b, c.loop-index-test.false, c.args.effects.now.ok.0, c.len-index-end.ensures))
