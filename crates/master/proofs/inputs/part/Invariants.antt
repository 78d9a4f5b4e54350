use Rattle.master.proofs.Parting.{Parting}
use Rattle.master.proofs.inputs.part.Given as goal

abbrev pub invariant-loop-index : goal.invariant-loop-index
invariant-loop-index g l =
    Parting l.initial.effects.items l.initial.from l._index l.effects.items l.at l.initial.sent.items l.sent.items l.whole
