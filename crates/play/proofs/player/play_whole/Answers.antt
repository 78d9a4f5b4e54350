use Rattle.std.proofs.Common.{refl}
use Rattle.play.proofs.PlayedToTheEnd.{plays_on}
use Rattle.play.proofs.player.play_whole.Goals as goal

pub returns-clause-played : goal.returns-clause-played
returns-clause-played c =
    plays_on c.end.result _ _ _ _ _ _ _ c.in_ok-play_all.ensures.lines c.end.ensures.line c.end.ensures.whole

pub returns-clause-out_of_memory : goal.returns-clause-out_of_memory
returns-clause-out_of_memory c = λ is.
    (_, (c.end.ensures.losses is, record { last = _; mid = _; all = c.in_ok-play_all.ensures.lines; ends = c.end.ensures.out_of_memory is; are = refl }))
