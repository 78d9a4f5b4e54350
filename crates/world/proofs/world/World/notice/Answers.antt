use Rattle.std.proofs.Common.{refl}
use Rattle.world.proofs.Joined.{goes_on_rest}
use Rattle.world.proofs.world.World.notice.Goals as goal

pub returns-in_default-clause-goes : goal.returns-in_default-clause-goes
returns-in_default-clause-goes c = goes_on_rest _ _ refl

pub returns-in_default-2-clause-goes : goal.returns-in_default-2-clause-goes
returns-in_default-2-clause-goes c = goes_on_rest _ _ refl
