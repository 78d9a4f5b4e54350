use Rattle.headline.proofs.of_byte_world.SessionsKept.{no_session_is_clean}
use Rattle.headline.proofs.byte_world.kept_theorems.no_session_is_clean.Goals as goal

pub returns : goal.returns
returns c = no_session_is_clean
