-- What the calls that send messages ensure about the list of effects.
use Rattle.std.specs.Prelude.{◌≡◌, Bool, true, List, [], ◌++◌}
use Rattle.ballot_base.specs.declared.message.Effect.{Effect}
use Rattle.ballot_base.specs.Losses.{Thinned}

-- the wanted messages were appended, except some that were lost; none was lost if the send was
-- whole
pub record Sends {C O : Type 0} (old new wanted : List (Effect C O)) (whole : Bool) : Type 0 where
  pub given : List (Effect C O)
  pub appended : new ≡ old ++ given
  pub thinned : Thinned given wanted
  pub exact : whole ≡ true → given ≡ wanted
  -- nothing is lost if nothing is sent
  pub idle : wanted ≡ [] → whole ≡ true
