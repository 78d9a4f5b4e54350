-- What is written for a played script.
use Rattle.std.specs.Prelude.{◌≡◌, ℕ, List, [], Option, Some, None, IfNone, IfSome}
use Rattle.std.specs.Io.KnownBytes.{Appends}
use Rattle.command_line.specs.declared.job.Escape.{Escape}
use Rattle.command_line.specs.declared.job.Play.{Play}
use Rattle.play.specs.Transcripts.{Plays}
use Rattle.play.specs.Recoveries.{TellsRecovery}
use Rattle.script.specs.Orders.{AreNumbers}

-- the text's transcript was written, from a world in which this many events lost something
pub record Prints (text : List ℕ) (old new : Option (List ℕ)) (losses : ℕ) : Type 0 where
  pub transcript : List ℕ
  pub played : Plays text [] transcript losses
  pub written : Appends old new transcript

-- the lines of a recovery were written
pub record PrintsRecovery (text members : List ℕ) (client : List ℕ) (old new : Option (List ℕ))
    : Type 0 where
  pub way : List ℕ
  pub printed : TellsRecovery text members client [] way
  pub written : Appends old new way

-- the recovery was written for the members and the client that the words name
abbrev pub PrintsRecoveryOf : Escape → List ℕ → Option (List ℕ) → Option (List ℕ) → Type 0
PrintsRecoveryOf job text old new = (members : List ℕ)
    × AreNumbers job.members.now members × PrintsRecovery text members job.client.now old new

-- the transcript was written, or the recovery if the words ask for one
abbrev pub PrintsPlayed : Option Escape → List ℕ → Option (List ℕ) → Option (List ℕ) → Type 0
PrintsPlayed None text old new = Prints text old new 0
PrintsPlayed (Some job) text old new = PrintsRecoveryOf job text old new

-- the text is that of the input, where that is known, unless the words name a file
abbrev pub IsScriptText : Play → Option (List ℕ) → List ℕ → Type 0
IsScriptText job input text = IfNone job.script (IfSome input (λ rest. text ≡ rest))

-- what the words of `play` ask for was written
abbrev pub PlaysScript : Play → Option (List ℕ) → Option (List ℕ) → Option (List ℕ) → Type 0
PlaysScript job input old new =
    (text : List ℕ) × IsScriptText job input text × PrintsPlayed job.escape text old new
