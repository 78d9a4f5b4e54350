-- The steps by which the packets of a chunk are noted.
use Rattle.std.specs.Prelude.{◌≡◌, Bool, true, false, Some, Ok}
use Rattle.std.specs.Option.{option_or}
use Rattle.packet.specs.declared.packet.Packet.{Packet}
use Rattle.cutter.specs.Stream.{Takes}
use Rattle.user_client.specs.Answers.{IsCut, Notes, denial_of}
use Rattle.user_client.specs.declared.answers.Answers.{Answers}

-- the next whole packet was taken and noted, if there was one
abbrev pub NotesNext : Answers → Bool → Answers → Type 0
NotesNext old true new = (packet : Packet)
    × Takes old.unread (Ok (Some packet)) new.unread
    × (new.denial ≡ option_or old.denial (denial_of packet))
NotesNext old false new =
    IsCut new.unread × (new.unread.bytes ≡ old.unread.bytes) × (new.denial ≡ old.denial)

-- all whole packets were
abbrev pub NotesAll : Answers → Answers → Type 0
NotesAll old new = (last : Answers) × Notes old last × NotesNext last false new
