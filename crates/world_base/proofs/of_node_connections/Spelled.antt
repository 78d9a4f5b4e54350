-- Spelled.antt: what `encode` appends are the bytes of the packet.
use Rattle.std.proofs.Common.{◌≡◌, ℕ, true, List, ◌++◌, Result, Ok, Err, ap, ◌∙◌}
use Rattle.std.specs.Prelude.{OnOk}
use Rattle.std.specs.Result.{is_ok}
use Rattle.packet.specs.declared.packet.Packet.{Packet}
use Rattle.packet.specs.Spelling.{IsPacket, AppendsSpelling, spelling}
use Rattle.packet.specs.Theorems.{SpellingSpells}

-- what holds on success holds for an answer that is one
pub when_ok : {A E : Type 0} (P : Type 0) (r : Result A E) → OnOk r P → is_ok r ≡ true → P
when_ok P (Ok a) holds is = holds
when_ok P (Err e) holds is = cc

pub appends_spelling : SpellingSpells → (p : Packet) (old new : List ℕ) → IsPacket p → AppendsSpelling old new p →
    new ≡ old ++ spelling p
appends_spelling law p old new fits appended =
    appended.2 ∙ ap (λ (l : List ℕ). old ++ l) ((law p fits).1 appended.0 appended.1)
