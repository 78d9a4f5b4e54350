-- When a row about a stream agrees: in the pieces in which it is written, and in others.
use Rattle.std.specs.Prelude.{◌≡◌, ◌≤◌, ℕ, true, false, List, [], ◌∷◌, ◌++◌, length, take, drop, codes, bytes_eq, if◌then◌else◌}
use Rattle.rows.specs.Fields.{Text}
use Rattle.rows.specs.Playing.{Answers, Agrees, are_equal}
use Rattle.rows.specs.declared.line.Line.{Line}
use Rattle.cutter.specs.Stream.{Stream}
use Rattle.packet_rows.specs.StreamSteps.{Feeds, StreamDoes}
use Rattle.packet_rows.specs.declared.stream_steps.Pieces.{Pieces}

-- a stream that begins
abbrev pub fresh : Stream
fresh = record { bytes = []; failed = false }

-- a step of a row
abbrev pub StepDoes : Pieces → List Text → Answers → Pieces → Type 0
StepDoes old step answers new = StreamDoes old.cutter step answers new.cutter

-- the steps agree, in the pieces in which they are written
abbrev pub StreamAgrees : List Line → Type 0
StreamAgrees steps = Agrees StepDoes (record { cutter = fresh }) steps

-- pieces that come one after another, up to the first fault, their answers, and the stream then
pub data FeedsAll : Stream → List (List ℕ) → Answers → Stream → Type 0 where
  -- no piece is left
  none : (now : Stream) → FeedsAll now [] [] now
  -- a piece after which the stream goes on, and those after it
  goes_on : {old next new : Stream} {piece : List ℕ} {pieces : List (List ℕ)}
      {came answers : Answers} → Feeds old piece came next → next.failed ≡ false
      → FeedsAll next pieces answers new → FeedsAll old (piece ∷ pieces) (came ++ answers) new
  -- a piece after which it has failed
  fails : {old new : Stream} {piece : List ℕ} (pieces : List (List ℕ)) {came : Answers}
      → Feeds old piece came new → new.failed ≡ true → FeedsAll old (piece ∷ pieces) came new

-- the answers that pieces get from the begin of a stream
abbrev pub Brings : List (List ℕ) → Answers → Type 0
Brings pieces answers = (end : Stream) × FeedsAll fresh pieces answers end

-- they get these answers, compared field by field
abbrev pub BringsSame : Answers → List (List ℕ) → Type 0
BringsSame wanted pieces =
    (answers : Answers) × Brings pieces answers × (are_equal answers wanted ≡ true)

-- the piece that a line feeds; an answer feeds none
abbrev pub piece_of : List Text → List (List ℕ)
piece_of [] = []
piece_of (word ∷ []) = []
piece_of (word ∷ piece ∷ []) = if bytes_eq word (codes "feed") then piece ∷ [] else []
piece_of (word ∷ piece ∷ other ∷ others) = []

-- the pieces that lines feed
abbrev pub pieces_of : List Line → List (List ℕ)
pieces_of [] = []
pieces_of (line ∷ lines) = piece_of line.fields ++ pieces_of lines

-- the bytes of pieces
abbrev pub joined : List (List ℕ) → List ℕ
joined [] = []
joined (piece ∷ pieces) = piece ++ joined pieces

-- bytes cut in two at an index
abbrev pub cut_at : ℕ → List ℕ → List (List ℕ)
cut_at at bytes = take at bytes ∷ drop at bytes ∷ []

-- each byte a piece
abbrev pub bytewise : List ℕ → List (List ℕ)
bytewise [] = []
bytewise (byte ∷ bytes) = (byte ∷ []) ∷ bytewise bytes

-- bytes get these answers, cut in two at every byte
abbrev pub BringSameCut : Answers → List ℕ → Type 0
BringSameCut wanted bytes =
    (at : ℕ) → at ≤ length bytes → BringsSame wanted (cut_at at bytes)

-- the bytes of these pieces get the answers of the pieces, cut in two at every byte and byte by
-- byte
abbrev pub BringSame : List (List ℕ) → Type 0
BringSame pieces = (wanted : Answers) × Brings pieces wanted × BringSameCut wanted (joined pieces)
    × BringsSame wanted (bytewise (joined pieces))
