-- When a row agrees, by its kind.
use Rattle.std.specs.Prelude.{List, [], ◌∷◌, codes}
use Rattle.rows.specs.Fields.{Text}
use Rattle.rows.specs.Playing.{Agrees}
use Rattle.rows.specs.declared.line.Line.{Line}
use Rattle.packet_rows.specs.TopicSteps.{TopicDoes}
use Rattle.packet_rows.specs.PacketSteps.{PacketStep}
use Rattle.packet_rows.specs.StreamRuns.{BringSame, StreamAgrees, pieces_of}
use Rattle.packet_rows.specs.declared.topic_steps.Texts.{Texts}
use Rattle.packet_rows.specs.declared.packet_steps.Packets.{Packets}

-- the steps of a row of this kind agree
pub data KindAgrees : Text → List Line → Type 0 where
  -- steps about texts, which change nothing
  topic : (steps : List Line) (texts : Texts)
      → Agrees (λ old step answers new. TopicDoes step answers) texts steps
      → KindAgrees (codes "topic") steps
  -- steps about packets, which change nothing
  packet : (steps : List Line) (packets : Packets)
      → Agrees (λ old step answers new. PacketStep step answers) packets steps
      → KindAgrees (codes "packet") steps
  -- steps of one stream, whose bytes get the same answers in other pieces
  stream : (steps : List Line) → StreamAgrees steps → BringSame (pieces_of steps)
      → KindAgrees (codes "stream") steps

-- the first line of a row has its kind and its name
abbrev pub NamedAgrees : List Text → List Line → Type 0
NamedAgrees [] steps = ⊥
NamedAgrees (kind ∷ []) steps = ⊥
NamedAgrees (kind ∷ name ∷ []) steps = KindAgrees kind steps
NamedAgrees (kind ∷ name ∷ other ∷ others) steps = ⊥

-- a row agrees
abbrev pub RowAgrees : List Line → Type 0
RowAgrees [] = ⊥
RowAgrees (first ∷ steps) = NamedAgrees first.fields steps
