-- KindAnswers.antt: a row of a kind, by its word.
use Rattle.std.proofs.Common.{◌≡◌, true, List, codes, bytes_eq, sym, subst}
use Rattle.std.proofs.lemmas.Slice.Eq.{bytes_eq-Decides}
use Rattle.rows.specs.Fields.{Text}
use Rattle.rows.specs.Playing.{Agrees}
use Rattle.rows.specs.declared.line.Line.{Line}
use Rattle.packet_rows.specs.Kinds.{KindAgrees}
use Rattle.packet_rows.specs.TopicSteps.{TopicDoes}
use Rattle.packet_rows.specs.PacketSteps.{PacketStep}
use Rattle.packet_rows.specs.StreamRuns.{BringSame, StreamAgrees, pieces_of}
use Rattle.packet_rows.specs.declared.topic_steps.Texts.{Texts}
use Rattle.packet_rows.specs.declared.packet_steps.Packets.{Packets}

of_kind : (kind word : Text) (steps : List Line) → bytes_eq kind word ≡ true → KindAgrees word steps → KindAgrees kind steps
of_kind kind word steps is agrees =
    subst (λ (k : Text). KindAgrees k steps) (sym ((bytes_eq-Decides kind word).0 is)) agrees

pub topic_kind : (kind : Text) (steps : List Line) (texts : Texts) → bytes_eq kind (codes "topic") ≡ true
    → Agrees (λ old step answers new. TopicDoes step answers) texts steps → KindAgrees kind steps
topic_kind kind steps texts is agrees = of_kind kind (codes "topic") steps is (KindAgrees.topic steps texts agrees)

pub packet_kind : (kind : Text) (steps : List Line) (packets : Packets) → bytes_eq kind (codes "packet") ≡ true
    → Agrees (λ old step answers new. PacketStep step answers) packets steps → KindAgrees kind steps
packet_kind kind steps packets is agrees = of_kind kind (codes "packet") steps is (KindAgrees.packet steps packets agrees)

pub stream_kind : (kind : Text) (steps : List Line) → bytes_eq kind (codes "stream") ≡ true → StreamAgrees steps
    → BringSame (pieces_of steps) → KindAgrees kind steps
stream_kind kind steps is agrees same = of_kind kind (codes "stream") steps is (KindAgrees.stream steps agrees same)
