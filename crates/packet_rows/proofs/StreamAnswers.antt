-- StreamAnswers.antt: what comes of a stream, one packet after another.
use Rattle.std.proofs.Common.{◌≡◌, ◌++◌, ℕ, true, false, not, List, [], ◌∷◌, Some, None, Ok, Err, codes, bytes_eq, append-nil, append_assoc, ap, sym, subst, ◌∙◌}
use Rattle.std.proofs.lemmas.Slice.Eq.{bytes_eq-Decides}
use Rattle.rows.specs.Fields.{Text}
use Rattle.rows.specs.Playing.{Answers}
use Rattle.packet.specs.declared.packet.Packet.{Packet}
use Rattle.packet.specs.declared.error.DecodeFault.{DecodeFault}
use Rattle.cutter.specs.Stream.{Stream, Takes}
use Rattle.cutter.specs.declared.error.CutError.TheVariants as errors
use Rattle.rows.specs.Answers.{counted}
use Rattle.packet_rows.specs.PacketFields.{packet_fields}
use Rattle.packet_rows.specs.StreamSteps.{Adds, Feeds, StreamDoes, TakesAll, fault_answer}

pub take_none : (old new : Stream) (answers : Answers) → Takes old (Ok None) new
    → (true ≡ not new.failed) × Adds answers answers (λ came. TakesAll old came new)
take_none old new answers takes =
    let calm : new.failed ≡ false = ap (λ (s : Stream). s.failed) takes.2 ∙ takes.0 in
    (sym (ap not calm), ([], sym (append-nil answers), TakesAll.none takes))

pub take_fault : (old new : Stream) (fault : DecodeFault) (answers final : Answers) → Takes old (Err (errors.Decode fault)) new
    → final ≡ answers ++ fault_answer fault ∷ []
    → (false ≡ not new.failed) × Adds answers final (λ came. TakesAll old came new)
take_fault old new fault answers final takes added =
    let fails : new.failed ≡ true = ap (λ (s : Stream). s.failed) takes.2 in
    (sym (ap not fails), (fault_answer fault ∷ [], added, TakesAll.fault fault takes))

pub take_more : (old next new : Stream) (packet : Packet) (answers mid final : Answers) → Takes old (Ok (Some packet)) next
    → mid ≡ answers ++ packet_fields packet ∷ [] → Adds mid final (λ came. TakesAll next came new)
    → Adds answers final (λ came. TakesAll old came new)
take_more old next new packet answers mid final takes first others =
    let (came, added, holds) = others in
    (packet_fields packet ∷ came, added ∙ ap (λ (l : Answers). l ++ came) first ∙ append_assoc answers (packet_fields packet ∷ []) came, TakesAll.packet packet takes holds)

pub feed_piece : (old mid new : Stream) (piece : List ℕ) (answers final : Answers)
    → mid ≡ record old { bytes = old.bytes ++ piece } → Adds answers final (λ came. TakesAll mid came new)
    → Adds answers final (λ came. Feeds old piece came new)
feed_piece old mid new piece answers final same taken =
    let (came, added, holds) = taken in
    (came, added, Feeds.piece (subst (λ (s : Stream). TakesAll s came new) same holds))

pub feed_failed : (old new : Stream) (piece : List ℕ) (answers final : Answers) → old.failed ≡ true → new ≡ old
    → final ≡ answers ++ counted (codes "refused") 13 ∷ []
    → (false ≡ not new.failed) × Adds answers final (λ came. Feeds old piece came new)
feed_failed old new piece answers final fails same added =
    let still : new.failed ≡ true = ap (λ (s : Stream). s.failed) same ∙ fails in
    let P : Stream → Type 0 = λ s. Feeds old piece (counted (codes "refused") 13 ∷ []) s in
    (sym (ap not still), (counted (codes "refused") 13 ∷ [], added, subst P (sym same) (Feeds.failed fails)))

pub feed_step : (old new : Stream) (word piece : Text) (answers : Answers) → bytes_eq word (codes "feed") ≡ true
    → Adds [] answers (λ came. Feeds old piece came new) → StreamDoes old (word ∷ piece ∷ []) answers new
feed_step old new word piece answers is fed =
    let (came, added, holds) = fed in
    let same_word : word ≡ codes "feed" = (bytes_eq-Decides word (codes "feed")).0 is in
    (piece, ap (λ (w : Text). w ∷ piece ∷ []) same_word, subst (λ (a : Answers). Feeds old piece a new) (sym added) holds)
