-- What was decoded at the front is taken from it.
use Rattle.std.proofs.Common.{◌≡◌, ℕ, Bool, false, List, ◌++◌, take, drop, Some, Ok, sym, ◌∙◌, ap, subst}
use Rattle.std.proofs.lemmas.List.{take-append-drop}
use Rattle.packet.specs.Verdict.{Decodes, IsSpelledSo}
use Rattle.packet.specs.declared.packet.Packet.{Packet}
use Rattle.packet.specs.declared.decoder.Step.{Step}
use Rattle.packet.specs.declared.decoder.Step.TheVariants as steps
use Rattle.cutter.specs.Stream.{Takes}

taken-whole : (held rest : List ℕ) (failed : Bool) (packet : Packet) (len : ℕ) → failed ≡ false
    → Decodes held (Ok (steps.Whole packet len)) → IsSpelledSo held (steps.Whole packet len) → rest ≡ drop len held
    → Takes (record { bytes = held; failed = failed }) (Ok (Some packet)) (record { bytes = rest; failed = failed })
taken-whole held rest failed packet len unbroken exact spelled is =
    let parts : held ≡ take len held ++ rest = sym (take-append-drop len held) ∙ ap (λ (z : List ℕ). take len held ++ z) (sym is) in
    (unbroken, exact ∙ ap (λ (z : List ℕ). Ok (packet, z)) (sym is), (take len held, spelled.0, spelled.1, parts), unbroken)

pub taken : (held bytes rest : List ℕ) (failed : Bool) (step : Step) (packet : Packet) (len : ℕ) → step ≡ steps.Whole packet len → bytes ≡ held → failed ≡ false
    → Decodes bytes (Ok step) → IsSpelledSo bytes step → rest ≡ drop len held
    → Takes (record { bytes = held; failed = failed }) (Ok (Some packet)) (record { bytes = rest; failed = failed })
taken held bytes rest failed step packet len is same unbroken exact spelled left =
    taken-whole held rest failed packet len unbroken
    (subst (λ (z : List ℕ). Decodes z (Ok (steps.Whole packet len))) same (subst (λ (s : Step). Decodes bytes (Ok s)) is exact))
    (subst (λ (z : List ℕ). IsSpelledSo z (steps.Whole packet len)) same (subst (λ (s : Step). IsSpelledSo bytes s) is spelled)) left
