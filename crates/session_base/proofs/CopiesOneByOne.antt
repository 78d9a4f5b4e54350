-- Copies that come one by one lead to the same queue as one fill after all of them.
use Rattle.std.proofs.Common.{◌≡◌, ℕ, ◌≤◌, Bool, true, false, inl, inr, nat_lt, if◌then◌else◌, List, [], ◌∷◌, ◌++◌, length, filter, refl, ap, ◌∙◌, sym, arith}
use Rattle.std.proofs.lemmas.List.{append_assoc, append-nil}
use Rattle.session_base.specs.declared.publication.Publication.{Publication}
use Rattle.session_base.specs.Publication.{is_answered}
use Rattle.session_base.specs.Queue.{Flight, started_flight, fill}
use Rattle.session_base.specs.Copies.{copies_left}
use Rattle.session_base.specs.Theorems.{IsFilledQueue, CopiesAreOneFill}
use Rattle.session_base.proofs.FillsOfQueues as fills

shut : (k w : ℕ) → w ≤ k → nat_lt k w ≡ false
shut k w h = grind arith

-- a filled queue stays in a fill
pub fill_quiet : (w : ℕ) (fs : List Flight) (ps : List Publication) → IsFilledQueue w fs ps → fill w fs ps ≡ record { in_flight = fs; waiting = ps }
fill_quiet w fs [] h = refl
fill_quiet w fs (p ∷ ps) (inl e) = absurd (cc)
fill_quiet w fs (p ∷ ps) (inr h) =
    ap (λ b. if b then fill w (fs ++ started_flight fs p ∷ []) ps else record { in_flight = fs; waiting = p ∷ ps }) (shut (length fs) w h)

pub copies_are_one_fill : CopiesAreOneFill
copies_are_one_fill w fs ps [] h = sym (ap (fill w fs) (append-nil ps) ∙ fill_quiet w fs ps h)
copies_are_one_fill w fs ps (p ∷ copies) h =
    elim (is_answered p.qos) as (λ (b : Bool).
    (if b then copies_left w copies (fill w fs (ps ++ p ∷ [])) else copies_left w copies (record { in_flight = fs; waiting = ps }))
    ≡ fill w fs (ps ++ (if b then p ∷ filter (λ q. is_answered q.qos) copies else filter (λ q. is_answered q.qos) copies))) [
      | true ↦ copies_are_one_fill w (fill w fs (ps ++ p ∷ [])).in_flight (fill w fs (ps ++ p ∷ [])).waiting copies (fills.fill_done w fs (ps ++ p ∷ []))
          ∙ (fills.fills_join w fs (ps ++ p ∷ []) (filter (λ q. is_answered q.qos) copies)).0
          ∙ ap (fill w fs) (append_assoc ps (p ∷ []) (filter (λ q. is_answered q.qos) copies))
      | false ↦ copies_are_one_fill w fs ps copies h
    ]
