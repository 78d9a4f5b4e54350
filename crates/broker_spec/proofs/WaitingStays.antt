-- The client's answers leave what waits as it is.
use Rattle.std.proofs.Common.{◌≡◌, ℕ, Bool, true, false, not, ◌&&◌, ◌==◌, if◌then◌else◌, Some, None, List, [], ◌∷◌, map, refl, ap, ◌∙◌}
use Rattle.session_base.specs.Publication.{is_qos1}
use Rattle.broker_spec.specs.Entries.{Entry}
use Rattle.broker_spec.specs.Readings.{waiting_of}
use Rattle.broker_spec.specs.Times.{at_puback, at_pubrec, at_pubcomp}

-- ---- what waits

pub waiting_puback : (n i : ℕ) (es : List Entry) → waiting_of (map (at_puback n i) es) ≡ waiting_of es
waiting_puback n i [] = refl
waiting_puback n i (Entry.Queued made p ∷ es) = ap (λ ps. p ∷ ps) (waiting_puback n i es)
waiting_puback n i (Entry.Sent made p id start ∷ es) = one ((i == id) && is_qos1 p.qos) ∙ waiting_puback n i es
  where
    one : (b : Bool) → waiting_of ((if b then Entry.Done made p id start None n else Entry.Sent made p id start) ∷ map (at_puback n i) es)
        ≡ waiting_of (map (at_puback n i) es)
    one true = refl
    one false = refl
waiting_puback n i (Entry.Released made p id start release ∷ es) = waiting_puback n i es
waiting_puback n i (Entry.Done made p id start release finish ∷ es) = waiting_puback n i es

pub waiting_pubrec : (n i : ℕ) (es : List Entry) → waiting_of (map (at_pubrec n i) es) ≡ waiting_of es
waiting_pubrec n i [] = refl
waiting_pubrec n i (Entry.Queued made p ∷ es) = ap (λ ps. p ∷ ps) (waiting_pubrec n i es)
waiting_pubrec n i (Entry.Sent made p id start ∷ es) = one ((i == id) && not (is_qos1 p.qos)) ∙ waiting_pubrec n i es
  where
    one : (b : Bool) → waiting_of ((if b then Entry.Released made p id start n else Entry.Sent made p id start) ∷ map (at_pubrec n i) es)
        ≡ waiting_of (map (at_pubrec n i) es)
    one true = refl
    one false = refl
waiting_pubrec n i (Entry.Released made p id start release ∷ es) = waiting_pubrec n i es
waiting_pubrec n i (Entry.Done made p id start release finish ∷ es) = waiting_pubrec n i es

pub waiting_pubcomp : (n i : ℕ) (es : List Entry) → waiting_of (map (at_pubcomp n i) es) ≡ waiting_of es
waiting_pubcomp n i [] = refl
waiting_pubcomp n i (Entry.Queued made p ∷ es) = ap (λ ps. p ∷ ps) (waiting_pubcomp n i es)
waiting_pubcomp n i (Entry.Sent made p id start ∷ es) = waiting_pubcomp n i es
waiting_pubcomp n i (Entry.Released made p id start release ∷ es) = one (i == id) ∙ waiting_pubcomp n i es
  where
    one : (b : Bool) → waiting_of ((if b then Entry.Done made p id start (Some release) n else Entry.Released made p id start release) ∷ map (at_pubcomp n i) es)
        ≡ waiting_of (map (at_pubcomp n i) es)
    one true = refl
    one false = refl
waiting_pubcomp n i (Entry.Done made p id start release finish ∷ es) = waiting_pubcomp n i es
