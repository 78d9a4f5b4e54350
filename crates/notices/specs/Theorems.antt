-- What holds over many notices, and of every quoted text.
use Rattle.std.specs.Prelude.{◌≡◌, ◌≢◌, ℕ, ◌+◌, ◌-◌, ◌^◌, ◌<◌, min, Bool, true, false, List, [], ◌∷◌, ◌++◌, length, map, replicate, All, Some, IsUtf8}
use Rattle.std.specs.Char.{is_control}
use Rattle.json.specs.Text.{content, plain}
use Rattle.notices.specs.Escaping.{escaped, escaped_chars}
use Rattle.notices.specs.Limits.{admission, window_after}
use Rattle.notices.specs.declared.window.TheConstants.{LINES_A_SECOND}
use Rattle.notices.specs.declared.window.Admission.{Admission}
use Rattle.notices.specs.declared.window.Admission.TheVariants.{Told, Counted}
use Rattle.notices.specs.declared.window.Window.{Window}

-- what becomes of notices of one kind, each with its second
abbrev pub admissions : Window → List ℕ → List Admission
admissions window [] = []
admissions window (second ∷ seconds) =
    admission window second ∷ admissions (window_after window second) seconds

-- the window after them
abbrev pub window_through : Window → List ℕ → Window
window_through window [] = window
window_through window (second ∷ seconds) = window_through (window_after window second) seconds

-- whether a notice is told
abbrev pub is_told : Admission → Bool
is_told (Told before) = true
is_told Counted = false

-- how many notices a line accounts for: its own, and those that it says were held back
abbrev pub accounted : Admission → ℕ
accounted (Told before) = 1 + before
accounted Counted = 0

-- the same of all lines
abbrev pub all_accounted : List Admission → ℕ
all_accounted [] = 0
all_accounted (answer ∷ answers) = accounted answer + all_accounted answers

-- Of notices in one second the first ten are told, and no other.
abbrev pub FirstTenAreTold : Type 0
FirstTenAreTold =
    (window : Window) (second count : ℕ) → window.second ≢ second
    → map is_told (admissions window (replicate count second))
    ≡ replicate (min count LINES_A_SECOND) true ++ replicate (count - LINES_A_SECOND) false

-- Whenever notices come, each is told, or told of as held back, or still counted.
abbrev pub EveryNoticeIsCounted : Type 0
EveryNoticeIsCounted =
    (window : Window) (seconds : List ℕ) → window.held_back + length seconds < 2 ^ 64
    → all_accounted (admissions window seconds) + (window_through window seconds).held_back
    ≡ window.held_back + length seconds

-- Between quotes the escaped text is a JSON string (RFC 8259, section 7) that stands for the text.
abbrev pub EscapedTextReadsBack : Type 0
EscapedTextReadsBack =
    (text rest : List ℕ) → IsUtf8 text
    → content plain (escaped text ++ 34 ∷ rest) ≡ Some text

-- No character of an escaped text is a control character: it is one line.
abbrev pub HasNoControl : Type 0
HasNoControl = (text : List ℕ) → All (λ c. is_control c ≡ false) (escaped_chars text)
