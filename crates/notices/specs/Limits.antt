-- Which notices are told: the first ten of a kind in each second; the others are counted.
use Rattle.std.specs.Prelude.{◌≡◌, ℕ, ◌+◌, ◌-◌, ◌^◌, ◌<◌, min, Bool, not, ◌&&◌, ◌==◌, nat_lt, List, IsTrue, length, slice_index_or, slice_set, if◌then◌else◌, false}
use Rattle.notices.specs.Kinds.{kind_number}
use Rattle.notices.specs.declared.window.TheConstants.{LINES_A_SECOND}
use Rattle.notices.specs.declared.kind.NoticeKind.{NoticeKind}
use Rattle.notices.specs.declared.limiter.HeldBack.{HeldBack}
use Rattle.notices.specs.declared.window.Admission.{Admission}
use Rattle.notices.specs.declared.window.Admission.TheVariants.{Told, Counted}
use Rattle.notices.specs.declared.window.Window.{Window}

-- the window of a kind without a notice
abbrev pub fresh_window : Window
fresh_window = record { second = 0; told = 0; held_back = 0 }

-- what becomes of a notice in a second: the first ten are told, and the first also tells how many
-- were held back before
abbrev pub admission : Window → ℕ → Admission
admission window second = if window.second == second
    then (if nat_lt window.told LINES_A_SECOND then Told 0 else Counted)
    else Told window.held_back

-- the count after one more notice was held back: it stays at 2^64 - 1
abbrev pub counted_once : ℕ → ℕ
counted_once count = min (count + 1) (2 ^ 64 - 1)

-- the window after a notice in a second
abbrev pub window_after : Window → ℕ → Window
window_after window second = if window.second == second
    then (if nat_lt window.told LINES_A_SECOND
    then record window { told = window.told + 1 }
    else record window { held_back = counted_once window.held_back })
    else record { second = second; told = 1; held_back = 0 }

-- whether notices of an earlier second were held back and not told of yet
abbrev pub is_due : Window → ℕ → Bool
is_due window second = not (window.second == second) && nat_lt 0 window.held_back

-- the window of a kind
abbrev pub window_of : List Window → NoticeKind → Window
window_of windows kind = slice_index_or windows (kind_number kind) fresh_window

-- the windows after a notice of a kind in a second: only one that is told at its level counts
abbrev pub admitted : Bool → List Window → NoticeKind → ℕ → List Window
admitted is_told windows kind second = if is_told
    then slice_set windows (kind_number kind) (window_after (window_of windows kind) second)
    else windows

-- no kind has notices that were held back in an earlier second and not told of yet
abbrev pub HasNothingDue : List Window → ℕ → Type 0
HasNothingDue windows second =
    (number : ℕ) → number < length windows
    → is_due (slice_index_or windows number fresh_window) second ≡ false

-- all that were held back of this kind in an earlier second are told of, and nothing else changes
pub record TakesHeldBack (old : List Window) (second : ℕ) (new : List Window) (held : HeldBack) :
    Type 0 where
  pub due : IsTrue (is_due (window_of old held.kind) second)
  pub count : held.count ≡ (window_of old held.kind).held_back
  pub after : new
      ≡ slice_set old (kind_number held.kind) (record (window_of old held.kind) { held_back = 0 })
