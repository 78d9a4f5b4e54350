-- LinesLimited.antt: ten lines a second, and every notice is counted.
use Rattle.std.proofs.Common.{◌≡◌, ℕ, zero, suc, ◌+◌, ◌-◌, ◌^◌, ◌<◌, ◌≤◌, min, Bool, true, false, ◌==◌, nat_lt, if◌then◌else◌, List, [], ◌∷◌, ◌++◌, map, replicate, refl, sym, ap, ap₂, ◌∙◌, arith}
use Rattle.std.proofs.lemmas.Bool.{eq-eqb, ne_eqb, lt-ltb, le-ltb, ltb-true, ltb-false}
use Rattle.notices.specs.Limits.{admission, counted_once, window_after}
use Rattle.notices.specs.Theorems.{admissions, is_told, accounted, FirstTenAreTold, EveryNoticeIsCounted}
use Rattle.notices.specs.declared.window.Admission.{Admission}
use Rattle.notices.specs.declared.window.Admission.TheVariants.{Told, Counted}
use Rattle.notices.specs.declared.window.Window.{Window}

abbrev window_at : ℕ → ℕ → ℕ → Window
window_at second told held = record { second = second; told = told; held_back = held }

-- ---- ten lines a second

told_now : (second told held : ℕ) → told < 10
    → (admission (window_at second told held) second ≡ Told 0)
    × (window_after (window_at second told held) second ≡ window_at second (told + 1) held)
told_now second told held room =
    (rw (eq-eqb second second refl, lt-ltb told 10 room) refl, rw (eq-eqb second second refl, lt-ltb told 10 room) refl)

held_now : (second told held : ℕ) → 10 ≤ told
    → (admission (window_at second told held) second ≡ Counted)
    × (window_after (window_at second told held) second ≡ window_at second told (counted_once held))
held_now second told held full =
    (rw (eq-eqb second second refl, le-ltb told 10 full) refl, rw (eq-eqb second second refl, le-ltb told 10 full) refl)

-- so many are told, and then so many are not
abbrev flags : ℕ → ℕ → List Bool
flags told others = replicate told true ++ replicate others false

abbrev InOneSecond : ℕ → Type 0
InOneSecond count = (second told held : ℕ)
    → map is_told (admissions (window_at second told held) (replicate count second))
    ≡ flags (min count (10 - told)) (count - (10 - told))

one_more : (room : Bool) (count second told held : ℕ) → nat_lt told 10 ≡ room → InOneSecond count
    → map is_told (admissions (window_at second told held) (replicate (suc count) second))
    ≡ flags (min (suc count) (10 - told)) (suc count - (10 - told))
one_more true count second told held e before =
    let room : told < 10 = ltb-true told 10 e in
    let now = told_now second told held room in
    let told_after : min (suc count) (10 - told) ≡ suc (min count (10 - (told + 1))) = omega (arith, room) in
    let others : suc count - (10 - told) ≡ count - (10 - (told + 1)) = omega (arith, room) in
    ap₂ (λ (a : Admission) (w : Window). is_told a ∷ map is_told (admissions w (replicate count second))) now.0 now.1
    ∙ ap (λ (l : List Bool). true ∷ l) (before second (told + 1) held)
    ∙ sym (ap₂ flags told_after others)
one_more false count second told held e before =
    let full : 10 ≤ told = ltb-false told 10 e in
    let now = held_now second told held full in
    let none : min count (10 - told) ≡ 0 = omega (arith, full) in
    let none_more : min (suc count) (10 - told) ≡ 0 = omega (arith, full) in
    let others : count - (10 - told) ≡ count = omega (arith, full) in
    let others_more : suc count - (10 - told) ≡ suc count = omega (arith, full) in
    ap₂ (λ (a : Admission) (w : Window). is_told a ∷ map is_told (admissions w (replicate count second))) now.0 now.1
    ∙ ap (λ (l : List Bool). false ∷ l) (before second told (counted_once held) ∙ ap₂ flags none others)
    ∙ sym (ap₂ flags none_more others_more)

in_one_second : (count : ℕ) → InOneSecond count
in_one_second zero second told held =
    let none : min 0 (10 - told) ≡ 0 = omega arith in
    let others : 0 - (10 - told) ≡ 0 = omega arith in
    sym (ap₂ flags none others)
in_one_second (suc count) second told held =
    one_more (nat_lt told 10) count second told held refl (in_one_second count)

pub first_ten_are_told : FirstTenAreTold
first_ten_are_told window second zero other = refl
first_ten_are_told window second (suc count) other =
    let first : admission window second ≡ Told window.held_back = rw (ne_eqb window.second second other) refl in
    let after : window_after window second ≡ window_at second 1 0 = rw (ne_eqb window.second second other) refl in
    let told_after : min (suc count) 10 ≡ suc (min count 9) = omega arith in
    let others : suc count - 10 ≡ count - 9 = omega arith in
    ap₂ (λ (a : Admission) (w : Window). is_told a ∷ map is_told (admissions w (replicate count second))) first after
    ∙ ap (λ (l : List Bool). true ∷ l) (in_one_second count second 1 0)
    ∙ sym (ap₂ flags told_after others)

-- ---- every notice is counted

-- one notice, by whether it is in the second of the last one and whether there is room for its line
counted_by : (same room : Bool) (window : Window) (second : ℕ) → window.held_back + 1 < 2 ^ 64
    → accounted (if same then (if room then Told 0 else Counted) else Told window.held_back)
    + (if same then (if room then record window { told = window.told + 1 } else record window { held_back = counted_once window.held_back })
    else window_at second 1 0).held_back
    ≡ window.held_back + 1
counted_by true true window second small = omega arith
counted_by true false window second small = omega (arith, small)
counted_by false room window second small = omega arith

one_counted : (window : Window) (second : ℕ) → window.held_back + 1 < 2 ^ 64
    → accounted (admission window second) + (window_after window second).held_back ≡ window.held_back + 1
one_counted window second small =
    counted_by (window.second == second) (nat_lt window.told 10) window second small

pub every_notice_is_counted : EveryNoticeIsCounted
every_notice_is_counted window [] small = omega arith
every_notice_is_counted window (second ∷ seconds) small =
    let one = one_counted window second (omega (arith, small)) in
    let rest = every_notice_is_counted (window_after window second) seconds (omega (arith, small, one)) in
    omega (arith, one, rest)
