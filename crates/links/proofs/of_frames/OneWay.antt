-- OneWay.antt: a stream begins with one thing alone.
use Rattle.std.proofs.Common.{◌≡◌, ℕ, ◌+◌, ◌-◌, ◌<◌, ◌≤◌, Bool, true, false, List, length, refl, sym, ap, ◌∙◌, subst, arith}
use Rattle.links.specs.declared.frames.error.PartFault.{PartFault}
use Rattle.links.specs.declared.frames.head.Head.TheVariants.{Part, Unfinished, Fault}
use Rattle.links.specs.frames.Heads.{head_of}
use Rattle.links.specs.frames.Fronts.{Front, Begins, behind, bytes_of, after}
use Rattle.links.specs.frames.Fronts.Front.{whole, unfinished, broken}
use Rattle.links.specs.frames.Fronts.Begins.{in_head, faulty, in_part, ends, goes_on}
use Rattle.links.specs.frames.Theorems.{OneFront}

-- what a front is if the head is that of a whole part
abbrev pub AsPart : ℕ → List ℕ → Front → Bool → ℕ → Type 0
AsPart room stream front false len = front ≡ whole (bytes_of len stream) (after len stream)
AsPart room stream front true len = (found : Front) × Begins (room - len) (after len stream) found × (front ≡ behind (bytes_of len stream) found)

pub as_part : (room : ℕ) (stream : List ℕ) (front : Front) (more : Bool) (len : ℕ) → Begins room stream front
    → head_of room stream ≡ Part more len → 5 + len ≤ length stream → AsPart room stream front more len
as_part room stream front more len (in_head e) h all = let impossible : Unfinished ≡ Part more len = sym e ∙ h in cc
as_part room stream front more len (faulty {fault = fault} e) h all = let impossible : Fault fault ≡ Part more len = sym e ∙ h in cc
as_part room stream front more len (in_part {len = n} {more = m} e few) h all =
    let same : Part m n ≡ Part more len = sym e ∙ h in
    let is : n ≡ len = cc in
    absurd (omega (arith, is, few, all))
as_part room stream front false len (ends {len = n} e enough) h all =
    let same : Part false n ≡ Part false len = sym e ∙ h in
    let is : n ≡ len = cc in
    ap (λ (k : ℕ). whole (bytes_of k stream) (after k stream)) is
as_part room stream front true len (ends {len = n} e enough) h all =
    let same : Part false n ≡ Part true len = sym e ∙ h in cc
as_part room stream front false len (goes_on {len = n} e enough b) h all =
    let same : Part true n ≡ Part false len = sym e ∙ h in cc
as_part room stream front true len (goes_on {len = n} {front = found} e enough b) h all =
    let same : Part true n ≡ Part true len = sym e ∙ h in
    let is : n ≡ len = cc in
    (found, subst (λ (k : ℕ). Begins (room - k) (after k stream) found) is b, ap (λ (k : ℕ). behind (bytes_of k stream) found) is)

-- what a front is if no part is whole there
pub as_unfinished : (room : ℕ) (stream : List ℕ) (front : Front) → Begins room stream front → head_of room stream ≡ Unfinished → front ≡ unfinished
as_unfinished room stream front (in_head e) h = refl
as_unfinished room stream front (faulty {fault = fault} e) h = let impossible : Fault fault ≡ Unfinished = sym e ∙ h in cc
as_unfinished room stream front (in_part {len = n} {more = m} e few) h = refl
as_unfinished room stream front (ends {len = n} e enough) h = let impossible : Part false n ≡ Unfinished = sym e ∙ h in cc
as_unfinished room stream front (goes_on {len = n} e enough b) h = let impossible : Part true n ≡ Unfinished = sym e ∙ h in cc

pub as_fault : (room : ℕ) (stream : List ℕ) (front : Front) (why : PartFault) → Begins room stream front → head_of room stream ≡ Fault why → front ≡ broken why
as_fault room stream front why (in_head e) h = let impossible : Unfinished ≡ Fault why = sym e ∙ h in cc
as_fault room stream front why (faulty {fault = fault} e) h = let same : Fault fault ≡ Fault why = sym e ∙ h in cc
as_fault room stream front why (in_part {len = n} {more = m} e few) h = let impossible : Part m n ≡ Fault why = sym e ∙ h in cc
as_fault room stream front why (ends {len = n} e enough) h = let impossible : Part false n ≡ Fault why = sym e ∙ h in cc
as_fault room stream front why (goes_on {len = n} e enough b) h = let impossible : Part true n ≡ Fault why = sym e ∙ h in cc

pub as_short : (room : ℕ) (stream : List ℕ) (front : Front) (more : Bool) (len : ℕ) → Begins room stream front
    → head_of room stream ≡ Part more len → length stream < 5 + len → front ≡ unfinished
as_short room stream front more len (in_head e) h few = refl
as_short room stream front more len (faulty {fault = fault} e) h few = let impossible : Fault fault ≡ Part more len = sym e ∙ h in cc
as_short room stream front more len (in_part {len = n} {more = m} e less) h few = refl
as_short room stream front more len (ends {len = n} e enough) h few =
    let same : Part false n ≡ Part more len = sym e ∙ h in
    let is : n ≡ len = cc in absurd (omega (arith, is, few, enough))
as_short room stream front more len (goes_on {len = n} e enough b) h few =
    let same : Part true n ≡ Part more len = sym e ∙ h in
    let is : n ≡ len = cc in absurd (omega (arith, is, few, enough))

pub one_front : OneFront
one_front room stream _ other (in_head e) b = sym (as_unfinished room stream other b e)
one_front room stream _ other (faulty {fault = fault} e) b = sym (as_fault room stream other fault b e)
one_front room stream _ other (in_part {len = n} {more = m} e few) b = sym (as_short room stream other m n b e few)
one_front room stream _ other (ends {len = n} e enough) b = sym (as_part room stream other false n b e enough)
one_front room stream _ other (goes_on {len = n} {front = found} e enough a) b =
    let more = as_part room stream other true n b e enough in
    let same = one_front (room - n) (after n stream) found more.0 a more.1 in
    ap (λ (f : Front). behind (bytes_of n stream) f) same ∙ sym more.2
