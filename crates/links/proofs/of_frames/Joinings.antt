-- Joinings.antt: what a joiner returned is a prefix of what was cut, however it was fed.
use Rattle.std.proofs.Common.{◌≡◌, ℕ, ◌≤◌, List, [], ◌∷◌, ◌++◌, length, flat_map, refl, sym, ap, ap₂, ◌∙◌, subst}
use Rattle.lists.specs.Lists.{Each, IsPrefixOf}
use Rattle.links.specs.frames.Parts.{parts_of}
use Rattle.links.specs.frames.Fronts.{Front, Begins}
use Rattle.links.specs.frames.Fronts.Front.{whole, unfinished}
use Rattle.links.specs.frames.Fronts.Begins.{in_head}
use Rattle.links.specs.frames.Theorems.{WhatIsJoinedWasCut, WhatWasCutIsJoined, JoiningsAgree, Joined, HasNoMessage}
use Rattle.links.specs.frames.Theorems.Joined.{opens, feeds, gives}
use Rattle.links.proofs.of_frames.OneWay.{one_front}
use Rattle.links.proofs.of_frames.Longer.{longer}
use Rattle.links.proofs.of_frames.PartsJoined.{parts_joined}

-- the messages at the front of a stream, one after the other, and what follows them
abbrev pub Chain : ℕ → List ℕ → List (List ℕ) → List ℕ → Type 0
Chain limit stream [] rest = stream ≡ rest
Chain limit stream (m ∷ ms) rest = (left : List ℕ) × Begins limit stream (whole m left) × Chain limit left ms rest

chain_longer : (limit : ℕ) (stream : List ℕ) (ms : List (List ℕ)) (rest later : List ℕ) → Chain limit stream ms rest → Chain limit (stream ++ later) ms (rest ++ later)
chain_longer limit stream [] rest later c = ap (λ (l : List ℕ). l ++ later) c
chain_longer limit stream (m ∷ ms) rest later (left, b, c) = (left ++ later, longer limit stream later m left b, chain_longer limit left ms rest later c)

chain_last : (limit : ℕ) (stream : List ℕ) (ms : List (List ℕ)) (m rest left : List ℕ) → Chain limit stream ms rest → Begins limit rest (whole m left) → Chain limit stream (ms ++ m ∷ []) left
chain_last limit stream [] m rest left c b = (left, subst (λ (l : List ℕ). Begins limit l (whole m left)) (sym c) b, refl)
chain_last limit stream (n ∷ ms) m rest left (l, a, c) b = (l, a, chain_last limit l ms m rest left c b)

chain_of : (limit : ℕ) (fed : List ℕ) (given : List (List ℕ)) (held : List ℕ) → Joined limit fed given held → Chain limit fed given held
chain_of limit fed given held opens = refl
chain_of limit fed given held (feeds {fed = f} {held = h} chunk j) = chain_longer limit f given h chunk (chain_of limit f given h j)
chain_of limit fed given held (gives {held = h} {given = g} m j b) = chain_last limit fed g m h held (chain_of limit fed g h j) b

same_whole : (m n r s : List ℕ) → whole m r ≡ whole n s → (m ≡ n) × (r ≡ s)
same_whole m n r s e = (cc, cc)

one_message : (limit : ℕ) (stream m n r s : List ℕ) → Begins limit stream (whole m r) → Begins limit stream (whole n s) → (m ≡ n) × (r ≡ s)
one_message limit stream m n r s a b = same_whole m n r s (one_front limit stream (whole m r) (whole n s) a b)

-- a chain that ends where no message is has each shorter one as its front
prefix_of : (limit : ℕ) (stream : List ℕ) (given ms : List (List ℕ)) (held rest : List ℕ)
    → ((m left : List ℕ) → Begins limit rest (whole m left) → ⊥)
    → Chain limit stream given held → Chain limit stream ms rest → IsPrefixOf given ms
prefix_of limit stream [] ms held rest none c d = record { rest = ms; is = refl }
prefix_of limit stream (g ∷ gs) [] held rest none (left, b, c) d = absurd (none g left (subst (λ (l : List ℕ). Begins limit l (whole g left)) d b))
prefix_of limit stream (g ∷ gs) (m ∷ ms) held rest none (left, b, c) (other, a, d) =
    let same = one_message limit stream g m left other b a in
    let more = prefix_of limit left gs ms held rest none c (subst (λ (l : List ℕ). Chain limit l ms rest) (sym same.1) d) in
    record { rest = more.rest; is = ap₂ (λ (x : List ℕ) (xs : List (List ℕ)). x ∷ xs) (sym same.0) more.is }

-- two that end where no message is are equal
one_chain : (limit : ℕ) (stream : List ℕ) (given others : List (List ℕ)) (held left : List ℕ)
    → ((m rest : List ℕ) → Begins limit held (whole m rest) → ⊥) → ((m rest : List ℕ) → Begins limit left (whole m rest) → ⊥)
    → Chain limit stream given held → Chain limit stream others left → (given ≡ others) × (held ≡ left)
one_chain limit stream [] [] held left none none' c d = (refl, sym c ∙ d)
one_chain limit stream [] (m ∷ ms) held left none none' c (l, b, d) = absurd (none m l (subst (λ (x : List ℕ). Begins limit x (whole m l)) c b))
one_chain limit stream (m ∷ ms) [] held left none none' (l, b, c) d = absurd (none' m l (subst (λ (x : List ℕ). Begins limit x (whole m l)) d b))
one_chain limit stream (g ∷ gs) (m ∷ ms) held left none none' (l, b, c) (k, a, d) =
    let same = one_message limit stream g m l k b a in
    let more = one_chain limit l gs ms held left none none' c (subst (λ (x : List ℕ). Chain limit x ms left) (sym same.1) d) in
    (ap₂ (λ (x : List ℕ) (xs : List (List ℕ)). x ∷ xs) same.0 more.0, more.1)

no_message : (limit : ℕ) (held : List ℕ) (front : Front) → Begins limit held front → HasNoMessage front → (m rest : List ℕ) → Begins limit held (whole m rest) → ⊥
no_message limit held front b none m rest a = none m rest (one_front limit held front (whole m rest) b a)

pub joinings_agree : JoiningsAgree
joinings_agree limit fed held left given others front other j b none k a none' =
    one_chain limit fed given others held left (no_message limit held front b none) (no_message limit left other a none')
    (chain_of limit fed given held j) (chain_of limit fed others left k)

is_unfinished : HasNoMessage unfinished
is_unfinished m rest e = cc

-- nothing is left of the parts of messages
chain_of_parts : (limit : ℕ) (messages : List (List ℕ)) → Each (λ m. length m ≤ limit) messages → Chain limit (flat_map parts_of messages) messages []
chain_of_parts limit [] short = refl
chain_of_parts limit (m ∷ ms) (fits, short) = (flat_map parts_of ms, parts_joined limit m (flat_map parts_of ms) fits, chain_of_parts limit ms short)

empty_none : (limit : ℕ) (m rest : List ℕ) → Begins limit [] (whole m rest) → ⊥
empty_none limit = no_message limit [] unfinished (in_head refl) is_unfinished

pub what_is_joined_was_cut : WhatIsJoinedWasCut
what_is_joined_was_cut limit messages given fed later held short is j =
    prefix_of limit (flat_map parts_of messages) given messages (held ++ later) [] (empty_none limit)
    (subst (λ (l : List ℕ). Chain limit l given (held ++ later)) is (chain_longer limit fed given held later (chain_of limit fed given held j)))
    (chain_of_parts limit messages short)

pub what_was_cut_is_joined : WhatWasCutIsJoined
what_was_cut_is_joined limit messages given held short j b =
    one_chain limit (flat_map parts_of messages) given messages held [] (no_message limit held unfinished b is_unfinished) (empty_none limit)
    (chain_of limit (flat_map parts_of messages) given held j) (chain_of_parts limit messages short)
