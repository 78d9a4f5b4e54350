-- Answered.antt: what a desk answered holds over failed writes and restarts.
use Rattle.std.proofs.Common.{◌≡◌, ◌⊎◌, ℕ, ◌+◌, ◌<◌, ◌≤◌, ◌==◌, Bool, true, false, ◌&&◌, nat_lt, nat_le, if◌then◌else◌, List, [], ◌∷◌, ◌++◌, length, Option, Some, None, Result, Ok, refl, sym, ap, ap₂, ◌∙◌, subst, arith, inl, inr, ltb-true, leb-true}
use Rattle.std.proofs.lemmas.Bool.{lt-ltb, le-leb}
use Rattle.std.proofs.lemmas.List.{append-nil}
use Rattle.lists.specs.Lists.{In}
use Rattle.lists.specs.Lists.In.{here, there}
use Rattle.lists.proofs.Members.{in_append}
use Rattle.ballot_base.specs.declared.config.Config.{Config}
use Rattle.ballot_base.specs.LawfulConfig.{is_lawful}
use Rattle.agreement.specs.MasterState.{AssignRefusal, activating, refusal}
use Rattle.agreement.specs.MasterState.AssignRefusal.{bad_members, ballots_spent}
use Rattle.cluster.specs.declared.desk.error.FormFault.{FormFault}
use Rattle.cluster.specs.desk.States.{DeskState, activated_by, are_given, assigned_to, may_wait, opening_desk, refused_by, waits_fit, waits_for}
use Rattle.cluster.specs.desk.Form.{desk_of, form}
use Rattle.cluster.specs.desk.FormTheorems.{IsDesk}
use Rattle.cluster.specs.desk.Runs.{Answer, Changes, Repeats, Ran, Rises, NeverFalls, numbers, ballots, active_ones, EachStartHasItsNumber, NoBallotIsAssignedTwice, ActiveBallotsRise, SupersededForGood}
use Rattle.cluster.specs.desk.Runs.Answer.{number, ballot, activated, superseded}
use Rattle.cluster.specs.desk.Runs.Changes.{starts, assigns, activates}
use Rattle.cluster.specs.desk.Runs.Repeats.{stays, was}
use Rattle.cluster.specs.desk.Runs.Ran.{opens, answers, repeats, fails, restarts}
use Rattle.cluster.proofs.of_desk.Forms.{both, form_read, ranges, sound_of}

-- ---- a state that changes stays sound, and says all that it said

-- the second state came after the first
record Follows (old new : DeskState) : Type 0 where
  next : old.next ≤ new.next
  given : old.master.given ≤ new.master.given
  active : old.master.active ≤ new.master.active

-- a ballot that was given and can never become active
record IsDead (b : ℕ) (state : DeskState) : Type 0 where
  given : b ≤ state.master.given
  other : b ≡ state.master.active → ⊥
  gone : waits_for state.master.waiting b ≡ false

waiting_is : (b : ℕ) (waiting : Option (ℕ × Config)) → waits_for waiting b ≡ true → (config : Config) × (waiting ≡ Some (b, config))
waiting_is b None e = cc
waiting_is b (Some (w, config)) e = let same : w ≡ b = grind (arith, e) in (config, ap (λ (n : ℕ). Some (n, config)) same)

activated_is : (state : DeskState) (b : ℕ) (config : Config) → state.master.waiting ≡ Some (b, config)
    → activated_by state b ≡ record state { master = record state.master { active = b; members = config.members; waiting = None } }
activated_is state b config is =
    let yes : (b == b) ≡ true = grind arith in
    ap (λ (w : Option (ℕ × Config)). record state { master = activating state.master b w }) is
    ∙ ap (λ (t : Bool). record state { master = if t then record state.master { active = b; members = config.members; waiting = None } else state.master }) yes

-- why it may wait
above : (state : DeskState) (b : ℕ) (config : Config) → IsDesk state → state.master.waiting ≡ Some (b, config) → (state.master.active < b) × (b ≤ state.master.given) × (length config.members ≤ 7)
above state b config is e =
    let r = ranges state.next state.master is.sound in
    let may : may_wait state.master.active state.master.given (Some (b, config)) ≡ true = ap (λ (w : Option (ℕ × Config)). may_wait state.master.active state.master.given w) (sym e) ∙ r.may in
    let h = both (nat_lt state.master.active b) (nat_le b state.master.given) may in
    let few : waits_fit (Some (b, config)) ≡ true = ap (λ (w : Option (ℕ × Config)). waits_fit w) (sym e) ∙ r.fit in
    (ltb-true state.master.active b h.0, leb-true b state.master.given h.1, leb-true (length config.members) 7 few)

no_refusal : (given : Bool) (r : Option AssignRefusal) → refused_by given r ≡ None → r ≡ None
no_refusal given (Some bad_members) e = cc
no_refusal given (Some ballots_spent) e = cc
no_refusal given None e = refl

abbrev none_refused : Option AssignRefusal
none_refused = None

refuses : {why : AssignRefusal} → Some why ≡ none_refused → ⊥
refuses e = cc

lawful_and_left : (a b : Bool) → (if a then if b then Some ballots_spent else None else Some bad_members) ≡ none_refused → (a ≡ true) × (b ≡ false)
lawful_and_left true true e = absurd (refuses e)
lawful_and_left true false e = (refl, refl)
lawful_and_left false b e = absurd (refuses e)

not_most : (n : ℕ) → nat_le 4294967296 n ≡ false → n < 4294967296
not_most n e = grind (arith, e)

few_members : (greatest : ℕ) (members : List ℕ) (primary : ℕ) → is_lawful greatest members primary ≡ true → length members ≤ 7
few_members greatest members primary e =
    let a = both _ _ e in
    let b = both (nat_le 1 (length members)) _ a.1 in
    let c = both (nat_le (length members) 7) _ b.1 in
    leb-true (length members) 7 c.0

changed_sound : (state new : DeskState) (answer : Answer) → IsDesk state → Changes state answer new → IsDesk new
changed_sound state new answer is (starts left) =
    let r = ranges state.next state.master is.sound in
    record { named = is.named; greatest = is.greatest; sound = sound_of (state.next + 1) state.master (omega (arith, r.first)) (omega (arith, left)) r.one r.active r.given r.members r.fit r.may }
changed_sound state new answer is (assigns config may) =
    let r = ranges state.next state.master is.sound in
    let h = lawful_and_left (is_lawful state.master.greatest config.members config.primary) (nat_le 4294967296 state.master.given) (no_refusal (are_given state.next config.members) (refusal state.master config) may) in
    let few = few_members state.master.greatest config.members config.primary h.0 in
    let left = not_most state.master.given h.1 in
    let waits : may_wait state.master.active (state.master.given + 1) (Some (state.master.given + 1, config)) ≡ true =
    and_both (nat_lt state.master.active (state.master.given + 1)) (nat_le (state.master.given + 1) (state.master.given + 1))
    (lt-ltb state.master.active (state.master.given + 1) (let a = r.active in omega (arith, a))) (le-leb (state.master.given + 1) (state.master.given + 1) (omega arith)) in
    record { named = is.named; greatest = is.greatest; sound = sound_of state.next (assigned_to state config).master r.first r.last r.one (let a = r.active in omega (arith, a)) (omega (arith, left)) r.members (le-leb (length config.members) 7 few) waits }
  where
    and_both : (a b : Bool) → a ≡ true → b ≡ true → (a && b) ≡ true
    and_both true true p q = refl
    and_both true false p q = cc
    and_both false b p q = cc
changed_sound state new answer is (activates b w) =
    let r = ranges state.next state.master is.sound in
    let config = waiting_is b state.master.waiting w in
    let a = above state b config.0 is config.1 in
    subst IsDesk (sym (activated_is state b config.0 config.1))
    (record {
      named = is.named;
      greatest = is.greatest;
      sound = sound_of state.next (record state.master { active = b; members = config.0.members; waiting = None }) r.first r.last
          (let one = r.one in omega (arith, a.0, one)) a.1 r.given a.2 refl refl;
    })

follows : (state new : DeskState) (answer : Answer) → IsDesk state → Changes state answer new → Follows state new
follows state new answer is (starts left) = record { next = omega arith; given = omega arith; active = omega arith }
follows state new answer is (assigns config may) = record { next = omega arith; given = omega arith; active = omega arith }
follows state new answer is (activates b w) =
    let config = waiting_is b state.master.waiting w in
    let a = above state b config.0 is config.1 in
    subst (Follows state) (sym (activated_is state b config.0 config.1)) (record { next = omega arith; given = omega arith; active = omega (arith, a.0) })

dead_still : (b : ℕ) (state new : DeskState) (answer : Answer) → IsDesk state → Changes state answer new → IsDead b state → IsDead b new
dead_still b state new answer is (starts left) dead = record { given = dead.given; other = dead.other; gone = dead.gone }
dead_still b state new answer is (assigns config may) dead =
    let d = dead.given in
    record { given = omega (arith, d); other = dead.other; gone = grind (arith, d) }
dead_still b state new answer is (activates c w) dead =
    let config = waiting_is c state.master.waiting w in
    subst (IsDead b) (sym (activated_is state c config.0 config.1))
    (record { given = dead.given; other = λ e. differ (sym dead.gone ∙ ap (λ (n : ℕ). waits_for state.master.waiting n) e ∙ w); gone = refl })
  where
    differ : false ≡ true → ⊥
    differ e = cc

-- ---- lists of answers

rises_more : (last : ℕ) (ns : List ℕ) (n : ℕ) → Rises last ns → last < n → ((m : ℕ) → In m ns → m < n) → Rises last (ns ++ n ∷ [])
rises_more last [] n r low all = (low, tt)
rises_more last (m ∷ ns) n r low all = (r.0, rises_more m ns n r.1 (all m here) (λ k i. all k (there i)))

never_more : (last : ℕ) (ns : List ℕ) (n : ℕ) → NeverFalls last ns → last ≤ n → ((m : ℕ) → In m ns → m ≤ n) → NeverFalls last (ns ++ n ∷ [])
never_more last [] n r low all = (low, tt)
never_more last (m ∷ ns) n r low all = (r.0, never_more m ns n r.1 (all m here) (λ k i. all k (there i)))

numbers_more : (given : List Answer) (answer : Answer) → numbers (given ++ answer ∷ []) ≡ numbers given ++ numbers (answer ∷ [])
numbers_more [] answer = refl
numbers_more (number n ∷ given) answer = ap (λ (l : List ℕ). n ∷ l) (numbers_more given answer)
numbers_more (ballot n ∷ given) answer = numbers_more given answer
numbers_more (activated n ∷ given) answer = numbers_more given answer
numbers_more (superseded n ∷ given) answer = numbers_more given answer

ballots_more : (given : List Answer) (answer : Answer) → ballots (given ++ answer ∷ []) ≡ ballots given ++ ballots (answer ∷ [])
ballots_more [] answer = refl
ballots_more (number n ∷ given) answer = ballots_more given answer
ballots_more (ballot n ∷ given) answer = ap (λ (l : List ℕ). n ∷ l) (ballots_more given answer)
ballots_more (activated n ∷ given) answer = ballots_more given answer
ballots_more (superseded n ∷ given) answer = ballots_more given answer

active_more : (given : List Answer) (answer : Answer) → active_ones (given ++ answer ∷ []) ≡ active_ones given ++ active_ones (answer ∷ [])
active_more [] answer = refl
active_more (number n ∷ given) answer = active_more given answer
active_more (ballot n ∷ given) answer = active_more given answer
active_more (activated n ∷ given) answer = ap (λ (l : List ℕ). n ∷ l) (active_more given answer)
active_more (superseded n ∷ given) answer = active_more given answer

in_nil : {X : Type 0} {P : Type 0} (x : X) → In x [] → P
in_nil x i = elim i [ ]

in_one : {X : Type 0} (x y : X) → In x (y ∷ []) → x ≡ y
in_one x y here = refl
in_one x y (there i) = in_nil x i

-- what was said is within a state
record Holds (given : List Answer) (state : DeskState) : Type 0 where
  numbers_below : (n : ℕ) → In n (numbers given) → n < state.next
  ballots_below : (b : ℕ) → In b (ballots given) → b ≤ state.master.given
  active_below : (b : ℕ) → In b (active_ones given) → b ≤ state.master.active
  -- what was superseded, once it was given, is dead
  dead : (before later : List Answer) (b : ℕ) → given ≡ before ++ superseded b ∷ later → In b (ballots before) → IsDead b state

holds_later : (given : List Answer) (state new : DeskState) → Follows state new → ((b : ℕ) → IsDead b state → IsDead b new) → Holds given state → Holds given new
holds_later given state new f still h = record {
  numbers_below = λ n i. (let e = h.numbers_below n i in let g = f.next in omega (arith, e, g));
  ballots_below = λ b i. (let e = h.ballots_below b i in let g = f.given in omega (arith, e, g));
  active_below = λ b i. (let e = h.active_below b i in let g = f.active in omega (arith, e, g));
  dead = λ before later b e i. still b (h.dead before later b e i);
}

-- the bytes are those of a sound state that came after this one
record StandsFor (state : DeskState) (bytes : List ℕ) : Type 0 where
  later : DeskState
  is : bytes ≡ form later
  sound : IsDesk later
  follows : Follows state later
  still : (b : ℕ) → IsDead b state → IsDead b later

-- every run
record Kept (given : List Answer) (state : DeskState) (stands : List (List ℕ)) : Type 0 where
  sound : IsDesk state
  holds : Holds given state
  all : (bytes : List ℕ) → In bytes stands → StandsFor state bytes
  numbers_rise : Rises 0 (numbers given)
  ballots_rise : Rises 1 (ballots given)
  active_rise : NeverFalls 1 (active_ones given)
  -- what was superseded, once it was given, is not answered to be active
  never : (before later : List Answer) (b : ℕ) → given ≡ before ++ superseded b ∷ later → In b (ballots before) → In b (active_ones later) → ⊥

-- ---- one more answer

split_last : {X : Type 0} (xs : List X) (x : X) (ys : List X) (y : X) (zs : List X) → xs ++ x ∷ [] ≡ ys ++ y ∷ zs
    → ((zs ≡ []) × (x ≡ y) × (xs ≡ ys)) ⊎ ((front : List X) × (zs ≡ front ++ x ∷ []) × (xs ≡ ys ++ y ∷ front))
split_last [] x [] y [] e = inl (refl, cc, refl)
split_last [] x [] y (z ∷ zs) e = cc
split_last [] x (w ∷ []) y zs e = cc
split_last [] x (w ∷ v ∷ ys) y zs e = cc
split_last {X} (w ∷ xs) x [] y zs e =
    let first : w ≡ y = cc in
    let rest : xs ++ x ∷ [] ≡ zs = cc in
    inr (xs, sym rest, ap (λ (u : X). u ∷ xs) first)
split_last {X} (w ∷ xs) x (v ∷ ys) y zs e =
    let first : w ≡ v = cc in
    let rest : xs ++ x ∷ [] ≡ ys ++ y ∷ zs = cc in
    more first (split_last xs x ys y zs rest)
  where
    more : w ≡ v → ((zs ≡ []) × (x ≡ y) × (xs ≡ ys)) ⊎ ((front : List X) × (zs ≡ front ++ x ∷ []) × (xs ≡ ys ++ y ∷ front))
        → ((zs ≡ []) × (x ≡ y) × (w ∷ xs ≡ v ∷ ys)) ⊎ ((front : List X) × (zs ≡ front ++ x ∷ []) × (w ∷ xs ≡ (v ∷ ys) ++ y ∷ front))
    more first (inl h) = inl (h.0, h.1, ap₂ (λ (u : X) (us : List X). u ∷ us) first h.2)
    more first (inr h) = inr (h.0, h.1, ap₂ (λ (u : X) (us : List X). u ∷ us) first h.2)

-- what an answer adds
record Adds (state new : DeskState) (answer : Answer) : Type 0 where
  follows : Follows state new
  still : (b : ℕ) → IsDead b state → IsDead b new
  number_is : (n : ℕ) → In n (numbers (answer ∷ [])) → (0 < n) × (state.next ≤ n) × (n < new.next)
  ballot_is : (b : ℕ) → In b (ballots (answer ∷ [])) → (1 < b) × (state.master.given < b) × (b ≤ new.master.given)
  active_is : (b : ℕ) → In b (active_ones (answer ∷ [])) → (1 ≤ b) × (state.master.active ≤ b) × (b ≤ new.master.active) × (IsDead b state → ⊥)
  dead_is : (b : ℕ) → answer ≡ superseded b → b ≤ state.master.given → IsDead b new

holds_more : (given : List Answer) (state new : DeskState) (answer : Answer) → Adds state new answer → Holds given state → Holds (given ++ answer ∷ []) new
holds_more given state new answer adds h = record {
  numbers_below = λ n i. below n (in_append (numbers given) (numbers (answer ∷ [])) (subst (λ (l : List ℕ). In n l) (numbers_more given answer) i));
  ballots_below = λ b i. given_below b (in_append (ballots given) (ballots (answer ∷ [])) (subst (λ (l : List ℕ). In b l) (ballots_more given answer) i));
  active_below = λ b i. active_within b (in_append (active_ones given) (active_ones (answer ∷ [])) (subst (λ (l : List ℕ). In b l) (active_more given answer) i));
  dead = λ before later b e i. dead_now before later b i (split_last given answer before (superseded b) later e);
}
  where
    below : (n : ℕ) → In n (numbers given) ⊎ In n (numbers (answer ∷ [])) → n < new.next
    below n (inl i) = let a = h.numbers_below n i in let f = adds.follows.next in omega (arith, a, f)
    below n (inr i) = (adds.number_is n i).2

    given_below : (b : ℕ) → In b (ballots given) ⊎ In b (ballots (answer ∷ [])) → b ≤ new.master.given
    given_below b (inl i) = let a = h.ballots_below b i in let f = adds.follows.given in omega (arith, a, f)
    given_below b (inr i) = (adds.ballot_is b i).2

    active_within : (b : ℕ) → In b (active_ones given) ⊎ In b (active_ones (answer ∷ [])) → b ≤ new.master.active
    active_within b (inl i) = let a = h.active_below b i in let f = adds.follows.active in omega (arith, a, f)
    active_within b (inr i) = (adds.active_is b i).2

    dead_now : (before later : List Answer) (b : ℕ) → In b (ballots before)
        → ((later ≡ []) × (answer ≡ superseded b) × (given ≡ before)) ⊎ ((front : List Answer) × (later ≡ front ++ answer ∷ []) × (given ≡ before ++ superseded b ∷ front))
        → IsDead b new
    dead_now before later b i (inl e) = adds.dead_is b e.1 (h.ballots_below b (subst (λ (l : List Answer). In b (ballots l)) (sym e.2) i))
    dead_now before later b i (inr e) = adds.still b (h.dead before e.0 b e.2 i)

numbers_rise_more : (state new : DeskState) (given : List Answer) (answer : Answer) → Adds state new answer → Holds given state → Rises 0 (numbers given) → Rises 0 (numbers given ++ numbers (answer ∷ []))
numbers_rise_more state new given (number n) adds h r = let a = adds.number_is n here in rises_more 0 (numbers given) n r a.0 (λ m i. (let b = h.numbers_below m i in let c = a.1 in omega (arith, b, c)))
numbers_rise_more state new given (ballot n) adds h r = subst (λ (l : List ℕ). Rises 0 l) (sym (append-nil (numbers given))) r
numbers_rise_more state new given (activated n) adds h r = subst (λ (l : List ℕ). Rises 0 l) (sym (append-nil (numbers given))) r
numbers_rise_more state new given (superseded n) adds h r = subst (λ (l : List ℕ). Rises 0 l) (sym (append-nil (numbers given))) r

ballots_rise_more : (state new : DeskState) (given : List Answer) (answer : Answer) → Adds state new answer → Holds given state → Rises 1 (ballots given) → Rises 1 (ballots given ++ ballots (answer ∷ []))
ballots_rise_more state new given (ballot n) adds h r = let a = adds.ballot_is n here in rises_more 1 (ballots given) n r a.0 (λ m i. (let b = h.ballots_below m i in let c = a.1 in omega (arith, b, c)))
ballots_rise_more state new given (number n) adds h r = subst (λ (l : List ℕ). Rises 1 l) (sym (append-nil (ballots given))) r
ballots_rise_more state new given (activated n) adds h r = subst (λ (l : List ℕ). Rises 1 l) (sym (append-nil (ballots given))) r
ballots_rise_more state new given (superseded n) adds h r = subst (λ (l : List ℕ). Rises 1 l) (sym (append-nil (ballots given))) r

active_rise_more : (state new : DeskState) (given : List Answer) (answer : Answer) → Adds state new answer → Holds given state → NeverFalls 1 (active_ones given) → NeverFalls 1 (active_ones given ++ active_ones (answer ∷ []))
active_rise_more state new given (activated n) adds h r = let a = adds.active_is n here in never_more 1 (active_ones given) n r a.0 (λ m i. (let b = h.active_below m i in let c = a.1 in omega (arith, b, c)))
active_rise_more state new given (number n) adds h r = subst (λ (l : List ℕ). NeverFalls 1 l) (sym (append-nil (active_ones given))) r
active_rise_more state new given (ballot n) adds h r = subst (λ (l : List ℕ). NeverFalls 1 l) (sym (append-nil (active_ones given))) r
active_rise_more state new given (superseded n) adds h r = subst (λ (l : List ℕ). NeverFalls 1 l) (sym (append-nil (active_ones given))) r

kept_more : (given : List Answer) (state new : DeskState) (stands now : List (List ℕ)) (answer : Answer) → Adds state new answer → IsDesk new
    → ((bytes : List ℕ) → In bytes now → StandsFor new bytes) → Kept given state stands → Kept (given ++ answer ∷ []) new now
kept_more given state new stands now answer adds sound all k = record {
  sound = sound;
  holds = holds_more given state new answer adds k.holds;
  all = all;
  numbers_rise = subst (λ (l : List ℕ). Rises 0 l) (sym (numbers_more given answer)) (numbers_rise_more state new given answer adds k.holds k.numbers_rise);
  ballots_rise = subst (λ (l : List ℕ). Rises 1 l) (sym (ballots_more given answer)) (ballots_rise_more state new given answer adds k.holds k.ballots_rise);
  active_rise = subst (λ (l : List ℕ). NeverFalls 1 l) (sym (active_more given answer)) (active_rise_more state new given answer adds k.holds k.active_rise);
  never = λ before later b e i j. never_now before later b i j (split_last given answer before (superseded b) later e);
}
  where
    or_never : (before front : List Answer) (b : ℕ) → given ≡ before ++ superseded b ∷ front → In b (ballots before) → In b (active_ones front) ⊎ In b (active_ones (answer ∷ [])) → ⊥
    or_never before front b e i (inl j) = k.never before front b e i j
    or_never before front b e i (inr j) = (adds.active_is b j).3 (k.holds.dead before front b e i)

    never_now : (before later : List Answer) (b : ℕ) → In b (ballots before) → In b (active_ones later)
        → ((later ≡ []) × (answer ≡ superseded b) × (given ≡ before)) ⊎ ((front : List Answer) × (later ≡ front ++ answer ∷ []) × (given ≡ before ++ superseded b ∷ front))
        → ⊥
    never_now before later b i j (inl e) = in_nil b (subst (λ (l : List Answer). In b (active_ones l)) e.0 j)
    never_now before later b i j (inr e) =
        or_never before e.0 b e.2 i (in_append (active_ones e.0) (active_ones (answer ∷ [])) (subst (λ (l : List ℕ). In b l) (active_more e.0 answer) (subst (λ (l : List Answer). In b (active_ones l)) e.1 j)))

-- ---- which answers

differ : true ≡ false → ⊥
differ e = cc

adds_changed : (state new : DeskState) (answer : Answer) → IsDesk state → Changes state answer new → Adds state new answer
adds_changed state new answer is (starts left) =
    let r = ranges state.next state.master is.sound in
    record {
      follows = follows state new answer is (starts left);
      still = λ b d. dead_still b state new answer is (starts left) d;
      number_is = λ n i. (let e = in_one n state.next i in let f = r.first in (omega (arith, e, f), omega (arith, e), omega (arith, e)));
      ballot_is = λ b i. in_nil b i;
      active_is = λ b i. in_nil b i;
      dead_is = λ b e. cc;
    }
adds_changed state new answer is (assigns config may) =
    let r = ranges state.next state.master is.sound in
    record {
      follows = follows state new answer is (assigns config may);
      still = λ b d. dead_still b state new answer is (assigns config may) d;
      number_is = λ n i. in_nil n i;
      ballot_is = λ b i. (let e = in_one b (state.master.given + 1) i in let f = r.one in let g = r.active in (omega (arith, e, f, g), omega (arith, e), omega (arith, e)));
      active_is = λ b i. in_nil b i;
      dead_is = λ b e. cc;
    }
adds_changed state new answer is (activates c w) =
    let r = ranges state.next state.master is.sound in
    let config = waiting_is c state.master.waiting w in
    let a = above state c config.0 is config.1 in
    let now : (activated_by state c).master.active ≡ c = ap (λ (s : DeskState). s.master.active) (activated_is state c config.0 config.1) in
    record {
      follows = follows state new answer is (activates c w);
      still = λ b d. dead_still b state new answer is (activates c w) d;
      number_is = λ n i. in_nil n i;
      ballot_is = λ b i. in_nil b i;
      active_is = λ b i. (let e = in_one b c i in let f = r.one in (omega (arith, e, f, a.0), omega (arith, e, a.0), omega (arith, e, now), λ d. differ (sym w ∙ ap (λ (n : ℕ). waits_for state.master.waiting n) (sym e) ∙ d.gone)));
      dead_is = λ b e. cc;
    }

same_follows : (state : DeskState) → Follows state state
same_follows state = record { next = omega arith; given = omega arith; active = omega arith }

superseded_one : (b c : ℕ) → superseded b ≡ superseded c → b ≡ c
superseded_one b c e = cc

adds_repeated : (state : DeskState) (answer : Answer) → IsDesk state → Repeats state answer → Adds state state answer
adds_repeated state answer is stays =
    let r = ranges state.next state.master is.sound in
    record {
      follows = same_follows state;
      still = λ b d. d;
      number_is = λ n i. in_nil n i;
      ballot_is = λ b i. in_nil b i;
      active_is = λ b i. (let e = in_one b state.master.active i in let f = r.one in (omega (arith, e, f), omega (arith, e), omega (arith, e), λ d. d.other e));
      dead_is = λ b e. cc;
    }
adds_repeated state answer is (was c gone other) = record {
  follows = same_follows state;
  still = λ b d. d;
  number_is = λ n i. in_nil n i;
  ballot_is = λ b i. in_nil b i;
  active_is = λ b i. in_nil b i;
  dead_is = λ b e g. (let same = superseded_one c b e in subst (λ (n : ℕ). IsDead n state) same (record { given = subst (λ (n : ℕ). n ≤ state.master.given) (sym same) g; other = other; gone = gone }));
}

-- ---- every run

stands_itself : (state : DeskState) (bytes : List ℕ) → IsDesk state → bytes ≡ form state → StandsFor state bytes
stands_itself state bytes is e = record { later = state; is = e; sound = is; follows = same_follows state; still = λ b d. d }

abbrev done : DeskState → Result DeskState FormFault
done a = Ok a

read_is : (a b : DeskState) → done a ≡ done b → a ≡ b
read_is a b e = cc

opening_sound : (cluster : List ℕ) → length cluster ≡ 16 → IsDesk (opening_desk cluster)
opening_sound cluster size = record { named = size; greatest = refl; sound = refl }

no_split : {X : Type 0} {P : Type 0} (ys : List X) (y : X) (zs : List X) → [] ≡ ys ++ y ∷ zs → P
no_split [] y zs e = cc
no_split (w ∷ ys) y zs e = cc

kept : {given : List Answer} {state : DeskState} {stands : List (List ℕ)} → Ran given state stands → Kept given state stands
kept (opens cluster size) = record {
  sound = opening_sound cluster size;
  holds = record { numbers_below = λ n i. in_nil n i; ballots_below = λ b i. in_nil b i; active_below = λ b i. in_nil b i; dead = λ before later b e i. no_split before (superseded b) later e };
  all = λ bytes i. stands_itself (opening_desk cluster) bytes (opening_sound cluster size) (in_one bytes (form (opening_desk cluster)) i);
  numbers_rise = tt;
  ballots_rise = tt;
  active_rise = tt;
  never = λ before later b e i j. no_split before (superseded b) later e;
}
kept (answers {given = given} {state = state} {stands = stands} answer new r changes) =
    let k = kept r in
    let sound = changed_sound state new answer k.sound changes in
    kept_more given state new stands (form new ∷ []) answer (adds_changed state new answer k.sound changes) sound (λ bytes i. stands_itself new bytes sound (in_one bytes (form new) i)) k
kept (repeats {given = given} {state = state} {stands = stands} answer r same) =
    let k = kept r in
    kept_more given state state stands stands answer (adds_repeated state answer k.sound same) k.sound k.all k
kept (fails {given = given} {state = state} {stands = stands} answer new now r changes among) =
    let k = kept r in
    record {
      sound = k.sound;
      holds = k.holds;
      all = λ bytes i. either state new stands bytes k.all (record { later = new; is = refl; sound = changed_sound state new answer k.sound changes; follows = follows state new answer k.sound changes; still = λ b d. dead_still b state new answer k.sound changes d }) (among bytes i);
      numbers_rise = k.numbers_rise;
      ballots_rise = k.ballots_rise;
      active_rise = k.active_rise;
      never = k.never;
    }
  where
    either : (state new : DeskState) (stands : List (List ℕ)) (bytes : List ℕ) → ((b : List ℕ) → In b stands → StandsFor state b) → StandsFor state (form new) → In bytes (form new ∷ stands) → StandsFor state bytes
    either state new stands bytes all one here = one
    either state new stands bytes all one (there i) = all bytes i
kept (restarts {given = given} {state = state} {stands = stands} bytes read r i says) =
    let k = kept r in
    let s = k.all bytes i in
    let same : s.later ≡ read = read_is s.later read (sym (form_read s.later s.sound) ∙ ap desk_of (sym s.is) ∙ says) in
    subst (λ (t : DeskState). Kept given t (bytes ∷ [])) same (record {
      sound = s.sound;
      holds = holds_later given state s.later s.follows s.still k.holds;
      all = λ other j. stands_itself s.later other s.sound (in_one other bytes j ∙ s.is);
      numbers_rise = k.numbers_rise;
      ballots_rise = k.ballots_rise;
      active_rise = k.active_rise;
      never = k.never;
    })

pub each_number : EachStartHasItsNumber
each_number given state stands r =
    let k = kept r in
    let g = ranges state.next state.master k.sound.sound in
    (k.numbers_rise, λ n i. (let below = k.holds.numbers_below n i in let last = g.last in omega (arith, below, last)))

pub no_ballot_twice : NoBallotIsAssignedTwice
no_ballot_twice given state stands r = (kept r).ballots_rise

pub active_rises : ActiveBallotsRise
active_rises given state stands r = ((kept r).active_rise, (kept r).holds.active_below)

pub for_good : SupersededForGood
for_good before later b state stands r i j = (kept r).never before later b refl i j
