-- Kept.antt: what still waits when a message is queued.
use Rattle.std.proofs.Common.{◌≡◌, ℕ, suc, ◌+◌, ◌-◌, ◌≤◌, Bool, true, false, if◌then◌else◌, List, [], ◌∷◌, ◌++◌, length, take, Option, Some, None, refl, sym, ap, ◌∙◌, subst, arith, length-append, get_or, set, nat_lt, nat_le, ◌&&◌, ltb-true, leb-true, ◌==◌}
use Rattle.std.proofs.lemmas.List.{get_or_at, take_all, take_more_set, length-set}
use Rattle.std.specs.Prelude.{slice_get}
use Rattle.ballot_base.specs.declared.message.Message.{Message}
use Rattle.links.specs.declared.link_queue.queue.Waiting.{Waiting}
use Rattle.links.specs.declared.link_queue.logs.LogName.{LogName}
use Rattle.ballot_base.specs.declared.message.Body.{Body}
use Rattle.ballot_base.specs.declared.message.Body.TheVariants as bodies
use Rattle.links.specs.link_queue.Covering.{body_covers, covers, is_commit_within, is_held_within}
use Rattle.links.specs.link_queue.Logs.{body_name, log_name}
use Rattle.links.specs.link_queue.Queues.{IsBounded, QueueView, bytes_of, covers_newest, covers_one, fits, still_waiting}

-- a list is what stands before its last element, and that
pub last_apart : {X : Type 0} (xs : List X) (x : X) → slice_get xs (length xs - 1) ≡ Some x → xs ≡ take (length xs - 1) xs ++ x ∷ []
last_apart [] x e = cc
last_apart (y ∷ []) x e = cc
last_apart (y ∷ z ∷ xs) x e =
    let n : length (y ∷ z ∷ xs) - 1 ≡ suc (length (z ∷ xs) - 1) = omega arith in
    let e' : slice_get (z ∷ xs) (length (z ∷ xs) - 1) ≡ Some x = subst (λ (k : ℕ). slice_get (y ∷ z ∷ xs) k ≡ Some x) n e in
    ap (λ (l : List _). y ∷ l) (last_apart (z ∷ xs) x e') ∙ ap (λ (k : ℕ). take k (y ∷ z ∷ xs) ++ x ∷ []) (sym n)

pub bytes_last : {C : Type 0} (ws : List (Waiting C)) (w : Waiting C) → bytes_of (ws ++ w ∷ []) ≡ bytes_of ws + w.size
bytes_last [] w = omega arith
bytes_last (first ∷ ws) w = let e = bytes_last ws w in omega (arith, e)

-- the newest is covered: it stands at the end
pub record Covered {C : Type 0} (message : Message C) (waiting : List (Waiting C)) : Type 0 where
  pub newest : Waiting C
  pub covered : covers message newest.message ≡ true
  pub is : waiting ≡ take (length waiting - 1) waiting ++ newest ∷ []

pub covered_last : {C : Type 0} (message : Message C) (waiting : List (Waiting C)) → covers_newest message waiting ≡ true → Covered message waiting
covered_last {C} message waiting e = by (slice_get waiting (length waiting - 1)) refl e
  where
    by : (o : Option (Waiting C)) → slice_get waiting (length waiting - 1) ≡ o → covers_one message o ≡ true → Covered message waiting
    by None is c = cc
    by (Some newest) is c = record { newest = newest; covered = c; is = last_apart waiting newest is }

-- what covers another message carries no log
body_without_log : {C : Type 0} (newer older : Body C) → body_covers newer older ≡ true → body_name newer ≡ None
body_without_log (bodies.Held b h) older e = refl
body_without_log (bodies.Commit b h) older e = refl
body_without_log (bodies.NewBallot a b c d) older e = cc
body_without_log (bodies.Join a b) older e = cc
body_without_log (bodies.State a b) older e = cc
body_without_log (bodies.Install a b) older e = cc
body_without_log (bodies.Installed a b) older e = cc
body_without_log (bodies.Activate a) older e = cc
body_without_log (bodies.Activated a) older e = cc
body_without_log (bodies.Superseded a) older e = cc
body_without_log (bodies.Append a b c) older e = cc

held_without_log : {C : Type 0} (ballot held : ℕ) (body : Body C) → is_held_within ballot held body ≡ true → body_name body ≡ None
held_without_log ballot held (bodies.Held c i) e = refl
held_without_log ballot held (bodies.Commit c i) e = cc
held_without_log ballot held (bodies.NewBallot a b c d) e = cc
held_without_log ballot held (bodies.Join a b) e = cc
held_without_log ballot held (bodies.State a b) e = cc
held_without_log ballot held (bodies.Install a b) e = cc
held_without_log ballot held (bodies.Installed a b) e = cc
held_without_log ballot held (bodies.Activate a) e = cc
held_without_log ballot held (bodies.Activated a) e = cc
held_without_log ballot held (bodies.Superseded a) e = cc
held_without_log ballot held (bodies.Append a b c) e = cc

commit_without_log : {C : Type 0} (ballot held : ℕ) (body : Body C) → is_commit_within ballot held body ≡ true → body_name body ≡ None
commit_without_log ballot held (bodies.Commit c i) e = refl
commit_without_log ballot held (bodies.Held c i) e = cc
commit_without_log ballot held (bodies.NewBallot a b c d) e = cc
commit_without_log ballot held (bodies.Join a b) e = cc
commit_without_log ballot held (bodies.State a b) e = cc
commit_without_log ballot held (bodies.Install a b) e = cc
commit_without_log ballot held (bodies.Installed a b) e = cc
commit_without_log ballot held (bodies.Activate a) e = cc
commit_without_log ballot held (bodies.Activated a) e = cc
commit_without_log ballot held (bodies.Superseded a) e = cc
commit_without_log ballot held (bodies.Append a b c) e = cc

-- nor does what is covered
body_without_log_too : {C : Type 0} (newer older : Body C) → body_covers newer older ≡ true → body_name older ≡ None
body_without_log_too (bodies.Held b h) older e = held_without_log b h older e
body_without_log_too (bodies.Commit b h) older e = commit_without_log b h older e
body_without_log_too (bodies.NewBallot a b c d) older e = cc
body_without_log_too (bodies.Join a b) older e = cc
body_without_log_too (bodies.State a b) older e = cc
body_without_log_too (bodies.Install a b) older e = cc
body_without_log_too (bodies.Installed a b) older e = cc
body_without_log_too (bodies.Activate a) older e = cc
body_without_log_too (bodies.Activated a) older e = cc
body_without_log_too (bodies.Superseded a) older e = cc
body_without_log_too (bodies.Append a b c) older e = cc

second_too : (a b : Bool) → (a && b) ≡ true → b ≡ true
second_too true b e = e
second_too false b e = cc

pub covering_without_log : {C : Type 0} (newer older : Message C) → covers newer older ≡ true → log_name newer ≡ None
covering_without_log newer older e = body_without_log newer.body older.body (second_too (newer.from == older.from) (body_covers newer.body older.body) e)

pub covered_without_log : {C : Type 0} (newer older : Message C) → covers newer older ≡ true → log_name older ≡ None
covered_without_log newer older e = body_without_log_too newer.body older.body (second_too (newer.from == older.from) (body_covers newer.body older.body) e)

pub newest_without_log : {C : Type 0} (message : Message C) (waiting : List (Waiting C)) → covers_newest message waiting ≡ true → log_name message ≡ None
newest_without_log message waiting e = let c = covered_last message waiting e in covering_without_log message c.newest.message c.covered

differ : true ≡ false → ⊥
differ e = cc

-- where room for the name of a log was refused, there is a name
pub nothing_grows : {C : Type 0} (message : Message C) (waiting : List (Waiting C)) (is_there : Bool) → (log_name message ≡ None → is_there ≡ true) → is_there ≡ false → covers_newest message waiting ≡ false
nothing_grows message waiting is_there room refused = by (covers_newest message waiting) refl
  where
    by : (b : Bool) → covers_newest message waiting ≡ b → covers_newest message waiting ≡ false
    by false e = e
    by true e = absurd (differ (sym (room (newest_without_log message waiting e)) ∙ refused))

-- a list that is not empty has its last element at its last place
end_of : {X : Type 0} (xs front : List X) (x d : X) → xs ≡ front ++ x ∷ [] → get_or xs (length xs - 1) d ≡ x
end_of xs front x d is =
    let size : length xs - 1 ≡ length front = omega (arith, ap (λ (l : List _). length l) is, length-append front (x ∷ [])) in
    ap (λ (l : List _). get_or l (length xs - 1) d) is ∙ get_or_at front x [] d (length xs - 1) (sym size)

-- a Held or Commit has one to replace
pub covered_some : {C : Type 0} (message : Message C) (waiting : List (Waiting C)) → covers_newest message waiting ≡ true → 1 ≤ length waiting
covered_some message waiting e =
    let c = covered_last message waiting e in
    omega (arith, ap (λ (l : List _). length l) c.is, length-append (take (length waiting - 1) waiting) (c.newest ∷ []))

pub covered_bytes : {C : Type 0} (message : Message C) (waiting : List (Waiting C)) (newest : Waiting C) → covers_newest message waiting ≡ true
    → newest ≡ get_or waiting (length waiting - 1) newest → bytes_of (take (length waiting - 1) waiting) + newest.size ≡ bytes_of waiting
covered_bytes message waiting newest e at =
    let c = covered_last message waiting e in
    let same : newest ≡ c.newest = at ∙ end_of waiting (take (length waiting - 1) waiting) c.newest newest c.is in
    let sum = bytes_last (take (length waiting - 1) waiting) c.newest in
    let size : newest.size ≡ c.newest.size = ap (λ (w : Waiting _). w.size) same in
    omega (arith, ap (λ (l : List (Waiting _)). bytes_of l) c.is, sum, size)

pub still_covered : {C : Type 0} (message : Message C) (waiting : List (Waiting C)) → covers_newest message waiting ≡ true
    → still_waiting message waiting ≡ take (length waiting - 1) waiting
still_covered message waiting e = ap (λ (b : Bool). if b then take (length waiting - 1) waiting else waiting) e

pub still_all : {C : Type 0} (message : Message C) (waiting : List (Waiting C)) → covers_newest message waiting ≡ false → still_waiting message waiting ≡ waiting
still_all message waiting e = ap (λ (b : Bool). if b then take (length waiting - 1) waiting else waiting) e

-- what replaces the last element
set_last : {X : Type 0} (xs : List X) (x : X) → 1 ≤ length xs → set xs (length xs - 1) x ≡ take (length xs - 1) xs ++ x ∷ []
set_last xs x some =
    let n : length xs - 1 + 1 ≡ length xs = omega (arith, some) in
    let more = take_more_set xs (length xs - 1) x (omega (arith, some)) in
    let whole : take (length xs - 1 + 1) (set xs (length xs - 1) x) ≡ set xs (length xs - 1) x =
    take_all (length xs - 1 + 1) (set xs (length xs - 1) x) (omega (arith, some, length-set xs (length xs - 1) x)) in
    sym whole ∙ more

pub replaced : {C : Type 0} (waiting : List (Waiting C)) (added : Waiting C) → covers_newest added.message waiting ≡ true
    → set waiting (length waiting - 1) added ≡ still_waiting added.message waiting ++ added ∷ []
replaced waiting added e =
    set_last waiting added (covered_some added.message waiting e)
    ∙ ap (λ (l : List (Waiting _)). l ++ added ∷ []) (sym (still_covered added.message waiting e))

-- ---- the bounds

pub bytes_more : {C : Type 0} (kept : List (Waiting C)) (message : Message C) (size bytes : ℕ) → bytes ≡ bytes_of kept
    → bytes + size ≡ bytes_of (kept ++ (record { message = message; size = size }) ∷ [])
bytes_more kept message size bytes is = let sum = bytes_last kept (record { message = message; size = size }) in omega (arith, is, sum)

fits_so : {C : Type 0} (kept : List (Waiting C)) (size : ℕ) → fits kept size ≡ true → (length kept + 1 ≤ 524288) × (bytes_of kept + size ≤ 134217728)
fits_so kept size e = by (nat_lt (length kept) 524288) (nat_le (bytes_of kept + size) 134217728) refl refl e
  where
    by : (a b : Bool) → nat_lt (length kept) 524288 ≡ a → nat_le (bytes_of kept + size) 134217728 ≡ b → (a && b) ≡ true → (length kept + 1 ≤ 524288) × (bytes_of kept + size ≤ 134217728)
    by true true x y t = (let lt = ltb-true (length kept) 524288 x in omega (arith, lt), leb-true (bytes_of kept + size) 134217728 y)
    by true false x y t = cc
    by false b x y t = cc

pub bounded_more : {C : Type 0} (kept : List (Waiting C)) (message : Message C) (size : ℕ) → fits kept size ≡ true
    → IsBounded (kept ++ (record { message = message; size = size }) ∷ [])
bounded_more kept message size e =
    let both = fits_so kept size e in
    let sum = bytes_last kept (record { message = message; size = size }) in
    record {
      messages = omega (arith, both.0, length-append kept ((record { message = message; size = size }) ∷ []));
      bytes = omega (arith, both.1, sum);
    }

pub fits_is : (count bytes size : ℕ) → (nat_lt count 524288 && (nat_le bytes 134217728 && nat_le size (134217728 - bytes))) ≡ (nat_lt count 524288 && nat_le (bytes + size) 134217728)
fits_is count bytes size = grind arith

-- the invariant of a queue, after a message was queued
pub pushed : {C : Type 0} (message : Message C) (size bytes : ℕ) (waiting new : List (Waiting C))
    → new ≡ still_waiting message waiting ++ (record { message = message; size = size }) ∷ []
    → bytes ≡ bytes_of (still_waiting message waiting) → fits (still_waiting message waiting) size ≡ true
    → (bytes + size ≡ bytes_of new) × IsBounded new
pushed message size bytes waiting new is sum room =
    subst (λ (l : List (Waiting _)). (bytes + size ≡ bytes_of l) × IsBounded l) (sym is)
    (bytes_more (still_waiting message waiting) message size bytes sum, bounded_more (still_waiting message waiting) message size room)

pub size_below : {C : Type 0} (message : Message C) (waiting : List (Waiting C)) (newest : Waiting C) (bytes : ℕ) → covers_newest message waiting ≡ true
    → newest ≡ get_or waiting (length waiting - 1) newest → bytes ≡ bytes_of waiting → newest.size ≤ bytes
size_below message waiting newest bytes e at is = let sum = covered_bytes message waiting newest e at in omega (arith, sum, is)

pub kept_bytes : {C : Type 0} (message : Message C) (waiting : List (Waiting C)) (newest : Waiting C) (bytes : ℕ) → covers_newest message waiting ≡ true
    → newest ≡ get_or waiting (length waiting - 1) newest → bytes ≡ bytes_of waiting → bytes - newest.size ≡ bytes_of (still_waiting message waiting)
kept_bytes message waiting newest bytes e at is =
    let sum = covered_bytes message waiting newest e at in
    let less : bytes - newest.size ≡ bytes_of (take (length waiting - 1) waiting) = omega (arith, sum, is) in
    less ∙ ap (λ (l : List (Waiting _)). bytes_of l) (sym (still_covered message waiting e))

pub replaced_at : {C : Type 0} (waiting seen : List (Waiting C)) (added : Waiting C) (count : ℕ) → seen ≡ waiting → count ≡ length waiting
    → covers_newest added.message seen ≡ true → set waiting (count - 1) added ≡ still_waiting added.message waiting ++ added ∷ []
replaced_at waiting seen added count same counts e =
    ap (λ (n : ℕ). set waiting (n - 1) added) counts
    ∙ replaced waiting added (subst (λ (l : List (Waiting _)). covers_newest added.message l ≡ true) same e)

pub pushed_now : {C : Type 0} (message : Message C) (size bytes : ℕ) (waiting seen new : List (Waiting C)) (logs : List LogName) (dropped : ℕ) (queue : QueueView C)
    → record { waiting = waiting; logs = logs; dropped = dropped } ≡ queue → seen ≡ waiting
    → new ≡ still_waiting message waiting ++ (record { message = message; size = size }) ∷ []
    → bytes ≡ bytes_of (still_waiting message seen) → fits (still_waiting message queue.waiting) size ≡ true
    → (bytes + size ≡ bytes_of new) × IsBounded new
pushed_now message size bytes waiting seen new logs dropped queue view same is sum room =
    pushed message size bytes waiting new is
    (sum ∙ ap (λ (l : List (Waiting _)). bytes_of (still_waiting message l)) same)
    (ap (λ (q : QueueView _). fits (still_waiting message q.waiting) size) view ∙ room)
