-- LogsThere.antt: the names of a queue are those of the logs that wait or are in transit, each of them there once.
use Rattle.std.proofs.Common.{◌≡◌, ℕ, suc, ◌+◌, ◌-◌, ◌≤◌, Bool, true, false, not, ◌&&◌, ◌||◌, ◌==◌, cond, if◌then◌else◌, List, [], ◌∷◌, ◌++◌, length, take, filter, Option, Some, None, refl, sym, ap, ap₂, ◌∙◌, subst, arith, append_assoc, length-append}
use Rattle.std.specs.List.{list_any}
use Rattle.std.proofs.lemmas.List.{append-nil, map-append}
use Rattle.std.proofs.lemmas.List.Folds.{list_any-append}
use Rattle.std.proofs.lemmas.List.Elements.{filter-append}
use Rattle.ballot_base.specs.declared.message.Message.{Message}
use Rattle.links.specs.declared.link_queue.logs.LogName.{LogName}
use Rattle.links.specs.declared.link_queue.logs.LogName.TheVariants.{State, Install}
use Rattle.links.specs.declared.link_queue.queue.Waiting.{Waiting}
use Rattle.links.specs.declared.link_queue.queue.Fate.{Fate}
use Rattle.links.specs.declared.link_queue.queue.Fate.TheVariants.{Queued, Repeated, Full}
use Rattle.links.specs.link_queue.Logs.{is_name, is_named, is_same, log_name}
use Rattle.links.specs.link_queue.Queues.{QueueView, covers_newest, fate_of, fits, has_name, has_waiting, is_repeated, is_there, stays, still_waiting, with_log, with_message}
use Rattle.links.specs.link_queue.Theorems.{messages}
use Rattle.links.specs.link_queue.Transit.{Linked, EachLogIsThereOnce, WhatIsRepeatedIsThere, carries_log, named}
use Rattle.links.specs.link_queue.Transit.Linked.{opens, queues, drops, takes, leaves, breaks, clears}
use Rattle.links.proofs.of_link_queue.Kept.{covered_last, covered_without_log}

-- ---- names

same_numbers : (n m : ℕ) → (n == m) ≡ true → n ≡ m
same_numbers n m e = grind (arith, e)

number_itself : (n : ℕ) → (n == n) ≡ true
number_itself n = grind arith

same_names : (name other : LogName) → is_same name other ≡ true → name ≡ other
same_names (State a) (State b) e = ap (λ (n : ℕ). State n) (same_numbers a b e)
same_names (Install a) (Install b) e = ap (λ (n : ℕ). Install n) (same_numbers a b e)
same_names (State a) (Install b) e = cc
same_names (Install a) (State b) e = cc

itself : (name : LogName) → is_same name name ≡ true
itself (State a) = number_itself a
itself (Install a) = number_itself a

-- ---- tests of lists

-- a log of this name is carried
abbrev has : {C : Type 0} → LogName → List (Message C) → Bool
has name sent = list_any (λ message. is_named name message) sent

and_over_or : (a b c d : Bool) → (a ≡ true → d ≡ c) → ((a && d) || (b && c)) ≡ ((a || b) && c)
and_over_or true b c d e = (ap (λ (x : Bool). x || (b && c)) (e refl)) ∙ absorbed c b
  where
    absorbed : (x y : Bool) → (x || (y && x)) ≡ x
    absorbed true y = refl
    absorbed false true = refl
    absorbed false false = refl
and_over_or false b c d e = refl

kept_test : {X : Type 0} (p f : X → Bool) (x : X) (xs : List X) → list_any p (filter f (x ∷ xs)) ≡ ((p x && f x) || list_any p (filter f xs))
kept_test {X} p f x xs = by (f x)
  where
    by : (b : Bool) → list_any p (cond b (x ∷ filter f xs) (filter f xs)) ≡ ((p x && b) || list_any p (filter f xs))
    by true = ap (λ (y : Bool). y || list_any p (filter f xs)) (and_true (p x))
      where
        and_true : (y : Bool) → y ≡ (y && true)
        and_true true = refl
        and_true false = refl
    by false = ap (λ (y : Bool). y || list_any p (filter f xs)) (and_false (p x))
      where
        and_false : (y : Bool) → false ≡ (y && false)
        and_false true = refl
        and_false false = refl

-- what is left of a list has an element that passes if the list had one, where the second test says the same of all that pass the first
left : {X : Type 0} (p f : X → Bool) (is : Bool) → ((x : X) → p x ≡ true → f x ≡ is) → (xs : List X) → list_any p (filter f xs) ≡ (list_any p xs && is)
left p f is same [] = refl
left p f is same (x ∷ xs) =
    kept_test p f x xs
    ∙ ap (λ (b : Bool). (p x && f x) || b) (left p f is same xs)
    ∙ and_over_or (p x) (list_any p xs) is (f x) (same x)

name_left : (name : LogName) (f : LogName → Bool) (logs : List LogName) → has_name name (filter f logs) ≡ (has_name name logs && f name)
name_left name f logs = left (λ other. is_same name other) f (f name) (λ other e. ap f (sym (same_names name other e))) logs

named_by : (name other : LogName) (carried : Option LogName) → is_name name carried ≡ true → is_name other carried ≡ is_same other name
named_by name other None e = cc
named_by name other (Some third) e = ap (λ (n : LogName). is_same other n) (sym (same_names name third e))

sent_left : {C : Type 0} (name gone : LogName) (sent : List (Message C)) → has name (filter (λ message. not (is_named gone message)) sent) ≡ (has name sent && not (is_same gone name))
sent_left {C} name gone sent =
    left (λ (message : Message C). is_named name message) (λ message. not (is_named gone message)) (not (is_same gone name))
    (λ message e. ap (λ (b : Bool). not b) (named_by name gone (log_name message) e)) sent

waits : {C : Type 0} (name : LogName) (waiting : List (Waiting C)) → has name (messages waiting) ≡ has_waiting waiting name
waits name [] = refl
waits name (first ∷ rest) = ap (λ (b : Bool). is_named name first.message || b) (waits name rest)

both_had : {C : Type 0} (name : LogName) (sent more : List (Message C)) → has name (sent ++ more) ≡ (has name sent || has name more)
both_had {C} name sent more = list_any-append (λ (message : Message C). is_named name message) sent more

-- ---- counts

abbrev count : {C : Type 0} → LogName → List (Message C) → ℕ
count name sent = length (named name sent)

both_counted : {C : Type 0} (name : LogName) (sent more : List (Message C)) → count name (sent ++ more) ≡ count name sent + count name more
both_counted {C} name sent more =
    ap (λ (l : List (Message C)). length l) (filter-append (λ (message : Message C). is_named name message) sent more)
    ∙ length-append (named name sent) (named name more)

none_more : {C : Type 0} (b : Bool) (first : Message C) (rest : List (Message C)) (any : Bool) → (b || any) ≡ false → (any ≡ false → length rest ≡ 0) → length (cond b (first ∷ rest) rest) ≡ 0
none_more true first rest any e before = cc
none_more false first rest any e before = before e

none_counted : {C : Type 0} (name : LogName) (sent : List (Message C)) → has name sent ≡ false → count name sent ≡ 0
none_counted name [] e = refl
none_counted {C} name (first ∷ rest) e = none_more (is_named name first) first (named name rest) (has name rest) e (none_counted name rest)

fewer_of : {C : Type 0} (kept is : Bool) (first : Message C) (name : LogName) (some all : List (Message C)) → is_named name first ≡ is → length (named name some) ≤ length (named name all)
    → length (named name (cond kept (first ∷ some) some)) ≤ length (cond is (first ∷ named name all) (named name all))
fewer_of true true first name some all i before =
    let e : length (named name (first ∷ some)) ≡ suc (length (named name some)) = ap (λ (b : Bool). length (cond b (first ∷ named name some) (named name some))) i in
    omega (arith, e, before)
fewer_of true false first name some all i before =
    let e : length (named name (first ∷ some)) ≡ length (named name some) = ap (λ (b : Bool). length (cond b (first ∷ named name some) (named name some))) i in
    omega (arith, e, before)
fewer_of false true first name some all i before = omega (arith, before)
fewer_of false false first name some all i before = before

fewer : {C : Type 0} (name : LogName) (f : Message C → Bool) (sent : List (Message C)) → count name (filter f sent) ≤ count name sent
fewer name f [] = omega arith
fewer {C} name f (first ∷ rest) = fewer_of (f first) (is_named name first) first name (filter f rest) rest refl (fewer name f rest)

-- ---- every run

-- each name once, and the names are those of the logs that are there
record IsThereOnce {C : Type 0} (transit : List (Message C)) (queue : QueueView C) : Type 0 where
  once : (name : LogName) → count name (transit ++ messages queue.waiting) ≤ 1
  names : (name : LogName) → has_name name queue.logs ≡ has name (transit ++ messages queue.waiting)

messages_more : {C : Type 0} (transit : List (Message C)) (ws : List (Waiting C)) (w : Waiting C)
    → transit ++ messages (ws ++ w ∷ []) ≡ (transit ++ messages ws) ++ w.message ∷ []
messages_more {C} transit ws w =
    ap (λ (l : List (Message C)). transit ++ l) (map-append (λ (each : Waiting C). each.message) ws (w ∷ []))
    ∙ sym (append_assoc transit (messages ws) (w.message ∷ []))

-- a message without a log changes nothing of this
unnamed : {C : Type 0} (name : LogName) (message : Message C) → log_name message ≡ None → is_named name message ≡ false
unnamed name message e = ap (λ (o : Option LogName). is_name name o) e

had_more : {C : Type 0} (name : LogName) (sent : List (Message C)) (message : Message C) → has name (sent ++ message ∷ []) ≡ (has name sent || is_named name message)
had_more name sent message = both_had name sent (message ∷ []) ∙ ap (λ (b : Bool). has name sent || b) (or_false (is_named name message))
  where
    or_false : (b : Bool) → (b || false) ≡ b
    or_false true = refl
    or_false false = refl

counted_one : {C : Type 0} (name : LogName) (message : Message C) (b : Bool) → is_named name message ≡ b → count name (message ∷ []) ≡ cond b 1 0
counted_one name message true e = ap (λ (b : Bool). length (cond b (message ∷ []) [])) e
counted_one name message false e = ap (λ (b : Bool). length (cond b (message ∷ []) [])) e

or_false_is : (b : Bool) → (b || false) ≡ b
or_false_is true = refl
or_false_is false = refl

had_same : {C : Type 0} (name : LogName) (sent : List (Message C)) (message : Message C) → log_name message ≡ None → has name (sent ++ message ∷ []) ≡ has name sent
had_same name sent message e = had_more name sent message ∙ ap (λ (b : Bool). has name sent || b) (unnamed name message e) ∙ or_false_is (has name sent)

counted_same : {C : Type 0} (name : LogName) (sent : List (Message C)) (message : Message C) → log_name message ≡ None → count name (sent ++ message ∷ []) ≡ count name sent
counted_same name sent message e =
    let one = counted_one name message false (unnamed name message e) in
    let sum = both_counted name sent (message ∷ []) in
    omega (arith, one, sum)

-- what still waits, without its order: the newest that is covered carries no log
still : {C : Type 0} (transit : List (Message C)) (waiting : List (Waiting C)) (message : Message C) (name : LogName)
    → (has name (transit ++ messages (still_waiting message waiting)) ≡ has name (transit ++ messages waiting)) × (count name (transit ++ messages (still_waiting message waiting)) ≡ count name (transit ++ messages waiting))
still {C} transit waiting message name = by (covers_newest message waiting) refl
  where
    by : (b : Bool) → covers_newest message waiting ≡ b
        → (has name (transit ++ messages (if b then take (length waiting - 1) waiting else waiting)) ≡ has name (transit ++ messages waiting)) × (count name (transit ++ messages (if b then take (length waiting - 1) waiting else waiting)) ≡ count name (transit ++ messages waiting))
    by false e = (refl, refl)
    by true e =
        let c = covered_last message waiting e in
        let front : List (Waiting C) = take (length waiting - 1) waiting in
        let without : log_name c.newest.message ≡ None = covered_without_log message c.newest.message c.covered in
        let all : transit ++ messages waiting ≡ (transit ++ messages (take (length waiting - 1) waiting)) ++ c.newest.message ∷ [] =
        ap (λ (l : List (Waiting C)). transit ++ messages l) c.is ∙ messages_more transit (take (length waiting - 1) waiting) c.newest in (
          sym (ap (λ (l : List (Message C)). has name l) all ∙ had_same name (transit ++ messages (take (length waiting - 1) waiting)) c.newest.message without),
          sym (ap (λ (l : List (Message C)). count name l) all ∙ counted_same name (transit ++ messages (take (length waiting - 1) waiting)) c.newest.message without),
        )

-- a message that is queued is no log that is there
asked : {C : Type 0} (queue : QueueView C) (message : Message C) (size : ℕ) → fate_of queue message size ≡ Queued → is_repeated queue message ≡ false
asked queue message size e = by (is_repeated queue message) refl (subst (λ (f : Fate). f ≡ Queued) refl e)
  where
    by : (b : Bool) → is_repeated queue message ≡ b → (if b then Repeated else if fits (still_waiting message queue.waiting) size then Queued else Full) ≡ Queued → is_repeated queue message ≡ false
    by true r e = cc
    by false r e = r

name_more : (name : LogName) (logs : List LogName) (added : LogName) → has_name name (logs ++ added ∷ []) ≡ (has_name name logs || is_same name added)
name_more name logs added = list_any-append (λ other. is_same name other) logs (added ∷ []) ∙ ap (λ (b : Bool). has_name name logs || b) (or_false_is (is_same name added))

sum_once : {C : Type 0} (transit : List (Message C)) (queue : QueueView C) (name : LogName) → has_name name queue.logs ≡ has name (transit ++ messages queue.waiting)
    → (b : Bool) → (b ≡ true → has_name name queue.logs ≡ false)
    → {n m one before : ℕ} → n ≡ m → m ≡ before + one → before ≡ count name (transit ++ messages queue.waiting) → one ≡ cond b 1 0
    → count name (transit ++ messages queue.waiting) ≤ 1 → n ≤ 1
sum_once transit queue name names false absent a s k o old = omega (arith, a, s, k, o, old)
sum_once transit queue name names true absent a s k o old =
    let none_before = none_counted name (transit ++ messages queue.waiting) (sym names ∙ absent refl) in
    omega (arith, a, s, k, o, none_before)

queued : {C : Type 0} (transit : List (Message C)) (queue : QueueView C) (message : Message C) (size : ℕ)
    → fate_of queue message size ≡ Queued → IsThereOnce transit queue → IsThereOnce transit (with_message queue message size)
queued {C} transit queue message size fate is = by (log_name message) refl
  where
    kept : List (Message C)
    kept = transit ++ messages (still_waiting message queue.waiting)

    all : transit ++ messages (still_waiting message queue.waiting ++ (record { message = message; size = size }) ∷ []) ≡ (transit ++ messages (still_waiting message queue.waiting)) ++ message ∷ []
    all = messages_more transit (still_waiting message queue.waiting) (record { message = message; size = size })

    same_has : (name : LogName) → has name (transit ++ messages (still_waiting message queue.waiting)) ≡ has_name name queue.logs
    same_has name = (still transit queue.waiting message name).0 ∙ sym (is.names name)

    same_count : (name : LogName) → count name (transit ++ messages (still_waiting message queue.waiting)) ≡ count name (transit ++ messages queue.waiting)
    same_count name = (still transit queue.waiting message name).1

    now_has : (name : LogName) → has name (transit ++ messages (still_waiting message queue.waiting ++ (record { message = message; size = size }) ∷ [])) ≡ (has_name name queue.logs || is_named name message)
    now_has name = ap (λ (l : List (Message C)). has name l) all ∙ had_more name (transit ++ messages (still_waiting message queue.waiting)) message ∙ ap (λ (b : Bool). b || is_named name message) (same_has name)

    -- one more of this name, if none was there
    one_more : (name : LogName) (b : Bool) → is_named name message ≡ b → (b ≡ true → has_name name queue.logs ≡ false)
        → count name (transit ++ messages (still_waiting message queue.waiting ++ (record { message = message; size = size }) ∷ [])) ≤ 1
    one_more name b e absent =
        let a = ap (λ (l : List (Message C)). count name l) all in
        let s = both_counted name (transit ++ messages (still_waiting message queue.waiting)) (message ∷ []) in
        let k = same_count name in
        let o = counted_one name message b e in
        sum_once transit queue name (is.names name) b absent a s k o (is.once name)

    by : (o : Option LogName) → log_name message ≡ o → IsThereOnce transit (with_message queue message size)
    by None e = record {
      once = λ name. one_more name false (unnamed name message e) (λ absurd_. cc);
      names = λ name. ap (λ (o : Option LogName). has_name name (with_log queue.logs o)) e ∙ sym (now_has name ∙ ap (λ (b : Bool). has_name name queue.logs || b) (unnamed name message e) ∙ or_false_is (has_name name queue.logs));
    }
    by (Some added) e = record {
      once = λ name. one_more name (is_same name added) (ap (λ (o : Option LogName). is_name name o) e)
          (λ same. ap (λ (n : LogName). has_name n queue.logs) (same_names name added same) ∙ sym (ap (λ (o : Option LogName). is_there queue.logs o) e) ∙ asked queue message size fate);
      names = λ name. ap (λ (o : Option LogName). has_name name (with_log queue.logs o)) e ∙ name_more name queue.logs added
          ∙ sym (now_has name ∙ ap (λ (o : Option LogName). has_name name queue.logs || is_name name o) e);
    }

-- logs of a name have left
gone : (t w s : Bool) → ((t || w) && (not s || w)) ≡ ((t && not s) || w)
gone true true true = refl
gone true true false = refl
gone true false true = refl
gone true false false = refl
gone false true true = refl
gone false true false = refl
gone false false true = refl
gone false false false = refl

only_waits : (t w : Bool) → ((t || w) && w) ≡ w
only_waits true w = refl
only_waits false true = refl
only_waits false false = refl

left_now : {C : Type 0} (transit : List (Message C)) (queue : QueueView C) (name : LogName) → IsThereOnce transit queue
    → IsThereOnce (filter (λ message. not (is_named name message)) transit) (record queue { logs = filter (λ other. stays queue.waiting name other) queue.logs })
left_now {C} transit queue name is = record {
  once = λ other.
      (let few = fewer other (λ (message : Message C). not (is_named name message)) transit in
      let a = both_counted other (filter (λ message. not (is_named name message)) transit) (messages queue.waiting) in
      let b = both_counted other transit (messages queue.waiting) in
      let c = is.once other in
      omega (arith, few, a, b, c));
  names = λ other.
      name_left other (λ third. stays queue.waiting name third) queue.logs
      ∙ ap (λ (b : Bool). b && stays queue.waiting name other) (is.names other ∙ both_had other transit (messages queue.waiting) ∙ ap (λ (b : Bool). has other transit || b) (waits other queue.waiting))
      ∙ gone (has other transit) (has_waiting queue.waiting other) (is_same name other)
      ∙ sym (both_had other (filter (λ message. not (is_named name message)) transit) (messages queue.waiting)
      ∙ ap₂ (λ (a b : Bool). a || b) (sent_left other name transit) (waits other queue.waiting));
}

broken_now : {C : Type 0} (transit : List (Message C)) (queue : QueueView C) → IsThereOnce transit queue
    → IsThereOnce [] (record queue { logs = filter (λ name. has_waiting queue.waiting name) queue.logs })
broken_now {C} transit queue is = record {
  once = λ other. (let b = both_counted other transit (messages queue.waiting) in let c = is.once other in omega (arith, b, c));
  names = λ other.
      name_left other (λ third. has_waiting queue.waiting third) queue.logs
      ∙ ap (λ (b : Bool). b && has_waiting queue.waiting other) (is.names other ∙ both_had other transit (messages queue.waiting) ∙ ap (λ (b : Bool). has other transit || b) (waits other queue.waiting))
      ∙ only_waits (has other transit) (has_waiting queue.waiting other)
      ∙ sym (waits other queue.waiting);
}

there_once : {C : Type 0} {transit : List (Message C)} {queue : QueueView C} → Linked transit queue → IsThereOnce transit queue
there_once opens = record { once = λ name. omega arith; names = λ name. refl }
there_once (queues {transit = t} {queue = q} message size r fate) = queued t q message size fate (there_once r)
there_once (drops {queue = q} r) = let is = there_once r in record { once = is.once; names = is.names }
there_once (takes {transit = t} {queue = q} r) =
    let is = there_once r in
    record {
      once = λ name. subst (λ (l : List (Message _)). count name l ≤ 1) (sym (append-nil (t ++ messages q.waiting))) (is.once name);
      names = λ name. is.names name ∙ ap (λ (l : List (Message _)). has name l) (sym (append-nil (t ++ messages q.waiting)));
    }
there_once (leaves {transit = t} {queue = q} name r) = left_now t q name (there_once r)
there_once (breaks {transit = t} {queue = q} r) = broken_now t q (there_once r)
there_once (clears r) = record { once = λ name. omega arith; names = λ name. refl }

pub each_once : (C : Type 0) → EachLogIsThereOnce C
each_once C transit queue name r = (there_once r).once name

pub repeated_there : (C : Type 0) → WhatIsRepeatedIsThere C
repeated_there C transit queue message r e = by (log_name message) e
  where
    by : (o : Option LogName) → is_there queue.logs o ≡ true → carries_log o (transit ++ messages queue.waiting) ≡ true
    by None n = cc
    by (Some name) n = sym ((there_once r).names name) ∙ n
