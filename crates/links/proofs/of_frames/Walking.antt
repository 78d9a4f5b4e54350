-- Walking.antt: a walk over the parts at the front of a stream finds what stands there.
use Rattle.std.proofs.Common.{◌≡◌, ℕ, zero, suc, ◌+◌, ◌-◌, ◌<◌, ◌≤◌, Bool, true, false, nat_lt, List, [], ◌∷◌, ◌++◌, length, drop, refl, sym, ap, ◌∙◌, subst, arith, length-append, append_assoc, ltb-false, ltb-true, Result, Ok, Err}
use Rattle.std.specs.Prelude.{OnErr}
use Rattle.std.proofs.lemmas.List.{append-nil, length-drop, drop-drop, drop-append-le, length-take-le}
use Rattle.links.specs.declared.frames.head.Head.{Head}
use Rattle.links.specs.declared.frames.head.Head.TheVariants.{Part, Unfinished, Fault}
use Rattle.links.specs.declared.frames.error.PartFault.{PartFault}
use Rattle.links.specs.declared.frames.joiner.Walk.{Walk}
use Rattle.links.specs.frames.Heads.{head_of}
use Rattle.links.specs.frames.Fronts.{Front, Stream, Begins, behind, bytes_of, after}
use Rattle.links.specs.frames.Fronts.Front.{whole, unfinished, broken}
use Rattle.links.specs.frames.Fronts.Begins.{in_head, faulty, in_part, ends, goes_on}
use Rattle.links.specs.frames.Theorems.{EveryStreamBegins}
use Rattle.links.specs.frames.Walks.{HasWalked, EndsAt, IsAtFront, HasSome}
use Rattle.links.proofs.of_frames.PartHeads.{is_head}
use Rattle.links.proofs.of_frames.OneWay.{one_front, as_part, as_unfinished, as_fault, as_short, AsPart}
use Rattle.links.proofs.of_frames.Longer.{part_before}

behind_none : (front : Front) → behind [] front ≡ front
behind_none (whole message rest) = refl
behind_none unfinished = refl
behind_none (broken fault) = refl

behind_more : (a b : List ℕ) (front : Front) → behind a (behind b front) ≡ behind (a ++ b) front
behind_more a b (whole message rest) = ap (λ (l : List ℕ). whole l rest) (sym (append_assoc a b message))
behind_more a b unfinished = refl
behind_more a b (broken fault) = refl

size_of : (len : ℕ) (stream : List ℕ) → 5 + len ≤ length stream → length (bytes_of len stream) ≡ len
size_of len stream all = length-take-le len (drop 5 stream) (omega (arith, all, length-drop 5 stream))

-- ---- the walk that is kept

all_of : (n : ℕ) → n - 0 ≡ n
all_of n = omega arith

pub walk_none : (limit : ℕ) (stream : List ℕ) → HasWalked limit stream (record { at = 0; joined = 0 })
walk_none limit stream = record {
  message = [];
  counts = refl;
  fits = omega arith;
  within = omega arith;
  goes = λ later front b. subst (λ (f : Front). Begins limit (stream ++ later) f) (sym (behind_none front))
      (subst (λ (room : ℕ). Begins room (stream ++ later) front) (all_of limit) b);
}

pub walk_fed : (limit : ℕ) (stream chunk : List ℕ) (walk : Walk) → HasWalked limit stream walk → HasWalked limit (stream ++ chunk) walk
walk_fed limit stream chunk walk h = record {
  message = h.message;
  counts = h.counts;
  fits = h.fits;
  within = omega (arith, h.within, length-append stream chunk);
  goes = λ later front b. subst (λ (l : List ℕ). Begins limit l (behind h.message front)) (sym (append_assoc stream chunk later))
      (h.goes (chunk ++ later) front
      (subst (λ (l : List ℕ). Begins (limit - walk.joined) l front)
      (ap (λ (l : List ℕ). l ++ later) (drop-append-le walk.at stream chunk h.within) ∙ append_assoc (drop walk.at stream) chunk later) b));
}

pub walk_front : (limit : ℕ) (stream : List ℕ) (walk : Walk) (h : HasWalked limit stream walk) (front : Front)
    → Begins (limit - walk.joined) (drop walk.at stream) front → Begins limit stream (behind h.message front)
walk_front limit stream walk h front b =
    subst (λ (l : List ℕ). Begins limit l (behind h.message front)) (append-nil stream)
    (h.goes [] front (subst (λ (l : List ℕ). Begins (limit - walk.joined) l front) (sym (append-nil (drop walk.at stream))) b))

dropped : (at len : ℕ) (stream : List ℕ) → drop (at + 5 + len) stream ≡ after len (drop at stream)
dropped at len stream = sym (drop-drop len (at + 5) stream) ∙ ap (λ (l : List ℕ). drop len l) (sym (drop-drop 5 at stream))

long_there : (at len : ℕ) (stream : List ℕ) → at + 5 + len ≤ length stream → 5 + len ≤ length (drop at stream)
long_there at len stream all = omega (arith, all, length-drop at stream)

pub walk_on : (limit : ℕ) (stream : List ℕ) (walk : Walk) (len : ℕ) → HasWalked limit stream walk
    → head_of (limit - walk.joined) (drop walk.at stream) ≡ Part true len → walk.at + 5 + len ≤ length stream
    → HasWalked limit stream (record { at = walk.at + 5 + len; joined = walk.joined + len })
walk_on limit stream walk len h e all =
    let there = long_there walk.at len stream all in
    let size = size_of len (drop walk.at stream) there in
    let head = is_head (limit - walk.joined) (drop walk.at stream) true len e in
    let room : limit - walk.joined - len ≡ limit - (walk.joined + len) = omega arith in
    record {
      message = h.message ++ bytes_of len (drop walk.at stream);
      counts = omega (arith, h.counts, size, length-append h.message (bytes_of len (drop walk.at stream)));
      fits = omega (arith, head.fits, h.fits);
      within = all;
      goes = λ later front b.
          subst (λ (f : Front). Begins limit (stream ++ later) f) (behind_more h.message (bytes_of len (drop walk.at stream)) front)
          (h.goes later (behind (bytes_of len (drop walk.at stream)) front)
          (part_before (limit - walk.joined) len (drop walk.at stream) later front e there
          (subst (λ (r : ℕ). Begins r (after len (drop walk.at stream) ++ later) front) (sym room)
          (subst (λ (l : List ℕ). Begins (limit - (walk.joined + len)) (l ++ later) front) (dropped walk.at len stream) b))));
    }

pub found_unfinished : (limit : ℕ) (stream : List ℕ) (walk : Walk) → HasWalked limit stream walk
    → head_of (limit - walk.joined) (drop walk.at stream) ≡ Unfinished → HasWalked limit stream walk × Begins limit stream unfinished
found_unfinished limit stream walk h e = (h, walk_front limit stream walk h unfinished (in_head e))

pub found_short : (limit : ℕ) (stream : List ℕ) (walk : Walk) (more : Bool) (len : ℕ) → HasWalked limit stream walk
    → head_of (limit - walk.joined) (drop walk.at stream) ≡ Part more len → length stream < walk.at + 5 + len
    → HasWalked limit stream walk × Begins limit stream unfinished
found_short limit stream walk more len h e few =
    (h, walk_front limit stream walk h unfinished (in_part e (omega (arith, few, length-drop walk.at stream))))

pub found_fault : (limit : ℕ) (stream : List ℕ) (walk : Walk) (fault : PartFault) → HasWalked limit stream walk
    → head_of (limit - walk.joined) (drop walk.at stream) ≡ Fault fault → Begins limit stream (broken fault)
found_fault limit stream walk fault h e = walk_front limit stream walk h (broken fault) (faulty e)

pub found_end : (limit : ℕ) (stream : List ℕ) (walk : Walk) (len : ℕ) → HasWalked limit stream walk
    → head_of (limit - walk.joined) (drop walk.at stream) ≡ Part false len → walk.at + 5 + len ≤ length stream
    → EndsAt limit stream (walk.at + 5 + len) (walk.joined + len)
found_end limit stream walk len h e all =
    let there = long_there walk.at len stream all in
    let size = size_of len (drop walk.at stream) there in
    record {
      message = h.message ++ bytes_of len (drop walk.at stream);
      within = all;
      counts = omega (arith, h.counts, size, length-append h.message (bytes_of len (drop walk.at stream)));
      begins = subst (λ (l : List ℕ). Begins limit stream (whole (h.message ++ bytes_of len (drop walk.at stream)) l)) (sym (dropped walk.at len stream))
          (walk_front limit stream walk h (whole (bytes_of len (drop walk.at stream)) (after len (drop walk.at stream))) (ends e there));
    }

-- ---- the message that is copied

-- so much of the message at the front was copied, and this is left
pub record Copies (limit : ℕ) (stream : List ℕ) (out rest : List ℕ) (room : ℕ) : Type 0 where
  pub ahead : List ℕ
  pub last : List ℕ
  pub begins : Begins room rest (whole ahead last)
  pub same : (front : Front) → Begins room rest front → Begins limit stream (behind out front)

pub copies_none : (limit : ℕ) (stream message rest : List ℕ) → Begins limit stream (whole message rest) → Copies limit stream [] stream limit
copies_none limit stream message rest b = record {
  ahead = message;
  last = rest;
  begins = b;
  same = λ front a. subst (λ (f : Front). Begins limit stream f) (sym (behind_none front)) a;
}

-- a whole part is ahead
pub copies_part : (limit : ℕ) (stream out rest : List ℕ) (room : ℕ) → Copies limit stream out rest room → (more : Bool) (len : ℕ)
    → head_of room rest ≡ Part more len → 5 + len ≤ length rest
copies_part limit stream out rest room c more len e = by (nat_lt (length rest) (5 + len)) refl
  where
    by : (b : Bool) → nat_lt (length rest) (5 + len) ≡ b → 5 + len ≤ length rest
    by true t = let impossible = as_short room rest (whole c.ahead c.last) more len c.begins e (ltb-true (length rest) (5 + len) t) in cc
    by false t = ltb-false (length rest) (5 + len) t

pub copies_no_end : (limit : ℕ) (stream out rest : List ℕ) (room : ℕ) → Copies limit stream out rest room → head_of room rest ≡ Unfinished → ⊥
copies_no_end limit stream out rest room c e = let impossible = as_unfinished room rest (whole c.ahead c.last) c.begins e in cc

pub copies_no_fault : (limit : ℕ) (stream out rest : List ℕ) (room : ℕ) (fault : PartFault) → Copies limit stream out rest room → head_of room rest ≡ Fault fault → ⊥
copies_no_fault limit stream out rest room fault c e = let impossible = as_fault room rest (whole c.ahead c.last) fault c.begins e in cc

copies_on : (limit : ℕ) (stream out rest : List ℕ) (room len : ℕ) (c : Copies limit stream out rest room) → head_of room rest ≡ Part true len
    → 5 + len ≤ length rest → (found : Front) → Begins (room - len) (after len rest) found → whole c.ahead c.last ≡ behind (bytes_of len rest) found
    → Copies limit stream (out ++ bytes_of len rest) (after len rest) (room - len)
copies_on limit stream out rest room len c e all unfinished b is = cc
copies_on limit stream out rest room len c e all (broken fault) b is = cc
copies_on limit stream out rest room len c e all (whole message left) b is = record {
  ahead = message;
  last = left;
  begins = b;
  same = λ front a. subst (λ (f : Front). Begins limit stream f) (behind_more out (bytes_of len rest) front)
      (c.same (behind (bytes_of len rest) front) (goes_on e all a));
}

pub copies_more : (limit : ℕ) (stream out rest : List ℕ) (room len : ℕ) → Copies limit stream out rest room → head_of room rest ≡ Part true len
    → Copies limit stream (out ++ bytes_of len rest) (after len rest) (room - len)
copies_more limit stream out rest room len c e =
    let all = copies_part limit stream out rest room c true len e in
    let p = as_part room rest (whole c.ahead c.last) true len c.begins e all in
    copies_on limit stream out rest room len c e all p.0 p.1 p.2

pub copies_all : (limit : ℕ) (stream out rest : List ℕ) (room len : ℕ) → Copies limit stream out rest room → head_of room rest ≡ Part false len
    → IsAtFront limit stream (out ++ bytes_of len rest)
copies_all limit stream out rest room len c e =
    let all = copies_part limit stream out rest room c false len e in
    (after len rest, c.same (whole (bytes_of len rest) (after len rest)) (ends e all))

-- ---- that it has a byte

some_on : (limit : ℕ) (stream out rest : List ℕ) (room len : ℕ) (c : Copies limit stream out rest room) (all : 5 + len ≤ length rest)
    → 0 < length out + len → (found : Front) → whole c.ahead c.last ≡ behind (bytes_of len rest) found → 0 < length (out ++ c.ahead)
some_on limit stream out rest room len c all some unfinished is = cc
some_on limit stream out rest room len c all some (broken fault) is = cc
some_on limit stream out rest room len c all some (whole message left) is =
    let same : c.ahead ≡ bytes_of len rest ++ message = cc in
    let size = size_of len rest all in
    omega (arith, some, size, length-append out c.ahead, ap (λ (l : List ℕ). length l) same, length-append (bytes_of len rest) message)

some_by : (limit : ℕ) (stream out rest : List ℕ) (room len : ℕ) (c : Copies limit stream out rest room) (more : Bool) → 5 + len ≤ length rest
    → 0 < length out + len → AsPart room rest (whole c.ahead c.last) more len → 0 < length (out ++ c.ahead)
some_by limit stream out rest room len c false all some is =
    let same : c.ahead ≡ bytes_of len rest = cc in
    let size = size_of len rest all in
    omega (arith, some, size, length-append out c.ahead, ap (λ (l : List ℕ). length l) same)
some_by limit stream out rest room len c true all some (found, b, is) = some_on limit stream out rest room len c all some found is

pub copies_some : (limit : ℕ) (stream out rest : List ℕ) (room len : ℕ) (more : Bool) → Copies limit stream out rest room → head_of room rest ≡ Part more len
    → 0 < length out + len → HasSome limit stream
copies_some limit stream out rest room len more c e some =
    let all = copies_part limit stream out rest room c more len e in
    let p = as_part room rest (whole c.ahead c.last) more len c.begins e all in
    (out ++ c.ahead, some_by limit stream out rest room len c more all some p, (c.last, c.same (whole c.ahead c.last) c.begins))

-- ---- every stream

is_after : (fuel len : ℕ) (stream : List ℕ) → length stream ≤ suc fuel → 5 + len ≤ length stream → length (after len stream) ≤ fuel
is_after fuel len stream few all = omega (arith, few, all, length-drop len (drop 5 stream), length-drop 5 stream)

every_by : (fuel room : ℕ) (stream : List ℕ) → ((r : ℕ) (rest : List ℕ) → length rest ≤ fuel → (front : Front) × Begins r rest front)
    → length stream ≤ suc fuel → (front : Front) × Begins room stream front
every_by fuel room stream again few = by_head (head_of room stream) refl
  where
    by_length : (more : Bool) (len : ℕ) → head_of room stream ≡ Part more len → (b : Bool) → nat_lt (length stream) (5 + len) ≡ b → (front : Front) × Begins room stream front
    by_length more len e true t = (unfinished, in_part e (ltb-true (length stream) (5 + len) t))
    by_length false len e false t = (whole (bytes_of len stream) (after len stream), ends e (ltb-false (length stream) (5 + len) t))
    by_length true len e false t =
        let all = ltb-false (length stream) (5 + len) t in
        let more = again (room - len) (after len stream) (is_after fuel len stream few all) in
        (behind (bytes_of len stream) more.0, goes_on e all more.1)

    by_head : (h : Head) → head_of room stream ≡ h → (front : Front) × Begins room stream front
    by_head Unfinished e = (unfinished, in_head e)
    by_head (Fault fault) e = (broken fault, faulty e)
    by_head (Part more len) e = by_length more len e (nat_lt (length stream) (5 + len)) refl

every_from : (fuel room : ℕ) (stream : List ℕ) → length stream ≤ fuel → (front : Front) × Begins room stream front
every_from zero room [] few = (unfinished, in_head refl)
every_from zero room (x ∷ stream) few = absurd (omega (arith, few))
every_from (suc fuel) room stream few = every_by fuel room stream (every_from fuel) few

pub every_stream : EveryStreamBegins
every_stream room stream = every_from (length stream) room stream (omega arith)

-- ---- what the code reads

pub head_at : (room : ℕ) (bytes stream : List ℕ) (head : Head) → bytes ≡ stream → head ≡ head_of room bytes → head_of room stream ≡ head
head_at room bytes stream head same is = ap (λ (l : List ℕ). head_of room l) (sym same) ∙ sym is

pub part_at : (room : ℕ) (bytes stream : List ℕ) (more is : Bool) (len : ℕ) → bytes ≡ stream → Part more len ≡ head_of room bytes → more ≡ is
    → head_of room stream ≡ Part is len
part_at room bytes stream more is len same read so = head_at room bytes stream (Part more len) same read ∙ ap (λ (b : Bool). Part b len) so

pub on_err : {A E : Type 0} (r : Result A E) {P : Type 0} → P → OnErr r P
on_err (Ok x) p = tt
on_err (Err e) p = p

-- the message that was copied ends where the walk does
pub given_now : (old : Stream) (limit : ℕ) (bytes : List ℕ) (failed : Bool) → record { limit = limit; bytes = bytes; failed = failed } ≡ old
    → failed ≡ false → (first second : List ℕ) → first ≡ bytes → second ≡ bytes → (end size : ℕ) → EndsAt limit first end size
    → (message new : List ℕ) → IsAtFront limit second message → new ≡ drop end bytes
    → (old.failed ≡ false) × Begins old.limit old.bytes (whole message new)
    × (record { limit = limit; bytes = new; failed = failed } ≡ record old { bytes = new })
given_now old limit bytes failed view unbroken first second is also end size at message new (rest, b) left =
    let there : Begins limit bytes (whole at.message (drop end bytes)) = subst (λ (l : List ℕ). Begins limit l (whole at.message (drop end l))) is at.begins in
    let here : Begins limit bytes (whole message rest) = subst (λ (l : List ℕ). Begins limit l (whole message rest)) also b in
    let same : whole message rest ≡ whole at.message (drop end bytes) = one_front limit bytes (whole message rest) (whole at.message (drop end bytes)) here there in
    let rest_is : rest ≡ new = (let e : rest ≡ drop end bytes = cc in e ∙ sym left) in
    let begins : Begins limit bytes (whole message new) = subst (λ (l : List ℕ). Begins limit bytes (whole message l)) rest_is here in
    subst (λ (o : Stream). (o.failed ≡ false) × Begins o.limit o.bytes (whole message new) × (record { limit = limit; bytes = new; failed = failed } ≡ record o { bytes = new })) view
    (unbroken, begins, refl)
