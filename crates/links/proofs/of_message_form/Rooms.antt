-- Rooms.antt: what is appended in parts, and where memory runs out for one of them.
use Rattle.std.proofs.Common.{◌≡◌, ◌⊎◌, ℕ, suc, nat_lt, subst, ◌/◌, ◌%◌, ◌+◌, ◌<◌, ◌≤◌, Bool, true, false, List, ◌++◌, length, take, drop, Result, Ok, Err, refl, sym, ap, ◌∙◌, arith, inl, inr, append_assoc, length-append}
use Rattle.std.specs.Prelude.{OnOk, OnErr, Vec}
use Rattle.std.proofs.lemmas.List.{take-append-drop}
use Rattle.std.proofs.Math.Seq.{take-append_seam, take-length}
use Rattle.std.specs.List.{flat_map}
use Rattle.std.proofs.lemmas.Bool.{cases_lt, lt-ltb, le-ltb}
use Rattle.packet_base.specs.Spelling.{length_bytes, remaining_length}
use Rattle.packet.specs.declared.packet.Packet.{Packet}
use Rattle.packet.specs.Spelling.{spelled_len, spelling}
use Rattle.packet.specs.Spelling.{body as packet_body}
use Rattle.ballot_base.specs.Logs.{Log}
use Rattle.broker_spec.specs.declared.command.Command.{Command}
use Rattle.links.specs.message_form.Numbers.{wide_number}
use Rattle.ballot_base.specs.declared.message.Body.{Body}
use Rattle.ballot_base.specs.declared.message.Body.TheVariants as bodies
use Rattle.links.specs.message_form.Messages.{body_bytes, log_bytes, sized_command_bytes}
use Rattle.links.specs.message_form.Room.{Appends, IsFull, Lacks}

-- what was kept of the longer is kept of the shorter
pub kept_before : (old a mid new : List ℕ) → mid ≡ old ++ a → take (length mid) new ≡ mid → take (length old) new ≡ old
kept_before old a mid new is kept =
    let e : new ≡ old ++ (a ++ drop (length mid) new) =
    sym (take-append-drop (length mid) new) ∙ ap (λ (l : List ℕ). l ++ drop (length mid) new) (kept ∙ is) ∙ append_assoc old a (drop (length mid) new) in
    ap (λ (l : List ℕ). take (length old) l) e ∙ take-append_seam old (a ++ drop (length mid) new)

pub stops : {Z : Type 0} (old new : Vec ℕ Z) (a rest : List ℕ) (buffered : Bool) → Lacks old new a false → Lacks old new (a ++ rest) buffered
stops old new a rest buffered lacks = record { kept = lacks.kept; lack = more lacks.lack }
  where
    more : IsFull old a ⊎ (false ≡ true) → IsFull old (a ++ rest) ⊎ (buffered ≡ true)
    more (inl full) = inl (omega (arith, full, length-append a rest))
    more (inr e) = cc

pub later : {Z : Type 0} (old mid new : Vec ℕ Z) (a rest : List ℕ) (buffered : Bool) → Appends old mid a → Lacks mid new rest buffered → Lacks old new (a ++ rest) buffered
later old mid new a rest buffered first lacks = record { kept = kept_before old.items a mid.items new.items first.items lacks.kept; lack = more lacks.lack }
  where
    more : IsFull mid rest ⊎ (buffered ≡ true) → IsFull old (a ++ rest) ⊎ (buffered ≡ true)
    more (inl full) = inl (omega (arith, full, first.capacity, ap (λ (l : List ℕ). length l) first.items, length-append old.items a, length-append a rest, old.ok.0, mid.ok.0))
    more (inr e) = inr e

pub both : {Z : Type 0} (old mid new : Vec ℕ Z) (a b : List ℕ) → Appends old mid a → Appends mid new b → Appends old new (a ++ b)
both old mid new a b first second = record {
  items = second.items ∙ ap (λ (l : List ℕ). l ++ b) first.items ∙ append_assoc old.items a b;
  capacity = omega (arith, first.capacity, second.capacity);
}

pub on_err : {A E : Type 0} (r : Result A E) (P Q : Type 0) → (P → Q) → OnErr r P → OnErr r Q
on_err (Ok x) P Q to h = tt
on_err (Err e) P Q to h = to h

pub at_err : {A E : Type 0} (r : Result A E) (P : Type 0) → P → OnErr r P
at_err (Ok x) P h = tt
at_err (Err e) P h = h

pub on_err_both : {A E : Type 0} (r : Result A E) (P Q R : Type 0) → (P → Q → R) → OnErr r P → OnErr r Q → OnErr r R
on_err_both (Ok x) P Q R to h k = tt
on_err_both (Err e) P Q R to h k = to h k

pub same_kept : (old new : List ℕ) → new ≡ old → take (length old) new ≡ old
same_kept old new e = ap (λ (l : List ℕ). take (length old) l) e ∙ take-length old

-- ---- packets

digits_len : (n : ℕ) → length (remaining_length n) ≡ length_bytes n
digits_len n =
    elim (cases_lt n 128) [
      | inl one ↦ rw (lt-ltb n 128 one) refl
      | inr more ↦ elim (cases_lt n 16384) [
        | inl two ↦ rw (le-ltb n 128 more, lt-ltb n 16384 two, lt-ltb (n / 128) 128 (omega arith)) refl
        | inr much ↦ elim (cases_lt n 2097152) [
          | inl three ↦ rw (le-ltb n 128 more, le-ltb n 16384 much, lt-ltb n 2097152 three, le-ltb (n / 128) 128 (omega arith), lt-ltb (n / 128 / 128) 128 (omega arith)) refl
          | inr four ↦ rw (le-ltb n 128 more, le-ltb n 16384 much, le-ltb n 2097152 four, le-ltb (n / 128) 128 (omega arith), le-ltb (n / 128 / 128) 128 (omega arith)) refl
        ]
      ]
    ]

spelling_len : (packet : Packet) → length (spelling packet) ≡ spelled_len packet
unfolding spelling
spelling_len packet =
    let e = length-append (remaining_length (length (packet_body packet))) (packet_body packet) in
    let d = digits_len (length (packet_body packet)) in
    let goal : suc (length (remaining_length (length (packet_body packet)) ++ packet_body packet)) ≡ 1 + length_bytes (length (packet_body packet)) + length (packet_body packet) = omega (arith, e, d) in goal

pub packet_full : (packet : Packet) (len capacity : ℕ) → (len + spelled_len packet ≤ capacity → ⊥) → capacity < len + length (spelling packet)
packet_full packet len capacity not_room =
    let e = spelling_len packet in
    elim (cases_lt capacity (len + spelled_len packet)) [
      | inl full ↦ omega (arith, full, e)
      | inr room ↦ absurd (not_room room)
    ]

-- ---- logs

pub log_lacks : {Z : Type 0} (old m n o p new : Vec ℕ Z) (base len count : ℕ) (snapshot : List ℕ) (log : Log Command)
    → base ≡ log.base → len ≡ length log.snapshot → snapshot ≡ log.snapshot → count ≡ length log.rest
    → Appends old m (wide_number base) → Appends m n (wide_number len) → Appends n o snapshot → Appends o p (wide_number count)
    → take (length p.items) new.items ≡ p.items → 0 < length log.rest
    → Lacks old new (log_bytes log) (nat_lt 0 (length log.rest))
log_lacks old m n o p new base len count snapshot log base_is len_is snapshot_is count_is a b c d kept some =
    let buffered : nat_lt 0 (length log.rest) ≡ true = lt-ltb 0 (length log.rest) some in
    let last : Lacks p new (flat_map sized_command_bytes log.rest) (nat_lt 0 (length log.rest)) = record { kept = kept; lack = inr buffered } in
    later old m new (wide_number log.base) _ (nat_lt 0 (length log.rest)) (subst (λ (z : ℕ). Appends old m (wide_number z)) base_is a)
    (later m n new (wide_number (length log.snapshot)) _ (nat_lt 0 (length log.rest)) (subst (λ (z : ℕ). Appends m n (wide_number z)) len_is b)
    (later n o new log.snapshot _ (nat_lt 0 (length log.rest)) (subst (λ (z : List ℕ). Appends n o z) snapshot_is c)
    (later o p new (wide_number (length log.rest)) (flat_map sized_command_bytes log.rest) (nat_lt 0 (length log.rest)) (subst (λ (z : ℕ). Appends o p (wide_number z)) count_is d) last)))

-- ---- bodies of two numbers

pub pair_body : (body : Body Command) (first second : ℕ)
    → (body ≡ bodies.Join first second) ⊎ ((body ≡ bodies.Installed first second) ⊎ ((body ≡ bodies.Held first second) ⊎ (body ≡ bodies.Commit first second)))
    → wide_number first ++ wide_number second ≡ body_bytes body
pair_body body first second (inl e) = ap (λ (b : Body Command). body_bytes b) (sym e)
pair_body body first second (inr (inl e)) = ap (λ (b : Body Command). body_bytes b) (sym e)
pair_body body first second (inr (inr (inl e))) = ap (λ (b : Body Command). body_bytes b) (sym e)
pair_body body first second (inr (inr (inr e))) = ap (λ (b : Body Command). body_bytes b) (sym e)
