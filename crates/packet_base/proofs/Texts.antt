-- When bytes are a text, and how a text that is not of its kind is refused.
use Rattle.std.proofs.Common.{◌≡◌, ℕ, Bool, true, false, List, Option, None, Result, Ok, Err, refl, ◌∙◌, sym, subst, inl, inr}
use Rattle.std.specs.Prelude.{◌==◌, not}
use Rattle.std.specs.List.{list_any}
use Rattle.std.specs.Str.{IsUtf8, is_utf8}
use Rattle.std.proofs.lemmas.Str.{IsUtf8-from_is_utf8, is_utf8-from_IsUtf8}
use Rattle.topics.specs.declared.malformed.MalformedKind.{MalformedKind}
use Rattle.topics.specs.declared.malformed.MalformedKind.TheVariants as kinds
use Rattle.topics.specs.Text.{contains_byte, topic_fault, filter_fault, RefusesBy}
use Rattle.packet_base.specs.declared.stop.Stop.{Stop}
use Rattle.packet_base.specs.declared.stop.Stop.TheVariants as stops
use Rattle.packet_base.specs.Outcome.{StopsBy}
use Rattle.packet_base.specs.Readers.{◌>>=◌, ◌>>◌, check, number_at, front_at, is_text, text_of, text_at}
use Rattle.packet_base.specs.TopicFields.{faultless, topic_of, topic_at, filter_of, filter_at}
use Rattle.packet_base.specs.Inside.{name_of, pattern_of}

-- well-formed UTF-8 without U+0000 is a text
pub text_is : (bytes : List ℕ) → IsUtf8 bytes → list_any (λ b. b == 0) bytes ≡ false → is_text bytes ≡ true
text_is bytes formed null = rw (is_utf8-from_IsUtf8 bytes formed, null) refl

-- what has U+0000 is none
pub null_text : (bytes : List ℕ) → IsUtf8 bytes → list_any (λ b. b == 0) bytes ≡ true → is_text bytes ≡ false
null_text bytes formed null = rw (is_utf8-from_IsUtf8 bytes formed, null) refl

not_formed : (bytes : List ℕ) (b : Bool) → is_utf8 bytes ≡ b → (IsUtf8 bytes → ⊥) → b ≡ false
not_formed bytes true e none = absurd (none (IsUtf8-from_is_utf8 bytes e))
not_formed bytes false e none = refl

-- what is not well formed is none
pub no_text : (bytes : List ℕ) → (IsUtf8 bytes → ⊥) → is_text bytes ≡ false
no_text bytes none = rw (not_formed bytes (is_utf8 bytes) refl none) refl

pub ruleset text_tests = (text_is, null_text, no_text)

-- Checks of a text that refuse U+0000 as no text need no look for it before them.
once : (null : Bool) (text : List ℕ) (checks : List ℕ → Result (List ℕ) Stop) → (null ≡ true → checks text ≡ Err (stops.Malformed kinds.Text))
    → ((check (not null) (stops.Malformed kinds.Text) >> Ok text) >>= checks) ≡ checks text
once true text checks refuse = sym (refuse refl)
once false text checks refuse = refl

name_once : (text : List ℕ) → IsUtf8 text → name_of text ≡ topic_of text
name_once text formed = rw (is_utf8-from_IsUtf8 text formed) (once (contains_byte 0 text) text topic_of (λ null. rw null refl))

pattern_once : (text : List ℕ) → IsUtf8 text → pattern_of text ≡ filter_of text
pattern_once text formed = rw (is_utf8-from_IsUtf8 text formed) (once (contains_byte 0 text) text filter_of (λ null. rw null refl))

stops_at : {Y : Type 0} (kind : MalformedKind) (read : Result Y Stop) → read ≡ Err (stops.Malformed kind) → StopsBy (stops.Malformed kind) read
stops_at kinds.Memory read e = tt
stops_at kind read e = e

-- a text that is refused with this kind
refused_so : (fault : Option MalformedKind) (kind : MalformedKind) (text : List ℕ) → RefusesBy fault kind → StopsBy (stops.Malformed kind) (faultless fault >> Ok text)
refused_so fault kind text (inl e) = stops_at kind (faultless fault >> Ok text) (rw e refl)
refused_so fault kind text (inr e) = subst (λ (k : MalformedKind). StopsBy (stops.Malformed k) (faultless fault >> Ok text)) (sym e.1) tt

pub name_unformed : (bytes : List ℕ) → (IsUtf8 bytes → ⊥) → name_of bytes ≡ Err (stops.Malformed kinds.Text)
name_unformed bytes none = rw (no_text bytes none) refl

pub name_refused : (text : List ℕ) (kind : MalformedKind) → IsUtf8 text → RefusesBy (topic_fault text) kind → StopsBy (stops.Malformed kind) (name_of text)
name_refused text kind formed h = subst (λ (r : Result (List ℕ) Stop). StopsBy (stops.Malformed kind) r) (sym (name_once text formed)) (refused_so (topic_fault text) kind text h)

pub name_taken : (text : List ℕ) → IsUtf8 text → topic_fault text ≡ None → name_of text ≡ Ok text
name_taken text formed e = name_once text formed ∙ rw e refl

pub pattern_unformed : (bytes : List ℕ) → (IsUtf8 bytes → ⊥) → pattern_of bytes ≡ Err (stops.Malformed kinds.Text)
pattern_unformed bytes none = rw (no_text bytes none) refl

pub pattern_refused : (text : List ℕ) (kind : MalformedKind) → IsUtf8 text → RefusesBy (filter_fault text) kind → StopsBy (stops.Malformed kind) (pattern_of text)
pattern_refused text kind formed h = subst (λ (r : Result (List ℕ) Stop). StopsBy (stops.Malformed kind) r) (sym (pattern_once text formed)) (refused_so (filter_fault text) kind text h)

pub pattern_taken : (text : List ℕ) → IsUtf8 text → filter_fault text ≡ None → pattern_of text ≡ Ok text
pattern_taken text formed e = pattern_once text formed ∙ rw e refl

pub ruleset name_tests = (name_unformed, name_refused, name_taken)

pub ruleset pattern_tests = (pattern_unformed, pattern_refused, pattern_taken)

-- the bytes that are left after a text which its own checks refuse or pass
passed : (read : Result (List ℕ) Stop) (checks : List ℕ → Result (List ℕ) Stop) (rest : List ℕ)
    → ((read >>= (λ text. let pair : Result (List ℕ × List ℕ) Stop = Ok (text, rest) in pair)) >>= (λ text. checks text.0 >>= (λ y. let pair : Result (List ℕ × List ℕ) Stop = Ok (y, text.1) in pair)))
    ≡ ((read >>= checks) >>= (λ y. let pair : Result (List ℕ × List ℕ) Stop = Ok (y, rest) in pair))
passed (Ok text) checks rest = refl
passed (Err stop) checks rest = refl

stops_then : {X Y : Type 0} (stop : Stop) (read : Result X Stop) (next : X → Result Y Stop) → StopsBy stop read → StopsBy stop (read >>= next)
stops_then stops.More read next h = rw h refl
stops_then (stops.Malformed kinds.Memory) read next h = tt
stops_then (stops.Malformed kind) read next h = rw h refl
stops_then (stops.Refused code) read next h = rw h refl

topic_after : (old after front rest : List ℕ) (len : ℕ) → number_at old ≡ Ok (len, after) → front_at len after ≡ Ok (front, rest)
    → topic_at old ≡ (name_of front >>= (λ name. let pair : Result (List ℕ × List ℕ) Stop = Ok (name, rest) in pair))
unfolding topic_at text_at
topic_after old after front rest len number bytes = rw (number, bytes) (passed (text_of front) topic_of rest)

pub topic_read : (old after front rest name : List ℕ) (len : ℕ) → number_at old ≡ Ok (len, after) → front_at len after ≡ Ok (front, rest) → name_of front ≡ Ok name → topic_at old ≡ Ok (name, rest)
topic_read old after front rest name len number bytes is = topic_after old after front rest len number bytes ∙ rw is refl

pub topic_stops : (old after front rest : List ℕ) (len : ℕ) (stop : Stop) → number_at old ≡ Ok (len, after) → front_at len after ≡ Ok (front, rest) → StopsBy stop (name_of front) → StopsBy stop (topic_at old)
topic_stops old after front rest len stop number bytes is =
    subst (λ (r : Result (List ℕ × List ℕ) Stop). StopsBy stop r) (sym (topic_after old after front rest len number bytes)) (stops_then stop (name_of front) _ is)

filter_after : (old after front rest : List ℕ) (len : ℕ) → number_at old ≡ Ok (len, after) → front_at len after ≡ Ok (front, rest)
    → filter_at old ≡ (pattern_of front >>= (λ filter. let pair : Result (List ℕ × List ℕ) Stop = Ok (filter, rest) in pair))
unfolding filter_at text_at
filter_after old after front rest len number bytes = rw (number, bytes) (passed (text_of front) filter_of rest)

pub filter_read : (old after front rest filter : List ℕ) (len : ℕ) → number_at old ≡ Ok (len, after) → front_at len after ≡ Ok (front, rest) → pattern_of front ≡ Ok filter → filter_at old ≡ Ok (filter, rest)
filter_read old after front rest filter len number bytes is = filter_after old after front rest len number bytes ∙ rw is refl

pub filter_stops : (old after front rest : List ℕ) (len : ℕ) (stop : Stop) → number_at old ≡ Ok (len, after) → front_at len after ≡ Ok (front, rest) → StopsBy stop (pattern_of front) → StopsBy stop (filter_at old)
filter_stops old after front rest len stop number bytes is =
    subst (λ (r : Result (List ℕ × List ℕ) Stop). StopsBy stop r) (sym (filter_after old after front rest len number bytes)) (stops_then stop (pattern_of front) _ is)

pub ruleset topic_ends = (topic_read, topic_stops)

pub ruleset filter_ends = (filter_read, filter_stops)
