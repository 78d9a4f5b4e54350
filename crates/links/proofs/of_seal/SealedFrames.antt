-- SealedFrames.antt: what a reader returned is what was sealed.
use Rattle.std.proofs.Common.{◌≡◌, ℕ, ◌+◌, ◌-◌, ◌<◌, ◌≤◌, Bool, true, false, List, [], ◌∷◌, ◌++◌, length, take, drop, refl, sym, ap, ap₂, ◌∙◌, subst, arith, append_assoc}
use Rattle.std.specs.Prelude.{IfErr}
use Rattle.std.proofs.Common.{Result, Ok, Err, ◌↔◌}
use Rattle.std.proofs.lemmas.Nat.{from_be_bytes-to_be_bytes_8}
use Rattle.std.proofs.lemmas.List.{take-append-drop, length-take-le, length-drop, drop-drop}
use Rattle.std.specs.Int.{w32, w64, to_be_bytes, from_be_bytes}
use Rattle.links.specs.declared.seal.frame_reader.FrameError.{FrameError}
use Rattle.links.specs.declared.seal.frame_reader.FrameError.TheVariants as errors
use Rattle.links.specs.seal.Frames.{Opening, frame_tag}
use Rattle.links.specs.seal.FrameStreams.{BearsAnother, BearsIts, IsOpen, IsShut}
use Rattle.links.specs.declared.seal.keys.Side.TheVariants.{Dialler, Listener}
use Rattle.links.specs.declared.seal.keys.Purpose.{Purpose}
use Rattle.links.specs.declared.seal.keys.Purpose.TheVariants.{ProvesDialler, ProvesListener, SealsDialler, SealsListener}
use Rattle.links.specs.seal.Keys.{purpose_byte}
use Rattle.links.specs.seal.Frames.{Place, moved_on}
use Rattle.links.specs.seal.FrameStreams.{FrameStream, Accepts, sealed, all_sealed}
use Rattle.links.specs.seal.Theorems.{EndsHaveOneKey, FramesAreThoseSealed, Opened, TagInputsDiffer, KeyInputsDiffer}
use Rattle.links.specs.seal.Theorems.Opened.{opens, feeds, gives}

-- the place after some frames
place_after : Place → List (List ℕ) → Place
place_after place [] = place
place_after place (frame ∷ frames) = place_after (moved_on place) frames

after_last : (place : Place) (frames : List (List ℕ)) (frame : List ℕ) → place_after place (frames ++ frame ∷ []) ≡ moved_on (place_after place frames)
unfolding place_after
after_last place [] frame = refl
after_last place (first ∷ frames) frame = after_last (moved_on place) frames frame

sealed_last : (place : Place) (frames : List (List ℕ)) (frame : List ℕ)
    → all_sealed place (frames ++ frame ∷ []) ≡ all_sealed place frames ++ sealed (place_after place frames) frame
unfolding place_after
sealed_last place [] frame = append_nil_right (sealed place frame)
  where
    append_nil_right : (l : List ℕ) → l ++ [] ≡ l
    append_nil_right [] = refl
    append_nil_right (x ∷ l) = ap (λ (r : List ℕ). x ∷ r) (append_nil_right l)
sealed_last place (first ∷ frames) frame =
    ap (λ (l : List ℕ). sealed place first ++ l) (sealed_last (moved_on place) frames frame)
    ∙ sym (append_assoc (sealed place first) (all_sealed (moved_on place) frames) (sealed (place_after (moved_on place) frames) frame))

first_place : List ℕ → Place
first_place key = record { key = key; next = 0 }

stands : (key : List ℕ) (limit : ℕ) (fed : List ℕ) (given : List (List ℕ)) (reader : FrameStream) → Opened key limit fed given reader
    → (reader.place ≡ place_after (record { key = key; next = 0 }) given) × (fed ≡ all_sealed (record { key = key; next = 0 }) given ++ reader.bytes)
unfolding place_after
stands key limit fed given reader opens = (refl, refl)
stands key limit fed given reader (feeds {fed = f} {reader = old} chunk o) =
    let before = stands key limit f given old o in
    (before.0, ap (λ (l : List ℕ). l ++ chunk) before.1 ∙ append_assoc (all_sealed (record { key = key; next = 0 }) given) old.bytes chunk)
stands key limit fed given reader (gives {given = g} {old = old} frame o accepts) =
    let before = stands key limit fed g old o in
    let start : Place = record { key = key; next = 0 } in (
      ap (λ (s : FrameStream). s.place) accepts.moved ∙ ap moved_on before.0 ∙ sym (after_last (record { key = key; next = 0 }) g frame),
      before.1 ∙ ap (λ (l : List ℕ). all_sealed (record { key = key; next = 0 }) g ++ l) accepts.bears
          ∙ ap (λ (p : Place). all_sealed (record { key = key; next = 0 }) g ++ (sealed p frame ++ reader.bytes)) before.0
          ∙ sym (append_assoc (all_sealed (record { key = key; next = 0 }) g) (sealed (place_after (record { key = key; next = 0 }) g) frame) reader.bytes)
          ∙ ap (λ (l : List ℕ). l ++ reader.bytes) (sym (sealed_last (record { key = key; next = 0 }) g frame)),
    )

pub those_sealed : FramesAreThoseSealed
those_sealed key fed limit given reader o = (stands key limit fed given reader o).1

pub one_key : EndsHaveOneKey
one_key Dialler key own other = refl
one_key Listener key own other = refl

pub tag_inputs : TagInputsDiffer
tag_inputs number other frame altered small below same = (
  sym (from_be_bytes-to_be_bytes_8 number small) ∙ ap (λ (l : List ℕ). from_be_bytes w64 (take 8 l)) same ∙ from_be_bytes-to_be_bytes_8 other below,
  ap (λ (l : List ℕ). drop 16 l) same,
)

apart : (p q : Purpose) → purpose_byte p ≡ purpose_byte q → p ≡ q
apart ProvesDialler ProvesDialler e = refl
apart ProvesDialler ProvesListener e = absurd (omega (arith, e))
apart ProvesDialler SealsDialler e = absurd (omega (arith, e))
apart ProvesDialler SealsListener e = absurd (omega (arith, e))
apart ProvesListener ProvesDialler e = absurd (omega (arith, e))
apart ProvesListener ProvesListener e = refl
apart ProvesListener SealsDialler e = absurd (omega (arith, e))
apart ProvesListener SealsListener e = absurd (omega (arith, e))
apart SealsDialler ProvesDialler e = absurd (omega (arith, e))
apart SealsDialler ProvesListener e = absurd (omega (arith, e))
apart SealsDialler SealsDialler e = refl
apart SealsDialler SealsListener e = absurd (omega (arith, e))
apart SealsListener ProvesDialler e = absurd (omega (arith, e))
apart SealsListener ProvesListener e = absurd (omega (arith, e))
apart SealsListener SealsDialler e = absurd (omega (arith, e))
apart SealsListener SealsListener e = refl

halves : (a b c d : List ℕ) → length a ≡ length c → a ++ b ≡ c ++ d → (a ≡ c) × (b ≡ d)
halves [] b [] d size same = (refl, same)
halves [] b (y ∷ c) d size same = absurd (omega (arith, size))
halves (x ∷ a) b [] d size same = absurd (omega (arith, size))
halves (x ∷ a) b (y ∷ c) d size same =
    let first : x ≡ y = cc in
    let rest : a ++ b ≡ c ++ d = cc in
    let more = halves a b c d (omega (arith, size)) rest in
    (ap₂ (λ (n : ℕ) (l : List ℕ). n ∷ l) first more.0, more.1)

head_of : List ℕ → ℕ
head_of [] = 0
head_of (x ∷ l) = x

pub key_inputs : KeyInputsDiffer
unfolding head_of
key_inputs purpose another dialler listener calling called size same =
    let both = halves dialler listener calling called size (ap (λ (l : List ℕ). drop 1 l) same) in
    (apart purpose another (ap head_of same), both.0, both.1)

-- ---- a frame that has come whole

pub record Standing (bytes frame tag : List ℕ) (len : ℕ) : Type 0 where
  pub frame_size : length frame ≡ len
  pub tag_size : length tag ≡ 16
  pub is : bytes ≡ to_be_bytes w32 (length frame) ++ frame ++ tag ++ drop (len + 20) bytes

left_over : (bytes : List ℕ) (len : ℕ) → drop 16 (drop len (drop 4 bytes)) ≡ drop (len + 20) bytes
left_over bytes len =
    ap (λ (l : List ℕ). drop 16 l) (drop-drop len 4 bytes) ∙ drop-drop 16 (4 + len) bytes
    ∙ (let e : 4 + len + 16 ≡ len + 20 = omega arith in ap (λ (n : ℕ). drop n bytes) e)

pub standing : (bytes behind frame rest tag : List ℕ) (len : ℕ) → len + 20 ≤ length bytes → take 4 bytes ≡ to_be_bytes w32 len
    → behind ≡ drop 4 bytes → frame ≡ take len behind → rest ≡ drop len behind → tag ≡ take 16 rest → Standing bytes frame tag len
standing bytes behind frame rest tag len long begins b f r t =
    let behind_size : length behind ≡ length bytes - 4 = ap (λ (l : List ℕ). length l) b ∙ length-drop 4 bytes in
    let size : length frame ≡ len = ap (λ (l : List ℕ). length l) f ∙ length-take-le len behind (omega (arith, behind_size, long)) in
    let rest_size : length rest ≡ length behind - len = ap (λ (l : List ℕ). length l) r ∙ length-drop len behind in
    let tag_size : length tag ≡ 16 = ap (λ (l : List ℕ). length l) t ∙ length-take-le 16 rest (omega (arith, rest_size, behind_size, long)) in
    let left : drop 16 rest ≡ drop (len + 20) bytes =
    ap (λ (l : List ℕ). drop 16 l) r ∙ ap (λ (l : List ℕ). drop 16 (drop len l)) b ∙ left_over bytes len in
    let rest_is : rest ≡ tag ++ drop (len + 20) bytes =
    sym (take-append-drop 16 rest) ∙ ap (λ (l : List ℕ). l ++ drop 16 rest) (sym t) ∙ ap (λ (l : List ℕ). tag ++ l) left in
    let behind_is : behind ≡ frame ++ (tag ++ drop (len + 20) bytes) =
    sym (take-append-drop len behind) ∙ ap (λ (l : List ℕ). l ++ drop len behind) (sym f)
    ∙ ap (λ (l : List ℕ). frame ++ l) (sym r) ∙ ap (λ (l : List ℕ). frame ++ l) rest_is in
    let whole : bytes ≡ to_be_bytes w32 len ++ (frame ++ (tag ++ drop (len + 20) bytes)) =
    sym (take-append-drop 4 bytes) ∙ ap (λ (l : List ℕ). l ++ drop 4 bytes) begins
    ∙ ap (λ (l : List ℕ). to_be_bytes w32 len ++ l) (sym b) ∙ ap (λ (l : List ℕ). to_be_bytes w32 len ++ l) behind_is in
    record {
      frame_size = size;
      tag_size = tag_size;
      is = whole ∙ ap (λ (n : ℕ). to_be_bytes w32 n ++ (frame ++ (tag ++ drop (len + 20) bytes))) (sym size)
          ∙ ap (λ (l : List ℕ). to_be_bytes w32 (length frame) ++ l) (sym (append_assoc frame tag (drop (len + 20) bytes)));
    }

pub bears_another : (place : Place) (bytes frame tag : List ℕ) (len : ℕ) (bears : Bool) → Standing bytes frame tag len
    → (bears ≡ true) ↔ (tag ≡ frame_tag place.key place.next frame) → bears ≡ false → BearsAnother place bytes
bears_another place bytes frame tag len bears s iff refused = record {
  frame = frame;
  tag = tag;
  rest = drop (len + 20) bytes;
  size = s.tag_size;
  is = s.is;
  other = λ e. (let accepted : bears ≡ true = iff.1 e in let impossible : true ≡ false = sym accepted ∙ refused in cc);
}

bears_so : (place : Place) (bytes frame tag : List ℕ) (len : ℕ) (bears : Bool) → Standing bytes frame tag len
    → (bears ≡ true) ↔ (tag ≡ frame_tag place.key place.next frame) → bears ≡ true → bytes ≡ sealed place frame ++ drop (len + 20) bytes
bears_so place bytes frame tag len bears s iff so =
    s.is ∙ ap (λ (l : List ℕ). to_be_bytes w32 (length frame) ++ frame ++ l ++ drop (len + 20) bytes) (iff.0 so)

pub bears_its : (place : Place) (bytes frame tag : List ℕ) (len : ℕ) (bears : Bool) → Standing bytes frame tag len
    → (bears ≡ true) ↔ (tag ≡ frame_tag place.key place.next frame) → bears ≡ true → 0 < length frame → BearsIts place bytes
bears_its place bytes frame tag len bears s iff so some = record {
  frame = frame;
  rest = drop (len + 20) bytes;
  some = some;
  is = bears_so place bytes frame tag len bears s iff so;
}

pub shut_by_memory : {A : Type 0} (place : Place) (bytes : List ℕ) (r : Result A FrameError) → IfErr r (λ e. e ≡ errors.Memory) → BearsIts place bytes → IfErr r (IsShut place bytes)
shut_by_memory place bytes (Ok x) is b = tt
shut_by_memory place bytes (Err e) is b = subst (λ (x : FrameError). IsShut place bytes x) (sym is) b

pub opened_so : (place : Place) (bytes frame tag copied : List ℕ) (len : ℕ) (bears : Bool) → Standing bytes frame tag len
    → (bears ≡ true) ↔ (tag ≡ frame_tag place.key place.next frame) → bears ≡ true → copied ≡ frame
    → (length copied ≡ len) × (bytes ≡ sealed place copied ++ drop (len + 20) bytes)
opened_so place bytes frame tag copied len bears s iff so is =
    subst (λ (l : List ℕ). (length l ≡ len) × (bytes ≡ sealed place l ++ drop (len + 20) bytes)) (sym is)
    (s.frame_size, bears_so place bytes frame tag len bears s iff so)

-- ---- a frame that is taken

pub accepted_now : (old : FrameStream) (opener passed : Opening) (limit : ℕ) (bytes : List ℕ)
    → record { place = opener.place; limit = limit; bytes = bytes; failed = opener.failed } ≡ old
    → IsOpen old → (len : ℕ) → len ≤ old.limit → (first frame left : List ℕ) → first ≡ bytes
    → (length frame ≡ len) × (first ≡ sealed opener.place frame ++ drop (len + 20) first)
    → left ≡ drop (len + 20) bytes → passed ≡ record opener { place = moved_on opener.place }
    → Accepts old frame (record { place = passed.place; limit = limit; bytes = left; failed = passed.failed })
accepted_now old opener passed limit bytes view is_open len short first frame left is both rest on =
    subst (λ (p : Opening). Accepts old frame (record { place = p.place; limit = limit; bytes = left; failed = p.failed })) (sym on) (record {
      open_before = is_open;
      fits = omega (arith, short, both.0);
      bears = sym (ap (λ (s : FrameStream). s.bytes) view) ∙ sym is ∙ both.1
          ∙ ap (λ (l : List ℕ). sealed opener.place frame ++ drop (len + 20) l) is
          ∙ ap (λ (l : List ℕ). sealed opener.place frame ++ l) (sym rest)
          ∙ ap (λ (s : FrameStream). sealed s.place frame ++ left) view;
      moved = ap (λ (s : FrameStream). record s { place = moved_on s.place; bytes = left }) view;
    })

pub appended : (before one two three length_bytes frame tag wanted_tag : List ℕ) → one ≡ before ++ length_bytes → two ≡ one ++ frame → three ≡ two ++ tag → tag ≡ wanted_tag
    → three ≡ before ++ (length_bytes ++ frame ++ wanted_tag)
appended before one two three length_bytes frame tag wanted_tag a b c d =
    c ∙ ap (λ (l : List ℕ). l ++ tag) (b ∙ ap (λ (l : List ℕ). l ++ frame) a) ∙ ap (λ (l : List ℕ). before ++ length_bytes ++ frame ++ l) d
    ∙ append_assoc (before ++ length_bytes) frame wanted_tag ∙ append_assoc before length_bytes (frame ++ wanted_tag)
    ∙ ap (λ (l : List ℕ). before ++ l) (sym (append_assoc length_bytes frame wanted_tag))
