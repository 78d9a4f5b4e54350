-- Framing.antt: parts that are written in frames, one after the other.
use Rattle.std.proofs.Common.{◌≡◌, ℕ, zero, suc, ◌+◌, ◌-◌, ◌/◌, ◌<◌, ◌≤◌, Option, Some, None, List, [], ◌∷◌, ◌++◌, length, take, drop, refl, sym, ap, ◌∙◌, subst, arith, append_assoc, append-nil, length-append}
use Rattle.std.proofs.lemmas.List.{length-drop, length-take-le, take-append-drop, take-append-le}
use Rattle.std.specs.Io.KnownBytes.{Appends}
use Rattle.links.specs.seal.Frames.{Place, moved_on}
use Rattle.links.specs.seal.FrameStreams.{sealed, all_sealed}
use Rattle.links.specs.Devices.{WritesPrefix}
use Rattle.links.specs.Links.{AreShort, bytes_in, place_after}
use Rattle.links.specs.Written.{in_frames, frames_of}
use Rattle.links.proofs.Opening.{none_after, sealed_join, place_join}
use Rattle.links.proofs.WritesJoin.{appends_join}

pub frames_last : (parts : List ℕ) → length parts ≤ 65536 → frames_of parts ≡ parts ∷ []
frames_last parts short =
    let none : (length parts - 1) / 65536 ≡ 0 = omega (arith, short) in
    ap (λ (n : ℕ). in_frames n parts) none

pub frames_more : (parts : List ℕ) → 65536 < length parts → frames_of parts ≡ take 65536 parts ∷ frames_of (drop 65536 parts)
frames_more parts long =
    let left : length (drop 65536 parts) ≡ length parts - 65536 = length-drop 65536 parts in
    let more : (length parts - 1) / 65536 ≡ suc ((length (drop 65536 parts) - 1) / 65536) = omega (arith, left, long) in
    ap (λ (n : ℕ). in_frames n parts) more

-- frames were written, and these parts are left
pub record Wrote (before now : Option (List ℕ)) (start place : Place) (parts rest : List ℕ) : Type 0 where
  pub frames : List (List ℕ)
  pub is : frames_of parts ≡ frames ++ frames_of rest
  pub place_is : place ≡ place_after start frames
  pub written : Appends before now (all_sealed start frames)

appends_none : (old : Option (List ℕ)) → Appends old old []
appends_none None = tt
appends_none (Some l) = sym (append-nil l)

pub wrote_none : (before : Option (List ℕ)) (start : Place) (parts : List ℕ) → Wrote before before start start parts parts
wrote_none before start parts = record { frames = []; is = refl; place_is = none_after start; written = appends_none before }

-- one more frame
one_sealed : (start : Place) (frames : List (List ℕ)) (frame : List ℕ)
    → all_sealed start (frames ++ frame ∷ []) ≡ all_sealed start frames ++ sealed (place_after start frames) frame
one_sealed start frames frame =
    sealed_join start frames (frame ∷ []) ∙ ap (λ (l : List ℕ). all_sealed start frames ++ l) (append-nil (sealed (place_after start frames) frame))

pub wrote_more : (before mid now : Option (List ℕ)) (start place : Place) (parts rest frame : List ℕ)
    → Wrote before mid start place parts rest → 65536 < length rest → frame ≡ take 65536 rest
    → Appends mid now (sealed place frame)
    → Wrote before now start (moved_on place) parts (drop 65536 rest)
wrote_more before mid now start place parts rest frame w long is writes =
    let more = frames_more rest long in
    record {
      frames = w.frames ++ frame ∷ [];
      is = w.is ∙ ap (λ (l : List (List ℕ)). w.frames ++ l) more
          ∙ ap (λ (f : List ℕ). w.frames ++ f ∷ frames_of (drop 65536 rest)) (sym is)
          ∙ sym (append_assoc w.frames (frame ∷ []) (frames_of (drop 65536 rest)));
      place_is = ap (λ (p : Place). moved_on p) w.place_is ∙ place_join start w.frames (frame ∷ []);
      written = subst (λ (l : List ℕ). Appends before now l) (sym (one_sealed start w.frames frame))
          (appends_join before mid now (all_sealed start w.frames) (sealed (place_after start w.frames) frame) w.written
          (subst (λ (p : Place). Appends mid now (sealed p frame)) w.place_is writes));
    }

-- the same, by other names
pub wrote_renamed : (before now : Option (List ℕ)) (start place other : Place) (parts rest left : List ℕ) → other ≡ place → left ≡ rest
    → Wrote before now start place parts rest → Wrote before now start other parts left
wrote_renamed before now start place other parts rest left e f w =
    subst (λ (l : List ℕ). Wrote before now start other parts l) (sym f) (subst (λ (p : Place). Wrote before now start p parts rest) (sym e) w)

-- the last frame
pub wrote_all : (before mid now : Option (List ℕ)) (start place : Place) (parts rest : List ℕ)
    → Wrote before mid start place parts rest → length rest ≤ 65536
    → Appends mid now (sealed place rest) → Appends before now (all_sealed start (frames_of parts))
wrote_all before mid now start place parts rest w short writes =
    let is : frames_of parts ≡ w.frames ++ rest ∷ [] = w.is ∙ ap (λ (l : List (List ℕ)). w.frames ++ l) (frames_last rest short) in
    subst (λ (l : List ℕ). Appends before now l) (sym (one_sealed start w.frames rest) ∙ ap (λ (l : List (List ℕ)). all_sealed start l) (sym is))
    (appends_join before mid now (all_sealed start w.frames) (sealed (place_after start w.frames) rest) w.written
    (subst (λ (p : Place). Appends mid now (sealed p rest)) w.place_is writes))

pub place_all : (before mid : Option (List ℕ)) (start place : Place) (parts rest : List ℕ)
    → Wrote before mid start place parts rest → length rest ≤ 65536 → moved_on place ≡ place_after start (frames_of parts)
place_all before mid start place parts rest w short =
    let is : frames_of parts ≡ w.frames ++ rest ∷ [] = w.is ∙ ap (λ (l : List (List ℕ)). w.frames ++ l) (frames_last rest short) in
    ap (λ (p : Place). moved_on p) w.place_is ∙ place_join start w.frames (rest ∷ []) ∙ ap (λ (l : List (List ℕ)). place_after start l) (sym is)

-- a prefix of one more frame
prefix_behind : (before mid now : Option (List ℕ)) (a b rest : List ℕ) → Appends before mid a → WritesPrefix mid now b → WritesPrefix before now (a ++ (b ++ rest))
prefix_behind before mid now a b rest first (count, few, second) =
    let size = length-append a (b ++ rest) in
    let part = length-append b rest in
    let cut : take (length a + count) (a ++ (b ++ rest)) ≡ a ++ take count b = taken a b rest count few in
    (length a + count, omega (arith, size, part, few), subst (λ (l : List ℕ). Appends before now l) (sym cut) (appends_join before mid now a (take count b) first second))
  where
    taken : (a b rest : List ℕ) (count : ℕ) → count ≤ length b → take (length a + count) (a ++ (b ++ rest)) ≡ a ++ take count b
    taken [] b rest count few =
        let e : 0 + count ≡ count = omega arith in
        ap (λ (n : ℕ). take n (b ++ rest)) e ∙ take-append-le count b rest few
    taken (x ∷ a) b rest count few =
        let e : suc (length a) + count ≡ suc (length a + count) = omega arith in
        ap (λ (n : ℕ). take n (x ∷ (a ++ (b ++ rest)))) e ∙ ap (λ (l : List ℕ). x ∷ l) (taken a b rest count few)

pub wrote_prefix : (before mid now : Option (List ℕ)) (start place : Place) (parts rest frame : List ℕ) (others : List (List ℕ))
    → Wrote before mid start place parts rest → frames_of rest ≡ frame ∷ others
    → WritesPrefix mid now (sealed place frame) → WritesPrefix before now (all_sealed start (frames_of parts))
wrote_prefix before mid now start place parts rest frame others w is writes =
    let after = place_after start w.frames in
    let all : frames_of parts ≡ w.frames ++ frame ∷ others = w.is ∙ ap (λ (l : List (List ℕ)). w.frames ++ l) is in
    let bytes : all_sealed start (frames_of parts) ≡ all_sealed start w.frames ++ (sealed (place_after start w.frames) frame ++ all_sealed (moved_on (place_after start w.frames)) others) =
    ap (λ (l : List (List ℕ)). all_sealed start l) all ∙ sealed_join start w.frames (frame ∷ others) in
    subst (λ (l : List ℕ). WritesPrefix before now l) (sym bytes)
    (prefix_behind before mid now (all_sealed start w.frames) (sealed (place_after start w.frames) frame) (all_sealed (moved_on (place_after start w.frames)) others) w.written
    (subst (λ (p : Place). WritesPrefix mid now (sealed p frame)) w.place_is writes))

-- ---- what frames have in them

in_frames_bytes : (full : ℕ) (parts : List ℕ) → bytes_in (in_frames full parts) ≡ parts
in_frames_bytes zero parts = append-nil parts
in_frames_bytes (suc full) parts =
    ap (λ (l : List ℕ). take 65536 parts ++ l) (in_frames_bytes full (drop 65536 parts)) ∙ take-append-drop 65536 parts

pub frames_bytes : (parts : List ℕ) → bytes_in (frames_of parts) ≡ parts
frames_bytes parts = in_frames_bytes ((length parts - 1) / 65536) parts

in_frames_short : (full : ℕ) (parts : List ℕ) → full ≡ (length parts - 1) / 65536 → AreShort (in_frames full parts)
in_frames_short zero parts is = (omega (arith, is), tt)
in_frames_short (suc full) parts is =
    let left : length (drop 65536 parts) ≡ length parts - 65536 = length-drop 65536 parts in
    let size : length (take 65536 parts) ≡ 65536 = length-take-le 65536 parts (omega (arith, is)) in
    (omega (arith, size), in_frames_short full (drop 65536 parts) (omega (arith, is, left)))

pub frames_short : (parts : List ℕ) → AreShort (frames_of parts)
frames_short parts = in_frames_short ((length parts - 1) / 65536) parts refl
