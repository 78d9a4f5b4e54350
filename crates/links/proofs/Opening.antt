-- Opening.antt: frames that are opened one after the other.
use Rattle.std.proofs.Common.{◌≡◌, ℕ, ◌+◌, ◌<◌, List, [], ◌∷◌, ◌++◌, length, refl, sym, ap, ◌∙◌, arith, append_assoc, append-nil, length-append}
use Rattle.std.specs.Int.{w32, to_be_bytes}
use Rattle.std.proofs.lemmas.List.Concat.{flat_map-append}
use Rattle.links.specs.seal.Frames.{Place, frame_tag, moved_on}
use Rattle.links.specs.seal.FrameStreams.{sealed, all_sealed}
use Rattle.links.specs.Links.{LinkView, AreShort, bytes_in, place_after}
use Rattle.links.specs.Inside.{Opens}

pub each_both : (xs ys : List (List ℕ)) → AreShort xs → AreShort ys → AreShort (xs ++ ys)
each_both [] ys a b = b
each_both (x ∷ xs) ys (fits, a) b = (fits, each_both xs ys a b)

same_place : (place : Place) (m n : ℕ) → m ≡ n → (record place { next = m }) ≡ (record place { next = n })
same_place place m n e = ap (λ (i : ℕ). record place { next = i }) e

pub none_after : (place : Place) → place ≡ place_after place []
none_after place = same_place place place.next (place.next + length {A = List ℕ} []) (omega arith)

pub place_join : (place : Place) (xs ys : List (List ℕ)) → place_after (place_after place xs) ys ≡ place_after place (xs ++ ys)
place_join place xs ys = let e = length-append xs ys in same_place place _ _ (omega (arith, e))

place_next : (place : Place) (x : List ℕ) (xs : List (List ℕ)) → place_after (moved_on place) xs ≡ place_after place (x ∷ xs)
place_next place x xs = same_place place _ _ (omega arith)

pub sealed_join : (place : Place) (xs ys : List (List ℕ)) → all_sealed place (xs ++ ys) ≡ all_sealed place xs ++ all_sealed (place_after place xs) ys
sealed_join place [] ys = ap (λ (p : Place). all_sealed p ys) (none_after place)
sealed_join place (x ∷ xs) ys =
    ap (λ (l : List ℕ). sealed place x ++ l) (sealed_join (moved_on place) xs ys)
    ∙ ap (λ (p : Place). sealed place x ++ (all_sealed (moved_on place) xs ++ all_sealed p ys)) (place_next place x xs)
    ∙ sym (append_assoc (sealed place x) (all_sealed (moved_on place) xs) (all_sealed (place_after place (x ∷ xs)) ys))

pub opens_none : (view : LinkView) → Opens view [] view
opens_none view = record { short = tt; bear = refl; place = none_after view.place; parts = sym (append-nil view.parts); way = refl; failed = refl }

pub opens_join : (a b c : LinkView) (xs ys : List (List ℕ)) → Opens a xs b → Opens b ys c → Opens a (xs ++ ys) c
opens_join a b c xs ys h k = record {
  short = each_both xs ys h.short k.short;
  bear = h.bear
      ∙ ap (λ (l : List ℕ). all_sealed a.place xs ++ l) k.bear
      ∙ ap (λ (p : Place). all_sealed a.place xs ++ (all_sealed p ys ++ c.unopened)) h.place
      ∙ sym (append_assoc (all_sealed a.place xs) (all_sealed (place_after a.place xs) ys) c.unopened)
      ∙ ap (λ (l : List ℕ). l ++ c.unopened) (sym (sealed_join a.place xs ys));
  place = k.place ∙ ap (λ (p : Place). place_after p ys) h.place ∙ place_join a.place xs ys;
  parts = k.parts
      ∙ ap (λ (l : List ℕ). l ++ bytes_in ys) h.parts
      ∙ append_assoc a.parts (bytes_in xs) (bytes_in ys)
      ∙ ap (λ (l : List ℕ). a.parts ++ l) (sym (flat_map-append (λ (frame : List ℕ). frame) xs ys));
  way = k.way ∙ h.way;
  failed = k.failed ∙ h.failed;
}

-- a frame has at least its length and its tag
pub opens_shorter : (a b : LinkView) (frame : List ℕ) → Opens a (frame ∷ []) b → length b.unopened < length a.unopened
opens_shorter a b frame h =
    let tag = frame_tag a.place.key a.place.next frame in
    let whole = ap (λ (l : List ℕ). length l) h.bear in
    let one = length-append (sealed a.place frame ++ []) b.unopened in
    let two = ap (λ (l : List ℕ). length l) (append-nil (sealed a.place frame)) in
    let three = length-append (to_be_bytes w32 (length frame)) (frame ++ tag) in
    let four : length (to_be_bytes w32 (length frame)) ≡ 4 = refl in
    omega (arith, whole, one, two, three, four)
