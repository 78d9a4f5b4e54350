-- CountsStand.antt: a count that replaces another says all that the other said.
use Rattle.std.proofs.Common.{◌≡◌, ℕ, ◌≤◌, ◌==◌, ◌&&◌, true, nat_le, List, [], ◌∷◌, max, refl, arith}
use Rattle.ballot_base.specs.declared.status.Progress.{Progress}
use Rattle.ballot_base.specs.Service.{raised, raised_progress}
use Rattle.post.specs.outbox.Theorems.{LaterCommitsSuffice, LaterCountsSuffice}

max_max : (a fewer held : ℕ) → fewer ≤ held → max (max a fewer) held ≡ max a held
max_max a fewer held least = grind (arith, least)

one : (member fewer held : ℕ) (reached : Progress)
    → fewer ≤ held → raised_progress member held (raised_progress member fewer reached) ≡ raised_progress member held reached
one member fewer held reached least = grind (arith, least, max_max)

stand : (member fewer held : ℕ) (progress : List Progress)
    → fewer ≤ held → raised member held (raised member fewer progress) ≡ raised member held progress
stand member fewer held [] least = refl
stand member fewer held (reached ∷ progress) least = grind (arith, one member fewer held reached least, stand member fewer held progress least)

same : (ballot held earlier fewer : ℕ) → (earlier == ballot && nat_le fewer held) ≡ true → ballot ≡ earlier
same ballot held earlier fewer covers = grind (arith, covers)

least : (ballot held earlier fewer : ℕ) → (earlier == ballot && nat_le fewer held) ≡ true → fewer ≤ held
least ballot held earlier fewer covers = grind (arith, covers)

pub counts_suffice : LaterCountsSuffice
counts_suffice ballot held earlier fewer member progress covers =
    (same ballot held earlier fewer covers, stand member fewer held progress (least ballot held earlier fewer covers))

pub commits_suffice : LaterCommitsSuffice
commits_suffice ballot held earlier fewer committed covers =
    (same ballot held earlier fewer covers, max_max committed fewer held (least ballot held earlier fewer covers))
