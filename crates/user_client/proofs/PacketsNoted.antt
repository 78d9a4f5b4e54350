-- PacketsNoted.antt: packets that were noted, and one more; and a stream that had a fault before.
use Rattle.std.proofs.Common.{◌≡◌, true, ℕ, List, inr, refl, sym, ap, subst, ◌∙◌}
use Rattle.cutter.specs.Stream.{Stream}
use Rattle.user_client.specs.Answers.{Hears, Notes, fed}
use Rattle.user_client.specs.Inside.Noted.{NotesNext}
use Rattle.user_client.specs.declared.answers.Answers.{Answers}

pub noted_more : (start before after : Answers) → Notes start before → NotesNext before true after → Notes start after
noted_more start before after notes one = Notes.more after one.0 notes one.1 one.2

-- nothing is appended to a stream that had a fault
not_fed : (piece : List ℕ) (old : Answers) → old.unread.failed ≡ true → fed piece old ≡ old
not_fed piece old failed = rw failed refl

pub failed_before : (piece : List ℕ) (old : Answers) (new : Stream) → old.unread.failed ≡ true → new ≡ old.unread
    → Hears piece old (record { unread = new; denial = old.denial })
failed_before piece old new failed same = record {
  last = old;
  notes = subst (λ (a : Answers). Notes a old) (sym (not_fed piece old failed)) Notes.none;
  cut = inr (ap (λ (s : Stream). s.failed) same ∙ failed);
  bytes = ap (λ (s : Stream). s.bytes) same;
  denial = refl;
}
