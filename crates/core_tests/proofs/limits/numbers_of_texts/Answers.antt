use Rattle.std.proofs.Common.{refl}
use Rattle.core_tests.proofs.limits.numbers_of_texts.Goals as goal

pub returns : goal.returns
returns c = record {
  empty = λ text e. rw e refl;
  shortest = λ text e. rw e refl;
  longest = λ text e. rw e refl;
  longer = λ text e. rw e refl;
  deepest = λ text e. rw e refl;
  deeper = λ text e. rw e refl;
}
