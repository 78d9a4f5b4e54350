use Rattle.notices.proofs.LinesLimited.{first_ten_are_told}
use Rattle.notices.proofs.theorems.ten_lines_a_second.Goals as goal

pub returns : goal.returns
returns c = first_ten_are_told
