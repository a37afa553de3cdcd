-- What is printed of an answer.
use Rattle.std.specs.Prelude.{List, ℕ, ◌++◌, codes, decimal}
use Rattle.book.specs.declared.run.Answer.{Answer}
use Rattle.book.specs.declared.run.Answer.TheVariants as answer
use Rattle.book.specs.Refusals.{refusal_number}

abbrev pub answer_shown : Answer → List ℕ
answer_shown (answer.Row n) = codes "row " ++ decimal n
answer_shown (answer.Refused why) = codes "refusal " ++ decimal (refusal_number why)
answer_shown (answer.Completed n) = codes "completed " ++ decimal n
answer_shown answer.Refuted = codes "refuted"
answer_shown answer.Undecided = codes "undecided"
answer_shown answer.Refines = codes "refines"
answer_shown answer.NotOffered = codes "not offered"
