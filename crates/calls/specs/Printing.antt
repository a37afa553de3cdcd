-- What is printed: a line for each call, and then the lines that made the held rows.
use Rattle.std.specs.Prelude.{ℕ, List, [], ◌∷◌, ◌++◌, length, codes}
use Rattle.text.specs.Report.{line_end, shown_number}
use Rattle.game.specs.declared.Line.{Line}
use Rattle.game.specs.declared.Line.TheVariants as line
use Rattle.game.specs.declared.Row.{Row}
use Rattle.book.specs.declared.run.Answer.{Answer}
use Rattle.book.specs.declared.run.Answer.TheVariants as answer
use Rattle.book.specs.declared.run.Turn.{Turn}
use Rattle.book.specs.Refusals.{refusal_number}

-- the line of an answer
abbrev pub answer_line : Answer → List ℕ
answer_line (answer.Row n) = codes "row" ++ shown_number n ++ line_end
answer_line (answer.Refused why) = codes "refusal" ++ shown_number (refusal_number why) ++ line_end
answer_line (answer.Completed n) = codes "completed" ++ shown_number n ++ line_end
answer_line answer.Refuted = codes "refuted" ++ line_end
answer_line answer.Undecided = codes "undecided" ++ line_end
answer_line answer.Refines = codes "refines" ++ line_end
answer_line answer.NotOffered = codes "not offered" ++ line_end

-- a line for each call
abbrev pub turns_text : List Turn → List ℕ
turns_text [] = []
turns_text (t ∷ ts) = answer_line t.answer ++ turns_text ts

-- the line that made a row
abbrev pub line_text : Line → List ℕ
line_text (line.Enter side slot state symbol) = codes "enter" ++ shown_number side ++ shown_number slot ++ shown_number state ++ shown_number symbol ++ line_end
line_text (line.Join i j) = codes "join" ++ shown_number i ++ shown_number j ++ line_end

abbrev pub lines_text : List Row → List ℕ
lines_text [] = []
lines_text (r ∷ rs) = line_text r.line ++ lines_text rs

-- how many rows there are, and the line that made each
abbrev pub rows_text : List Row → List ℕ
rows_text rs = codes "rows" ++ shown_number (length rs) ++ line_end ++ lines_text rs
