-- What was printed so far, and what one more line adds.
use Rattle.std.proofs.Common.{◌≡◌, ℕ, ◌+◌, ◌<◌, ◌≤◌, List, [], ◌++◌, length, get_or, drop, codes, decimal, sym, ap, ◌∙◌, append_assoc}
use Rattle.std.proofs.lemmas.List.{append-nil, at_drop_more, at_drop_all}
use Rattle.text.specs.Report.{line_end}
use Rattle.game.specs.declared.Line.{Line}
use Rattle.game.specs.declared.Line.TheVariants as line
use Rattle.game.specs.declared.Row.{Row}
use Rattle.game.specs.Printed.{line_shown}
use Rattle.calls.specs.Printing.{line_text, lines_text, rows_text}

-- what is printed of a line of a book, and the end of the line
line_is : (l : Line) → line_shown l ++ line_end ≡ line_text l
line_is (line.Enter a b c d) = simp append_assoc
line_is (line.Join a b) = simp append_assoc

-- one more line, of those that are left
put_more : (so_far is line left more whole : List ℕ) → is ≡ so_far ++ line → left ≡ line ++ more → so_far ++ left ≡ whole → is ++ more ≡ whole
put_more so_far is line left more whole e f g =
    ap (λ (l : List ℕ). l ++ more) e ∙ append_assoc so_far line more ∙ ap (λ (l : List ℕ). so_far ++ l) (sym f) ∙ g

put_all : (so_far left whole : List ℕ) → left ≡ [] → so_far ++ left ≡ whole → so_far ≡ whole
put_all so_far left whole e g = sym (append-nil so_far) ∙ ap (λ (l : List ℕ). so_far ++ l) (sym e) ∙ g

pub row_more : (rs : List Row) (i : ℕ) (d : Row) (so_far is whole : List ℕ) → i < length rs → is ≡ so_far ++ (line_shown (get_or rs i d).line ++ line_end) → so_far ++ lines_text (drop i rs) ≡ whole → is ++ lines_text (drop (i + 1) rs) ≡ whole
row_more rs i d so_far is whole h e g =
    put_more so_far is (line_text (get_or rs i d).line) (lines_text (drop i rs)) (lines_text (drop (i + 1) rs)) whole (e ∙ ap (λ (l : List ℕ). so_far ++ l) (line_is (get_or rs i d).line)) (at_drop_more lines_text rs i d h) g

-- all lines, after the line with their number
pub row_all : (rs : List Row) (i : ℕ) (was counted so_far : List ℕ) → length rs ≤ i → counted ≡ was ++ (codes "rows " ++ decimal (length rs) ++ line_end) → so_far ++ lines_text (drop i rs) ≡ counted ++ lines_text rs → so_far ≡ was ++ rows_text rs
row_all rs i was counted so_far h e g =
    put_all so_far (lines_text (drop i rs)) (counted ++ lines_text rs) (at_drop_all lines_text rs i h) g ∙
    ap (λ (l : List ℕ). l ++ lines_text rs) e ∙ append_assoc was (codes "rows " ++ decimal (length rs) ++ line_end) (lines_text rs)
