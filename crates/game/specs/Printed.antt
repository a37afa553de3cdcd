-- What is printed of a line.
use Rattle.std.specs.Prelude.{List, ℕ, ◌++◌, codes, decimal}
use Rattle.game.specs.declared.Line.{Line}
use Rattle.game.specs.declared.Line.TheVariants as line

abbrev pub line_shown : Line → List ℕ
line_shown (line.Enter side slot state symbol) =
    codes "enter " ++ decimal side ++ codes " " ++ decimal slot ++ codes " " ++ decimal state ++ codes " " ++ decimal symbol
line_shown (line.Join i j) = codes "join " ++ decimal i ++ codes " " ++ decimal j
