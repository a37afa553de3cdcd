-- What is told of three texts, from what each function told.
use Rattle.std.proofs.Common.{◌≡◌, ℕ, ◌≤◌, List, [], ◌++◌, map, take, IfOk, Ok, Err, codes, Result, sym, ap, ◌∙◌, subst}
use Rattle.std.proofs.lemmas.List.{take-take}
use Rattle.std.proofs.lemmas.Result.{IfOk-weaker}
use Rattle.text.specs.declared.fault.Cause.{Cause}
use Rattle.text.specs.declared.fault.Fault.{Fault}
use Rattle.text.specs.ProfileText.{Reading, read_profile}
use Rattle.game.specs.declared.Row.{Row}
use Rattle.book.specs.declared.run.Call.{Call}
use Rattle.book.specs.declared.run.Turn.{Turn}
use Rattle.book.specs.declared.run.Book.{Book}
use Rattle.book.specs.Offers.{held_rows}
use Rattle.book.specs.Turns.{to_be_made, held_of}
use Rattle.calls.specs.Printing.{turns_text, rows_text}
use Rattle.calls.specs.Judging.{lent_rows, Guaranteed, Ran, refused_text, ManualTold, StationTold, Told}

-- the answers and the held rows, one after the other
pub told_is : (bytes mid none : List ℕ) (turns : List Turn) (rows : List Row) (n : ℕ) (book : Book) → none ≡ [] → mid ≡ none ++ turns_text turns → bytes ≡ mid ++ rows_text (take n rows) → n ≡ held_of book → held_of book ≤ 1024 → bytes ≡ turns_text turns ++ rows_text (held_rows rows (held_of book))
told_is bytes mid none turns rows n book nothing first then same few =
    then ∙ ap (λ (l : List ℕ). l ++ rows_text (take n rows)) (first ∙ ap (λ (l : List ℕ). l ++ turns_text turns) nothing) ∙
    ap (λ (l : List Row). turns_text turns ++ rows_text l) (ap (λ k. take k rows) same ∙ sym (take-take (held_of book) 1024 rows few))

pub has_run : (station manual : Reading) (lend : ℕ) (calls : List Call) (bytes : List ℕ) (given turns : List Turn) (was rows : List Row) (book : Book) → given ≡ map to_be_made calls → was ≡ lent_rows lend → Guaranteed station manual given turns was book rows → bytes ≡ turns_text turns ++ rows_text (held_rows rows (held_of book)) → Ran station manual lend calls bytes
has_run station manual lend calls bytes given turns was rows book fresh blank g told = record {
  turns = turns;
  book = book;
  rows = rows;
  guarantee =
      subst (λ (w : List Row). Guaranteed station manual (map to_be_made calls) turns w book rows) blank
      (subst (λ (l : List Turn). Guaranteed station manual l turns was book rows) fresh g);
  told = told;
}

-- which text was refused
module _ {X E : Type 0} (bytes : X → List ℕ) (r : Result X E) (station manual calls : List ℕ) (f : Fault Cause) where
  pub station_refused : read_profile station ≡ Err f → IfOk r (λ s. bytes s ≡ refused_text (codes "station") f) → IfOk r (λ s. Told station manual calls (bytes s))
  station_refused e h = IfOk-weaker r _ _ (λ s k. subst (λ (x : Result Reading (Fault Cause)). StationTold x manual calls (bytes s)) (sym e) k) h

  pub manual_refused : (p : Reading) → read_profile station ≡ Ok p → read_profile manual ≡ Err f → IfOk r (λ s. bytes s ≡ refused_text (codes "manual") f) → IfOk r (λ s. Told station manual calls (bytes s))
  manual_refused p d e h =
      IfOk-weaker r _ _ (λ s k.
      subst (λ (x : Result Reading (Fault Cause)). StationTold x manual calls (bytes s)) (sym d)
      (subst (λ (x : Result Reading (Fault Cause)). ManualTold p x calls (bytes s)) (sym e) k)) h
