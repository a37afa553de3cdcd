-- What a call on a book comes to: the book and the lent rows after it, and the answer.
use Rattle.std.specs.Prelude.{◌≡◌, ℕ, Bool, true, false, List, Ok, Err, Option, Result}
use Rattle.profile.specs.declared.Kind.{Kind}
use Rattle.profile.specs.declared.Rule.{Rule}
use Rattle.game.specs.declared.Head.{Head}
use Rattle.game.specs.declared.Line.{Line}
use Rattle.game.specs.declared.Line.TheVariants.{Enter as EnterLine, Join as JoinLine}
use Rattle.game.specs.declared.Row.{Row as LentRow}
use Rattle.book.specs.declared.Refusal.{Refusal}
use Rattle.book.specs.declared.state.Draft.{Draft}
use Rattle.book.specs.declared.state.Completed.{Completed}
use Rattle.book.specs.declared.calls.Asked.{Asked}
use Rattle.book.specs.declared.calls.Asked.TheVariants as asked
use Rattle.book.specs.declared.calls.Verdict.{Verdict}
use Rattle.book.specs.declared.calls.Verdict.TheVariants as verdict
use Rattle.book.specs.declared.run.Call.{Call}
use Rattle.book.specs.declared.run.Call.TheVariants as call
use Rattle.book.specs.declared.run.Answer.{Answer}
use Rattle.book.specs.declared.run.Answer.TheVariants as answer
use Rattle.book.specs.declared.run.Turn.{Turn}
use Rattle.book.specs.declared.run.Book.{Book}
use Rattle.book.specs.declared.run.Book.TheVariants as book
use Rattle.book.specs.Drafts.{draft_offer, told, rows_after, draft_after, draft_answer, verdict_of, Completes, LeavesOff}

-- a turn whose call is still to be made
abbrev pub to_be_made : Call → Turn
to_be_made c = record { call = c; answer = answer.NotOffered; held = 0 }

abbrev pub held_of : Book → ℕ
held_of (book.Draft d) = d.held
held_of (book.Completed c) = c.held

abbrev pub start_of : Book → Head
start_of (book.Draft d) = d.start
start_of (book.Completed c) = c.start

abbrev pub is_completed : Book → Bool
is_completed (book.Draft d) = false
is_completed (book.Completed c) = true

abbrev pub line_answer : Result ℕ Refusal → Answer
line_answer (Ok n) = answer.Row n
line_answer (Err why) = answer.Refused why

abbrev pub ask_answer : Asked → Answer
ask_answer asked.Refuted = answer.Refuted
ask_answer asked.Undecided = answer.Undecided

abbrev pub verdict_answer : Verdict → Answer
verdict_answer verdict.Refuted = answer.Refuted
verdict_answer verdict.Refines = answer.Refines

module _ (kinds : ℕ → Option Kind) (of_station of_manual : List (Option Rule)) where
  -- an offered line
  pub record StepsLine (d : Draft) (was : List LentRow) (line : Line) (is : List LentRow) (after : Book) (reply : Answer) : Type 0 where
    pub draft : after ≡ book.Draft (draft_after d (draft_offer kinds of_station of_manual d was line))
    pub replied : reply ≡ line_answer (told d (draft_offer kinds of_station of_manual d was line))
    pub lent : is ≡ rows_after d was line (draft_offer kinds of_station of_manual d was line)

  -- a search
  abbrev pub StepsSearch : Draft → List LentRow → List LentRow → Book → Answer → Type 0
  StepsSearch d was is (book.Completed c) reply = Completes kinds of_station of_manual d was is c × (reply ≡ answer.Completed c.held)
  StepsSearch d was is (book.Draft e) reply = (why : Refusal) × LeavesOff kinds of_station of_manual d was is e why × (reply ≡ answer.Refused why)

-- nothing changes
pub record StepsStill (before : Book) (was : List LentRow) (says : Answer) (is : List LentRow) (after : Book) (reply : Answer) : Type 0 where
  pub same : after ≡ before
  pub replied : reply ≡ says
  pub lent : is ≡ was

abbrev pub StepsCompleted : Completed → List LentRow → Call → Book → Answer → Type 0
StepsCompleted c was (call.Enter side slot state symbol) after reply = StepsStill (book.Completed c) was answer.NotOffered was after reply
StepsCompleted c was (call.Join i j) after reply = StepsStill (book.Completed c) was answer.NotOffered was after reply
StepsCompleted c was call.Search after reply = StepsStill (book.Completed c) was answer.NotOffered was after reply
StepsCompleted c was call.Ask after reply = StepsStill (book.Completed c) was answer.NotOffered was after reply
StepsCompleted c was call.Verdict after reply = StepsStill (book.Completed c) was (verdict_answer (verdict_of c was)) was after reply

module _ (kinds : ℕ → Option Kind) (of_station of_manual : List (Option Rule)) where
  abbrev pub StepsDraft : Draft → List LentRow → Call → List LentRow → Book → Answer → Type 0
  StepsDraft d was (call.Enter side slot state symbol) is after reply = StepsLine kinds of_station of_manual d was (EnterLine side slot state symbol) is after reply
  StepsDraft d was (call.Join i j) is after reply = StepsLine kinds of_station of_manual d was (JoinLine i j) is after reply
  StepsDraft d was call.Search is after reply = StepsSearch kinds of_station of_manual d was is after reply
  StepsDraft d was call.Ask is after reply = StepsStill (book.Draft d) was (ask_answer (draft_answer d was)) is after reply
  StepsDraft d was call.Verdict is after reply = StepsStill (book.Draft d) was answer.NotOffered is after reply

  -- what each call's own definition says of it
  abbrev pub Steps : Book → List LentRow → Call → List LentRow → Book → Answer → Type 0
  Steps (book.Draft d) was c is after reply = StepsDraft d was c is after reply
  Steps (book.Completed d) was c is after reply = (is ≡ was) × StepsCompleted d was c after reply
