use Rattle.std.proofs.Common.{◌≤◌, List, ◌++◌, take, replicate, vec_items, string_bytes, ap, ◌∙◌, arith}
use Rattle.std.proofs.lemmas.List.{with_items_is}
use Rattle.text.specs.ProfileText.{reading_of}
use Rattle.game.specs.declared.Row.{Row}
use Rattle.book.specs.declared.run.Turn.{Turn}
use Rattle.book.specs.Turns.{held_of}
use Rattle.calls.specs.Calls.{calls_of}
use Rattle.calls.specs.Printing.{turns_text, rows_text}
use Rattle.calls.proofs.Judged.{told_is, has_run}
use Rattle.calls.proofs.judging.answered.Goals as goal

pub returns : goal.returns
returns c =
    let few : held_of c.run-book.result ≤ 1024 = omega (arith, c.run-book.ensures.kept.book_kept.within) in
    has_run (reading_of c.args.station.now) (reading_of c.args.manual.now) c.args.script.lend (calls_of (vec_items c.args.script.turns)) (string_bytes c.put_rows.new.out)
    c.as_mut_slice-2.result.now c.run-book.new.turns c.as_mut_slice.result.now c.run-book.new.rows c.run-book.result
    (c.as_mut_slice-2.ensures.value ∙ c.requires)
    (c.as_mut_slice.ensures.value ∙ c.in_ok-rows.ensures.items_if_clones_equal (λ y h. h) ∙ ap (replicate c.args.script.lend) c.blank.ensures)
    (c.run-book.ensures.kept, c.run-book.ensures.by_contract)
    (told_is _ (string_bytes c.put_turns.new.out) (string_bytes c.new-out.result) c.run-book.new.turns c.run-book.new.rows c.held.result c.run-book.result
    c.new-out.ensures.bytes
    (c.in_ok-put_turns.ensures ∙ ap (λ (l : List Turn). string_bytes c.new-out.result ++ turns_text l) (c.as_slice.ensures.value ∙ with_items_is c.args.script.turns c.run-book.new.turns (omega (arith, c.run-book.auto.turns, c.as_mut_slice-2.ensures.len))))
    (c.in_ok-put_rows.ensures ∙ ap (λ (l : List Row). string_bytes c.put_turns.new.out ++ rows_text (take c.held.result l)) (c.as_slice-2.ensures.value ∙ with_items_is c.in_ok-rows.rows c.run-book.new.rows (omega (arith, c.run-book.auto.rows, c.as_mut_slice.ensures.len))))
    c.held.ensures few)
