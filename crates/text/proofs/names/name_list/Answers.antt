use Rattle.std.proofs.Common.{◌≡◌, ℕ, ◌-◌, ◌+◌, ◌++◌, List, ◌∷◌, [], false, is_some, ap, ◌∙◌, rules}
use Rattle.std.proofs.lemmas.List.{map_push}
use Rattle.text.specs.Words.{spelled}
use Rattle.text.specs.ProfileText.{texts, index_of, more_names}
use Rattle.text.proofs.NameSteps.{name_more}
use Rattle.text.proofs.names.name_list.Goals as goal

pub loop-preserved : goal.loop-preserved
loop-preserved g c =
    let held : List (List ℕ) = texts c.loop.names.items in
    let word : List ℕ = (spelled c.in_ok-word.word).bytes in
    let new : is_some (index_of held word) ≡ false = search rules in
    let grown : texts c.push.new.self.items ≡ held ++ word ∷ [] =
    ap texts c.push.ensures.items ∙ map_push _ c.loop.names.items c.bytes-in-loop.result ∙ ap (λ (b : List ℕ). held ++ b ∷ []) c.bytes-in-loop.ensures in (
      ap (λ (l : List (List ℕ)). more_names (c.args.n - (c.loop.counter + 1)) l c.word_due.new.reader) grown ∙
          name_more c.args.n c.loop.counter held c.loop.reader c.loop-test.true (record { value = spelled c.in_ok-word.word; rest = c.word_due.new.reader }) c.in_ok-word.ensures.value new ∙
          c.loop.invariant.0,
      search rules,
    )
