-- A profile text is accepted just where the grammar says what it says, and no text says two things.
use Rattle.std.proofs.Common.{◌≡◌, ℕ, ◌<◌, ◌≤◌, Bool, true, false, cond, leb, List, [], ◌∷◌, ◌++◌, length, Ok, Err, codes, decimal, Result, sym, refl, ap, ◌∙◌, subst, arith}
use Rattle.std.proofs.lemmas.List.{append-nil}
use Rattle.std.proofs.lemmas.Bool.{cond-true, leb-true, le-leb}
use Rattle.ordered.proofs.Orders.{same_elements_same_list}
use Rattle.profile.specs.declared.Rule.{Rule}
use Rattle.profile.specs.declared.table.Table.{Table}
use Rattle.profile.specs.Rules.{rule_le}
use Rattle.text.specs.declared.fault.WordCause.{WordCause}
use Rattle.text.specs.declared.fault.Cause.{Cause}
use Rattle.text.specs.declared.fault.Fault.{Fault}
use Rattle.text.specs.declared.fault.WordCause.TheVariants.{TextTooLong}
use Rattle.text.specs.Faults.{word_fault}
use Rattle.text.specs.Words.{Rest, Step, begun, length_judged}
use Rattle.text.specs.Sections.{read_keyword, read_number, read_end}
use Rattle.text.specs.ProfileText.{event_names, read_index, read_names, more_rules, read_rules, read_start, read_body, read_sections, Reading, reading_of, judged, read_profile, ReadInto}
use Rattle.text.specs.Grammar.{Spaced, names_section, name_of, rules_words, NamesDiffer, Says, Judged, OneReading}
use Rattle.text.proofs.Spacing.{Takes, takes_then, takes_as}
use Rattle.text.proofs.Dues.{then_ok, then_is, ok_same, Reads, keyword_takes, keyword_reads, number_takes, number_reads, end_takes, end_reads}
use Rattle.text.proofs.Naming.{section_takes, section_reads, index_takes, index_reads}
use Rattle.text.proofs.Listing.{rules_take, rules_read}

-- the start
abbrev start_words : List (List ℕ) → List (List ℕ) → ℕ × ℕ → List (List ℕ)
start_words states symbols start = codes "start" ∷ decimal 1 ∷ name_of states start.0 ∷ name_of symbols start.1 ∷ []

pub record StartTaken (states symbols : List (List ℕ)) (s : Rest) (st : Step (ℕ × ℕ)) : Type 0 where
  pub state : st.value.0 < length states
  pub symbol : st.value.1 < length symbols
  pub takes : Takes s (start_words states symbols st.value) st.rest

start_takes : (states symbols : List (List ℕ)) (s : Rest) (st : Step (ℕ × ℕ)) → read_start states symbols s ≡ Ok st → StartTaken states symbols s st
start_takes states symbols s st e =
    let h = then_ok (read_keyword (codes "start") s) _ st e in
    let n = then_ok (read_number 1 1 h.0.rest) _ st h.2 in
    let state = then_ok (read_index states n.0.rest) _ st n.2 in
    let symbol = then_ok (read_index symbols state.0.rest) _ st state.2 in
    let one = number_takes 1 1 h.0.rest n.0 n.1 in
    let least = one.least in
    let most = one.most in
    let is_one : n.0.value ≡ 1 = omega arith in
    let a = index_takes states n.0.rest state.0 state.1 in
    let b = index_takes symbols state.0.rest symbol.0 symbol.1 in
    let number = takes_as (ap (λ m. decimal m ∷ []) is_one) one.takes in
    let all = takes_then (keyword_takes (codes "start") s h.0 h.1) (takes_then number (takes_then a.takes b.takes)) in
    subst (λ (x : Step (ℕ × ℕ)). StartTaken states symbols s x) (ok_same symbol.2) (record { state = a.bound; symbol = b.bound; takes = all })

start_reads : (states symbols : List (List ℕ)) (start : ℕ × ℕ) (s : Rest) (ws : List (List ℕ)) → NamesDiffer states → NamesDiffer symbols → start.0 < length states → start.1 < length symbols → Spaced s.bytes (start_words states symbols start ++ ws) → Reads (read_start states symbols s) start ws
start_reads states symbols start s ws ds dx hs hx h =
    let k = keyword_reads (codes "start") s (decimal 1 ∷ name_of states start.0 ∷ name_of symbols start.1 ∷ ws) h in
    let n = number_reads 1 1 1 k.step.rest (name_of states start.0 ∷ name_of symbols start.1 ∷ ws) (omega arith) (omega arith) (omega arith) k.left in
    let state = index_reads states start.0 n.step.rest (name_of symbols start.1 ∷ ws) ds hs n.left in
    let symbol = index_reads symbols start.1 state.step.rest ws dx hx state.left in
    record {
      step = record { value = (state.step.value, symbol.step.value); rest = symbol.step.rest };
      is = then_is _ k.is ∙ then_is _ n.is ∙ then_is _ state.is ∙ then_is _ symbol.is;
      value = ap (λ (x : ℕ). (x, symbol.step.value)) state.value ∙ ap (λ (x : ℕ). (start.0, x)) symbol.value;
      left = symbol.left;
    }

-- the length of a text
pub short_text : {T : Type 0} (t : List ℕ) (r : Result T (Fault Cause)) (x : T) → judged (length_judged t) r ≡ Ok x → (length t ≤ 20000) × (r ≡ Ok x)
short_text {T} t r x = at (leb (length t) 20000) refl where
  at : (b : Bool) → leb (length t) 20000 ≡ b → judged {T = T} (cond b (Ok tt) (Err (word_fault TextTooLong 0))) r ≡ Ok x → (length t ≤ 20000) × (r ≡ Ok x)
  at true e h = (leb-true (length t) 20000 e, h)
  at false e h = cc

pub read_short : {T : Type 0} (t : List ℕ) (r : Result T (Fault Cause)) → length t ≤ 20000 → judged (length_judged t) r ≡ r
read_short {T} t r h = ap (λ (x : Result (Unit {0}) (Fault WordCause)). judged {T = T} x r) (cond-true _ _ _ (le-leb (length t) 20000 h))

-- accepted texts say what was read
pub accepted_says : (text : List ℕ) (p : Reading) → read_profile text ≡ Ok p → Says text p
accepted_says text p h =
    let start_of_lem = short_text text (read_sections event_names (begun text)) p h in
    let states = then_ok (read_names (codes "states") 8 (begun text)) _ p start_of_lem.1 in
    let symbols = then_ok (read_names (codes "symbols") 16 states.0.rest) _ p states.2 in
    let rules = then_ok (read_rules states.0.value symbols.0.value event_names symbols.0.rest) _ p symbols.2 in
    let start = then_ok (read_start states.0.value symbols.0.value rules.0.rest) _ p rules.2 in
    let done = then_ok (read_end start.0.rest) _ p start.2 in
    let is = ok_same done.2 in
    let ns : List (List ℕ) = states.0.value in
    let xs : List (List ℕ) = symbols.0.value in
    let a = section_takes (codes "states") 8 (begun text) states.0 states.1 in
    let b = section_takes (codes "symbols") 16 states.0.rest symbols.0 symbols.1 in
    let heading = then_ok (read_keyword (codes "rules") symbols.0.rest) _ rules.0 rules.1 in
    let count = then_ok (read_number 0 96 heading.0.rest) _ rules.0 heading.2 in
    let n = number_takes 0 96 heading.0.rest count.0 count.1 in
    let rs = rules_take ns xs count.0.value [] [] count.0.rest rules.0 tt (λ r. ((λ h. h), λ h. h)) count.2 in
    let st = start_takes ns xs rules.0.rest start.0 start.1 in
    let rules_taken = takes_as (ap (λ m. codes "rules" ∷ decimal m ∷ rules_words ns xs rs.new) (sym rs.count)) (takes_then (keyword_takes (codes "rules") symbols.0.rest heading.0 heading.1) (takes_then n.takes rs.takes)) in
    let all = takes_then a.takes (takes_then b.takes (takes_then rules_taken st.takes)) in
    let words = all.gives [] (end_takes start.0.rest done.1) in
    let most = n.most in
    let counted = rs.count in
    subst (λ (x : Reading). Says text x) is (record {
      states = ns;
      symbols = xs;
      listed = rs.new;
      short = start_of_lem.0;
      spelled = subst (λ (l : List (List ℕ)). Spaced text l) (append-nil _) words;
      some_states = a.some;
      few_states = a.few;
      states_differ = a.differ;
      some_symbols = b.some;
      few_symbols = b.few;
      symbols_differ = b.differ;
      few_rules = omega arith;
      rules_named = rs.named;
      rules_differ = rs.differ;
      start_state = st.state;
      start_symbol = st.symbol;
      ascending = rs.ascending;
      just_listed = rs.same;
    })

-- texts that say something are accepted, and as what they say
pub said_accepted : (text : List ℕ) (p : Reading) → Says text p → read_profile text ≡ Ok p
said_accepted text p says =
    let ns : List (List ℕ) = says.states in
    let xs : List (List ℕ) = says.symbols in
    let start : List (List ℕ) = start_words ns xs p.start in
    let rules : List (List ℕ) = codes "rules" ∷ decimal (length says.listed) ∷ rules_words ns xs says.listed in
    let a = section_reads (codes "states") 8 ns (begun text) (names_section (codes "symbols") xs ++ (rules ++ start)) says.some_states says.few_states (omega arith) says.states_differ says.spelled in
    let b = section_reads (codes "symbols") 16 xs a.step.rest (rules ++ start) says.some_symbols says.few_symbols (omega arith) says.symbols_differ a.left in
    let h = keyword_reads (codes "rules") b.step.rest (decimal (length says.listed) ∷ (rules_words ns xs says.listed ++ start)) b.left in
    let n = number_reads 0 96 (length says.listed) h.step.rest (rules_words ns xs says.listed ++ start) (omega arith) says.few_rules (omega arith) h.left in
    let r = rules_read ns xs says.listed [] [] n.step.rest start says.states_differ says.symbols_differ tt (λ x. ((λ k. k), λ k. k)) says.rules_named says.rules_differ n.left in
    let s = start_reads ns xs p.start r.step.rest [] says.states_differ says.symbols_differ says.start_state says.start_symbol r.left in
    let rules_is : read_rules ns xs event_names b.step.rest ≡ Ok r.step =
    then_is _ h.is ∙ then_is _ n.is ∙ ap (λ c. more_rules ns xs event_names c [] n.step.rest) n.value ∙ r.is in
    let end : read_end s.step.rest ≡ Ok tt = end_reads s.step.rest s.left in
    let held : r.step.value ≡ p.rules =
    same_elements_same_list rule_le r.step.value p.rules r.ascending says.ascending (λ x k. (says.just_listed x).1 ((r.same x).0 k)) (λ x k. (r.same x).1 ((says.just_listed x).0 k)) in
    let body : read_body ns xs event_names b.step.rest ≡ Ok p =
    then_is _ rules_is ∙ then_is _ s.is ∙ then_is _ end ∙ ap Ok (ap (λ (l : List Rule). record { rules = l; start = s.step.value }) held ∙ ap (λ (x : ℕ × ℕ). record { rules = p.rules; start = x }) s.value) in
    read_short text (read_sections event_names (begun text)) says.short ∙ then_is _ a.is ∙ then_is _ b.is ∙
    ap (λ (l : List (List ℕ)). read_body l b.step.value event_names b.step.rest) a.value ∙ ap (λ (l : List (List ℕ)). read_body ns l event_names b.step.rest) b.value ∙ body

pub one_reading : OneReading
one_reading text p q a b = ok_same (sym (said_accepted text p a) ∙ said_accepted text q b)

refused_says : (text : List ℕ) (f : Fault Cause) (p : Reading) → read_profile text ≡ Err f → Says text p → ⊥
refused_says text f p e s = let g = sym (said_accepted text p s) ∙ e in cc

pub judged_by_grammar : (text : List ℕ) (r : Result (Unit {0}) (Fault Cause)) (was is : Table) → ReadInto text r was is → Judged text r is
judged_by_grammar text (Ok done) was is h = (accepted_says text (reading_of is) h, λ p s. one_reading text p (reading_of is) s (accepted_says text (reading_of is) h))
judged_by_grammar text (Err f) was is h = λ p s. refused_says text f p h.0 s
