-- Texts of calls: how many rows are lent, and then calls to the end of the text.
use Rattle.std.specs.Prelude.{◌≡◌, ℕ, zero, suc, cond, List, [], ◌∷◌, ◌++◌, map, length, Some, None, Ok, Err, vec_items, codes, Option, Result}
use Rattle.std.specs.Global.{Vec}
use Rattle.std.specs.Str.{bytes_eq}
use Rattle.text.specs.declared.fault.WordCause.{WordCause}
use Rattle.text.specs.declared.fault.Cause.{Cause}
use Rattle.text.specs.declared.fault.Fault.{Fault}
use Rattle.text.specs.declared.fault.SectionCause.TheVariants.{WordNotDue}
use Rattle.text.specs.declared.words.Due.TheVariants.{Keyword}
use Rattle.text.specs.Faults.{word_fault_in, section_fault}
use Rattle.text.specs.Words.{Rest, Step, Spelled, begun, length_judged, next_word}
use Rattle.text.specs.Sections.{and_then, read_keyword, read_number}
use Rattle.text.specs.ProfileText.{judged}
use Rattle.book.specs.declared.run.Call.{Call}
use Rattle.book.specs.declared.run.Call.TheVariants as call
use Rattle.book.specs.declared.run.Turn.{Turn}
use Rattle.book.specs.Turns.{to_be_made}
use Rattle.calls.specs.declared.reading.Script.{Script}
use Rattle.calls.specs.declared.reading.Unread.{Unread}
use Rattle.calls.specs.declared.reading.Unread.TheVariants.{Refused, NoMemory}

-- a number of a call
abbrev pub read_operand : Rest → Result (Step ℕ) (Fault Cause)
read_operand = read_number 0 9999

-- the numbers of an attack: side, slot, state and symbol
abbrev pub read_enter : Rest → Result (Step Call) (Fault Cause)
read_enter s =
    and_then (read_operand s) (λ side.
    and_then (read_operand side.rest) (λ slot.
    and_then (read_operand slot.rest) (λ state.
    and_then (read_operand state.rest) (λ symbol.
    Ok (record { value = call.Enter side.value slot.value state.value symbol.value; rest = symbol.rest })))))

-- the numbers of two rows
abbrev pub read_join : Rest → Result (Step Call) (Fault Cause)
read_join s =
    and_then (read_operand s) (λ i.
    and_then (read_operand i.rest) (λ j.
    Ok (record { value = call.Join i.value j.value; rest = j.rest })))

-- the call that a word begins
abbrev pub read_call : Step Spelled → Result (Step Call) (Fault Cause)
read_call w =
    cond (bytes_eq w.value.bytes (codes "enter")) (read_enter w.rest)
    (cond (bytes_eq w.value.bytes (codes "join")) (read_join w.rest)
    (cond (bytes_eq w.value.bytes (codes "search")) (Ok (record { value = call.Search; rest = w.rest }))
    (cond (bytes_eq w.value.bytes (codes "ask")) (Ok (record { value = call.Ask; rest = w.rest }))
    (cond (bytes_eq w.value.bytes (codes "verdict")) (Ok (record { value = call.Verdict; rest = w.rest }))
    (Err (section_fault WordNotDue w.value.place))))))

-- what follows some calls: the end of the text, or another call and what follows that
abbrev pub call_or_end : (List Call → Rest → Result (List Call) (Fault Cause)) → List Call → Result (Option (Step Spelled)) (Fault WordCause) → Result (List Call) (Fault Cause)
call_or_end more cs (Ok None) = Ok cs
call_or_end more cs (Ok (Some w)) = and_then (read_call w) (λ c. more (cs ++ c.value ∷ []) c.rest)
call_or_end more cs (Err f) = Err (word_fault_in f)

-- at most k more calls after some; a call has at least one byte, so that as many are enough as bytes are left
abbrev pub more_calls : ℕ → List Call → Rest → Result (List Call) (Fault Cause)
more_calls zero cs s = Ok cs
more_calls (suc k) cs s = call_or_end (more_calls k) cs (next_word Keyword s)

-- the calls to the end of the text
abbrev pub all_calls : Rest → Result (List Call) (Fault Cause)
all_calls s = more_calls (length s.bytes) [] s

abbrev pub read_script : Rest → Result (ℕ × List Call) (Fault Cause)
read_script s =
    and_then (read_keyword (codes "lend") s) (λ h.
    and_then (read_number 0 1024 h.rest) (λ n.
    and_then (all_calls n.rest) (λ cs.
    Ok (n.value, cs))))

-- The reading of a text of calls: how many rows are lent and the calls, or its fault.
abbrev pub read_calls : List ℕ → Result (ℕ × List Call) (Fault Cause)
read_calls t = judged (length_judged t) (read_script (begun t))

-- the same of what the code holds
abbrev pub calls_of : List Turn → List Call
calls_of = map (λ (t : Turn). t.call)

-- turns whose calls are still to be made
abbrev pub AllToBeMade : List Turn → Type 0
AllToBeMade ts = ts ≡ map to_be_made (calls_of ts)

abbrev pub CallsRead : Rest → Result (Vec Turn) Unread → Type 0
CallsRead s (Ok turns) = (all_calls s ≡ Ok (calls_of (vec_items turns))) × AllToBeMade (vec_items turns)
CallsRead s (Err (Refused f)) = all_calls s ≡ Err f
CallsRead s (Err NoMemory) = Unit {0}

abbrev pub ScriptRead : Rest → Result Script Unread → Type 0
ScriptRead s (Ok script) = (read_script s ≡ Ok (script.lend, calls_of (vec_items script.turns))) × AllToBeMade (vec_items script.turns)
ScriptRead s (Err (Refused f)) = read_script s ≡ Err f
ScriptRead s (Err NoMemory) = Unit {0}

-- A text of calls was read as what it says; where there was no memory, nothing is said.
abbrev pub TextRead : List ℕ → Result Script Unread → Type 0
TextRead text (Ok script) = (read_calls text ≡ Ok (script.lend, calls_of (vec_items script.turns))) × AllToBeMade (vec_items script.turns)
TextRead text (Err (Refused f)) = read_calls text ≡ Err f
TextRead text (Err NoMemory) = Unit {0}
