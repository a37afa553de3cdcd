-- The words that are due, against the grammar: what was taken, and that what is spelled is taken.
use Rattle.std.proofs.Common.{◌≡◌, ℕ, ◌<◌, ◌≤◌, Bool, true, false, cond, leb, List, [], ◌∷◌, Some, None, Ok, Err, decimal, Option, Result, sym, refl, ap, ◌∙◌, subst, arith}
use Rattle.std.specs.Str.{bytes_eq}
use Rattle.std.proofs.lemmas.Slice.Eq.{bytes_eq-Decides}
use Rattle.std.proofs.lemmas.Bool.{cond-true, and_parts, and_from, leb-true, le-leb}
use Rattle.text.specs.declared.fault.WordCause.{WordCause}
use Rattle.text.specs.declared.fault.Cause.{Cause}
use Rattle.text.specs.declared.fault.Fault.{Fault}
use Rattle.text.specs.declared.words.Due.{Due}
use Rattle.text.specs.declared.words.Due.TheVariants.{Keyword, Number}
use Rattle.text.specs.Words.{text_end, Rest, Step, Spelled, next_word}
use Rattle.text.specs.Sections.{and_then, there, word_due, read_keyword, plain_number, in_range, read_number, nothing_more, read_end}
use Rattle.text.specs.Grammar.{Spaced}
use Rattle.text.proofs.Spacing.{Takes, takes_as, next_of, none_of, word_of, end_of}
use Rattle.text.proofs.PlainNumbers.{number_reads_back, number_spelled_once}

-- a reading that goes well goes well in each step
pub then_ok : {T U E : Type 0} (r : Result T E) (f : T → Result U E) (y : U) → and_then r f ≡ Ok y → (x : T) × (r ≡ Ok x) × (f x ≡ Ok y)
then_ok (Ok x) f y h = (x, refl, h)
then_ok (Err e) f y h = cc

pub then_is : {T U E : Type 0} {r : Result T E} {x : T} (f : T → Result U E) → r ≡ Ok x → and_then r f ≡ f x
then_is {T} {U} {E} f e = ap (λ (r : Result T E). and_then r f) e

pub cond_ok : {T E : Type 0} (b : Bool) (x : Result T E) (f : E) (y : T) → cond b x (Err f) ≡ Ok y → (b ≡ true) × (x ≡ Ok y)
cond_ok true x f y h = (refl, h)
cond_ok false x f y h = cc

pub ok_same : {T E : Type 0} {x y : T} → ◌≡◌ {A = Result T E} (Ok x) (Ok y) → x ≡ y
ok_same e = cc

pub same_bytes : (a b : List ℕ) → bytes_eq a b ≡ true → a ≡ b
same_bytes a b = (bytes_eq-Decides a b).0

pub bytes_same : (a b : List ℕ) → a ≡ b → bytes_eq a b ≡ true
bytes_same a b = (bytes_eq-Decides a b).1

-- reading r goes well, gives v, and leaves a text with the words ws
pub record Reads {T : Type 0} (r : Result (Step T) (Fault Cause)) (v : T) (ws : List (List ℕ)) : Type 0 where
  pub step : Step T
  pub is : r ≡ Ok step
  pub value : step.value ≡ v
  pub left : Spaced step.rest.bytes ws

-- a word that is due, by its bytes
pub record WordRead (k : Due) (s : Rest) (u : List ℕ) (ws : List (List ℕ)) : Type 0 where
  pub step : Step Spelled
  pub is : word_due k s ≡ Ok step
  pub bytes : step.value.bytes ≡ u
  pub left : Spaced step.rest.bytes ws

pub word_reads : (k : Due) (s : Rest) (u : List ℕ) (ws : List (List ℕ)) → Spaced s.bytes (u ∷ ws) → WordRead k s u ws
word_reads k s u ws h =
    let n = next_of k s.bytes s.at u ws h in
    record { step = n.step; is = ap (there (text_end s)) n.is; bytes = n.bytes; left = n.left }

pub there_some : (e : ℕ) (r : Result (Option (Step Spelled)) (Fault WordCause)) (w : Step Spelled) → there e r ≡ Ok w → r ≡ Ok (Some w)
there_some e (Ok None) w h = cc
there_some e (Ok (Some x)) w h = let f : x ≡ w = cc in ap (λ (y : Step Spelled). Ok (Some y)) f
there_some e (Err f) w h = cc

pub word_takes : (k : Due) (s : Rest) (w : Step Spelled) → word_due k s ≡ Ok w → Takes s (w.value.bytes ∷ []) w.rest
word_takes k s w h = record { gives = λ ws left. word_of k s.bytes s.at w (there_some (text_end s) (next_word k s) w h) ws left }

pub keyword_takes : (wanted : List ℕ) (s : Rest) (h : Step (Unit {0})) → read_keyword wanted s ≡ Ok h → Takes s (wanted ∷ []) h.rest
keyword_takes wanted s h e =
    let p = then_ok (word_due Keyword s) _ h e in
    let q = cond_ok _ _ _ _ p.2 in
    let same : p.0.rest ≡ h.rest = ap (λ (x : Step (Unit {0})). x.rest) (ok_same q.1) in
    let spelled = same_bytes p.0.value.bytes wanted q.0 in
    subst (λ (r : Rest). Takes s (wanted ∷ []) r) same (takes_as (ap (λ (l : List ℕ). l ∷ []) spelled) (word_takes Keyword s p.0 p.1))

pub keyword_reads : (wanted : List ℕ) (s : Rest) (ws : List (List ℕ)) → Spaced s.bytes (wanted ∷ ws) → Reads (read_keyword wanted s) tt ws
keyword_reads wanted s ws h =
    let w = word_reads Keyword s wanted ws h in
    record {
      step = record { value = tt; rest = w.step.rest };
      is = then_is _ w.is ∙ cond-true _ _ _ (bytes_same _ _ w.bytes);
      value = refl;
      left = w.left;
    }

ranged : (lo hi : ℕ) (w : Step Spelled) (o : Option ℕ) (n : Step ℕ) → in_range lo hi w o ≡ Ok n → (o ≡ Some n.value) × (lo ≤ n.value) × (n.value ≤ hi) × (w.rest ≡ n.rest)
ranged lo hi w None n h = cc
ranged lo hi w (Some m) n h =
    let p = cond_ok _ _ _ _ h in
    let f = ok_same p.1 in
    let v : m ≡ n.value = ap (λ (x : Step ℕ). x.value) f in
    let r : w.rest ≡ n.rest = ap (λ (x : Step ℕ). x.rest) f in
    let q = and_parts (leb lo m) (leb m hi) p.0 in
    let a = leb-true lo m q.0 in
    let b = leb-true m hi q.1 in
    (ap Some v, omega arith, omega arith, r)

pub record NumberTaken (lo hi : ℕ) (s : Rest) (n : Step ℕ) : Type 0 where
  pub least : lo ≤ n.value
  pub most : n.value ≤ hi
  pub takes : Takes s (decimal n.value ∷ []) n.rest

pub number_takes : (lo hi : ℕ) (s : Rest) (n : Step ℕ) → read_number lo hi s ≡ Ok n → NumberTaken lo hi s n
number_takes lo hi s n e =
    let p = then_ok (word_due Number s) _ n e in
    let q = ranged lo hi p.0 (plain_number p.0.value.bytes) n p.2 in
    let spelled : p.0.value.bytes ≡ decimal n.value = sym (number_spelled_once p.0.value.bytes n.value q.0) in
    record {
      least = q.1;
      most = q.2;
      takes = subst (λ (r : Rest). Takes s (decimal n.value ∷ []) r) q.3 (takes_as (ap (λ (l : List ℕ). l ∷ []) spelled) (word_takes Number s p.0 p.1));
    }

pub number_reads : (lo hi n : ℕ) (s : Rest) (ws : List (List ℕ)) → lo ≤ n → n ≤ hi → hi < 10000 → Spaced s.bytes (decimal n ∷ ws) → Reads (read_number lo hi s) n ws
number_reads lo hi n s ws a b small h =
    let w = word_reads Number s (decimal n) ws h in
    let o : plain_number w.step.value.bytes ≡ Some n = ap plain_number w.bytes ∙ number_reads_back n (omega arith) in
    record {
      step = record { value = n; rest = w.step.rest };
      is = then_is _ w.is ∙ ap (in_range lo hi w.step) o ∙ cond-true _ _ _ (and_from _ _ (le-leb lo n a) (le-leb n hi b));
      value = refl;
      left = w.left;
    }

nothing_none : (r : Result (Option (Step Spelled)) (Fault WordCause)) → nothing_more r ≡ Ok tt → r ≡ Ok None
nothing_none (Ok None) h = refl
nothing_none (Ok (Some w)) h = cc
nothing_none (Err f) h = cc

pub end_takes : (s : Rest) → read_end s ≡ Ok tt → Spaced s.bytes []
end_takes s h = end_of Keyword s.bytes s.at (nothing_none (next_word Keyword s) h)

pub end_reads : (s : Rest) → Spaced s.bytes [] → read_end s ≡ Ok tt
end_reads s h = ap nothing_more (none_of Keyword s.bytes s.at h)
