-- Putting one thing after another into lent bytes.
use Rattle.std.proofs.Common.{◌≡◌, ℕ, zero, suc, ◌+◌, ◌<◌, ◌≤◌, List, [], ◌∷◌, ◌++◌, length, get_or, take, drop, sym, refl, ap, ◌∙◌, subst, arith, add-one}
use Rattle.std.proofs.lemmas.List.{length-append, append-nil, append_assoc, length-take-le, length-drop, drop-drop}
use Rattle.std.proofs.Math.Seq.{take-append_seam, drop-append_seam}
use Rattle.profile.specs.declared.Rule.{Rule}
use Rattle.text.specs.declared.write.Lent.{Lent}
use Rattle.text.specs.Writing.{Puts}
use Rattle.text.specs.Report.{slot_line, slot_lines}

front_is : (front rest : List ℕ) (n : ℕ) → length front ≡ n → take n (front ++ rest) ≡ front
front_is front rest n e = ap (λ k. take k (front ++ rest)) (sym e) ∙ take-append_seam front rest

back_is : (front rest : List ℕ) (n m : ℕ) → length front ≡ n → drop (n + m) (front ++ rest) ≡ drop m rest
back_is front rest n m e =
    sym (drop-drop m n (front ++ rest)) ∙ ap (λ k. drop m (drop k (front ++ rest))) (sym e) ∙ ap (drop m) (drop-append_seam front rest)

laid_then : (old mid xs ys : List ℕ) (i j k : ℕ) → i ≤ length old → j ≡ i + length xs → k ≡ i + length (xs ++ ys) → mid ≡ take i old ++ xs ++ drop (i + length xs) old → take j mid ++ ys ++ drop (j + length ys) mid ≡ take i old ++ (xs ++ ys) ++ drop k old
laid_then old mid xs ys i j k h e f g =
    let n = length-append xs ys in
    let p = length-take-le i old h in
    let a : length (take i old ++ xs) ≡ j = omega (arith, length-append (take i old) xs) in
    let same : i + length xs + length ys ≡ k = omega arith in
    let last : drop (j + length ys) mid ≡ drop k old =
    ap (drop (j + length ys)) g ∙ back_is (take i old ++ xs) (drop (i + length xs) old) j (length ys) a ∙
    drop-drop (length ys) (i + length xs) old ∙ ap (λ m. drop m old) same in
    let first : take j mid ≡ take i old ++ xs = ap (take j) g ∙ front_is (take i old ++ xs) (drop (i + length xs) old) j a in
    rw (first, last) (simp append_assoc)

-- one thing and then another
pub puts_then : {a b c : Lent} {xs ys : List ℕ} → Puts a xs b → Puts b ys c → Puts a (xs ++ ys) c
puts_then {a} {b} {c} {xs} {ys} p q =
    let n = length-append xs ys in
    record {
      same = q.same ∙ p.same;
      laid = λ fits.
          let i : a.at ≤ length a.out.now = omega arith in
          let first = p.laid (let e = p.ends in omega arith) in
          let size = ap length first in
          let room : b.at + length ys ≤ length b.out.now =
          (let e = p.ends in
          let s = length-append (take a.at a.out.now ++ xs) (drop (a.at + length xs) a.out.now) in
          let t = length-append (take a.at a.out.now) xs in
          let u = length-take-le a.at a.out.now i in let v = length-drop (a.at + length xs) a.out.now in omega arith) in
          q.laid room ∙ laid_then a.out.now b.out.now xs ys a.at b.at (a.at + length (xs ++ ys)) i p.ends refl first;
      ends = (let e = p.ends in let f = q.ends in omega arith);
    }

-- the same bytes by another term
pub puts_as : {a b : Lent} {xs ys : List ℕ} → xs ≡ ys → Puts a xs b → Puts a ys b
puts_as {a} {b} e p = subst (λ (l : List ℕ). Puts a l b) e p

more_lines : (rs : List Rule) (i j k : ℕ) (d : Rule) → i < length rs → j + i ≡ k → slot_lines j (take (suc i) rs) ≡ slot_lines j (take i rs) ++ slot_line k (get_or rs i d)
more_lines [] i j k d h e = absurd (omega arith)
more_lines (r ∷ rs) zero j k d h e = let same : j ≡ k = omega arith in ap (λ m. slot_line m r ++ []) same ∙ append-nil (slot_line k r)
more_lines (r ∷ rs) (suc i) j k d h e =
    ap (λ l. slot_line j r ++ l) (more_lines rs i (j + 1) k d (omega arith) (omega arith)) ∙
    sym (append_assoc (slot_line j r) (slot_lines (j + 1) (take i rs)) (slot_line k (get_or rs i d)))

-- the lines of some slots, and one more
pub puts_slot : {a b c : Lent} (rs : List Rule) (i : ℕ) (d : Rule) → i < length rs → Puts a (slot_lines 0 (take i rs)) b → Puts b (slot_line i (get_or rs i d)) c → Puts a (slot_lines 0 (take (i + 1) rs)) c
puts_slot rs i d h p q = rw add-one (puts_as (sym (more_lines rs i 0 i d h (omega arith))) (puts_then p q))
