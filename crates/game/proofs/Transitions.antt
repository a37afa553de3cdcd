-- Attacks and replies are the transitions of the induced systems, and defending is refining.
use Rattle.std.proofs.Common.{◌≡◌, ℕ, true, eqb, List, [], ◌∷◌, Option, sym, refl, ap, ◌∙◌, subst}
use Rattle.std.proofs.lemmas.Bool.{and_parts, and_from, eqb-true, eq-eqb, false≢true}
use Rattle.profile.specs.declared.Mode.{Mode}
use Rattle.profile.specs.declared.Mode.TheVariants.{May, Must}
use Rattle.profile.specs.declared.Kind.{Kind}
use Rattle.profile.specs.declared.Rule.{Rule}
use Rattle.game.specs.Systems.{Configuration, Leads, Refinement, induced}
use Rattle.game.specs.Game.{Position, by_station, by_manual, is_must, matches, applies, after, Defends}

pub must_means : (m : Mode) → is_must m ≡ true → m ≡ Must
must_means May e = absurd (false≢true e)
must_means Must e = refl

pub must_shown : (m : Mode) → m ≡ Must → is_must m ≡ true
must_shown m e = ap is_must e

matching_leads : (kinds : ℕ → Option Kind) (r : Rule) (p : ℕ) (xs : List ℕ) → matches r p xs ≡ true →
    Leads kinds r (record { state = p; stack = xs }) (after kinds r (record { state = p; stack = xs }))
matching_leads kinds r p [] e = absurd (false≢true e)
matching_leads kinds r p (x ∷ xs) e =
    let t = and_parts (eqb r.state p) (eqb r.top x) e in (
      xs,
      (λ i. record { state = sym (eqb-true r.state p t.0) i; stack = sym (eqb-true r.top x t.1) i ∷ xs }),
      refl,
    )

-- a rule that applies leads to where the game says, and a rule that leads on applies and leads there
pub applies_leads : (kinds : ℕ → Option Kind) (r : Rule) (c : Configuration) → applies r c ≡ true → Leads kinds r c (after kinds r c)
applies_leads kinds r c e = matching_leads kinds r c.state c.stack e

pub leads_applies : (kinds : ℕ → Option Kind) (r : Rule) (c d : Configuration) → Leads kinds r c d → (applies r c ≡ true) × (after kinds r c ≡ d)
leads_applies kinds r c d (below, e, f) = (
  subst (λ (x : Configuration). applies r x ≡ true) (sym e) (and_from _ _ (eq-eqb r.state r.state refl) (eq-eqb r.top r.top refl)),
  ap (λ (x : Configuration). after kinds r x) e ∙ sym f,
)

module _ (kinds : ℕ → Option Kind) (station manual : List (Option Rule)) where
  -- a relation of any propositions
  module _ (R : Position → Type 0) where
    abbrev On : Configuration → Configuration → Type 0
    On c d = R (record { station = c; manual = d })

    pub defends_refines : Defends kinds station manual R → Refinement (induced kinds station) (induced kinds manual) On
    defends_refines def = record {
      may = λ p q h event p' t.
          let l = leads_applies kinds t.0 p p' t.3 in
          let (s, reply, to) = def (record { station = p; manual = q }) h by_station t.0 (t.1, refl, l.0) in (
            after kinds s q,
            (s, reply.0, reply.2 ∙ t.2, applies_leads kinds s q reply.3),
            subst (λ (x : Configuration). On x (after kinds s q)) l.1 to,
          );
      must = λ p q h event q' t.
          let l = leads_applies kinds t.0 q q' t.3 in
          let (s, reply, to) = def (record { station = p; manual = q }) h by_manual t.0 (t.1, must_shown t.0.mode t.4, l.0) in (
            after kinds s p,
            (s, reply.0, reply.2 ∙ t.2, applies_leads kinds s p reply.3, must_means s.mode reply.1),
            subst (λ (x : Configuration). On (after kinds s p) x) l.1 to,
          );
    }

    pub refines_defends : Refinement (induced kinds station) (induced kinds manual) On → Defends kinds station manual R
    refines_defends ref pos h by_station r t =
        let (q', u, to) = ref.may pos.station pos.manual h r.event (after kinds r pos.station) (r, t.0, refl, applies_leads kinds r pos.station t.2) in
        let l = leads_applies kinds u.0 pos.manual q' u.3 in
        (u.0, (u.1, refl, u.2, l.0), subst (λ (x : Configuration). On (after kinds r pos.station) x) (sym l.1) to)
    refines_defends ref pos h by_manual r t =
        let (p', u, to) = ref.must pos.station pos.manual h r.event (after kinds r pos.manual) (r, t.0, refl, applies_leads kinds r pos.manual t.2, must_means r.mode t.1) in
        let l = leads_applies kinds u.0 pos.station p' u.3 in
        (u.0, (u.1, must_shown u.0.mode u.4, u.2, l.0), subst (λ (x : Configuration). On x (after kinds r pos.manual)) (sym l.1) to)
