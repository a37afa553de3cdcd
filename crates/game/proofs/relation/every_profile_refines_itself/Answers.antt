use Rattle.std.proofs.Common.{◌≡◌, sym, refl, subst}
use Rattle.game.specs.Systems.{Configuration, Leads, Refinement, induced}
use Rattle.game.proofs.relation.every_profile_refines_itself.Goals as goal

pub returns : goal.returns
returns c = λ kinds slots.
    let same : Refinement (induced kinds slots) (induced kinds slots) (λ c d. c ≡ d) = record {
      may = λ p q e event p' t. (p', (t.0, t.1, t.2, subst (λ (x : Configuration). Leads kinds t.0 x p') e t.3), refl);
      must = λ p q e event q' t. (q', (t.0, t.1, t.2, subst (λ (x : Configuration). Leads kinds t.0 x q') (sym e) t.3, t.4), refl);
    } in
    (same, λ state symbol. c.any_refinement_gives_a_yes_or_no_one.ensures kinds slots slots _ same refl)
