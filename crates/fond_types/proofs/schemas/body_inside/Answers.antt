use Rattle.std.proofs.Common.{◌≡◌, ◌∷◌, [], sym, ◌∙◌, subst}
use Rattle.fond_names.specs.Sites.{Scope}
use Rattle.fond_types.specs.Bodies.{IsNumberedCondition, IsNumberedEffect, IsSoundCondition, IsSoundEffect}
use Rattle.fond_types.proofs.BodyLemmas.{sound_body}
use Rattle.fond_types.proofs.schemas.body_inside.Goals as goal

pub numbered_boxed-requires-clause-sound : goal.numbered_boxed-requires-clause-sound
numbered_boxed-requires-clause-sound c =
    let files = c.args.context.now.files in
    let schema = c.args.schema.now in
    let lists : c.inside-within.result ≡ schema.parameters ∷ [] = c.inside-within.ensures ∙ (λ i. c.requires.named i ∷ c.outside-outside.ensures i) in
    subst (λ (around : Scope). IsSoundCondition files around schema.pre) (sym lists) (sound_body files schema c.requires.sound).0

pub numbered_effect-requires-clause-sound : goal.numbered_effect-requires-clause-sound
numbered_effect-requires-clause-sound c =
    let files = c.args.context.now.files in
    let schema = c.args.schema.now in
    let lists : c.inside-within.result ≡ schema.parameters ∷ [] = c.inside-within.ensures ∙ (λ i. c.requires.named i ∷ c.outside-outside.ensures i) in
    subst (λ (around : Scope). IsSoundEffect files around schema.effect) (sym lists) (sound_body files schema c.requires.sound).1

pub returns-clause-numbered : goal.returns-clause-numbered
returns-clause-numbered c =
    let all = c.args.context.now in
    let schema = c.args.schema.now in
    let lists : c.inside-within.result ≡ schema.parameters ∷ [] = c.inside-within.ensures ∙ (λ i. c.requires.named i ∷ c.outside-outside.ensures i) in
    record {
      pre_is = subst (λ (around : Scope). IsNumberedCondition all around schema.pre c.in_ok-pre.pre.value) lists c.in_ok-pre.ensures.numbered;
      effect_is = subst (λ (around : Scope). IsNumberedEffect all around schema.effect c.in_ok-effect.effect) lists c.in_ok-effect.ensures.numbered;
    }
