-- What `migrate` replies where it does not end with a refusal of its files.
use Rattle.std.proofs.Common.{◌≡◌, ◌∙◌, ℕ, Bool, List, Result, Ok, Err, IfOk, sym, ap, subst}
use Rattle.fond_task.specs.declared.task.Task.{Task}
use Rattle.fond_cert.specs.Spellings.{spelling}
use Rattle.fond_check.specs.Verdicts.{IsVerdict}
use Rattle.fond_check.specs.declared.verdict.Verdict.{Verdict}
use Rattle.fond_check.specs.declared.verdict.Verdict.TheVariants.{Accepted, Rule, Pair, LayerGoal, LayerAct, NoRule, Count, Outside, Item, Start}
use Rattle.fond_covering.specs.Coverings.{IsCoverOf, MayBeCovered}
use Rattle.fond_policy.specs.Belongs.{Belongs}
use Rattle.fond_policy.specs.Parts.{IsRight}
use Rattle.fond_policy.specs.declared.cert.Cert.{Cert}
use Rattle.fond_policy.specs.declared.cert.Cert.TheVariants.{Policy, Refusal, Covered}
use Rattle.fond_commands.specs.Certified.{IsCertText}
use Rattle.fond_commands.specs.Checks.{IsFault}
use Rattle.fond_commands.specs.Migrations.{IsCoverText, IsToCover}

accepted_right : (game : Task) (cert : Cert) (lean : Bool) → IsVerdict game cert (Accepted lean) → IsRight game cert
accepted_right game (Policy layers pairs rules reach) lean found = found.0
accepted_right game (Refusal layers) lean found = found.0
accepted_right game (Covered layers pairs rules items start) lean found = found.0

-- a certificate is correct if the verdict on it is no fault
pub right_unless : (game : Task) (cert : Cert) (verdict : Verdict) → IsVerdict game cert verdict → ¬ IsFault verdict → IsRight game cert
right_unless game cert (Accepted lean) found fine = accepted_right game cert lean found
right_unless game cert (LayerGoal layer cube) found fine = absurd (fine tt)
right_unless game cert (LayerAct layer cube act) found fine = absurd (fine tt)
right_unless game cert (Pair number) found fine = absurd (fine tt)
right_unless game cert (Rule number) found fine = absurd (fine tt)
right_unless game cert (Count more) found fine = absurd (fine tt)
right_unless game cert (NoRule state) found fine = absurd (fine tt)
right_unless game cert Outside found fine = absurd (fine tt)
right_unless game cert (Item number) found fine = absurd (fine tt)
right_unless game cert Start found fine = absurd (fine tt)

-- a correct policy with a small reach number may be given a cover
pub may_cover : (game : Task) (cert : Cert) (text : List ℕ) → IsCertText game cert text → IsRight game cert → IsToCover cert → MayBeCovered game cert
may_cover game (Policy layers pairs rules reach) text is right small = (is.0, is.1, right, small)
may_cover game (Refusal layers) text is right to_cover = absurd to_cover
may_cover game (Covered layers pairs rules items start) text is right to_cover = absurd to_cover

-- the certificate with the cover belongs to the task
pub cover_belongs : (game : Task) (cert covered : Cert) → MayBeCovered game cert → IsCoverOf game cert covered → Belongs game covered
cover_belongs game (Policy layers pairs rules reach) covered may is = subst (Belongs game) (sym is.2) (may.0.0, may.0.1, may.0.2, is.3.belong)
cover_belongs game (Refusal layers) covered may is = absurd may
cover_belongs game (Covered layers pairs rules items start) covered may is = absurd may

-- its text is that of a correct policy with lean items
pub covers : (game : Task) (cert covered : Cert) (text : List ℕ) → MayBeCovered game cert → IsCoverOf game cert covered → text ≡ spelling game covered → IsCoverText game cert text
covers game (Policy layers pairs rules reach) covered text may is spelled =
    let covering = is.3 in (
      is.0,
      is.1,
      ((may.0.0, may.0.1, may.0.2, covering.belong), (may.1.0, may.1.1, covering.small, covering.small_start), spelled ∙ ap (spelling game) is.2),
      record {
        sure = record { layers_sure = may.2.layers_sure; pairs_sure = may.2.pairs_sure; rules_sure = may.2.rules_sure };
        items_sure = λ number item at. (covering.lean number item at).sure;
        starts = covering.starts;
      },
      covering.lean,
    )
covers game (Refusal layers) covered text may is spelled = absurd may
covers game (Covered layers pairs rules items start) covered text may is spelled = absurd may

-- the text of a cover, if there is one
pub covers_if : {T E : Type 0} (items : T → List ℕ) (game : Task) (cert covered : Cert) (r : Result T E) → MayBeCovered game cert → IsCoverOf game cert covered → IfOk r (λ text. items text ≡ spelling game covered) →
    IfOk r (λ text. IsCoverText game cert (items text))
covers_if items game cert covered (Ok text) may is spelled = covers game cert covered (items text) may is spelled
covers_if items game cert covered (Err _) may is spelled = tt
