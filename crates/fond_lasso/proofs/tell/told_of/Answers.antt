use Rattle.std.proofs.Common.{subst}
use Rattle.fond_lasso.specs.Explained.{IsFinding}
use Rattle.fond_lasso.specs.Listing.{IsFound}
use Rattle.fond_lasso.proofs.Relisted.{zip_long}
use Rattle.fond_lasso.proofs.Telling.{cycle_within, not_more, stem_within, stuck_within, tells_lasso, tells_solution, tells_stuck}
use Rattle.fond_lasso.proofs.tell.told_of.Goals as goal

pub solution_text-requires : goal.solution_text-requires
solution_text-requires c =
    let found = subst (IsFound c.args.t.now) c.in-Ranked.is c.requires in
    rw c.deref.ensures.value (zip_long _ c.in-Ranked.states c.in-Ranked.levels.items found.3.2.2)

pub stuck_text-requires-clause-within : goal.stuck_text-requires-clause-within
stuck_text-requires-clause-within c =
    let found = subst (IsFound c.args.t.now) c.in-Stuck.is c.requires in
    rw c.deref-in-Stuck.ensures.value (stuck_within c.args.t.now found.0 c.in-Stuck.states c.in-Stuck.stem.items found.3.2)

pub lasso_text-requires-clause-within : goal.lasso_text-requires-clause-within
lasso_text-requires-clause-within c =
    let found = subst (IsFound c.args.t.now) c.in-Lasso.is c.requires in
    rw c.deref-in-Lasso.ensures.value (stem_within c.args.t.now found.0 c.in-Lasso.states c.in-Lasso.stem.items c.in-Lasso.cycle.items found.3.3)

pub lasso_text-requires-clause-cycle_within : goal.lasso_text-requires-clause-cycle_within
lasso_text-requires-clause-cycle_within c =
    let found = subst (IsFound c.args.t.now) c.in-Lasso.is c.requires in
    rw c.deref-in-Lasso-2.ensures.value (cycle_within c.args.t.now found.0 c.in-Lasso.states c.in-Lasso.stem.items c.in-Lasso.cycle.items found.3.3)

pub returns-in_ok-text-in-Ranked : goal.returns-in_ok-text-in-Ranked
returns-in_ok-text-in-Ranked c = λ policy limit finding.
    let task = c.args.t.now in
    let found = subst (IsFinding task policy limit) c.in-Ranked.is finding in
    (tells_solution task policy found.2.0 found.2.1 limit c.in-Ranked.states c.in-Ranked.levels.items c.in_ok-text-in-Ranked.text.items found.0 found.1 found.2.2 (rw c.deref.ensures.value at c.in_ok-text-in-Ranked.ensures), not_more task policy limit c.in-Ranked.states found.0)

pub returns-in_ok-text-in-Stuck : goal.returns-in_ok-text-in-Stuck
returns-in_ok-text-in-Stuck c = λ policy limit finding.
    let task = c.args.t.now in
    let found = subst (IsFinding task policy limit) c.in-Stuck.is finding in
    (tells_stuck task policy limit c.in-Stuck.states c.in-Stuck.stem.items c.in_ok-text-in-Stuck.text.items found.0 found.1 found.2 (rw c.deref-in-Stuck.ensures.value at c.in_ok-text-in-Stuck.ensures), not_more task policy limit c.in-Stuck.states found.0)

pub returns-in_ok-text-in-Lasso : goal.returns-in_ok-text-in-Lasso
returns-in_ok-text-in-Lasso c = λ policy limit finding.
    let task = c.args.t.now in
    let found = subst (IsFinding task policy limit) c.in-Lasso.is finding in
    (tells_lasso task policy limit c.in-Lasso.states c.in-Lasso.stem.items c.in-Lasso.cycle.items c.in_ok-text-in-Lasso.text.items found.0 found.1 found.2 found.3 (rw (c.deref-in-Lasso.ensures.value, c.deref-in-Lasso-2.ensures.value) at c.in_ok-text-in-Lasso.ensures), not_more task policy limit c.in-Lasso.states found.0)
