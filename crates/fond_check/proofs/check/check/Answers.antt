use Rattle.fond_check.proofs.check.check.Goals as goal

pub check_policy-requires-clause-layers_belong : goal.check_policy-requires-clause-layers_belong
check_policy-requires-clause-layers_belong c = (rw c.in-Policy.is at c.requires).0

pub check_policy-requires-clause-pairs_belong : goal.check_policy-requires-clause-pairs_belong
check_policy-requires-clause-pairs_belong c = (rw c.in-Policy.is at c.requires).1

pub check_policy-requires-clause-rules_belong : goal.check_policy-requires-clause-rules_belong
check_policy-requires-clause-rules_belong c = (rw c.in-Policy.is at c.requires).2

pub check_refusal-requires : goal.check_refusal-requires
check_refusal-requires c = rw c.in-Refusal.is at c.requires

pub check_cover-requires-clause-layers_belong : goal.check_cover-requires-clause-layers_belong
check_cover-requires-clause-layers_belong c = (rw c.in-Covered.is at c.requires).0

pub check_cover-requires-clause-pairs_belong : goal.check_cover-requires-clause-pairs_belong
check_cover-requires-clause-pairs_belong c = (rw c.in-Covered.is at c.requires).1

pub check_cover-requires-clause-rules_belong : goal.check_cover-requires-clause-rules_belong
check_cover-requires-clause-rules_belong c = (rw c.in-Covered.is at c.requires).2

pub check_cover-requires-clause-items_belong : goal.check_cover-requires-clause-items_belong
check_cover-requires-clause-items_belong c = (rw c.in-Covered.is at c.requires).3

pub returns-in-Policy : goal.returns-in-Policy
returns-in-Policy c = rw c.in-Policy.is c.check_policy.ensures

pub returns-in-Refusal : goal.returns-in-Refusal
returns-in-Refusal c = rw c.in-Refusal.is c.check_refusal.ensures

pub returns-in-Covered : goal.returns-in-Covered
returns-in-Covered c = rw c.in-Covered.is c.check_cover.ensures
