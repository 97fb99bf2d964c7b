use Rattle.law_domain.proofs.Forms.GroupForms.{group_forms, mocked_group_forms}
use Rattle.law_domain.proofs.form_laws.group_forms_alone.Goals as goal

pub returns-clause-trees : goal.returns-clause-trees
returns-clause-trees c = group_forms

pub returns-clause-mocked : goal.returns-clause-mocked
returns-clause-mocked c = mocked_group_forms
