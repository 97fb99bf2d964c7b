use Rattle.law_domain.proofs.Forms.FeatureScripts.{built_features}
use Rattle.law_domain.proofs.Forms.GroupForms.{mocked_features}
use Rattle.law_domain.proofs.form_laws.built_features_alone.Goals as goal

pub returns-clause-trees : goal.returns-clause-trees
returns-clause-trees c = built_features

pub returns-clause-mocked : goal.returns-clause-mocked
returns-clause-mocked c = mocked_features
