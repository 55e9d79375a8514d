use Rattle.std.proofs.Common.{refl}
use Rattle.wef_xml.specs.Prefixes.{nine, soap_space}
use Rattle.wef_envelope.specs.Spaces.{addressing, enumeration, eventing, machine, management, profile, soap, subscription, windows}
use Rattle.wef_envelope.proofs.laws.namespaces_have_prefixes.Goals as goal

pub returns : goal.returns
unfolding nine soap_space soap addressing eventing enumeration management windows subscription machine profile
returns c = refl
