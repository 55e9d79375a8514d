use Rattle.std.proofs.Common.{refl}
use Rattle.std.specs.Prelude.{codes}
use Rattle.wef_xml.proofs.Ascii.{plain_name}
use Rattle.wef_bodies.proofs.writing.write_body.Goals as goal

pub returns-in-Renew-clause-good : goal.returns-in-Renew-clause-good
returns-in-Renew-clause-good c = λ _. c.write_lease.ensures.good (plain_name (codes "Renew") refl)

pub returns-in-Renewed-clause-good : goal.returns-in-Renewed-clause-good
returns-in-Renewed-clause-good c = λ _. c.write_lease-in-Renewed.ensures.good (plain_name (codes "RenewResponse") refl)

pub returns-in-GetStatus-clause-good : goal.returns-in-GetStatus-clause-good
returns-in-GetStatus-clause-good c = λ _. c.write_bare.ensures.good (plain_name (codes "GetStatus") refl)

pub returns-in-StatusIs-clause-good : goal.returns-in-StatusIs-clause-good
returns-in-StatusIs-clause-good c = λ _. c.write_lease-in-StatusIs.ensures.good (plain_name (codes "GetStatusResponse") refl)

pub returns-in-Unsubscribe-clause-good : goal.returns-in-Unsubscribe-clause-good
returns-in-Unsubscribe-clause-good c = λ _. c.write_bare-in-Unsubscribe.ensures.good (plain_name (codes "Unsubscribe") refl)
