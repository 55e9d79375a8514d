use Rattle.std.proofs.Common.{◌≡◌, List, true, ℕ, sym, subst}
use Rattle.std.specs.Prelude.{IfSome, Option}
use Rattle.wef_base.specs.Names.{trimmed}
use Rattle.wef_eventing.specs.Addresses.{is_address}
use Rattle.wef_ids.proofs.PlainIds.{id_text_good, id_text_trimmed}
use Rattle.wef_xml.specs.Good.{IsXmlText}
use Rattle.wef_source.proofs.accepting.lease_of.Goals as goal

pub returns-clause-told : goal.returns-clause-told
returns-clause-told c = record {
  identifier = subst IsXmlText (sym c.in_ok-identifier.ensures.value) (id_text_good c.args.id);
  trimmed = subst (λ (text : List ℕ). trimmed text ≡ text) (sym c.in_ok-identifier.ensures.value) (id_text_trimmed c.args.id);
  end_to = subst (λ (o : Option (List ℕ)). IfSome o (λ (a : List ℕ). is_address a ≡ true)) (sym c.in_ok-copied.ensures) c.requires.end_to;
}
