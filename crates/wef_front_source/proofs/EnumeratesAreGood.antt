-- The trees of wishes for subscriptions are good.
use Rattle.std.proofs.Common.{◌≡◌, ℕ, true, List, [], ◌∷◌, ◌++◌, codes, refl, ◌∙◌}
use Rattle.std.specs.Prelude.{Some}
use Rattle.std.specs.List.{list_all}
use Rattle.std.specs.Str.{IsUtf8}
use Rattle.std.proofs.lemmas.Bool.{and_from}
use Rattle.std.proofs.lemmas.List.Folds.{list_all-append}
use Rattle.wef_base.specs.Names.{source_name}
use Rattle.wef_bodies.specs.Written.{enumerate_element}
use Rattle.wef_elements.specs.Good.{AreGoodElements}
use Rattle.wef_envelope.specs.Written.{written}
use Rattle.wef_envelope.specs.declared.actions.TheConstants.{ANONYMOUS, ENUMERATE, SUBSCRIPTIONS}
use Rattle.wef_envelope.proofs.WrittenIsGood.{written_is_good}
use Rattle.wef_eventing.proofs.AddressTexts.{printed_text}
use Rattle.wef_eventing.specs.Addresses.{IsHost, is_printed}
use Rattle.wef_ids.specs.declared.MessageId.{MessageId}
use Rattle.wef_xml.proofs.Ascii.{plain_text}
use Rattle.wef_xml.specs.Good.{IsGoodTree, IsXmlText}
use Rattle.wef_front_source.proofs.SourceNames.{allowed_source}
use Rattle.wef_front_source.specs.Sending.{enumerate_envelope, manager_address}
use Rattle.wef_http_heads.specs.declared.targets.TheConstants.{MANAGER_PATH}

joined : (cs ds : List ℕ) → list_all is_printed cs ≡ true → list_all is_printed ds ≡ true → list_all is_printed (cs ++ ds) ≡ true
joined cs ds one other = list_all-append is_printed cs ds ∙ and_from _ _ one other

pub manager_printed : (host : List ℕ) → list_all is_printed host ≡ true → list_all is_printed (manager_address host) ≡ true
unfolding manager_address
manager_printed host is = joined (codes "http://" ++ host) MANAGER_PATH.now (joined (codes "http://") host refl is) refl

pub enumerate_good : (host s : List ℕ) (id : MessageId) → IsHost host → IsUtf8 s → source_name s ≡ Some s → IsXmlText id.text → AreGoodElements (enumerate_element ∷ []) 62
    → IsGoodTree (written (enumerate_envelope host s id))
enumerate_good host s id is utf8 named allowed body =
    written_is_good (enumerate_envelope host s id) 60 (record {
      to = (printed_text (manager_address host) (manager_printed host is.1)).1;
      resource = plain_text SUBSCRIPTIONS.now refl;
      reply_to = plain_text ANONYMOUS.now refl;
      action = plain_text ENUMERATE.now refl;
      id = allowed;
      relates = tt;
      machine = allowed_source s utf8 named;
      max_size = tt;
      identifier = tt;
      bookmark = tt;
      body = body;
    })
