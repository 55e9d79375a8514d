-- A subscription that is kept by its document is read again, under its name.
use Rattle.std.proofs.Common.{◌≡◌, ℕ, ◌<◌, Bool, true, false, cond, List, [], ◌∷◌, length, refl, ap, sym, ◌∙◌, subst, arith}
use Rattle.std.proofs.lemmas.Option.{none-some, same_Some}
use Rattle.std.specs.List.{AllByRecursion}
use Rattle.std.specs.Option.{option_and_then}
use Rattle.std.specs.Prelude.{Option, Some, None, IfSome, codes}
use Rattle.wef_base.specs.Names.{same, trimmed}
use Rattle.wef_base.specs.declared.numbers.TheConstants.{MAX}
use Rattle.wef_eventing.proofs.AddressTexts.{printed_text}
use Rattle.wef_eventing.specs.Kept.{HasKeptName}
use Rattle.wef_eventing.specs.Sending.{AreXmlQueries}
use Rattle.wef_eventing.specs.Subscriptions.{IsAllEvents, channels_named}
use Rattle.wef_eventing.specs.declared.subscriptions.Subscription.{Subscription}
use Rattle.wef_query.specs.Laws.{IsWritable, ReadsBack}
use Rattle.wef_query.proofs.SaidPaths.{all_grouped, any_found, any_trimmed}
use Rattle.wef_query.specs.Queries.{all_events_of}
use Rattle.wef_times.specs.declared.durations.TheConstants.{LIMIT}
use Rattle.wef_tree.proofs.BoundPrefixes.{same_self}
use Rattle.wef_xml.specs.Good.{IsXmlText}
use Rattle.wef_documents.proofs.DocumentsAgain.{text_read_again}
use Rattle.wef_documents.proofs.SaysPlain.{document_keeps, document_plain, document_texts}
use Rattle.wef_documents.specs.Bytes.{document_in}
use Rattle.wef_documents.specs.Kept.{of_name, read_kept}
use Rattle.wef_documents.specs.Laws.{ArePlainSources, HasKeptNames, HasXmlTexts, IsPlain, IsWithin}
use Rattle.wef_documents.specs.Written.{document_text}

-- it is read again, where it can be written and read at all
pub kept_again : (s : Subscription) → HasKeptNames s → HasXmlTexts s → IsPlain s → read_kept s.name (document_text s) ≡ Some s
unfolding read_kept
kept_again s names texts plain =
    ap (option_and_then (of_name s.name)) (text_read_again s names texts plain) ∙ ap (λ (b : Bool). cond b (Some s) None) (same_self s.name)

-- ---- all events of channels

any_text : (trimmed (codes "*") ≡ codes "*") × IsXmlText (codes "*")
any_text = printed_text (codes "*") refl

each_reads : (channels : List (List ℕ)) → AllByRecursion HasKeptName (all_events_of channels) → AllByRecursion ReadsBack (all_events_of channels)
each_reads [] named = tt
each_reads (c ∷ cs) named = (record { channel = named.0.reads_back; text = any_trimmed; path = any_found }, each_reads cs named.1)

writable : (channels : List (List ℕ)) → 0 < length channels → AllByRecursion HasKeptName (all_events_of channels) → IsWritable (all_events_of channels)
writable [] some named = absurd (omega arith)
writable (c ∷ cs) some named = record { grouped = all_grouped cs; each = each_reads (c ∷ cs) named }

each_xml : (channels : List (List ℕ)) → AreXmlQueries (all_events_of channels)
each_xml [] = tt
each_xml (c ∷ cs) = (any_text.1, each_xml cs)

all_plain : (s : Subscription) → HasKeptNames s → IsAllEvents s → IsPlain s
all_plain s names one =
    let channels : List (List ℕ) = channels_named s in
    let items : s.query.items ≡ all_events_of channels = ap (λ (t : Subscription). t.query.items) one.form in
    record {
      query = subst IsWritable (sym items) (writable channels one.some_channel (subst (AllByRecursion HasKeptName) items names.query));
      max_items = one.limits.0;
      max_bytes = one.limits.1;
      heartbeat = one.limits.2;
      expires = subst (λ (t : Subscription). IsWithin 1 LIMIT t.expires) (sym one.form) (omega arith, omega arith);
      sources = subst (λ (t : Subscription). ArePlainSources t.kind t.sources) (sym one.form) refl;
      version = subst (λ (t : Subscription). IsWithin 1 MAX t.version) (sym one.form) (omega arith, omega arith);
    }

all_xml : (s : Subscription) → IsAllEvents s → HasXmlTexts s
all_xml s one = subst HasXmlTexts (sym one.form) (record { query = each_xml (channels_named s); sources = tt })

-- a subscription to all events is read again
pub all_events_again : (s : Subscription) → HasKeptNames s → IsAllEvents s → read_kept s.name (document_text s) ≡ Some s
all_events_again s names one = kept_again s names (all_xml s one) (all_plain s names one)

-- ---- what is kept

-- what is kept is what the document says, and has the name
pub kept_says : (u body : List ℕ) (s : Subscription) → read_kept u body ≡ Some s → (document_in body ≡ Some s) × (same s.name u ≡ true)
unfolding read_kept
kept_says u body s is = by (document_in body) refl is
  where
    by_test : (given : Subscription) (b : Bool) → same given.name u ≡ b → document_in body ≡ Some given → cond b (Some given) None ≡ Some s → (document_in body ≡ Some s) × (same s.name u ≡ true)
    by_test given true named said e =
        let alike = same_Some given s e in
        (said ∙ e, ap (λ (t : Subscription). same t.name u) (sym alike) ∙ named)
    by_test given false named said e = absurd (none-some s e)

    by : (o : Option Subscription) → document_in body ≡ o → option_and_then (of_name u) o ≡ Some s → (document_in body ≡ Some s) × (same s.name u ≡ true)
    by None said e = absurd (none-some s e)
    by (Some given) said e = by_test given (same given.name u) refl said e

-- so its names are as their types keep them
pub kept_names : (u body : List ℕ) (s : Subscription) → read_kept u body ≡ Some s → HasKeptNames s
kept_names u body s is = document_keeps body s (kept_says u body s is).0

-- and it can be written and read again
pub kept_plain : (u body : List ℕ) (s : Subscription) → read_kept u body ≡ Some s → IsPlain s
kept_plain u body s is = document_plain body s (kept_says u body s is).0

pub kept_xml : (u body : List ℕ) (s : Subscription) → read_kept u body ≡ Some s → HasXmlTexts s
kept_xml u body s is = document_texts body s (kept_says u body s is).0

-- the texts in the queries of whatever is read hold characters that XML allows
pub kept_texts : (u body : List ℕ) (read : Option Subscription) → read ≡ read_kept u body → IfSome read (λ (s : Subscription). AreXmlQueries s.query.items)
kept_texts u body None is = tt
kept_texts u body (Some s) is = (kept_xml u body s (sym is)).query
